use Rattle.std.proofs.Common.{◌≡◌, ◌+◌, ◌*◌, ◌∙◌, ap, ap₂, arith}
use Rattle.std.specs.Prelude.{slice_index}
use Rattle.tab_file.specs.Tables.{slot_count}
use Rattle.tab_file.proofs.FileLemmas.{slice_index-file}
use Rattle.tab_file.proofs.views.TableView.entry.Goals as goal

-- the entry is the byte of the file that has its number, counted from behind the header
pub returns-clause-byte : goal.returns-clause-byte
returns-clause-byte c file good =
    let place : c.args.rank * c.self.inside.width + c.from.result ≡ c.args.rank * slot_count c.args.self.now.pattern + c.args.slot =
    ap₂ (λ w s. c.args.rank * w + s) (c.self.invariant.width ∙ ap (λ t. slot_count t.pattern) c.self.view_is) c.from.ensures in
    ap (λ i. slice_index c.self.inside.entries.now i) place ∙
    ap (λ t. slice_index t.entries (c.args.rank * slot_count c.args.self.now.pattern + c.args.slot)) c.self.view_is ∙
    slice_index-file c.args.self.now file good (c.args.rank * slot_count c.args.self.now.pattern + c.args.slot) ∙
    ap (slice_index file) (let e : 20 + (c.args.rank * slot_count c.args.self.now.pattern + c.args.slot) ≡ 20 + c.args.rank * slot_count
    c.args.self.now.pattern + c.args.slot = omega arith in e)
