use Rattle.std.proofs.Common.{◌≡◌, ◌*◌, ◌^◌, ◌<◌, sym, ◌∙◌, ap₂, subst, arith}
use Rattle.tab_file.specs.Tables.{entry_count}
use Rattle.tab_file.proofs.TableLemmas.{entry_count-lt}
use Rattle.tab_file.proofs.headers.entry_count.Goals as goal

-- the placements of a pattern times its width are a number of 64 bits
pub overflow_mul-result : goal.overflow_mul-result
overflow_mul-result c =
    let is : entry_count c.args.pattern.now ≡ c.count.result * c.from.result =
    ap₂ (λ m n. m * n) (sym c.count.ensures.count) (sym (c.from.ensures ∙ c.width.ensures)) in
    let fits = subst (λ e. e < 2 ^ 32) is (entry_count-lt c.args.pattern.now c.requires) in
    omega arith

-- the number of entries that is answered is below 2^32
pub returns-clause-few : goal.returns-clause-few
returns-clause-few c =
    let is : entry_count c.args.pattern.now ≡ c.count.result * c.from.result =
    ap₂ (λ m n. m * n) (sym c.count.ensures.count) (sym (c.from.ensures ∙ c.width.ensures)) in
    subst (λ e. e < 4294967296) is (entry_count-lt c.args.pattern.now c.requires)
