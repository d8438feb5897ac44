use Rattle.std.proofs.Common.{◌<◌, ◌^◌, IfErr, arith, refl, rules, subst, sym}
use Rattle.puz_board.specs.Masks.{numbers_of}
use Rattle.tab_file.specs.TableFiles.{IsTableFile}
use Rattle.tab_file.specs.Tables.{Table}
use Rattle.tab_rule.proofs.LimitLemmas.{passed_board}
use Rattle.pdb_keep.specs.MakeTable.{ArePattern}
use Rattle.pdb_keep.specs.Steps.{IsCauseForBuild}
use Rattle.pdb_keep.proofs.MakerLemmas.{own_table, table_told}
use Rattle.pdb_keep.proofs.make_table.build_table.Goals as goal
use Rattle.pdb_keep.proofs.make_table.build_table.Goals.{then-shows_greater_count, else-shows_greater_count}

-- K3 is answered of a draft that shows a board whose least cost is 254
pub returns-then-draft-clause-unbuilt : goal.returns-then-draft-clause-unbuilt
returns-then-draft-clause-unbuilt g c =
    let of = rw c.in-Some.ensures.pattern at c.in-Ok.ensures.file in
    let table : Table = record { pattern = record { side = c.args.side; tiles = numbers_of c.args.mask }; entries = of.0 } in
    let file = subst (IsTableFile table) (sym c.as_slice.ensures.value) of.1 in
    let pattern : ArePattern c.args.side c.args.mask = search rules in
    elim c.if-shows_greater_count.branch [
      | then-shows_greater_count w ↦ subst (λ r. IfErr r (IsCauseForBuild c.args.side c.args.mask)) (sym w.result-is)
          (record { pattern = pattern; board = passed_board 253 (omega arith) table of.1.table ((w.if-shows_greater_count.ensures table file).0 refl) })
      | else-shows_greater_count w ↦ subst (λ r. IfErr r (IsCauseForBuild c.args.side c.args.mask)) (sym w.result-is) tt
    ]

-- a file that the check finds exact is built for the side and the mask that were asked for
pub returns-in-Ok-2-clause-built : goal.returns-in-Ok-2-clause-built
returns-in-Ok-2-clause-built g c =
    let file = c.in-Ok.draft.file.items in
    let settled = c.in_ok-said.ensures.ok in
    let told = table_told file _ _ c.in_ok-said.field-0 c.as_slice-table.ensures.value settled.0 settled.1 c.beside-digest.ensures.answer in
    let said = rw c.in-Ok-2.is at told in
    let of = rw c.in-Some.ensures.pattern at c.in-Ok.ensures.file in
    let pattern : ArePattern c.args.side c.args.mask = search rules in
    let low : c.args.mask < 2 ^ 32 = omega arith in
    record { pattern = pattern; is_result = said; own = own_table c.args.side c.args.mask of.0 file c.in-Ok-2.said low of.1 said }
