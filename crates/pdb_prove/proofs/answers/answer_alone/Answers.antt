use Rattle.std.proofs.Common.{None}
use Rattle.pdb_verdict.specs.declared.verdicts.Fault.TheVariants.{K1}
use Rattle.pdb_prove.specs.declared.answers.Finding.TheVariants.{Refused}
use Rattle.pdb_prove.proofs.answers.answer_alone.Goals as goal

-- where one thread spends its boards on a search for a shortest solution, no bound is told
pub returns-in-Spent : goal.returns-in-Spent
returns-in-Spent c =
    let asked = rw c.in-Ok-Shortest.field-0-is at c.in-Ok-Shortest.ensures.ok in
    asked _ _ (Refused (K1 None)) (_, rw (c.in-Spent.is, c.requires.board) at c.shortest_alone.ensures)

-- what it finds otherwise is right for a claim that asks for a shortest solution
pub returns-in_default : goal.returns-in_default
returns-in_default c =
    let asked = rw c.in-Ok-Shortest.field-0-is at c.in-Ok-Shortest.ensures.ok in
    let best = c.found_shortest.ensures _ _ c.shortest_alone.ensures in asked _ _ _ (rw c.requires.board at best)

-- what it finds by a search for a solution of fewer moves is right for the claim
pub returns-in-Ok-Below : goal.returns-in-Ok-Below
returns-in-Ok-Below c =
    let asked = rw c.in-Ok-Below.field-0-is at c.in-Ok-Below.ensures.ok in
    rw c.found_below.ensures (asked _ _ _ (rw c.requires.board at c.refute_by_thresholds_alone-answer.ensures))

-- what it finds by a search for a shortest solution is found of the claim's board
pub found_shortest-requires : goal.found_shortest-requires
found_shortest-requires c = (_, _, c.shortest_alone.ensures)
