use Rattle.pdb_prove.proofs.answers.answer_by.Goals as goal

-- what all workers find by a search for a shortest solution is right for a claim that asks for one
pub returns-in-Ok-Shortest : goal.returns-in-Ok-Shortest
returns-in-Ok-Shortest g c =
    let asked = rw c.in-Ok-Shortest.field-0-is at c.in-Ok-Shortest.ensures.ok in
    let best = c.found_shortest.ensures _ _ c.shortest.ensures in asked _ _ _ (rw c.requires.board at best)

-- what they find by a search for a solution of fewer moves is right for the claim
pub returns-in-Ok-Below : goal.returns-in-Ok-Below
returns-in-Ok-Below g c =
    let asked = rw c.in-Ok-Below.field-0-is at c.in-Ok-Below.ensures.ok in
    rw c.found_below.ensures (asked _ _ _ (rw c.requires.board at c.refute_by_thresholds-answer.ensures))

-- what they find by a search for a shortest solution is found of the claim's board
pub found_shortest-requires : goal.found_shortest-requires
found_shortest-requires g c = (_, _, c.shortest.ensures)
