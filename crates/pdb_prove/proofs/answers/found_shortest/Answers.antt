use Rattle.std.proofs.Common.{◌≡◌, ◌∙◌, sym}
use Rattle.pdb_prove.proofs.answers.found_shortest.Goals as goal

-- letters that a search finds are a solution, so replaying them is never refused
pub unreachable-requires : goal.unreachable-requires
unreachable-requires c =
    let found = rw c.in-Shortest.is at c.requires.2 in
    let same = c.replay.ensures.solved found.0 (rw c.as_slice.ensures.value found.1) in
    let clash = sym c.in-Err.is ∙ same in cc

-- letters that a search finds are a shortest solution, and replaying them counts its moves
pub returns-in-Ok : goal.returns-in-Ok
returns-in-Ok c = λ v budget is.
    let found = rw c.in-Shortest.is at is in
    let same = sym c.in-Ok.is ∙ c.replay.ensures.solved found.0 (rw c.as_slice.ensures.value found.1) in
    let count : c.in-Ok.count ≡ found.0 = cc in
    (rw count found.1, rw count found.2)
