use Rattle.std.proofs.Common.{◌≡◌, ◌∙◌, sym}
use Rattle.pdb_checker.proofs.claims.told_shortest.Goals as goal

-- letters that a search finds are a shortest solution, and replaying them counts its moves
pub returns-in-Ok-clause-yes : goal.returns-in-Ok-clause-yes
returns-in-Ok-clause-yes c = λ is.
    let found = rw c.in-Solved.is at c.requires in
    let same = sym c.in-Ok.is ∙ c.replay.ensures.solved found.0 (rw c.as_slice.ensures.value found.1) in
    let count : c.in-Ok.count ≡ found.0 = cc in (
      rw (c.with_moves.ensures.moves, c.as_slice-in-Ok.ensures.value, c.with_moves.ensures.answer.count, count) found.1,
      rw (c.with_moves.ensures.answer.count, count) found.2,
    )
