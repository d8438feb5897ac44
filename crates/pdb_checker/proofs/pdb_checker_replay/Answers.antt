use Rattle.std.proofs.Common.{◌∙◌, refl, subst, sym}
use Rattle.puz_goal.specs.declared.goals.Goal.TheVariants.{First}
use Rattle.pdb_verdict.specs.Replay.{IsSolvedPuzzle}
use Rattle.pdb_checker.proofs.AnswerLemmas.{replay_yes}
use Rattle.pdb_checker.proofs.pdb_checker_replay.Goals as goal

-- a yes tells how many moves solve the board
pub returns-clause-yes : goal.returns-clause-yes
returns-clause-yes c = λ is.
    subst (IsSolvedPuzzle First c.args.puzzle.now) (sym c.of.ensures.count)
    (replay_yes c.args.puzzle.now c.verify_puzzle-found.result c.verify_puzzle-found.ensures.exact (sym c.of.ensures.status ∙ is))

-- what is found is told
pub returns-clause-told : goal.returns-clause-told
returns-clause-told c = (c.verify_puzzle-found.result, c.verify_puzzle-found.ensures.exact, c.of.ensures, refl)
