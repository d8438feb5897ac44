use Rattle.std.proofs.Common.{◌≡◌, ◌∙◌, ◌++◌, List, ℕ, append_assoc, codes}
use Rattle.std.specs.Prelude.{decimal}
use Rattle.puz_goal.specs.Goals.{goal_words}
use Rattle.puz_goal.specs.declared.goals.Goal.{Goal}
use Rattle.pdb_verdict.specs.Lines.{counted_for}
use Rattle.pdb_keep.specs.Solve.{letters_of, moves_line, moves_words}
use Rattle.pdb_keep.proofs.solutions.lines_on.Goals as goal

-- both lines, one behind the other
both : (goal : Goal) (letters : List ℕ) (n : ℕ)
    → moves_words letters ++ goal_words goal ++ codes "\noptimal " ++ decimal n ++ goal_words goal ++ codes "\n"
    ≡ moves_line goal letters ++ counted_for goal (codes "optimal ") n
both goal letters n = simp append_assoc

-- the letters, their number and the words of the goal make both lines
pub returns : goal.returns
returns c = c.with_end.ensures
    ∙ rw (c.as_str.ensures.value, c.letters_of-letters.ensures, c.format.ensures.text, c.words.ensures.words)
    (both c.args.goal (letters_of c.args.moves.now) c.args.count)
