-- What searches come to.
use Rattle.std.specs.Prelude.{⊤, ℕ, List}
use Rattle.puz_board.specs.MovesTexts.{Solves}
use Rattle.set_sum.specs.Bounds.{IsBounded}
use Rattle.puz_search.specs.Answers.{IsShorter}
use Rattle.pdb_checker.specs.declared.searches.Found.{Found}
use Rattle.pdb_checker.specs.declared.searches.Found.TheVariants.{Beyond, Refuted, Solved, Spent}
use Rattle.pdb_checker.specs.declared.searches.Question.{Question}
use Rattle.pdb_checker.specs.declared.searches.Question.TheVariants.{Below, Shortest}

-- this is found of the board b where this is searched for
abbrev pub IsFoundFor : List ℕ → Question → Found → Type 0
IsFoundFor b (Below r) (Refuted boards) = IsBounded b r
IsFoundFor b (Below r) (Solved letters) = IsShorter b r letters.items
IsFoundFor b Shortest (Solved letters) = (moves : ℕ) × Solves b letters.items moves × IsBounded b moves
IsFoundFor b Shortest Beyond = IsBounded b 254
IsFoundFor b question Spent = ⊤
IsFoundFor b question _ = ⊥
