-- Which board a log is of.
use Rattle.std.proofs.Common.{◌≡◌, ◌∙◌, ◌++◌, ◌-◌, ◌*◌, ◌&&◌, Bool, List, ap, false, length, replicate, subst, sym, take, take_at, true, ℕ}
use lib.Pointwise.{pointwise}
use Rattle.std.specs.Cmp.Lexicographic.{same_text}
use Rattle.std.specs.Prelude.{nat_eq}
use Rattle.puz_board.specs.Boards.{IsBoardOf}
use Rattle.set_sum.proofs.AnswerLemmas.{all_get}
use Rattle.log_file.specs.Logs.{IsLog, Log}
use Rattle.pdb_keep.specs.Spared.{EndsWith}

-- the board that a log ends with has the side of the log
pub last_board : (log : Log) (b : List ℕ) → IsLog log → EndsWith log.lemmas b → IsBoardOf log.side b
last_board log b is ends =
    subst (IsBoardOf log.side) ends.board
    (all_get (λ lemma. IsBoardOf log.side lemma.board) log.lemmas (length log.lemmas - 1) ends.last ends.is_last is.boards)

-- the numbers of a board, and the zeros behind them
abbrev pub filled : List ℕ → List ℕ
filled b = b ++ replicate (25 - length b) 0

last_of_three : (x y z : Bool) → (x && (y && z)) ≡ true → true ≡ z
last_of_three true true z e = sym e
last_of_three true false z e = cc
last_of_three false y z e = cc

-- boards of one side that are stored alike are the same
pub boards_same : (n : ℕ) (a b : List ℕ) → IsBoardOf n a → IsBoardOf n b → (x y : Bool) → (x && (y && pointwise nat_eq (filled a) (filled b))) ≡ true → a ≡ b
boards_same n a b good_a good_b x y same =
    sym (take_at a (replicate (25 - length a) 0) (n * n) good_a.size) ∙
    ap (take (n * n)) (same_text (filled a) (filled b) (last_of_three x y _ same)) ∙
    take_at b (replicate (25 - length b) 0) (n * n) good_b.size
