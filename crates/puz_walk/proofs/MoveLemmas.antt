-- The moves by their numbers.
use Rattle.std.proofs.Common.{◌≡◌, ℕ, zero, suc, ◌<◌, ◌%◌, cond, eqb, get_or, [], ◌∷◌, ap, arith}
use Rattle.puz_board.specs.declared.moves.Move.{Move}
use Rattle.puz_board.specs.declared.moves.Move.TheVariants.{Up, Down, Left, Right}
use Rattle.edge_words.specs.Words.{move_of, way_of}

-- the move of a last digit
abbrev pub pick : ℕ → Move
pick digit = cond (eqb digit 0) Up (cond (eqb digit 1) Down (cond (eqb digit 2) Left Right))

-- the list of the moves has each at the last digit of its number
pub move_at : (digit k : ℕ) → digit ≡ k % 4 → get_or (Up ∷ Down ∷ Left ∷ Right ∷ []) digit Up ≡ move_of k
move_at zero k e = ap pick e
move_at (suc zero) k e = ap pick e
move_at (suc (suc zero)) k e = ap pick e
move_at (suc (suc (suc zero))) k e = ap pick e
move_at (suc (suc (suc (suc digit)))) k e = absurd (omega arith)

-- a move has one of four numbers
pub way_low : (move : Move) → way_of move < 4
way_low Up = omega arith
way_low Down = omega arith
way_low Left = omega arith
way_low Right = omega arith

-- the move whose number is the last digit is the move itself
pub move_back : (move : Move) (k : ℕ) → k % 4 ≡ way_of move → move_of k ≡ move
move_back Up k e = ap pick e
move_back Down k e = ap pick e
move_back Left k e = ap pick e
move_back Right k e = ap pick e
