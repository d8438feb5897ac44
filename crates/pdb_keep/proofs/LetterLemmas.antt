-- The letters that are told of a search are a moves text.
use Rattle.std.proofs.Common.{◌≡◌, ◌∙◌, ℕ, List, [], ◌∷◌, ◌++◌, ◌||◌, true, Some, ap, codes, get_or, map, refl, sym}
use Rattle.std.specs.Prelude.{All, ◌==◌, is_some, not}
use Rattle.std.specs.List.{cons_option}
use Rattle.std.proofs.lemmas.List.Elements.{All-cons, All-map}
use Rattle.puz_board.specs.BoardTexts.{is_separator}
use Rattle.puz_board.specs.Cells.{move_of_letter}
use Rattle.puz_board.specs.MovesTexts.{is_letter, moves_of}
use Rattle.puz_board.specs.declared.moves.Move.{Move}
use Rattle.puz_board.specs.declared.moves.Move.TheVariants.{Up, Down, Left, Right}
use Rattle.puz_goal.specs.declared.goals.Goal.{Goal}
use Rattle.puz_goal.specs.Goals.{goal_words}
use Rattle.byte_io.specs.Shelf.{Bytes}
use Rattle.pdb_keep.specs.Solve.{letter_of, letters_of, moves_line}
use Rattle.pdb_keep.specs.Laws.{ToldMovesSolve, told_moves}

letter-read : (m : Move) → move_of_letter (letter_of m) ≡ Some m
letter-read = elim [ Up ↦ refl | Down ↦ refl | Left ↦ refl | Right ↦ refl ]

letters-read : (moves : List Move) → moves_of (map letter_of moves) ≡ moves
letters-read [] = refl
letters-read (m ∷ moves) =
    ap (λ o. cons_option o (moves_of (map letter_of moves))) (letter-read m) ∙ ap (λ rest. m ∷ rest) (letters-read moves)

-- a byte of a moves text
abbrev IsClean : ℕ → Type 0
IsClean byte = is_letter byte || is_separator byte ≡ true

-- a byte that ends no line
abbrev IsInLine : ℕ → Type 0
IsInLine byte = not (byte == 10) ≡ true

letter-in_line : (m : Move) → IsInLine (letter_of m)
letter-in_line = elim [ Up ↦ refl | Down ↦ refl | Left ↦ refl | Right ↦ refl ]

told-in_line : (letters : Bytes) → All IsInLine letters → All IsInLine (told_moves letters)
told-in_line [] all = all
told-in_line (letter ∷ letters) all = All-cons IsInLine 32 (letter ∷ letters) refl all

-- a space before them changes nothing but that the line has it
told : (goal : Goal) (letters : Bytes) → (moves_line goal letters ≡ codes "moves" ++ told_moves letters ++ goal_words goal ++ codes "\n")
    × (moves_of (told_moves letters) ≡ moves_of letters) × (All IsClean letters → All IsClean (told_moves letters))
told goal [] = (refl, refl, λ clean. clean)
told goal (letter ∷ letters) = (refl, refl, λ clean. All-cons IsClean 32 (letter ∷ letters) refl clean)

-- so the line is as it is told, and its moves solve what the moves solve
pub told_solution : ToldMovesSolve
told_solution goal b moves n solves =
    let is = told goal (letters_of moves) in
    let clean = λ (m : Move). ap (λ o. is_some o || is_separator (letter_of m)) (letter-read m) in
    let in_line = All-map IsInLine letter_of (moves_of moves) (λ k d low. letter-in_line (get_or (moves_of moves) k d)) in
    record {
      line = is.0;
      one_line = told-in_line (letters_of moves) in_line;
      solves = record {
        letters = is.2 (All-map IsClean letter_of (moves_of moves) (λ k d low. clean (get_or (moves_of moves) k d)));
        path = solves.path;
        led = rw (sym (is.1 ∙ letters-read (moves_of moves))) at solves.led;
        solution = solves.solution;
        count = solves.count;
        few = solves.few;
      };
    }
