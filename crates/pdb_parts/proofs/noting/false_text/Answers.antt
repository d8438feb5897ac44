use Rattle.std.proofs.Common.{◌≡◌, ◌∙◌, List, [], ◌∷◌, None, Option, Some, ap, arith, cond, length, refl, suc, sym, ℕ}
use Rattle.std.specs.Prelude.{filter, is_some}
use Rattle.std.specs.List.{cons_option, filter_map}
use Rattle.puz_board.specs.Boards.{blank, side_of}
use Rattle.puz_board.specs.Cells.{move_of_letter}
use Rattle.puz_board.specs.MovesTexts.{moves_of}
use Rattle.puz_board.specs.Paths.{Leads}
use Rattle.puz_board.specs.declared.moves.Move.{Move}
use Rattle.puz_goal.specs.Goals.{SolvesFor}
use Rattle.puz_goal.specs.declared.goals.Goal.{Goal}
use Rattle.claim_text.specs.Claims.{letters}
use Rattle.pdb_parts.proofs.noting.false_text.Goals as goal

length-moves : {Y : Type 0} (f : ℕ → Option Y) (xs : List ℕ) → length (filter_map f xs) ≡ length (filter (λ x. is_some (f x)) xs)
length-moves f [] = refl
length-moves {Y} f (x ∷ xs) = go (f x) (length-moves f xs)
  where
    go : (o : Option Y) → length (filter_map f xs) ≡ length (filter (λ x. is_some (f x)) xs)
        → length (cons_option o (filter_map f xs)) ≡ length (cond (is_some o) (x ∷ filter (λ x. is_some (f x)) xs) (filter (λ x. is_some (f x)) xs))
    go None rest = rest
    go (Some y) rest = ap suc rest

length-led : (n c : ℕ) (ms : List Move) (path : List ℕ) → Leads n c ms path → length ms ≡ length path
length-led n c [] [] led = refl
length-led n c [] (d ∷ ds) led = absurd led
length-led n c (m ∷ ms) [] led = absurd led
length-led n c (m ∷ ms) (d ∷ ds) led = ap suc (length-led n d ms ds led.1)

-- a solution of so many moves has so many letters
letters-solved : (g : Goal) (b text : List ℕ) (n : ℕ) → SolvesFor g b text n → length (letters text) ≡ n
letters-solved g b text n solved =
    sym (length-moves move_of_letter text) ∙ length-led (side_of b) (blank b) (moves_of text) solved.path solved.led ∙ solved.count

-- so few moves have as few letters
pub shorter_line-requires-clause-solution : goal.shorter_line-requires-clause-solution
shorter_line-requires-clause-solution c =
    let fewer = c.requires.2 in
    omega (arith, letters-solved c.args.goal c.args.board.now c.args.moves.now c.requires.0 c.requires.1, fewer, c.ranges.bound.fits)
