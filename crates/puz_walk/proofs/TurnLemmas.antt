-- A move of a board is, with rows and columns exchanged, one of the transposed board.
use Rattle.std.proofs.Common.{◌≡◌, ◌≢◌, ℕ, ◌+◌, ◌-◌, ◌*◌, ◌/◌, ◌%◌, ◌<◌, ◌≤◌, Bool, true, false, cond, eqb, List, Some, sym, ◌∙◌, ap, subst, arith}
use Rattle.std.specs.Prelude.{option_map}
use Rattle.std.proofs.lemmas.Bool.{eqb-false}
use Rattle.puz_board.specs.Boards.{IsBoardOf, at, blank, moved, slid}
use Rattle.puz_board.specs.Cells.{step_of}
use Rattle.puz_board.specs.Transposing.{transposed, transposed_cell}
use Rattle.puz_board.specs.declared.moves.Move.{Move}
use Rattle.puz_board.specs.declared.moves.Move.TheVariants.{Up, Down, Left, Right}
use Rattle.puz_board.proofs.BoardLemmas.{cell_of-below, cells_least, side_of-board}
use Rattle.puz_board.proofs.CellLemmas.{by_side, goes, stays}
use Rattle.puz_board.proofs.MovedLemmas.{IsBoardOf-moved}
use Rattle.puz_board.proofs.TransposeLemmas.{IsBoardOf-transposed, at-transposed, blank-transposed, cell_below, cell_twice, slid-transposed}
use Rattle.edge_words.specs.Spots.{IsStepOf}
use Rattle.edge_words.proofs.TileMoveLemmas.{Slide, slide_of}
use Rattle.set_sum.specs.Members.{board_for}
use Rattle.set_sum.specs.declared.members.Member.{Member}
use Rattle.puz_walk.specs.StoredWords.{cell_for, move_for, transposed_move}

-- ---- cells

up_left : (n : ℕ) → 2 ≤ n → n ≤ 5 → (c d : ℕ) → c < n * n → c / n ≢ 0 → c - n ≡ d → (transposed_cell n c % n ≢ 0)
    × (transposed_cell n c - 1 ≡ transposed_cell n d)
up_left = by_side (λ n. (c d : ℕ) → c < n * n → c / n ≢ 0 → c - n ≡ d → (transposed_cell n c % n ≢ 0)
    × (transposed_cell n c - 1 ≡ transposed_cell n d)) (λ c d l p e. omega arith) (λ c d l p e. omega arith) (λ c d l p e. omega arith)
    (λ c d l p e. omega arith)

down_right : (n : ℕ) → 2 ≤ n → n ≤ 5 → (c d : ℕ) → c < n * n → c / n ≢ n - 1 → c + n ≡ d → (transposed_cell n c % n ≢ n - 1)
    × (transposed_cell n c + 1 ≡ transposed_cell n d)
down_right = by_side (λ n. (c d : ℕ) → c < n * n → c / n ≢ n - 1 → c + n ≡ d → (transposed_cell n c % n ≢ n - 1)
    × (transposed_cell n c + 1 ≡ transposed_cell n d)) (λ c d l p e. omega arith) (λ c d l p e. omega arith) (λ c d l p e. omega arith)
    (λ c d l p e. omega arith)

left_up : (n : ℕ) → 2 ≤ n → n ≤ 5 → (c d : ℕ) → c < n * n → c % n ≢ 0 → c - 1 ≡ d → (transposed_cell n c / n ≢ 0)
    × (transposed_cell n c - n ≡ transposed_cell n d)
left_up = by_side (λ n. (c d : ℕ) → c < n * n → c % n ≢ 0 → c - 1 ≡ d → (transposed_cell n c / n ≢ 0)
    × (transposed_cell n c - n ≡ transposed_cell n d)) (λ c d l p e. omega arith) (λ c d l p e. omega arith) (λ c d l p e. omega arith)
    (λ c d l p e. omega arith)

right_down : (n : ℕ) → 2 ≤ n → n ≤ 5 → (c d : ℕ) → c < n * n → c % n ≢ n - 1 → c + 1 ≡ d → (transposed_cell n c / n ≢ n - 1)
    × (transposed_cell n c + n ≡ transposed_cell n d)
right_down = by_side (λ n. (c d : ℕ) → c < n * n → c % n ≢ n - 1 → c + 1 ≡ d → (transposed_cell n c / n ≢ n - 1)
    × (transposed_cell n c + n ≡ transposed_cell n d)) (λ c d l p e. omega arith) (λ c d l p e. omega arith) (λ c d l p e. omega arith)
    (λ c d l p e. omega arith)

step_turned : (n c : ℕ) (m : Move) (d : ℕ) → 2 ≤ n → n ≤ 5 → c < n * n → step_of n c m ≡ Some d
    → step_of n (transposed_cell n c) (transposed_move m) ≡ Some (transposed_cell n d)
step_turned n c Up d low high l e =
    let way = stays (eqb (c / n) 0) (c - n) d e in
    let also = up_left n low high c d l (eqb-false (c / n) 0 way.0) way.1 in
    goes (transposed_cell n c % n) 0 (transposed_cell n c - 1) (transposed_cell n d) also.0 also.1
step_turned n c Down d low high l e =
    let way = stays (eqb (c / n) (n - 1)) (c + n) d e in
    let also = down_right n low high c d l (eqb-false (c / n) (n - 1) way.0) way.1 in
    goes (transposed_cell n c % n) (n - 1) (transposed_cell n c + 1) (transposed_cell n d) also.0 also.1
step_turned n c Left d low high l e =
    let way = stays (eqb (c % n) 0) (c - 1) d e in
    let also = left_up n low high c d l (eqb-false (c % n) 0 way.0) way.1 in
    goes (transposed_cell n c / n) 0 (transposed_cell n c - n) (transposed_cell n d) also.0 also.1
step_turned n c Right d low high l e =
    let way = stays (eqb (c % n) (n - 1)) (c + 1) d e in
    let also = right_down n low high c d l (eqb-false (c % n) (n - 1) way.0) way.1 in
    goes (transposed_cell n c / n) (n - 1) (transposed_cell n c + n) (transposed_cell n d) also.0 also.1

-- ---- steps

-- the blank of a board, by the number of its cell, is inside the board
pub blank_below : (n : ℕ) (b : List ℕ) → IsBoardOf n b → blank b < n * n
blank_below n b good = cell_of-below n b good 0 (let some = cells_least n b good in omega arith)

-- the step of a tile leads to a board of the same side
pub next_good : (n : ℕ) (move : Move) (b next : List ℕ) (tile from to : ℕ) → IsStepOf n move b next tile from to → IsBoardOf n next
next_good n move b next tile from to step = IsBoardOf-moved n b step.board move next step.leads

-- a move by its step
pub moved_by : (n : ℕ) (b : List ℕ) → IsBoardOf n b → (move : Move) (c : ℕ) → step_of n (blank b) move ≡ Some c → moved b move ≡ Some (slid b c)
moved_by n b good move c step = ap (λ side. option_map (slid b) (step_of side (blank b) move)) (side_of-board n b good) ∙ ap (option_map (slid b)) step

module _ (n : ℕ) (move : Move) (b next : List ℕ) (tile from to : ℕ) (step : IsStepOf n move b next tile from to) where
  good : IsBoardOf n b
  good = step.board

  on : IsBoardOf n next
  on = next_good n move b next tile from to step

  step_transposed : IsStepOf n (transposed_move move) (transposed b) (transposed next) (transposed_cell n tile) (transposed_cell n from) (transposed_cell n to)
  step_transposed =
      let s : Slide n b move next = slide_of n b good move next step.leads in
      let turned = IsBoardOf-transposed n b good in
      let there : step_of n (blank (transposed b)) (transposed_move move) ≡ Some (transposed_cell n s.cell) =
      subst (λ z. step_of n z (transposed_move move) ≡ Some (transposed_cell n s.cell)) (sym (blank-transposed n b good))
      (step_turned n (blank b) move s.cell good.low good.high (blank_below n b good) s.step) in
      let to_inside : blank next < n * n = blank_below n next on in
      record {
        board = turned;
        leads = moved_by n (transposed b) turned (transposed_move move) (transposed_cell n s.cell) there
            ∙ ap Some (slid-transposed n b good s.cell s.inside ∙ ap transposed s.is);
        tile_is = ap (transposed_cell n) step.tile_is ∙
            sym (ap (at (transposed b)) (blank-transposed n next on)
            ∙ at-transposed n b good (transposed_cell n (blank next)) (cell_below n good.low good.high (blank next) to_inside) ∙
            ap (λ x. transposed_cell n (at b x)) (cell_twice n good.low good.high (blank next) to_inside));
        from_is = ap (transposed_cell n) step.from_is ∙ sym (blank-transposed n b good);
        to_is = ap (transposed_cell n) step.to_is ∙ sym (blank-transposed n next on);
      }

  step_for_either : (is_transposed : Bool)
      → IsStepOf n (cond is_transposed (transposed_move move) move) (cond is_transposed (transposed b) b) (cond is_transposed (transposed next) next)
      (cond is_transposed (transposed_cell n tile) tile) (cond is_transposed (transposed_cell n from) from) (cond is_transposed (transposed_cell n to) to)
  step_for_either true = step_transposed
  step_for_either false = step

  -- of the board that a member looks up
  pub step_for : (m : Member) → IsStepOf n (move_for m move) (board_for m b) (board_for m next) (cell_for n m tile) (cell_for n m from) (cell_for n m to)
  step_for m = step_for_either m.is_transposed
