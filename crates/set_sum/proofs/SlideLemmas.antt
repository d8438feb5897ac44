-- A board that is moved in place and moved back: the numbers, their cells, and what is known.
use Rattle.std.proofs.Common.{◌≡◌, ℕ, ◌-◌, ◌*◌, ◌^◌, ◌<◌, bit_and, List, length, take, Option, Some, sym, ◌∙◌, ap, subst, arith, lit<, slice_index, slice_set}
use Rattle.std.specs.Int.{bit_at}
use Rattle.std.specs.Prelude.{option_map}
use Rattle.std.proofs.lemmas.Nat.Bits.{bit_at-zero}
use Rattle.std.proofs.Math.Seq.{take-set-lt}
use Rattle.std.proofs.lemmas.List.{ext_get_or, get_or-take, length-take-le}
use Rattle.puz_board.specs.declared.moves.Move.{Move}
use Rattle.puz_board.specs.Boards.{IsBoardOf, at, blank, moved, slid}
use Rattle.puz_board.specs.Cells.{Adjacent, step_of}
use Rattle.puz_board.specs.Transposing.{transposed, transposed_cell}
use Rattle.puz_board.proofs.BoardLemmas.{cell_of-below, cells_least, cells_most, side_of-board}
use Rattle.puz_board.proofs.CellLemmas.{step_of-inside}
use Rattle.puz_board.proofs.TransposeLemmas.{blank-transposed, slid-transposed}
use Rattle.tab_rule.specs.Counts.{AreCellsOf}
use Rattle.set_sum.specs.Bundles.{ShownBundle}
use Rattle.set_sum.specs.Owners.{AreOwners}
use Rattle.set_sum.specs.Known.{place_of, IsKnownOf}
use Rattle.set_sum.specs.Steps.{IsStepFrom}
use Rattle.set_sum.specs.Noting.{IsJoined}
use Rattle.set_sum.specs.declared.known.Known.{Known}
use Rattle.set_sum.specs.declared.known.PositionStep.{PositionStep}
use Rattle.set_sum.proofs.KnownLemmas.{cells_after, known_before}
use Rattle.tab_rule.proofs.StillLemmas.{at-back, slid-back, slid-near}
use Rattle.set_sum.proofs.StillLemmas.{near_turned, tile_turned, turned}

-- ---- cells that are read

-- the blank's cell comes first
pub blank_first : (n : ℕ) (b cells : List ℕ) → IsBoardOf n b → AreCellsOf cells b → slice_index cells 0 ≡ blank b
blank_first n b cells good are = are 0 (let some = cells_least n b good in let size = good.size in omega arith)

-- the blank of a board of side n is in one of its n times n cells
pub blank_below : (n : ℕ) (b : List ℕ) → IsBoardOf n b → blank b < n * n
blank_below n b good = cell_of-below n b good 0 (let some = cells_least n b good in omega arith)

-- the number in a cell of the board
pub number_at : (n c : ℕ) (numbers : List ℕ) → c < n * n → slice_index numbers c ≡ at (take (n * n) numbers) c
number_at n c numbers inside = sym (get_or-take (n * n) numbers c 0 inside)

-- the numbers that are kept are the board's
pub shown_board : (n : ℕ) (b numbers : List ℕ) → IsBoardOf n b → length numbers ≡ 25 → ((c : ℕ) → c < length b → slice_index numbers c ≡ at b c)
    → take (n * n) numbers ≡ b
shown_board n b numbers good room each =
    let size = good.size in
    let most = cells_most n b good in
    let count : length (take (n * n) numbers) ≡ n * n = length-take-le (n * n) numbers (omega arith) in
    ext_get_or 0 (take (n * n) numbers) b (count ∙ sym size) (λ c low.
    get_or-take (n * n) numbers c 0 (let l : c < n * n = omega arith in l) ∙ each c (omega arith))

-- ---- the numbers after a slide

-- setting the blank's cell to the tile and the tile's to 0 makes the front numbers the slid board
pub numbers_slid : (n : ℕ) (numbers : List ℕ) → IsBoardOf n (take (n * n) numbers) → (c : ℕ) → c < n * n → (from tile to : ℕ)
    → from ≡ blank (take (n * n) numbers) → tile ≡ at (take (n * n) numbers) c → to ≡ c
    → take (n * n) (slice_set (slice_set numbers from tile) to 0) ≡ slid (take (n * n) numbers) c
unfolding slid
numbers_slid n numbers good c inside from tile to from_is tile_is to_is =
    let b : List ℕ = take (n * n) numbers in
    let from_inside : from < n * n = subst (λ z. z < n * n) (sym from_is) (blank_below n b good) in
    let to_inside : to < n * n = subst (λ z. z < n * n) (sym to_is) inside in
    take-set-lt (n * n) (slice_set numbers from tile) to 0 to_inside ∙
    ap (λ xs. slice_set xs to 0) (take-set-lt (n * n) numbers from tile from_inside) ∙
    ap (λ z. slice_set (slice_set b z tile) to 0) from_is ∙
    ap (λ x. slice_set (slice_set b (blank b) x) to 0) tile_is ∙
    ap (λ z. slice_set (slice_set b (blank b) (at b c)) z 0) to_is

-- ---- the cells on the transposed board

-- setting the transposed cells of the tile and the blank gives the cells on the slid board transposed
pub transposed_after : (n : ℕ) (b : List ℕ) (good : IsBoardOf n b) (c : ℕ) (near : Adjacent n (blank b) c) (cells : List ℕ) (i from to : ℕ)
    → length cells ≡ 25 → AreCellsOf cells (transposed b) → i ≡ transposed_cell n (at b c) → from ≡ transposed_cell n (blank b) → to ≡ transposed_cell n c
    → AreCellsOf (slice_set (slice_set cells i from) 0 to) (transposed (slid b c))
transposed_after n b good c near cells i from to room are i_is from_is to_is =
    subst (AreCellsOf (slice_set (slice_set cells i from) 0 to)) (slid-transposed n b good c near.0)
    (cells_after n (transposed b) (turned n b good c near) (transposed_cell n c) (near_turned n b good c near) cells i from to room are
    (i_is ∙ sym (tile_turned n b good c near)) (from_is ∙ sym (blank-transposed n b good)) to_is)

-- ---- a step, and the step back

-- where a move leads
pub moved_by : (n : ℕ) (b : List ℕ) → IsBoardOf n b → (move : Move) (o : Option ℕ) → step_of n (blank b) move ≡ o → moved b move ≡ option_map (slid b) o
moved_by n b good move o leads = ap (λ side. option_map (slid b) (step_of side (blank b) move)) (side_of-board n b good) ∙ ap (option_map (slid b)) leads

-- as the code finds it
pub step_leads : (n : ℕ) (b cells : List ℕ) → IsBoardOf n b → AreCellsOf cells b → (move : Move) (side : ℕ) → side ≡ n → (o : Option ℕ)
    → o ≡ step_of side (slice_index cells 0) move
    → step_of n (blank b) move ≡ o
step_leads n b cells good are move side same o is =
    ap (λ z. step_of n z move) (sym (blank_first n b cells good are)) ∙ ap (λ m. step_of m (slice_index cells 0) move) (sym same) ∙ sym is

-- a move of the blank that stays on the board leads to an adjacent cell
pub step_adjacent : (n : ℕ) (b : List ℕ) → IsBoardOf n b → (move : Move) (to : ℕ) → step_of n (blank b) move ≡ Some to → Adjacent n (blank b) to
step_adjacent n b good move to leads = (step_of-inside n (blank b) move to good.low good.high (blank_below n b good) leads, move, leads)

module _ (v : ShownBundle) (b next : List ℕ) (step : PositionStep) (is : IsStepFrom v b next step) where
  -- a slide to the cell that a step left leads back to the board before it
  pub step_back : slid next step.from ≡ b
  step_back = ap (λ x. slid x step.from) (sym is.leads) ∙ ap (slid (slid b is.to)) is.from ∙ slid-back v.side b is.board is.to is.near

  -- the cell that a step left is adjacent to the blank's on the board after it
  pub step_near : Adjacent v.side (blank next) step.from
  step_near =
      subst (λ x. Adjacent v.side (blank x) step.from) is.leads
      (subst (λ z. Adjacent v.side (blank (slid b is.to)) z) (sym is.from) (slid-near v.side b is.board is.to is.near))

  step_tile : at next step.from ≡ at b is.to
  step_tile = ap (λ x. at x step.from) (sym is.leads) ∙ ap (at (slid b is.to)) is.from ∙ at-back v.side b is.board is.to is.near

  -- what was known before the step, and what is known behind it and the step leaves
  pub step_known : (owners : ℕ) → AreOwners v.side v.tables (at next step.from) owners → owners < 2 ^ 32 → (other now : Known) → IsKnownOf v next other
      → IsJoined (bit_and other.places (2 ^ 32 - 1 - owners)) other step.known now → IsKnownOf v b now
  step_known owners own fits other now known joined =
      known_before v b is.board is.to is.near owners (subst (λ t. AreOwners v.side v.tables t owners) step_tile own) fits step.known other now is.known
      (subst (λ x. IsKnownOf v x other) (sym is.leads) known) joined

-- ---- where nothing is known

-- with no place set, what is known is known of any board
pub known_none : (v : ShownBundle) (b : List ℕ) (known : Known) → length known.entries ≡ 32 → known.places ≡ 0 → IsKnownOf v b known
known_none v b known room none = record {
  size = room;
  small = let few : 0 < 2 ^ 32 = lit< tt in omega arith;
  each = λ m there set. absurd (let clear : bit_at known.places (place_of m) ≡ 0 = ap (λ k. bit_at k (place_of m)) none ∙ bit_at-zero (place_of m) in
      omega arith);
}
