-- Moves between the placements of runs.
use Rattle.std.proofs.Common.{◌≡◌, ◌≢◌, ◌↔◌, ℕ, suc, ◌+◌, ◌-◌, ◌*◌, ◌/◌, ◌%◌, ◌^◌, ◌<◌, ◌≤◌, not, Bool, true, false, IsTrue, eqb, List, [], ◌∷◌}
use Rattle.std.proofs.Common.{drop, length, take, Some, inl, inr, sym, ◌∙◌, ap, ap₂, subst, arith}
use Rattle.std.specs.Prelude.{slice_index, slice_set}
use Rattle.std.proofs.lemmas.Bool.{cases_Bool, cases_eq, or_left}
use Rattle.std.proofs.lemmas.List.{get_or-drop, get_or-take, get_or_append_left, get_or_at, set-append_left}
use Rattle.std.proofs.lemmas.Nat.{mul-le}
use Rattle.std.proofs.Math.Nat.{mul_assoc, one-le-pow, pow-suc}
use Rattle.std.proofs.Math.Seq.{set-append_seam}
use Rattle.puz_board.specs.Cells.{reverse_of, step_of}
use Rattle.puz_board.specs.declared.moves.Move.{Move}
use Rattle.puz_board.specs.declared.moves.Move.TheVariants.{Up, Left}
use Rattle.puz_board.specs.Masks.{has_bit}
use Rattle.puz_board.proofs.BoardWays.{Adjacent-apart}
use Rattle.puz_board.proofs.CellLemmas.{reverse_of-takes_back, stays, step_of-inside}
use Rattle.pat_place.specs.Patterns.{IsPattern, ShownPattern, has}
use Rattle.pat_place.specs.Placements.{IsFree}
use Rattle.pat_place.proofs.ListLemmas.{Some-one, all_at}
use Rattle.tab_runs.specs.Rows.{IsOpen, listed_below}
use Rattle.tab_runs.specs.RunPlaces.{IsRun}
use Rattle.tab_runs.specs.Runs.{with_last}
use Rattle.tab_runs.proofs.RunLemmas.{has-with_last, open_moved, run_moved, same_moved, with_last-free, with_last-here}
use Rattle.edge_words.specs.Edges.{AreBefore, HasNoOrigin, IsNear}
use Rattle.edge_words.specs.Lookups.{HaveEntries, SaysOfAll, but_last}
use Rattle.edge_words.specs.Words.{IsEdgeWord, TellsOfMove, move_of}
use Rattle.edge_words.specs.declared.edges.Near.{Near}
use Rattle.edge_words.proofs.EdgeLemmas.{edge_tells, no_origin_tells, odd_bit, odd_move, pick, told_back}
use Rattle.edge_words.proofs.IndexLemmas.{index_of-lower}
use Rattle.edge_words.proofs.LookupLemmas.{free_below-same}

module _ (p : ShownPattern) (pat : IsPattern p) (cells : List ℕ) (run : IsRun p cells) (last : ℕ) (free : IsFree p.side cells last) where
  -- ---- a tile before the last one

  module _ (index : ℕ) (move : Move) (low : index < length cells) where
    at_front : slice_index (with_last cells last) index ≡ slice_index cells index
    at_front = get_or_append_left cells (last ∷ []) 0 index low

    -- without an origin in the run
    pub front_none : HasNoOrigin p cells index move → TellsOfMove p (with_last cells last) index move false
    front_none none = no_origin_tells p pat (with_last cells last) index move false (λ from step.
        has-with_last cells last from ∙ or_left (has cells from) (eqb last from)
        (none from (ap (λ c. step_of p.side c (reverse_of move)) (sym at_front) ∙ step)))

    -- where the last tile is in the way of a move
    pub front_taken : (rises : Bool) (from : ℕ) → step_of p.side (slice_index cells index) (reverse_of move) ≡ Some from → from ≡ last
        → TellsOfMove p (with_last cells last) index move rises
    front_taken rises from step blocked = no_origin_tells p pat (with_last cells last) index move rises (λ other leads.
        let same : other ≡ from = Some-one other from (sym leads ∙ ap (λ c. step_of p.side c (reverse_of move)) at_front ∙ step) in
        ap (has (with_last cells last)) (same ∙ blocked) ∙ with_last-here cells last)

    module _ (near : Near) (is : IsNear p cells index move near) where
      step : step_of p.side near.to (reverse_of move) ≡ Some near.from
      step = ap (λ c. step_of p.side c (reverse_of move)) is.to ∙ is.step

      to_is : near.to ≡ slice_index (with_last cells last) index
      to_is = is.to ∙ sym at_front

      -- where the last tile is in its way
      pub front_blocked : near.from ≡ last → TellsOfMove p (with_last cells last) index move false
      front_blocked = front_taken false near.from is.step

      -- before the move
      pub front_before : near.from ≢ last → IsOpen p.side cells near.from last
      front_before apart = record { last = free; cell = is.free; other = apart }

      -- after it
      pub front_after : near.from ≢ last → IsOpen p.side (but_last p near.run.cells) near.to last
      front_after apart =
          subst (λ xs. IsOpen p.side xs near.to last) (sym is.moved)
          (subst (λ c. IsOpen p.side (slice_set cells index near.from) c last) (sym is.to)
          (open_moved p.side cells run.inside run.apart index near.from low is.free last (front_before apart)))

      -- the place in both rows
      pub front_place : listed_below cells near.from last ≡ listed_below (but_last p near.run.cells) near.to last
      front_place =
          free_below-same (with_last cells near.from) (with_last (slice_set cells index near.from) (slice_index cells index))
          (same_moved cells index near.from low) last ∙
          ap₂ (λ xs c. listed_below xs c last) (sym is.moved) (sym is.to)

      -- for a tile before the last one, the entries on both sides of its move give the bit
      pub front_told : (before after : ℕ) → SaysOfAll p (with_last cells last) near.from before
          → SaysOfAll p (with_last (but_last p near.run.cells) last) near.to after
          → (rises : Bool) → (IsTrue rises ↔ (before < after)) → TellsOfMove p (with_last cells last) index move rises
      front_told before after says also =
          edge_tells p pat (with_last cells last) index move near.from near.to before after to_is step says
          (subst (λ xs. SaysOfAll p xs near.to after) (ap (λ xs. with_last xs last) is.moved
          ∙ sym (set-append_left cells (last ∷ []) index near.from low)) also)

  -- ---- moves back

  module _ (have : HaveEntries p) (number : ℕ) (odd : number % 2 ≡ 1) (from : ℕ) where
    -- for a tile before the last one, the word of the placement after its move has the bit of the move back
    pub front_back : number / 4 < length cells → step_of p.side (slice_index cells (number / 4)) (reverse_of (move_of number)) ≡ Some from
        → (word : ℕ) → IsEdgeWord p (with_last (slice_set cells (number / 4) from) last) word
        → TellsOfMove p (with_last cells last) (number / 4) (move_of number) (not (has_bit word (number - 1)))
    front_back low step word is =
        let tile : ℕ = number / 4 in
        let here : slice_index (with_last cells last) tile ≡ slice_index cells tile = get_or_append_left cells (last ∷ []) 0 tile low in
        let there : slice_set (with_last cells last) tile from ≡ with_last (slice_set cells tile from) last =
        set-append_left cells (last ∷ []) tile from low in
        let bit : TellsOfMove p (with_last (slice_set cells tile from) last) tile (move_of (number - 1)) (has_bit word (number - 1)) =
        subst (λ k. TellsOfMove p (with_last (slice_set cells tile from) last) tile (move_of (number - 1)) (has_bit word k)) (odd_bit number odd)
        (is tile (move_of (number - 1)) (let e = run.size in omega arith)) in
        told_back p pat (with_last cells last) tile (move_of number) have from (ap (λ c. step_of p.side c (reverse_of (move_of number))) here ∙ step)
        (has_bit word (number - 1))
        (subst (λ m. TellsOfMove p (slice_set (with_last cells last) tile from) tile m (has_bit word (number - 1))) (sym (odd_move number odd))
        (subst (λ xs. TellsOfMove p xs tile (move_of (number - 1)) (has_bit word (number - 1))) (sym there) bit))

    -- for the last tile, what tells of the move back tells of the move
    pub last_back : step_of p.side last (reverse_of (move_of number)) ≡ Some from → (rises : Bool)
        → TellsOfMove p (with_last cells from) (length p.tiles - 1) (move_of (number - 1)) rises
        → TellsOfMove p (with_last cells last) (length p.tiles - 1) (move_of number) (not rises)
    last_back step rises tells =
        let index : ℕ = length p.tiles - 1 in
        let size : length cells ≡ index = (let e = run.size in omega arith) in
        let here : slice_index (with_last cells last) index ≡ last = get_or_at cells last [] 0 index size in
        let there : slice_set (with_last cells last) index from ≡ with_last cells from =
        ap (λ k. slice_set (with_last cells last) k from) (sym size) ∙ set-append_seam cells last [] from in
        told_back p pat (with_last cells last) index (move_of number) have from (ap (λ c. step_of p.side c (reverse_of (move_of number))) here ∙ step) rises
        (subst (λ m. TellsOfMove p (slice_set (with_last cells last) index from) index m rises) (sym (odd_move number odd))
        (subst (λ xs. TellsOfMove p xs index (move_of (number - 1)) rises) (sym there) tells))

  -- ---- the last tile

  module _ (move : Move) where
    here : length cells ≡ length p.tiles - 1
    here = let e = run.size in omega arith

    at_last : slice_index (with_last cells last) (length p.tiles - 1) ≡ last
    at_last = get_or_at cells last [] 0 (length p.tiles - 1) here

    -- where the move leads from no free cell to the last tile's, no board has it, and the answer false tells of it
    pub last_none : ((from : ℕ) → step_of p.side last (reverse_of move) ≡ Some from → IsFree p.side cells from → ⊥)
        → TellsOfMove p (with_last cells last) (length p.tiles - 1) move false
    last_none none = no_origin_tells p pat (with_last cells last) (length p.tiles - 1) move false (λ from step.
        not_free from (ap (λ c. step_of p.side c (reverse_of move)) (sym at_last) ∙ step) (none from))
      where
        not_free : (from : ℕ) → step_of p.side last (reverse_of move) ≡ Some from
            → (step_of p.side last (reverse_of move) ≡ Some from → IsFree p.side cells from → ⊥) → has (with_last cells last) from ≡ true
        not_free from leads nowhere = elim (cases_Bool (has (with_last cells last) from)) [
          | inl t ↦ t
          | inr f ↦ absurd (nowhere leads (with_last-free p.side cells last from
              (step_of-inside p.side last (reverse_of move) from pat.low pat.high free.0 leads, f)).0)
        ]

    module _ (from : ℕ) (step : step_of p.side last (reverse_of move) ≡ Some from) (open_cell : IsFree p.side cells from) where
      apart : last ≢ from
      apart = Adjacent-apart p.side last from pat.low (open_cell.0, reverse_of move, step)

      -- before a move of the last tile, it and the blank are in two free cells of the run
      pub last_before : IsOpen p.side cells from last
      last_before = record { last = free; cell = open_cell; other = λ e. apart (sym e) }

      -- after a move of the last tile, it and the blank are in two free cells of the run, the other way round
      pub last_after : IsOpen p.side cells last from
      last_after = record { last = open_cell; cell = free; other = apart }

      -- for the last tile, the entries on both sides of its move give the bit
      pub last_told : (before after : ℕ) → SaysOfAll p (with_last cells last) from before → SaysOfAll p (with_last cells from) last after
          → (rises : Bool) → (IsTrue rises ↔ (before < after)) → TellsOfMove p (with_last cells last) (length p.tiles - 1) move rises
      last_told before after says also =
          edge_tells p pat (with_last cells last) (length p.tiles - 1) move from last before after (sym at_last) step says
          (subst (λ xs. SaysOfAll p xs last after) (sym (ap (λ k. slice_set (with_last cells last) k from) (sym here)
          ∙ set-append_seam cells last [] from)) also)

-- ---- moves to lower cells

-- a move with an odd number takes its tile to a lower cell
pub to_lower : (n to from number : ℕ) → 2 ≤ n → n ≤ 5 → to < n * n → number % 2 ≡ 1 → step_of n to (reverse_of (move_of number)) ≡ Some from → from < to
to_lower n to from number low high inside odd step = elim (cases_eq (number % 4) 1) [
  | inl e ↦
      let up : step_of n to Up ≡ Some from = ap (λ k. step_of n to (reverse_of (pick k))) (sym e) ∙ step in
      let back = (stays _ _ _ (reverse_of-takes_back Up n to from low high inside up)).1 in
      omega arith
  | inr ne ↦
      let other : number % 4 ≡ 3 = omega arith in
      let left : step_of n to Left ≡ Some from = ap (λ k. step_of n to (reverse_of (pick k))) (sym other) ∙ step in
      let back = (stays _ _ _ (reverse_of-takes_back Left n to from low high inside left)).1 in
      omega arith
]

module _ (p : ShownPattern) (pat : IsPattern p) (cells : List ℕ) (run : IsRun p cells) (number from : ℕ) (odd : number % 2 ≡ 1)
    (low : number / 4 < length cells) (step : step_of p.side (slice_index cells (number / 4)) (reverse_of (move_of number)) ≡ Some from) where
  -- the count of cells, to which base runs are indexed
  abbrev pub base : ℕ
  base = p.side * p.side

  -- by how many cells the tile goes back
  abbrev pub down : ℕ
  down = slice_index cells (number / 4) - from

  -- the tile goes to a lower cell
  pub less : from < slice_index cells (number / 4)
  less = to_lower p.side (slice_index cells (number / 4)) from number pat.low pat.high (all_at cells (number / 4) run.inside low) odd step

  -- how many indexes of runs lie between
  abbrev pub gap : ℕ
  gap = down * base ^ (length cells - 1 - number / 4)

  some_cells : 2 * 2 ≤ base
  some_cells = mul-le 2 2 p.side p.side pat.low pat.low

  gap_some : 1 ≤ gap
  gap_some =
      let h = less in
      let square = some_cells in
      mul-le 1 1 down (base ^ (length cells - 1 - number / 4)) (omega arith) (one-le-pow (length cells - 1 - number / 4) base (omega arith))

  module _ (stride : ℕ) (stride_is : stride ≡ base ^ (length p.tiles - 1 - number / 4)) where
    gap_words : down * stride ≡ gap * base
    gap_words =
        let left : ℕ = length cells - 1 - number / 4 in
        let size = run.size in
        let power : length p.tiles - 1 - number / 4 ≡ suc left = omega arith in
        ap (λ k. down * k) (stride_is ∙ ap (λ k. base ^ k) power ∙ pow-suc base left) ∙ sym (mul_assoc down (base ^ left) base)

    -- there are words of a whole run from there on
    pub gap_least : base ≤ down * stride
    gap_least =
        let words = gap_words in
        let least : 1 * base ≤ gap * base = mul-le 1 base gap base gap_some (omega arith) in
        omega arith

    module _ (have : HaveEntries p) (free : IsFree p.side cells from) (before : List ℕ) (are : AreBefore p cells before)
        (fits : down * stride ≤ length before) where
      -- there the words of that run begin, and tell of the move
      pub earlier_bits : (start count : ℕ) → start ≡ length before - down * stride → count ≡ base → (last : ℕ) → IsFree p.side cells last → last ≢ from
          → TellsOfMove p (with_last cells last) (number / 4) (move_of number) (not (has_bit (slice_index (take count (drop start before)) last) (number - 1)))
      earlier_bits start count start_is count_is last last_free apart =
          let others : List ℕ = slice_set cells (number / 4) from in
          let opens : IsOpen p.side others (slice_index cells (number / 4)) last =
          open_moved p.side cells run.inside run.apart (number / 4) from low free last
          (record { last = last_free; cell = free; other = λ e. apart (sym e) }) in
          let words = gap_words in
          let there : start + last ≡ length before - gap * base + last = omega arith in
          let read : slice_index (take count (drop start before)) last ≡ slice_index before (length before - gap * base + last) =
          get_or-take count (drop start before) last 0 (let l = last_free.0 in omega arith) ∙ get_or-drop start before last 0
          ∙ ap (slice_index before) there in
          front_back p pat cells run last last_free have number odd from low step (slice_index (take count (drop start before)) last)
          (subst (IsEdgeWord p (with_last others last)) (sym read)
          (are.each others gap last (run_moved p cells (number / 4) from run free) opens.last gap_some
          (index_of-lower base cells (number / 4) from low less) (omega arith)))
