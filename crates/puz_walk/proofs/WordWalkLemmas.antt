-- A walk by edge words: where it goes on, and its steps taken back.
use Rattle.std.proofs.Common.{◌≡◌, ℕ, ◌+◌, ◌-◌, ◌*◌, ◌^◌, ◌<◌, ◌≤◌, List, length, slice_index, Option, Some, None, inr, refl, sym, ◌∙◌, ap, subst, arith}
use Rattle.std.specs.Prelude.{option_map}
use Rattle.puz_board.specs.Boards.{IsBoardOf, at, blank, moved, slid}
use Rattle.puz_board.specs.Cells.{reverse_of, step_of}
use Rattle.puz_board.specs.Parity.{blank_parity}
use Rattle.puz_board.specs.declared.moves.Move.{Move}
use Rattle.puz_board.proofs.BoardLemmas.{blank-slid, side_of-board}
use Rattle.puz_board.proofs.CellLemmas.{step_of-inside}
use Rattle.puz_board.proofs.MovedLemmas.{moved-reverse_of}
use Rattle.edge_words.specs.Spots.{IsStepOf}
use Rattle.set_sum.specs.Bundles.{ShownBundle, IsBundle}
use Rattle.puz_walk.specs.Cuts.{AreBelow, GoesBeyond, margin_of}
use Rattle.puz_walk.specs.Pasts.{AreHeld, IsPastOf}
use Rattle.puz_walk.specs.StoredWordWalks.{IsStoredWordWalk, word_walk_shown}
use Rattle.puz_walk.specs.Walks.{IsCutOff, IsOpen, LeadsNowhere, ShownWalk}
use Rattle.puz_walk.specs.WordSpots.{IsSlideTo, IsSpotOf}
use Rattle.puz_walk.specs.WordSteps.{IsWordStepFrom}
use Rattle.puz_walk.specs.declared.pasts.Held.{Held}
use Rattle.puz_walk.specs.declared.pasts.Past.{Past}
use Rattle.puz_walk.specs.declared.word_spots.Spot.{Spot}
use Rattle.puz_walk.specs.declared.word_walks.WordStep.{WordStep}
use Rattle.puz_walk.specs.declared.word_walks.WordWalk.TheInside.{Inside}
use Rattle.puz_walk.proofs.BlankLemmas.{step_is, tile_moved, tile_read}
use Rattle.puz_walk.proofs.MarginLemmas.{margin_some, margin_still, parity_flips}
use Rattle.puz_walk.proofs.OpenLemmas.{below_from, cut_from, open_from}
use Rattle.puz_walk.proofs.StartLemmas.{sums_from}
use Rattle.puz_walk.proofs.TurnLemmas.{blank_below}

-- what is kept of a board that stands at a spot
pub stored_of : (w : Inside) → IsBundle w.bundle.now → (b : List ℕ) → IsSpotOf w.bundle.now b w.spot → w.margin ≡ margin_of w.bound (blank_parity b)
    → ((set : ℕ) → set < length w.bundle.now.sets → slice_index w.spot.sums set + w.margin ≤ w.bound) → IsStoredWordWalk w
stored_of w bundle b is margin below = record {
  bundle = bundle;
  spot = subst (λ x. IsSpotOf w.bundle.now x w.spot) (sym is.numbers) is;
  margin = margin ∙ ap (λ x. margin_of w.bound (blank_parity x)) (sym is.numbers);
  below = below;
}

module _ (w : Inside) (kept : IsStoredWordWalk w) where
  -- the bundle whose edge words a walk reads
  abbrev pub v : ShownBundle
  v = w.bundle.now

  -- the board of a walk by edge words: the first numbers of its spot, one for each cell
  abbrev pub board : List ℕ
  board = (word_walk_shown w).board

  -- the board of a walk by edge words is one of the bundle's side
  pub good : IsBoardOf v.side board
  good = kept.spot.board

  -- a walk by edge words is open: its bound isn't 0, and no set cuts its board off
  pub walk_open : IsOpen (word_walk_shown w)
  walk_open = open_from v board w.bound w.margin kept.margin kept.bundle good w.spot.sums (λ set low. (kept.spot.kept.each set low).says) kept.below

  -- the margin of a walk by edge words is no more than its bound
  pub margin_fits : w.margin ≤ w.bound
  margin_fits = let low = kept.below 0 kept.bundle.some_sets in omega arith

  -- each sum of a walk by edge words is below its bound, and so one more fits into a byte
  pub sums_small : w.bound < 2 ^ 8 → (set : ℕ) → set < length v.sets → slice_index w.spot.sums set < 255
  sums_small fits set low =
      let l = kept.below set low in let some = margin_some w.bound (blank_parity board) in let e = kept.margin in omega arith

  -- the bound of a walk by edge words is at least one move
  pub some_moves : 1 ≤ w.bound
  some_moves = let fits = margin_fits in let some = margin_some w.bound (blank_parity board) in let e = kept.margin in omega arith

  -- the blank's cell that a walk by edge words keeps is one of the board's
  pub blank_low : w.spot.blank < v.side * v.side
  blank_low = subst (λ k. k < v.side * v.side) (sym kept.spot.blank_is) (blank_below v.side board good)

  -- ---- a move

  module _ (move : Move) where
    moved_is : (to : Option ℕ) → to ≡ step_of v.side w.spot.blank move → moved board move ≡ option_map (slid board) to
    moved_is to is =
        ap (λ side. option_map (slid board) (step_of side (blank board) move)) (side_of-board v.side board good) ∙
        ap (λ k. option_map (slid board) (step_of v.side k move)) (sym kept.spot.blank_is) ∙ ap (option_map (slid board)) (sym is)

    -- a move that would leave the board leads nowhere
    pub none_nowhere : None ≡ step_of v.side w.spot.blank move → LeadsNowhere (word_walk_shown w) move
    none_nowhere is next leads = absurd (let none : moved board move ≡ None = moved_is None is in cc)

    module _ (to : ℕ) (is : Some to ≡ step_of v.side w.spot.blank move) where
      -- in a walk by edge words, a move for which there is a cell leads to the board with the blank slid there
      pub leads : moved board move ≡ Some (slid board to)
      leads = moved_is (Some to) is

      inside : to < v.side * v.side
      inside = step_of-inside v.side (blank board) move to good.low good.high (blank_below v.side board good)
          (ap (λ k. step_of v.side k move) (sym kept.spot.blank_is) ∙ sym is)

      -- in a walk by edge words, a move takes the blank to the cell to which it leads
      pub slides : IsSlideTo v move board (slid board to) to
      slides = record { board = good; leads = leads; to_is = sym (blank-slid v.side board good to inside) }

      -- the tile that moves
      pub tile_here : (place : ℕ) → place ≡ to → slice_index w.spot.numbers place ≡ at board to
      unfolding slides
      tile_here place place_is = tile_read v move board (slid board to) to slides w.spot kept.spot place place_is

      -- the move of its tile
      pub step_here : (place : ℕ) → place ≡ to → IsStepOf v.side move board (slid board to) (slice_index w.spot.numbers place) w.spot.blank to
      unfolding slides
      step_here place place_is = step_is v move board (slid board to) to slides w.spot kept.spot (slice_index w.spot.numbers place) (tile_here place place_is)

      still : w.margin ≡ margin_of (w.bound - 1) (blank_parity (slid board to))
      still =
          let some = some_moves in
          let more : w.bound - 1 + 1 ≡ w.bound = omega arith in
          kept.margin ∙ ap (λ k. margin_of k (blank_parity board)) (sym more) ∙
          margin_still (w.bound - 1) (blank_parity board) (blank_parity (slid board to)) (parity_flips v.side board good move (slid board to) leads)

      -- where a set goes beyond, it leads nowhere
      pub beyond_nowhere : GoesBeyond v (slid board to) (w.bound - w.margin) → LeadsNowhere (word_walk_shown w) move
      beyond_nowhere goes next also =
          let same : slid board to ≡ next = (let e = leads in cc) in
          let some = some_moves in
          let fits = margin_fits in
          inr (subst (λ x. IsCutOff v x (w.bound - 1)) same (cut_from v (slid board to) (w.bound - 1) w.margin still (w.bound - w.margin) (omega arith) goes))

      -- and else to the walk that stands there
      pub stored_next : (spot : Spot) → IsSpotOf v (slid board to) spot → AreBelow v (slid board to) (w.bound - w.margin)
          → IsStoredWordWalk (record { bundle = w.bundle; spot = spot; bound = w.bound - 1; margin = w.margin })
      stored_next spot at low =
          stored_of (record { bundle = w.bundle; spot = spot; bound = w.bound - 1; margin = w.margin }) kept.bundle (slid board to) at still
          (λ set there. let l = low set (slice_index spot.sums set) (at.kept.each set there).says in let some = some_moves in
          let fits = margin_fits in omega arith)

      -- the sums of a walk by edge words and what is held before a move are what a step keeps of the board
      pub past_here : (place : ℕ) → place ≡ to → (held : List Held) → AreHeld v board (slice_index w.spot.numbers place) held
          → IsPastOf v board (at board to) (record { sums = w.spot.sums; held = held })
      past_here place place_is held are = record {
        sums = sums_from v board w.spot.sums kept.spot.kept.room.sums_room (λ set low. (kept.spot.kept.each set low).says);
        held = subst (λ tile. AreHeld v board tile held) (tile_here place place_is) are;
      }

      -- a move from a walk by edge words is a step that keeps the blank's cell, the move and what was kept of the board
      pub step_next : w.bound < 2 ^ 8 → (spot : Spot) → IsSpotOf v (slid board to) spot → (past : Past) → IsPastOf v board (at board to) past
          → IsWordStepFrom (word_walk_shown w) (word_walk_shown (record { bundle = w.bundle; spot = spot; bound = w.bound - 1; margin = w.margin }))
          (record { from = w.spot.blank; mv = move; past = past })
      unfolding slides
      step_next small spot stands past is_past = record {
        is_open = walk_open;
        bundle = refl;
        leads = leads ∙ ap Some (sym stands.numbers);
        less = (let some = some_moves in omega arith);
        fits = small;
        from = kept.spot.blank_is;
        past = subst (λ x. IsPastOf v board (at x w.spot.blank) past) (sym stands.numbers)
            (subst (λ tile. IsPastOf v board tile past)
            (sym (ap (at (slid board to)) kept.spot.blank_is ∙ tile_moved v move board (slid board to) to slides)) is_past);
      }

  -- ---- a step taken back

  module _ (before : ShownWalk) (step : WordStep) (from : IsWordStepFrom before (word_walk_shown w) step) where
    bundle_is : before.bundle ≡ v
    bundle_is = sym from.bundle

    good_before : IsBoardOf v.side before.board
    good_before = subst (λ u. IsBoardOf u.side before.board) bundle_is from.is_open.board

    -- the reverse of the move of a word step takes the blank back to the cell that the step has kept
    pub slides_back : IsSlideTo v (reverse_of step.mv) board before.board step.from
    slides_back = record {
      board = good;
      leads = moved-reverse_of v.side before.board good_before step.mv board from.leads;
      to_is = from.from;
    }

    -- what a word step has kept is of the board before, and of the tile that moves back
    pub past_before : (tile : ℕ) → tile ≡ at board step.from → IsPastOf v before.board tile step.past
    past_before tile is =
        subst (λ u. IsPastOf u before.board tile step.past) bundle_is (subst (λ t. IsPastOf before.bundle before.board t step.past) (sym is) from.past)

    -- the bound of a walk by edge words, with the step's one move given back, fits into a byte
    pub bound_fits : w.bound + 1 < 2 ^ 8
    bound_fits = let e = from.less in let l = from.fits in omega arith

    margin_back : w.margin ≡ margin_of (w.bound + 1) (blank_parity before.board)
    margin_back = kept.margin ∙ sym (margin_still w.bound (blank_parity before.board) (blank_parity board)
        (parity_flips v.side before.board good_before step.mv board from.leads))

    not_cut : IsCutOff v before.board (w.bound + 1) → ⊥
    not_cut cut = from.is_open.not_cut (subst (λ k. IsCutOff before.bundle before.board k) from.less
        (subst (λ u. IsCutOff u before.board (w.bound + 1)) from.bundle cut))

    -- at a spot of the board before a step, with a bound one more, a walk by edge words is well stored
    pub stored_back : (spot : Spot) → IsSpotOf v before.board spot
        → IsStoredWordWalk (record { bundle = w.bundle; spot = spot; bound = w.bound + 1; margin = w.margin })
    stored_back spot at =
        stored_of (record { bundle = w.bundle; spot = spot; bound = w.bound + 1; margin = w.margin }) kept.bundle before.board at margin_back
        (λ set there. below_from v before.board (w.bound + 1) w.margin margin_back not_cut set (slice_index spot.sums set) (at.kept.each set there).says)

    -- what is seen of a walk by edge words whose step is taken back is what was seen before the step
    pub back_is : (spot : Spot) → IsSpotOf v before.board spot
        → word_walk_shown (record { bundle = w.bundle; spot = spot; bound = w.bound + 1; margin = w.margin }) ≡ before
    back_is spot at = λ i. record { bundle = from.bundle i; board = at.numbers i; bound = from.less i }
