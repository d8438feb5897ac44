-- A walk over sums: where it goes on, and its steps taken back.
use Rattle.std.proofs.Common.{◌≡◌, ℕ, ◌+◌, ◌-◌, ◌^◌, ◌<◌, ◌≤◌, List, length, slice_index, Some, None, inr, refl, sym, ◌∙◌, ap, subst, arith}
use Rattle.puz_board.specs.Boards.{IsBoardOf, at, blank, moved, slid}
use Rattle.puz_board.specs.Cells.{Adjacent, step_of}
use Rattle.puz_board.specs.Parity.{blank_parity}
use Rattle.puz_board.specs.declared.moves.Move.{Move}
use Rattle.puz_board.proofs.BoardLemmas.{IsBoardOf-slid, blank-slid}
use Rattle.tab_rule.specs.declared.tables.Count.{Count}
use Rattle.tab_rule.specs.declared.tables.Count.TheVariants.{Finite, Never}
use Rattle.set_sum.specs.Bundles.{ShownBundle, BundleSays, IsBundle}
use Rattle.set_sum.specs.ShownSums.{ShownSums}
use Rattle.set_sum.proofs.KnownLemmas.{stepped}
use Rattle.set_sum.proofs.SlideLemmas.{moved_by, step_adjacent}
use Rattle.tab_rule.proofs.StillLemmas.{slid-back, slid-near}
use Rattle.puz_walk.specs.Cuts.{GoesBeyond, margin_of}
use Rattle.puz_walk.specs.StoredSumWalks.{IsStoredSumWalk, sum_walk_shown}
use Rattle.puz_walk.specs.SumSteps.{IsSumStep}
use Rattle.puz_walk.specs.Tallies.{AreLow, AreTallied, AreTold, IsLow, IsSlideOf}
use Rattle.puz_walk.specs.Walks.{IsCutOff, IsOpen, LeadsNowhere, ShownWalk}
use Rattle.puz_walk.specs.declared.sum_walks.SumStep.{SumStep}
use Rattle.puz_walk.specs.declared.sum_walks.SumWalk.TheInside.{Inside}
use Rattle.puz_walk.specs.declared.tallies.Tally.{Tally}
use Rattle.puz_walk.proofs.JudgeLemmas.{sum_once}
use Rattle.puz_walk.proofs.MarginLemmas.{margin_some, margin_still, parity_flips}
use Rattle.puz_walk.proofs.OpenLemmas.{below_from, cut_from, open_from}
use Rattle.puz_walk.proofs.TallyLemmas.{slides_back}

-- sums below a limit are below a greater one
pub low_more : (v : ShownBundle) (b : List ℕ) (limit more : ℕ) → limit ≤ more → AreLow v b limit → AreLow v b more
low_more v b limit more most low set there = let is = low set there in record { sum = is.sum; says = is.says; low = (let l = is.low in omega arith) }

-- each set has a sum of a board that isn't cut off, which is below the bound
pub low_from : (v : ShownBundle) (b : List ℕ) (bound : ℕ) → IsBundle v → IsBoardOf v.side b → (IsCutOff v b bound → ⊥) → (limit : ℕ) → bound ≤ limit
    → AreLow v b limit
low_from v b bound bundle good not_cut limit most set there = let told = bundle.told set there b good in go told.0 told.1
  where
    go : (count : Count) → BundleSays v set b count → IsLow v b limit set
    go (Finite d) says = record {
      sum = d;
      says = says;
      low = (let l = below_from v b bound (margin_of bound (blank_parity b)) refl not_cut set d says in
          let some = margin_some bound (blank_parity b) in omega arith);
    }
    go Never says = absurd (not_cut (set, record { count = Never; says = says; enough = tt }))

-- a move changes the blank's parity
flips : (v : ShownBundle) (b next : List ℕ) (tile : ℕ) → IsSlideOf v b next tile → blank_parity b + blank_parity next ≡ 1
flips v b next tile slides =
    parity_flips v.side b slides.board slides.near.1 next
    (moved_by v.side b slides.board slides.near.1 (Some (blank next)) slides.near.2 ∙ ap Some slides.leads)

module _ (w : Inside) (kept : IsStoredSumWalk w) where
  -- the bundle whose sets a walk over sums asks
  abbrev pub v : ShownBundle
  v = w.position.bundle

  -- the board of a walk over sums, as its position has it
  abbrev pub board : List ℕ
  board = w.position.board

  -- a walk over sums is open: its bound isn't 0, and no set cuts its board off
  pub walk_open : IsOpen (sum_walk_shown w)
  walk_open = open_from v board w.bound w.margin kept.margin kept.bundle kept.board w.tally.sums (λ set low. (kept.tally.each set low).says) kept.below

  -- the margin of a walk over sums is no more than its bound
  pub margin_fits : w.margin ≤ w.bound
  margin_fits = let low = kept.below 0 kept.bundle.some_sets in omega arith

  -- the bound of a walk over sums is at least one move
  pub some_moves : 1 ≤ w.bound
  some_moves = let fits = margin_fits in let some = margin_some w.bound (blank_parity board) in let e = kept.margin in omega arith

  -- ---- a move

  module _ (move : Move) where
    -- one that would leave the board leads nowhere
    pub none_nowhere : None ≡ step_of v.side (blank board) move → LeadsNowhere (sum_walk_shown w) move
    none_nowhere is next leads = absurd (let none : moved board move ≡ None = moved_by v.side board kept.board move None (sym is) in cc)

    module _ (to : ℕ) (is : Some to ≡ step_of v.side (blank board) move) where
      -- in a walk over sums, the cell to which a move leads is beside the blank's cell
      pub near : Adjacent v.side (blank board) to
      near = step_adjacent v.side board kept.board move to (sym is)

      -- in a walk over sums, a move for which there is a cell leads to the board with the blank slid there
      pub leads : moved board move ≡ Some (slid board to)
      leads = moved_by v.side board kept.board move (Some to) (sym is)

      -- in a walk over sums, a move slides the tile of the cell to which the blank goes
      pub slides : (tile : ℕ) → tile ≡ at board to → IsSlideOf v board (slid board to) tile
      slides tile tile_is =
          let there = stepped v.side board kept.board move (slid board to) leads in
          let on : blank (slid board to) ≡ to = blank-slid v.side board kept.board to near.0 in
          record { board = kept.board; near = there.0; leads = there.1; tile_is = tile_is ∙ ap (at board) (sym on) }

      still : w.margin ≡ margin_of (w.bound - 1) (blank_parity (slid board to))
      still =
          let some = some_moves in
          let more : w.bound - 1 + 1 ≡ w.bound = omega arith in
          kept.margin ∙ ap (λ k. margin_of k (blank_parity board)) (sym more) ∙
          margin_still (w.bound - 1) (blank_parity board) (blank_parity (slid board to)) (parity_flips v.side board kept.board move (slid board to) leads)

      -- where a set goes beyond, it leads nowhere
      pub beyond_nowhere : GoesBeyond v (slid board to) (w.bound - w.margin) → LeadsNowhere (sum_walk_shown w) move
      beyond_nowhere goes next also =
          let same : slid board to ≡ next = (let e = leads in cc) in
          let some = some_moves in
          let fits = margin_fits in
          inr (subst (λ x. IsCutOff v x (w.bound - 1)) same (cut_from v (slid board to) (w.bound - 1) w.margin still (w.bound - w.margin) (omega arith) goes))

      -- and else to the walk that stands there
      pub stored_next : (position : ShownSums) → position ≡ record { bundle = v; board = slid board to } → (tally : Tally)
          → AreTallied v (slid board to) tally → AreLow v (slid board to) (w.bound - w.margin)
          → IsStoredSumWalk (record { position = position; ways = w.ways; tally = tally; bound = w.bound - 1; margin = w.margin })
      stored_next position at_next tally tallied low =
          subst (λ p. IsStoredSumWalk (record { position = p; ways = w.ways; tally = tally; bound = w.bound - 1; margin = w.margin })) (sym at_next) (record {
            bundle = kept.bundle;
            board = IsBoardOf-slid v.side board kept.board to near.0;
            ways = kept.ways;
            tally = tallied;
            margin = still;
            below = λ set there.
                let is_low = low set there in
                let same = sum_once v set (slid board to) (slice_index tally.sums set) is_low.sum (tallied.each set there).says is_low.says in
                let l = is_low.low in
                let some = some_moves in
                let fits = margin_fits in
                omega arith;
          })

      -- a move that is taken back at once
      pub near_back : Adjacent v.side (blank (slid board to)) (blank board)
      near_back = slid-near v.side board kept.board to near

      -- a position that slides to the move's cell and then back to the blank's cell is the walk's own again
      pub position_back : (next now : ShownSums) (from : ℕ) → next ≡ record { bundle = v; board = slid board to } → from ≡ blank board
          → now ≡ record { bundle = next.bundle; board = slid next.board from } → now ≡ w.position
      position_back next now from at_next from_is at_now =
          at_now ∙ ap {B = ShownSums} (λ p. record { bundle = p.bundle; board = slid p.board from }) at_next ∙
          ap {B = ShownSums} (λ k. record { bundle = v; board = slid (slid board to) k }) from_is ∙
          ap {B = ShownSums} (λ x. record { bundle = v; board = x }) (slid-back v.side board kept.board to near)

      -- a move from a walk over sums is a step that keeps the blank's cell and what the owners of the tile said
      pub step_next : w.bound ≤ 255 → (position : ShownSums) → position ≡ record { bundle = v; board = slid board to }
          → (tally : Tally) (tile from : ℕ) (told : List ℕ) → tile ≡ at board to → from ≡ blank board → AreTold v board tile told
          → IsSumStep (sum_walk_shown w) (sum_walk_shown (record {
            position = position;
            ways = w.ways;
            tally = tally;
            bound = w.bound - 1;
            margin = w.margin;
          })) (record { from = from; told = told })
      step_next small position at_next tally tile from told tile_is from_is is_told = record {
        open_ = walk_open;
        small = small;
        bundle = ap (λ p. p.bundle) at_next;
        bound = (let some = some_moves in omega arith);
        tile = tile;
        leads = subst (λ x. IsSlideOf v board x tile) (ap (λ p. p.board) (sym at_next)) (slides tile tile_is);
        from = from_is;
        told = is_told;
      }

  -- where it was, with another set to ask first
  abbrev pub asked : ℕ → Tally
  asked set = record { owners = w.tally.owners; sums = w.tally.sums; first = set; entries = w.tally.entries }

  -- at its own position, a walk over sums is well stored with any other set of the bundle to ask first
  pub stored_again : (position : ShownSums) → position ≡ w.position → (set : ℕ) → set < length v.sets
      → IsStoredSumWalk (record { position = position; ways = w.ways; tally = asked set; bound = w.bound; margin = w.margin })
  stored_again position is set there =
      subst (λ p. IsStoredSumWalk (record { position = p; ways = w.ways; tally = asked set; bound = w.bound; margin = w.margin })) (sym is) (record {
        bundle = kept.bundle;
        board = kept.board;
        ways = kept.ways;
        tally = record {
          sums_room = kept.tally.sums_room;
          entries_room = kept.tally.entries_room;
          owners = kept.tally.owners;
          first = there;
          each = kept.tally.each;
        };
        margin = kept.margin;
        below = kept.below;
      })

  -- ---- a step taken back

  module _ (before : ShownWalk) (step : SumStep) (from : IsSumStep before (sum_walk_shown w) step) where
    good_before : IsBoardOf v.side before.board
    good_before = subst (λ u. IsBoardOf u.side before.board) (sym from.bundle) from.open_.board

    forth : IsSlideOf v before.board board from.tile
    forth = subst (λ u. IsSlideOf u before.board board from.tile) (sym from.bundle) from.leads

    back : IsSlideOf v board before.board from.tile
    back = slides_back v before.board board from.tile forth

    -- the cell that a step over sums has kept is beside the blank's cell after it
    pub back_near : Adjacent v.side (blank board) step.from
    back_near = subst (Adjacent v.side (blank board)) (sym from.from) back.near

    -- the blank slid back to the cell that a step over sums has kept gives the board before the step
    pub back_leads : slid board step.from ≡ before.board
    back_leads = ap (slid board) from.from ∙ back.leads

    back_tile : (tile : ℕ) → tile ≡ at board step.from → tile ≡ from.tile
    back_tile tile is = is ∙ ap (at board) from.from ∙ sym back.tile_is

    -- taking back a step over sums slides the tile of the kept cell, and leads to the board before
    pub back_slides : (tile : ℕ) → tile ≡ at board step.from → IsSlideOf v board before.board tile
    back_slides tile is = subst (IsSlideOf v board before.board) (sym (back_tile tile is)) back

    -- a step over sums has kept what the owners of its tile said of the board before
    pub back_told : (tile : ℕ) → tile ≡ at board step.from → AreTold v before.board tile step.told
    back_told tile is = subst (λ k. AreTold v before.board k step.told) (sym (back_tile tile is))
        (subst (λ u. AreTold u before.board from.tile step.told) (sym from.bundle) from.told)

    not_cut : IsCutOff v before.board (w.bound + 1) → ⊥
    not_cut cut = from.open_.not_cut (subst (λ k. IsCutOff before.bundle before.board k) from.bound
        (subst (λ u. IsCutOff u before.board (w.bound + 1)) from.bundle cut))

    -- the bound of a walk over sums, with the step's one move given back, is at most 255
    pub bound_fits : w.bound + 1 ≤ 255
    bound_fits = let e = from.bound in let l = from.small in omega arith

    -- on the board before a step over sums, each set has a sum that fits into a byte
    pub back_low : AreLow v before.board (2 ^ 8)
    back_low = low_from v before.board (w.bound + 1) kept.bundle good_before not_cut (2 ^ 8) (let l = bound_fits in omega arith)

    margin_back : w.margin ≡ margin_of (w.bound + 1) (blank_parity before.board)
    margin_back =
        kept.margin ∙ sym (margin_still w.bound (blank_parity before.board) (blank_parity board) (flips v before.board board from.tile forth))

    -- at the board before a step, with its tally and a bound one more, a walk over sums is well stored
    pub stored_back : (position : ShownSums) → position ≡ record { bundle = v; board = slid board step.from } → (tally : Tally)
        → AreTallied v before.board tally
        → IsStoredSumWalk (record { position = position; ways = w.ways; tally = tally; bound = w.bound + 1; margin = w.margin })
    stored_back position at_before tally tallied =
        let is : position ≡ record { bundle = v; board = before.board } = at_before ∙ ap {B = ShownSums} (λ x. record { bundle = v; board = x }) back_leads in
        subst (λ p. IsStoredSumWalk (record { position = p; ways = w.ways; tally = tally; bound = w.bound + 1; margin = w.margin })) (sym is) (record {
          bundle = kept.bundle;
          board = good_before;
          ways = kept.ways;
          tally = tallied;
          margin = margin_back;
          below = λ set there. below_from v before.board (w.bound + 1) w.margin margin_back not_cut set (slice_index tally.sums set)
              (tallied.each set there).says;
        })

    -- what is seen of a walk over sums whose step is taken back is what was seen before the step
    pub back_is : (position : ShownSums) → position ≡ record { bundle = v; board = slid board step.from } → (tally : Tally)
        → sum_walk_shown (record { position = position; ways = w.ways; tally = tally; bound = w.bound + 1; margin = w.margin }) ≡ before
    back_is position at_before tally =
        let is : position ≡ record { bundle = v; board = before.board } = at_before ∙ ap {B = ShownSums} (λ x. record { bundle = v; board = x }) back_leads in
        λ i. record { bundle = (ap (λ p. p.bundle) is ∙ from.bundle) i; board = (is i).board; bound = from.bound i }
