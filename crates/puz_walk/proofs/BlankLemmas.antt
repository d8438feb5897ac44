-- The blank's move on the board that a walk keeps.
use Rattle.std.proofs.Common.{◌≡◌, ℕ, ◌*◌, ◌<◌, List, take, sym, ◌∙◌, ap, subst, arith, slice_index, slice_set}
use Rattle.std.proofs.Math.Seq.{take-set-lt}
use Rattle.std.proofs.lemmas.List.{get_or-take}
use Rattle.puz_board.specs.Boards.{IsBoardOf, at, blank, slid}
use Rattle.puz_board.specs.declared.moves.Move.{Move}
use Rattle.puz_board.proofs.BoardLemmas.{at-slid_back, blank-slid, cells_most}
use Rattle.puz_board.proofs.BoardWays.{Adjacent-apart}
use Rattle.puz_board.proofs.MovedLemmas.{IsBoardOf-moved}
use Rattle.edge_words.specs.Spots.{IsStepOf}
use Rattle.edge_words.proofs.TileMoveLemmas.{Slide, slide_of}
use Rattle.set_sum.specs.Bundles.{ShownBundle}
use Rattle.puz_walk.specs.WordSpots.{IsSlideTo, IsSpotOf}
use Rattle.puz_walk.specs.declared.word_spots.Spot.{Spot}
use Rattle.puz_walk.proofs.TurnLemmas.{blank_below}

module _ (v : ShownBundle) (move : Move) (b next : List ℕ) (to : ℕ) (slides : IsSlideTo v move b next to) where
  abbrev n : ℕ
  n = v.side

  slide : Slide n b move next
  slide = slide_of n b slides.board move next slides.leads

  to_cell : to ≡ slide.cell
  to_cell = slides.to_is ∙ ap blank (sym slide.is) ∙ blank-slid n b slides.board slide.cell slide.inside

  -- a move of the blank leads from a board to a board of the same side
  pub next_is : IsBoardOf n next
  next_is = IsBoardOf-moved n b slides.board move next slides.leads

  -- the cell to which the blank moves is one of the board's cells
  pub to_below : to < n * n
  to_below = subst (λ k. k < n * n) (sym to_cell) slide.inside

  -- the cell to which the blank moves has its place among the 25 whose numbers are kept
  pub to_room : to < 25
  to_room = let l = to_below in let most = cells_most n b slides.board in omega arith

  -- after the move, its tile is in the cell that the blank left
  pub tile_moved : at next (blank b) ≡ at b to
  tile_moved =
      ap (λ x. at x (blank b)) (sym slide.is) ∙
      at-slid_back n b slides.board slide.cell slide.inside (Adjacent-apart n (blank b) slide.cell slides.board.low (slide.inside, move, slide.step)) ∙
      ap (at b) (sym to_cell)

  module _ (spot : Spot) (is : IsSpotOf v b spot) where
    -- the blank's cell before the move has its place among the 25 whose numbers are kept
    pub from_room : spot.blank < 25
    from_room = let l = blank_below n b slides.board in let most = cells_most n b slides.board in let e = is.blank_is in omega arith

    -- the tile that moves
    pub tile_is : slice_index spot.numbers to ≡ at b to
    tile_is = sym (get_or-take (n * n) spot.numbers to 0 to_below) ∙ ap (λ xs. at xs to) is.numbers

    -- the number that is read in the cell to which the blank moves is the tile there
    pub tile_read : (place : ℕ) → place ≡ to → slice_index spot.numbers place ≡ at b to
    tile_read place place_is = ap (slice_index spot.numbers) place_is ∙ tile_is

    -- the move of the tile
    pub step_is : (tile : ℕ) → tile ≡ at b to → IsStepOf n move b next tile spot.blank to
    step_is tile is_tile = record {
      board = slides.board;
      leads = slides.leads;
      tile_is = is_tile ∙ ap (at b) slides.to_is;
      from_is = is.blank_is;
      to_is = slides.to_is;
    }

    -- the numbers after it
    pub numbers_next : (tile : ℕ) → tile ≡ at b to → take (n * n) (slice_set (slice_set spot.numbers spot.blank tile) to 0) ≡ next
    unfolding slid
    numbers_next tile is_tile =
        take-set-lt (n * n) (slice_set spot.numbers spot.blank tile) to 0 to_below ∙
        ap (λ xs. slice_set xs to 0) (take-set-lt (n * n) spot.numbers spot.blank tile
        (subst (λ k. k < n * n) (sym is.blank_is) (blank_below n b slides.board))) ∙
        ap (λ xs. slice_set (slice_set xs spot.blank tile) to 0) is.numbers ∙
        ap (λ k. slice_set (slice_set b k tile) to 0) is.blank_is ∙
        ap (λ t. slice_set (slice_set b (blank b) t) to 0) (is_tile ∙ ap (at b) to_cell) ∙
        ap (λ k. slice_set (slice_set b (blank b) (at b slide.cell)) k 0) to_cell ∙
        slide.is
