use Rattle.std.proofs.Common.{◌≡◌, length, subst, sym, ◌∙◌, ap, arith}
use Rattle.std.specs.Prelude.{slice_index}
use Rattle.puz_board.specs.Boards.{IsBoard, IsBoardOf}
use Rattle.puz_board.proofs.BoardLemmas.{side_of-board}
use Rattle.pat_place.specs.Patterns.{IsPattern}
use Rattle.pat_place.specs.Placements.{placement_of}
use Rattle.pat_place.proofs.PlacementLemmas.{IsPlacement-of}
use Rattle.edge_words.specs.Indexes.{index_count}
use Rattle.edge_words.specs.Words.{IsEdgeWord}
use Rattle.edge_words.proofs.SpotLemmas.{index_low}
use Rattle.edge_words.proofs.words.Words.word.Goals as goal

-- the index of a board's placement is below the number of words
pub word_at-requires : goal.word_at-requires
word_at-requires c =
    let p = c.args.self.now.pattern in
    let pat : IsPattern p = subst (λ w. IsPattern w.pattern) c.self.view_is c.self.invariant.pattern in
    let low = index_low p pat c.requires.0 c.requires.1 in
    let size : length c.args.self.now.words ≡ index_count p = subst (λ w. length w.words ≡ index_count w.pattern) c.self.view_is c.self.invariant.words.size in
    let is = c.requires.2 in
    omega arith

-- the word with the index of a board's placement is that of the placement
pub returns : goal.returns
returns c b board index_is =
    let p = c.args.self.now.pattern in
    let words = c.args.self.now.words in
    let side = side_of-board p.side b board in
    let good : IsBoard b = subst (λ n. IsBoardOf n b) (sym side) board in
    let place = IsPlacement-of b good p c.word_at.ensures.pattern side in
    subst (IsEdgeWord p (placement_of p.tiles b)) (sym (c.word_at.ensures.word ∙ ap (slice_index words) index_is))
    (c.word_at.ensures.words.each (placement_of p.tiles b) place)
