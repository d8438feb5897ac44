use Rattle.std.proofs.Common.{Some, sym, ◌∙◌, ap, subst, arith}
use Rattle.puz_board.specs.Boards.{IsBoardOf}
use Rattle.set_sum.proofs.ListLemmas.{get_or-slice_get}
use Rattle.puz_walk.specs.WordBundles.{HaveWords}
use Rattle.puz_walk.specs.WordSpots.{IsFoundOn}
use Rattle.puz_walk.proofs.word_spots.found_for.Goals as goal

-- the words of a bundle's table are for boards of the bundle's side
pub index_of-index-requires : goal.index_of-index-requires
index_of-index-requires c =
    let have = subst (λ u. HaveWords u c.bundle.inside.words.now) c.bundle.view_is c.bundle.invariant.words in
    let size = have.size in
    let low = c.if-table-words.true in
    let pattern = (have.each c.args.table (omega arith)).pattern c.index-words-table.result
    (get_or-slice_get c.bundle.inside.words.now c.args.table c.index-words-table.result low ∙ ap Some (sym c.index-words-table.is)) in
    c.requires ∙ ap (λ p. p.side) (sym pattern)

-- the index is that of the board
pub word-requires : goal.word-requires
word-requires c =
    let have = subst (λ u. HaveWords u c.bundle.inside.words.now) c.bundle.view_is c.bundle.invariant.words in
    let size = have.size in
    let low = c.if-table-words.true in
    let pattern = (have.each c.args.table (omega arith)).pattern c.index-words-table.result
    (get_or-slice_get c.bundle.inside.words.now c.args.table c.index-words-table.result low ∙ ap Some (sym c.index-words-table.is)) in
    let b = c.args.board.now in
    (b, subst (λ n. IsBoardOf n b) (c.requires ∙ ap (λ p. p.side) (sym pattern)) c.side-side.ensures.board, c.index_of-index.ensures)

-- what a table's words give of a board is the index and the word of the placement of the table's pattern
pub returns-then-table-words : goal.returns-then-table-words
returns-then-table-words c there =
    let have = subst (λ u. HaveWords u c.bundle.inside.words.now) c.bundle.view_is c.bundle.invariant.words in
    let low = c.if-table-words.true in
    let pattern = (have.each c.args.table there).pattern c.index-words-table.result
    (get_or-slice_get c.bundle.inside.words.now c.args.table c.index-words-table.result low ∙ ap Some (sym c.index-words-table.is)) in
    let board = subst (λ n. IsBoardOf n c.args.board.now) (c.requires ∙ ap (λ p. p.side) (sym pattern)) c.side-side.ensures.board in
    subst (λ p. IsFoundOn p c.args.board.now c.index_of-index.result c.word.result) pattern (record {
      index_is = c.index_of-index.ensures;
      word_is = c.word.ensures c.args.board.now board c.index_of-index.ensures;
    })
