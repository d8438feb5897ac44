use Rattle.std.proofs.Common.{slice_index, inl, inr, sym, ◌∙◌, ap, subst, arith}
use Rattle.puz_board.specs.Boards.{IsBoardOf}
use Rattle.edge_words.specs.Spots.{IsWordOn, index_on}
use Rattle.set_sum.specs.Bundles.{IsBundle}
use Rattle.set_sum.specs.Members.{board_for}
use Rattle.puz_walk.specs.WordBundles.{HaveWords}
use Rattle.puz_walk.proofs.OwnerLemmas.{member_there, none_kept, other_kept, owner_board, owner_index, owner_kept, table_low, words_at}
use Rattle.puz_walk.proofs.word_bundles.WordBundle.follow.Goals as goal

-- the index that is read with is that of the owner's placement after the move
pub word-requires : goal.word-requires
word-requires c =
    let v = c.args.self.now in
    let words = c.self.inside.words.now in
    let bundle = subst IsBundle c.self.view_is c.self.invariant.bundle in
    let have = subst (λ u. HaveWords u words) c.self.view_is c.self.invariant.words in
    let seat = c.seat-seat.result in
    let step = c.requires.step in
    elim c.seat-seat.ensures.seat [
      | inl owned ↦
          let m = owned.owner.member in
          let is = owned.owns in
          let next = board_for m step.1 in
          let pat = words_at v bundle words have c.args.set c.requires.set is.number m is.member c.from-table.result c.index-words-table.result
          (c.from-table.ensures ∙ owned.is.table) c.index-words-table.is in
          let board = owner_board v bundle words have c.args.set c.requires.set c.args.mv step.0 step.1 c.args.tile step.2 step.3 step.4 owned.owner is in
          let old = ap (slice_index c.args.kept.now.indexes) (c.from-place.ensures ∙ owned.is.place) ∙ (step.5 is.number m is.member).index_is in
          let new = owner_index v bundle words have c.args.set c.requires.set c.args.mv step.0 step.1 c.args.tile step.2 step.3 step.4 owned.owner is
          seat.step (slice_index c.args.kept.now.indexes c.from-place.result) owned.is.step old in
          (next, subst (λ p. IsBoardOf p.side next) (sym pat) board, new ∙ ap (λ p. index_on p next) (sym pat))
      | inr free ↦
          let few = have.few in
          let size = have.size in
          let far = free.vacant.table in
          let some = c.if-table-words.true in
          let table = c.from-table.ensures in
          absurd (omega arith)
    ]

-- where the owner's index and word follow the move, what is kept of the set is that of the next board
pub returns-then-table-words-clause-each : goal.returns-then-table-words-clause-each
returns-then-table-words-clause-each c b next from to step are =
    let v = c.args.self.now in
    let words = c.self.inside.words.now in
    let bundle = subst IsBundle c.self.view_is c.self.invariant.bundle in
    let have = subst (λ u. HaveWords u words) c.self.view_is c.self.invariant.words in
    let seat = c.seat-seat.result in
    elim c.seat-seat.ensures.seat [
      | inl owned ↦
          let m = owned.owner.member in
          let is = owned.owns in
          let after = board_for m next in
          let pat = words_at v bundle words have c.args.set c.requires.set is.number m is.member c.from-table.result c.index-words-table.result
          (c.from-table.ensures ∙ owned.is.table) c.index-words-table.is in
          let board = owner_board v bundle words have c.args.set c.requires.set c.args.mv b next c.args.tile from to step owned.owner is in
          let place = c.from-place.ensures ∙ owned.is.place in
          let old = ap (slice_index c.args.kept.now.indexes) place ∙ (are is.number m is.member).index_is in
          let new = owner_index v bundle words have c.args.set c.requires.set c.args.mv b next c.args.tile from to step owned.owner is
          seat.step (slice_index c.args.kept.now.indexes c.from-place.result) owned.is.step old in
          let word = subst (λ p. IsWordOn p after c.word.result) pat
          (c.word.ensures after (subst (λ p. IsBoardOf p.side after) (sym pat) board) (new ∙ ap (λ p. index_on p after) (sym pat))) in
          owner_kept v bundle words have c.args.set c.requires.set c.args.mv b next c.args.tile from to step owned.owner is c.args.kept.now c.from-place.result
          _ c.word.result c.requires.room place (record { index_is = new; word_is = word }) are
      | inr free ↦
          let few = have.few in
          let size = have.size in
          let far = free.vacant.table in
          let some = c.if-table-words.true in
          let table = c.from-table.ensures in
          absurd (omega arith)
    ]

-- where a move is followed in one set, what is kept of each other set stays
pub returns-then-table-words-clause-others : goal.returns-then-table-words-clause-others
returns-then-table-words-clause-others c other b low ne are =
    let v = c.args.self.now in
    let words = c.self.inside.words.now in
    let bundle = subst IsBundle c.self.view_is c.self.invariant.bundle in
    let have = subst (λ u. HaveWords u words) c.self.view_is c.self.invariant.words in
    elim c.seat-seat.ensures.seat [
      | inl owned ↦
          let m = owned.owner.member in
          let is = owned.owns in
          other_kept v bundle words have c.args.set other low ne m (table_low v bundle words have c.args.set c.requires.set is.number m is.member)
          c.args.kept.now c.from-place.result _ c.word.result (c.from-place.ensures ∙ owned.is.place) b are
      | inr free ↦
          let few = have.few in
          let size = have.size in
          let far = free.vacant.table in
          let some = c.if-table-words.true in
          let table = c.from-table.ensures in
          absurd (omega arith)
    ]

-- where no member has the tile, what is kept is that of the next board too
pub returns-else-table-words-clause-each : goal.returns-else-table-words-clause-each
returns-else-table-words-clause-each c b next from to step are =
    let v = c.args.self.now in
    let words = c.self.inside.words.now in
    let bundle = subst IsBundle c.self.view_is c.self.invariant.bundle in
    let have = subst (λ u. HaveWords u words) c.self.view_is c.self.invariant.words in
    elim c.seat-seat.ensures.seat [
      | inl owned ↦
          let there = member_there v bundle c.args.set c.requires.set owned.owns.number owned.owner.member owned.owns.member in
          let size = have.size in
          let none = c.if-table-words.false in
          let table = c.from-table.ensures ∙ owned.is.table in
          absurd (omega arith)
      | inr free ↦ none_kept v bundle words have c.args.set c.requires.set c.args.mv b next c.args.tile from to step free.none c.args.kept.now are
    ]
