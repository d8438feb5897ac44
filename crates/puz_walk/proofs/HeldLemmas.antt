-- What is held of a set before a move of a tile, and put back after it.
use Rattle.std.proofs.Common.{◌≡◌, ◌≢◌, ℕ, ◌+◌, ◌*◌, ◌<◌, false, List, length, slice_index, slice_set, Some, inl, inr, sym, ◌∙◌, ap, subst, arith}
use Rattle.std.proofs.Common.{get_or-set_same}
use Rattle.std.specs.Prelude.{slice_get}
use Rattle.std.proofs.lemmas.Bool.{cases_eq}
use Rattle.puz_board.specs.Costs.{has}
use Rattle.puz_board.specs.declared.moves.Move.{Move}
use Rattle.edge_words.specs.Spots.{IsStepOf}
use Rattle.edge_words.specs.Words.{ShownWords}
use Rattle.set_sum.specs.Bundles.{ShownBundle, IsBundle, set_of}
use Rattle.set_sum.specs.Members.{board_for, table_pattern}
use Rattle.set_sum.specs.declared.members.Member.{Member}
use Rattle.set_sum.proofs.AnswerLemmas.{all_get}
use Rattle.puz_walk.specs.Pasts.{IsHeldOf}
use Rattle.puz_walk.specs.Seats.{IsSeatOf}
use Rattle.puz_walk.specs.StoredWords.{cell_for}
use Rattle.puz_walk.specs.WordBundles.{HaveWords, pattern_at}
use Rattle.puz_walk.specs.WordSpots.{AreKeptOf, HasPlaces, IsFoundOn, member_place}
use Rattle.puz_walk.specs.declared.pasts.Held.{Held}
use Rattle.puz_walk.specs.declared.seats.Seat.{Seat}
use Rattle.puz_walk.specs.declared.word_spots.Kept.{Kept}
use Rattle.puz_walk.proofs.JudgeLemmas.{IsHalf, half_more}
use Rattle.puz_walk.proofs.OwnerLemmas.{found_set, found_still, owner_takes, place_low, set_is, table_low}
use Rattle.puz_walk.proofs.ShiftLemmas.{owner_or_not}

-- the kept numbers with what is held of a member put in
abbrev pub with_held : Kept → Held → Kept
with_held kept held = record { indexes = slice_set kept.indexes held.place held.index; words = slice_set kept.words held.place held.word }

module _ (v : ShownBundle) (bundle : IsBundle v) (words : List ShownWords) (have : HaveWords v words) (set : ℕ) (low : set < length v.sets) where
  -- ---- what is held

  module _ (b : List ℕ) (kept : Kept) (are : AreKeptOf v b kept set) where
    found_at : (place i j : ℕ) → i ≡ place → j ≡ place → (number : ℕ) (m : Member) → slice_get (set_of v set) number ≡ Some m → member_place set m ≡ place
        → IsFoundOn (pattern_at v m.table) (board_for m b) (slice_index kept.indexes i) (slice_index kept.words j)
    found_at place i j i_is j_is number m there e =
        subst (λ k. IsFoundOn (pattern_at v m.table) (board_for m b) (slice_index kept.indexes k) (slice_index kept.words j)) (e ∙ sym i_is)
        (subst (λ k. IsFoundOn (pattern_at v m.table) (board_for m b) (slice_index kept.indexes (member_place set m)) (slice_index kept.words k)) (e ∙ sym j_is)
        (are number m there))

    -- what is kept at the place of a tile's seat is what a move of the tile changes
    pub held_seat : (tile : ℕ) → tile < v.side * v.side → (move : Move) (seat : Seat) → IsSeatOf v set tile move seat → (i j : ℕ) → i ≡ seat.place
        → j ≡ seat.place → IsHeldOf v b set tile (record { place = seat.place; index = slice_index kept.indexes i; word = slice_index kept.words j })
    held_seat tile inside move seat is i j i_is j_is = elim is [
      | inl owned ↦
          let own = owned.owner.member in
          let place = owned.is.place in
          let within = place_low set own.table own.is_transposed (table_low v bundle words have set low owned.owns.number own owned.owns.member) in
          record {
            low = omega arith;
            high = omega arith;
            found = found_at seat.place i j i_is j_is;
            others = λ number m there ne.
                elim (owner_or_not v.side v.tables tile inside (set_of v set) (set_is v bundle set low).disjoint owned.owns.number own owned.owns.member
                (owner_takes v bundle set low tile owned.owner owned.owns) number m there) [
                  | inl same ↦ absurd (ne (ap (member_place set) same ∙ sym place))
                  | inr none ↦ none
                ];
          }
      | inr free ↦
          let place = free.vacant.place in
          record {
            low = omega arith;
            high = omega arith;
            found = found_at seat.place i j i_is j_is;
            others = λ number m there ne.
                all_get (λ o. has (table_pattern v.tables o) (cell_for v.side o tile) ≡ false) (set_of v set) number m there free.none;
          }
    ]

  -- ---- what is put back

  module _ (tile : ℕ) (next : List ℕ) (kept : Kept) (held : Held) (room : HasPlaces kept) (is : IsHeldOf v next set tile held) where
    -- after a move of the tile back to a board, with what is held of the set put in, what is kept of the set is that of the board
    pub put_kept : (move : Move) (b : List ℕ) (from to : ℕ) → IsStepOf v.side move b next tile from to → AreKeptOf v b kept set
        → AreKeptOf v next (with_held kept held) set
    put_kept move b from to step are number m there =
        let p = pattern_at v m.table in
        let x = board_for m next in
        let new = with_held kept held in
        let place = member_place set m in
        let few = bundle.few_sets in
        let high = is.high in
        elim (cases_eq place held.place) [
          | inl e ↦
              let index_here : slice_index new.indexes held.place ≡ held.index =
              get_or-set_same kept.indexes held.place held.index 0 (let l = room.indexes_room in omega arith) in
              let word_here : slice_index new.words held.place ≡ held.word =
              get_or-set_same kept.words held.place held.word 0 (let l = room.words_room in omega arith) in
              subst (λ k. IsFoundOn p x (slice_index new.indexes k) (slice_index new.words k)) (sym e)
              (subst (λ w. IsFoundOn p x (slice_index new.indexes held.place) w) (sym word_here)
              (subst (λ i. IsFoundOn p x i held.word) (sym index_here) (is.found number m there e)))
          | inr ne ↦ found_set kept held.place held.index held.word place ne p x
              (found_still v bundle words have set low move b next tile from to step number m there (is.others number m there ne) _ _ (are number m there))
        ]

    -- and what is kept of another set stays
    pub put_others : (other : ℕ) (x : List ℕ) → other < length v.sets → other ≢ set → AreKeptOf v x kept other → AreKeptOf v x (with_held kept held) other
    put_others other x there ne are number m in_set =
        let within = place_low other m.table m.is_transposed (table_low v bundle words have other there number m in_set) in
        let low_is = is.low in
        let high_is = is.high in
        found_set kept held.place held.index held.word (member_place other m) (λ e. ne (omega arith)) (pattern_at v m.table) (board_for m x)
        (are number m in_set)

    -- so where what is held of one more set is put in, one more set is as on the board
    pub put_half : (move : Move) (b : List ℕ) (from to : ℕ) → IsStepOf v.side move b next tile from to → IsHalf v b next set kept
        → (new : Kept) → new.indexes ≡ slice_set kept.indexes held.place held.index → new.words ≡ slice_set kept.words held.place held.word
        → IsHalf v b next (set + 1) new
    put_half move b from to step half new indexes words_is =
        let same : new ≡ with_held kept held = (λ i. record { indexes = indexes i; words = words_is i }) in
        subst (IsHalf v b next (set + 1)) (sym same)
        (half_more v b next set kept (with_held kept held) half (put_kept move b from to step (half.left set (omega arith) low)) put_others)
