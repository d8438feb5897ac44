-- Tallies that follow a move, set by set.
use Rattle.std.proofs.Common.{◌≡◌, ◌≢◌, ℕ, ◌+◌, ◌-◌, ◌^◌, ◌<◌, ◌≤◌, List, length, length-set, slice_index, slice_set, inl, inr, sym, ◌∙◌, subst}
use Rattle.std.proofs.Common.{arith, get_or-set_same, get_or-set_other}
use Rattle.std.proofs.lemmas.Bool.{cases_eq}
use Rattle.tab_rule.specs.declared.tables.Count.TheVariants.{Finite}
use Rattle.set_sum.specs.Bundles.{ShownBundle, BundleSays, IsBundle}
use Rattle.set_sum.specs.Known.{said_by}
use Rattle.set_sum.specs.Members.{MemberSays}
use Rattle.puz_walk.specs.StoredWords.{AreOwnersOf, HasNoOwner, IsOwner}
use Rattle.puz_walk.specs.Tallies.{AreLow, AreTallied, AreTold, IsSlideOf, IsTallied, IsTold, entry_place}
use Rattle.puz_walk.specs.declared.owners.Owner.{Owner}
use Rattle.puz_walk.specs.declared.tallies.Tally.{Tally}
use Rattle.puz_walk.proofs.JudgeLemmas.{sum_once}
use Rattle.puz_walk.proofs.OwnerLemmas.{owner_takes}
use Rattle.puz_walk.proofs.TallyLemmas.{entry_place_low, none_entries, none_says, none_told, other_entries, own_entries, own_number, own_sum}
use Rattle.puz_walk.proofs.TallyLemmas.{own_table, own_told}

module _ (v : ShownBundle) (b next : List ℕ) (tile : ℕ) where
  -- of the set one board is kept, and of the other what its owner says
  pub record IsSide (x other : List ℕ) (tally : Tally) (told : List ℕ) (set : ℕ) : Type 0 where
    pub tallied : IsTallied v x tally.sums tally.entries set
    pub is_told : IsTold v other tile set (slice_index told set)

  -- of the first sets the next board is kept, and of the others the board before
  pub record IsHalf (count : ℕ) (tally : Tally) (told : List ℕ) : Type 0 where
    pub sums_room : length tally.sums ≡ 16
    pub entries_room : length tally.entries ≡ 512
    pub told_room : length told ≡ 16
    pub owners : AreOwnersOf v tally.owners
    pub first : tally.first < length v.sets
    pub done : (set : ℕ) → set < count → set < length v.sets → IsSide next b tally told set
    pub left : (set : ℕ) → count ≤ set → set < length v.sets → IsSide b next tally told set

  -- a tally of the board before, with what the owners say of the next one, is where no set has followed yet
  pub half_none : (tally : Tally) (told : List ℕ) → AreTallied v b tally → AreTold v next tile told → IsHalf 0 tally told
  half_none tally told kept says = record {
    sums_room = kept.sums_room;
    entries_room = kept.entries_room;
    told_room = says.room;
    owners = kept.owners;
    first = kept.first;
    done = λ set less there. absurd (omega arith);
    left = λ set more there. record { tallied = kept.each set there; is_told = says.each set there };
  }

  module _ (count : ℕ) (tally : Tally) (told : List ℕ) (half : IsHalf count tally told) where
    -- once all sets have followed the move, the tally is that of the next board
    pub half_tallied : length v.sets ≤ count → AreTallied v next tally
    half_tallied all = record {
      sums_room = half.sums_room;
      entries_room = half.entries_room;
      owners = half.owners;
      first = half.first;
      each = λ set there. (half.done set (omega arith) there).tallied;
    }

    -- once all sets have followed the move, the list has what the owners of the tile say of the board before
    pub half_told : length v.sets ≤ count → AreTold v b tile told
    half_told all = record { room = half.told_room; each = λ set there. (half.done set (omega arith) there).is_told }

    module _ (slides : IsSlideOf v b next tile) (bundle : IsBundle v) (low : count < length v.sets) where
      here : IsSide b next tally told count
      here = half.left count (omega arith) low

      -- a set whose members haven't the tile
      pub half_still : HasNoOwner v count tile → IsHalf (count + 1) tally told
      half_still none = record {
        sums_room = half.sums_room;
        entries_room = half.entries_room;
        told_room = half.told_room;
        owners = half.owners;
        first = half.first;
        done = λ set less there. elim (cases_eq set count) [
          | inl e ↦ subst (IsSide next b tally told) (sym e) (record {
            tallied = record {
              says = none_says v b next tile slides bundle count low none _ here.tallied.says;
              are = none_entries v b next tile slides bundle count low none tally.entries here.tallied.are;
            };
            is_told = none_told v b next tile slides bundle count low none b _;
          })
          | inr ne ↦ half.done set (omega arith) there
        ];
        left = λ set more there. half.left set (omega arith) there;
      }

      module _ (owner : Owner) (is : IsOwner v count tile owner) (place : ℕ) (place_is : place ≡ entry_place count owner.member) where
        -- the entry of the tile's owner that the tally has: what it says of the board before the move
        abbrev pub old : ℕ
        old = slice_index tally.entries place

        -- the entry of the tile's owner that the list has: what it says of the board after the move
        abbrev pub new : ℕ
        new = slice_index told count

        old_says : MemberSays v.tables owner.member b (said_by old)
        old_says = subst (λ k. MemberSays v.tables owner.member b (said_by (slice_index tally.entries k))) (sym place_is)
            (here.tallied.are is.number owner.member is.member)

        new_says : MemberSays v.tables owner.member next (said_by new)
        new_says = here.is_told is.number owner.member is.member (owner_takes v bundle count low tile owner is)

        -- the place of the entry of the tile's owner is one of the 512 of a tally
        pub place_low : place < 512
        place_low = let l = entry_place_low count owner.member (let few = bundle.few_sets in
            omega arith) (own_table v b next tile slides bundle count low owner is) in omega arith

        -- the old entry is a part of the sum
        pub old_fits : slice_index tally.entries place ≤ slice_index tally.sums count
        old_fits = (own_number v b next tile slides bundle count low owner is b old (slice_index tally.sums count) old_says here.tallied.says).1

        module _ (below : AreLow v next (2 ^ 8)) where
          new_finite : MemberSays v.tables owner.member next (Finite new)
          new_finite = (own_number v b next tile slides bundle count low owner is next new (below count low).sum new_says (below count low).says).0

          after : BundleSays v count next (Finite (slice_index tally.sums count - old + new))
          after = own_sum v b next tile slides bundle count low owner is old new (slice_index tally.sums count) old_says here.tallied.says new_finite

          -- and so the new sum fits
          pub new_fits : slice_index tally.sums count - slice_index tally.entries place + slice_index told count < 2 ^ 8
          new_fits = let same = sum_once v count next (slice_index tally.sums count - old + new) (below count low).sum after
              (below count low).says in let l = (below count low).low in omega arith

          -- a set whose owner follows the move
          pub half_moves : IsHalf (count + 1) (record {
            owners = tally.owners;
            sums = slice_set tally.sums count (slice_index tally.sums count - old + new);
            first = tally.first;
            entries = slice_set tally.entries place new;
          }) (slice_set told count old)
          half_moves = record {
            sums_room = length-set _ _ _ ∙ half.sums_room;
            entries_room = length-set _ _ _ ∙ half.entries_room;
            told_room = length-set _ _ _ ∙ half.told_room;
            owners = half.owners;
            first = half.first;
            done = λ set less there. elim (cases_eq set count) [
              | inl e ↦ subst (IsSide next b now (slice_set told count old)) (sym e) (record {
                tallied = record {
                  says = subst (λ d. BundleSays v count next (Finite d))
                      (sym (get_or-set_same tally.sums count _ 0 (let r = half.sums_room in let few = bundle.few_sets in omega arith))) after;
                  are = own_entries v b next tile slides bundle count low owner is tally.entries place new half.entries_room place_is new_says here.tallied.are;
                };
                is_told = subst (IsTold v b tile count) (sym (get_or-set_same told count old 0 (let r = half.told_room in
                    let few = bundle.few_sets in omega arith)))
                    (own_told v b next tile slides bundle count low owner is b old old_says);
              })
              | inr ne ↦ other next b set ne there (half.done set (omega arith) there)
            ];
            left = λ set more there. other b next set (λ e. omega arith) there (half.left set (omega arith) there);
          }
            where
              now : Tally
              now = record {
                owners = tally.owners;
                sums = slice_set tally.sums count (slice_index tally.sums count - old + new);
                first = tally.first;
                entries = slice_set tally.entries place new;
              }

              other : (x y : List ℕ) (set : ℕ) → set ≢ count → set < length v.sets → IsSide x y tally told set → IsSide x y now (slice_set told count old) set
              other x y set ne there side = record {
                tallied = record {
                  says = subst (λ d. BundleSays v set x (Finite d)) (sym (get_or-set_other tally.sums count set _ 0 ne)) side.tallied.says;
                  are = other_entries v bundle count set there ne owner.member
                      (own_table v b next tile slides bundle count low owner is) tally.entries place new place_is x side.tallied.are;
                };
                is_told = subst (IsTold v y tile set) (sym (get_or-set_other told count set old 0 ne)) side.is_told;
              }
