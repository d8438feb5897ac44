-- What is known of members, place by place, and which of it a move leaves.
use Rattle.std.proofs.Common.{◌≡◌, ◌≢◌, ℕ, ◌+◌, ◌-◌, ◌*◌, ◌^◌, ◌<◌, Bool, true, false, cond, List, length, inl, inr, refl, sym, ◌∙◌, ap, subst, arith}
use Rattle.std.proofs.Common.{slice_index, slice_set, bit_and, get_or-set_same, get_or-set_other, length-set, Option, Some, None}
use Rattle.std.specs.Prelude.{option_map, slice_index_or}
use Rattle.std.specs.Int.{bit_at}
use Rattle.std.proofs.lemmas.Bool.{cases_Bool, cases_eq}
use Rattle.puz_board.specs.declared.moves.Move.{Move}
use Rattle.puz_board.specs.Boards.{IsBoardOf, at, blank, cell_of, moved, slid}
use Rattle.puz_board.specs.Cells.{Adjacent, step_of}
use Rattle.puz_board.specs.Costs.{has}
use Rattle.puz_board.specs.Masks.{numbers_of}
use Rattle.puz_board.specs.Transposing.{transposed_cell}
use Rattle.puz_board.proofs.BitLemmas.{both_in, but_in, in_both, sub_le}
use Rattle.puz_board.proofs.BoardLemmas.{IsBoardOf-slid, at-cell_of, at-slid_back, at-slid_other, blank-slid, cell_of-below, cell_of-is, cells_least}
use Rattle.puz_board.proofs.BoardLemmas.{cells_most, side_of-board}
use Rattle.puz_board.proofs.BoardWays.{Adjacent-apart}
use Rattle.puz_board.proofs.CellLemmas.{step_of-inside}
use Rattle.pat_place.specs.Patterns.{IsPattern}
use Rattle.pat_place.proofs.MaskLemmas.{in_numbers_below}
use Rattle.tab_rule.specs.Counts.{AreCellsOf}
use Rattle.set_sum.specs.Bundles.{ShownBundle}
use Rattle.set_sum.specs.Members.{MemberSays}
use Rattle.set_sum.specs.Parts.{ShownPart, no_part, part_pattern, part_shown}
use Rattle.set_sum.specs.Owners.{AreOwners, IsOwner, has_tile}
use Rattle.set_sum.specs.Known.{place_of, IsKnownOf, said_by}
use Rattle.set_sum.specs.Noting.{IsJoined, IsNoted}
use Rattle.set_sum.specs.declared.members.Member.{Member}
use Rattle.set_sum.specs.declared.parts.Part.{Part}
use Rattle.set_sum.specs.declared.known.Known.{Known}
use Rattle.set_sum.proofs.PartLemmas.{shown_tiles}
use Rattle.set_sum.proofs.StillLemmas.{member_before, member_still}

-- ---- places

same_flag : (s t : ℕ) (p q : Bool) → 2 * s + cond p 1 0 ≡ 2 * t + cond q 1 0 → (s ≡ t) × (p ≡ q)
same_flag s t true true e = (omega arith, refl)
same_flag s t true false e = absurd (omega arith)
same_flag s t false true e = absurd (omega arith)
same_flag s t false false e = (omega arith, refl)

-- no two members have one place
pub one_place : (m o : Member) → place_of m ≡ place_of o → m ≡ o
one_place m o e = let both = same_flag m.table o.table m.is_transposed o.is_transposed e in λ i. record { table = both.0 i; is_transposed = both.1 i }

-- ---- notes

-- what is known is joined with what is known elsewhere where none of its places was taken yet
pub joined_none : (places : ℕ) (other known : Known) → known.places < 2 ^ 32 → IsJoined places other known known
joined_none places other known small = record { size = refl; small = small; each = λ p set. inl (set, refl) }

-- noting the entry known elsewhere at one of the given places leaves what is known joined with it
pub joined_more : (places place entry : ℕ) (other known now next : Known) → IsJoined places other known now → IsNoted place entry now next
    → bit_at places place ≡ 1 → entry ≡ slice_index other.entries place → IsJoined places other known next
joined_more places place entry other known now next joined noted one is = record {
  size = noted.size ∙ joined.size;
  small = noted.small;
  each = λ p set. elim (cases_eq p place) [
    | inl e ↦ inr (ap (bit_at places) e ∙ one, ap (slice_index next.entries) e ∙ noted.here ∙ is ∙ ap (slice_index other.entries) (sym e))
    | inr ne ↦ elim (joined.each p (sym (noted.others p ne).0 ∙ set)) [
      | inl kept ↦ inl (kept.0, (noted.others p ne).1 ∙ kept.1)
      | inr taken ↦ inr (taken.0, (noted.others p ne).1 ∙ taken.1)
    ]
  ];
}

-- what is joined from some places is joined from more
pub joined_within : (places more : ℕ) (other known now : Known) → ((p : ℕ) → bit_at places p ≡ 1 → bit_at more p ≡ 1)
    → IsJoined places other known now → IsJoined more other known now
joined_within places more other known now within joined = record {
  size = joined.size;
  small = joined.small;
  each = λ p set. elim (joined.each p set) [ inl kept ↦ inl kept | inr taken ↦ inr (within p taken.0, taken.1) ];
}

-- places of these that are no others' are such of all
pub fresh_within : (all known owners : ℕ) → all < 2 ^ 32 → known < 2 ^ 32 → owners < 2 ^ 32 → (p : ℕ)
    → bit_at (bit_and (bit_and all (2 ^ 32 - 1 - known)) (2 ^ 32 - 1 - owners)) p ≡ 1 → bit_at (bit_and all (2 ^ 32 - 1 - owners)) p ≡ 1
fresh_within all known owners a k o p set =
    let both = both_in (bit_and all (2 ^ 32 - 1 - known)) (2 ^ 32 - 1 - owners) p set in
    in_both all (2 ^ 32 - 1 - owners) p (both_in all (2 ^ 32 - 1 - known) p both.0).0 both.1

-- ---- the members whose pattern has a tile

module _ (tables : List ShownPart) (t : ℕ) (part : Part) (shown : part_shown part ≡ slice_index_or tables t no_part) where
  shown_of : (slice_index_or tables t no_part).tiles ≡ (part_pattern part).tiles
  shown_of = ap (λ p. p.tiles) (sym shown) ∙ sym (shown_tiles part)

  tile_bit : (mask x : ℕ) → numbers_of mask ≡ (part_pattern part).tiles → has (slice_index_or tables t no_part).tiles x ≡ true → bit_at mask x ≡ 1
  tile_bit mask x is h = (in_numbers_below 32 mask x (ap (λ tiles. has tiles x) (is ∙ sym shown_of) ∙ h)).1

  module _ (n tile mask one two : ℕ) (mask_is : numbers_of mask ≡ (part_pattern part).tiles) (pattern : IsPattern (part_pattern part))
      (side : (part_pattern part).side ≡ n)
      (plain : bit_at mask tile ≡ 1 → bit_at one (2 * t) ≡ 1) (turned : bit_at mask (transposed_cell n tile) ≡ 1 → bit_at two (2 * t + 1) ≡ 1)
      (kept : (x : ℕ) → bit_at one x ≡ 1 → bit_at two x ≡ 1) where
    owned_here : (is_transposed : Bool) → has (slice_index_or tables t no_part).tiles (cond is_transposed (transposed_cell n tile) tile) ≡ true
        → bit_at two (2 * t + cond is_transposed 1 0) ≡ 1
    owned_here true h = turned (tile_bit mask (transposed_cell n tile) mask_is h)
    owned_here false h = let e : 2 * t ≡ 2 * t + 0 = omega arith in subst (λ k. bit_at two k ≡ 1) e (kept (2 * t) (plain (tile_bit mask tile mask_is h)))

    pattern_here : IsPattern (record { side = n; tiles = (slice_index_or tables t no_part).tiles })
    pattern_here = subst (λ tiles. IsPattern (record { side = n; tiles = tiles })) (sym shown_of)
        (subst (λ k. IsPattern (record { side = k; tiles = (part_pattern part).tiles })) side pattern)

    owner_here : (is_transposed : Bool) → IsOwner n tables tile two (record { table = t; is_transposed = is_transposed })
    owner_here is_transposed = record { pattern = pattern_here; owned = owned_here is_transposed }

    -- where the two places of a table are taken for a tile, both of its members are owners with their places
    pub owner_at : (m : Member) → m.table ≡ t → IsOwner n tables tile two m
    owner_at m e = subst (IsOwner n tables tile two) (λ i. record { table = sym e i; is_transposed = m.is_transposed }) (owner_here m.is_transposed)

-- places that are added leave owners
pub owner_kept : (n : ℕ) (tables : List ShownPart) (tile places more : ℕ) (m : Member) → ((x : ℕ) → bit_at places x ≡ 1 → bit_at more x ≡ 1)
    → IsOwner n tables tile places m → IsOwner n tables tile more m
owner_kept n tables tile places more m kept owner = record { pattern = owner.pattern; owned = λ h. kept (place_of m) (owner.owned h) }

-- ---- what is known

-- one member more
pub known_noted : (v : ShownBundle) (b : List ℕ) (known now : Known) (m : Member) (entry : ℕ) → IsKnownOf v b known → IsNoted (place_of m) entry known now
    → MemberSays v.tables m b (said_by entry) → IsKnownOf v b now
known_noted v b known now m entry is noted says = record {
  size = noted.size ∙ is.size;
  small = noted.small;
  each = λ o there set. elim (cases_eq (place_of o) (place_of m)) [
    | inl e ↦
        subst (λ k. MemberSays v.tables o b (said_by k)) (sym (ap (slice_index now.entries) e ∙ noted.here))
        (subst (λ x. MemberSays v.tables x b (said_by entry)) (sym (one_place o m e)) says)
    | inr ne ↦
        subst (λ k. MemberSays v.tables o b (said_by k)) (sym (noted.others (place_of o) ne).1) (is.each o there (sym (noted.others (place_of o) ne).0 ∙ set))
  ];
}

module _ (v : ShownBundle) (b : List ℕ) (good : IsBoardOf v.side b) (c : ℕ) (near : Adjacent v.side (blank b) c) (owners : ℕ)
    (own : AreOwners v.side v.tables (at b c) owners) (fits : owners < 2 ^ 32) where
  -- a member outside the owners' places has another pattern
  other_tile : (m : Member) → m.table < length v.tables → bit_at owners (place_of m) ≡ 0 → has_tile v.side v.tables m (at b c) ≡ false
  other_tile m there clear = elim (cases_Bool (has_tile v.side v.tables m (at b c))) [
    | inl has ↦ let set = (own m there).owned has in absurd (omega arith)
    | inr none ↦ none
  ]

  -- what the move leaves is known of the board after it
  pub known_after : (known : Known) → IsKnownOf v b known
      → IsKnownOf v (slid b c) (record { places = bit_and known.places (2 ^ 32 - 1 - owners); entries = known.entries })
  known_after known is = record {
    size = is.size;
    small =
        let less = sub_le (bit_and known.places (2 ^ 32 - 1 - owners)) known.places (λ x set. (both_in known.places (2 ^ 32 - 1 - owners) x set).0) in
        let small = is.small in
        omega arith;
    each = λ m there set.
        let both = but_in known.places owners (place_of m) is.small fits set in
        member_still v.side b good c near v.tables m (own m there).pattern.tiles (other_tile m there both.1) _ (is.each m there both.0);
  }

  -- and what is known of that one and the move leaves is known of this one
  pub known_before : (known other now : Known) → IsKnownOf v b known → IsKnownOf v (slid b c) other
      → IsJoined (bit_and other.places (2 ^ 32 - 1 - owners)) other known now → IsKnownOf v b now
  known_before known other now is also joined = record {
    size = joined.size ∙ is.size;
    small = joined.small;
    each = λ m there set. elim (joined.each (place_of m) set) [
      | inl kept ↦ subst (λ k. MemberSays v.tables m b (said_by k)) (sym kept.1) (is.each m there kept.0)
      | inr taken ↦
          let both = but_in other.places owners (place_of m) also.small fits taken.0 in
          subst (λ k. MemberSays v.tables m b (said_by k)) (sym taken.1)
          (member_before v.side b good c near v.tables m (own m there).pattern.tiles (other_tile m there both.1) _ (also.each m there both.0))
    ];
  }

-- ---- the cells of numbers

-- where the number of cell c goes to the blank's cell, and the blank to cell c
pub cells_after : (n : ℕ) (b : List ℕ) (good : IsBoardOf n b) (c : ℕ) (near : Adjacent n (blank b) c) (cells : List ℕ) (i from to : ℕ)
    → length cells ≡ 25 → AreCellsOf cells b → i ≡ at b c → from ≡ blank b → to ≡ c → AreCellsOf (slice_set (slice_set cells i from) 0 to) (slid b c)
cells_after n b good c near cells i from to room are tile from_is to_is t low = elim (cases_eq t 0) [
  | inl none ↦
      ap (slice_index (slice_set (slice_set cells i from) 0 to)) none ∙
      get_or-set_same (slice_set cells i from) 0 to 0 (let e = length-set cells i from in omega arith) ∙
      to_is ∙ sym (blank-slid n b good c near.0) ∙ ap (λ x. cell_of x (slid b c)) (sym none)
  | inr some ↦ get_or-set_other (slice_set cells i from) 0 t to 0 some ∙ elim (cases_eq t i) [
    | inl e ↦
        ap (slice_index (slice_set cells i from)) e ∙
        get_or-set_same cells i from 0 (let below = good.below c near.0 in let most = cells_most n b good in omega arith) ∙
        from_is ∙ sym (cell_of-is n (slid b c) on i (blank b) inside (at-slid_back n b good c near.0 apart ∙ sym tile)) ∙ ap (λ x. cell_of x (slid b c)) (sym e)
    | inr other ↦
        get_or-set_other cells i t from 0 other ∙
        are t (subst (λ k. t < k) (sym good.size) below) ∙
        sym (cell_of-is n (slid b c) on t (cell_of t b) (cell_of-below n b good t below)
        (at-slid_other n b good c near.0 (cell_of t b) (λ w. other (sym (at-cell_of n b good t below) ∙ ap (at b) w ∙ sym tile))
        (λ w. some (sym (at-cell_of n b good t below) ∙ ap (at b) w ∙ at-cell_of n b good 0 zero_below)) ∙
        at-cell_of n b good t below))
  ]
]
  where
    on : IsBoardOf n (slid b c)
    on = IsBoardOf-slid n b good c near.0

    zero_below : 0 < n * n
    zero_below = let some = cells_least n b good in omega arith

    inside : blank b < n * n
    inside = cell_of-below n b good 0 zero_below

    apart : blank b ≢ c
    apart = Adjacent-apart n (blank b) c good.low near

    below : t < n * n
    below = let size = on.size in omega arith

-- ---- a move is a step to the blank's new cell

-- a move that leads to a board is a slide to an adjacent cell, which is the blank's on that board
pub stepped : (n : ℕ) (b : List ℕ) (good : IsBoardOf n b) (move : Move) (d : List ℕ) → moved b move ≡ Some d → Adjacent n (blank b) (blank d)
    × (slid b (blank d) ≡ d)
stepped n b good move d leads = go (step_of n (blank b) move) refl
    (sym (ap (λ side. option_map (slid b) (step_of side (blank b) move)) (side_of-board n b good)) ∙ leads)
  where
    go : (o : Option ℕ) → step_of n (blank b) move ≡ o → option_map (slid b) o ≡ Some d → Adjacent n (blank b) (blank d) × (slid b (blank d) ≡ d)
    go None step is = cc
    go (Some c) step is =
        let from : blank b < n * n = cell_of-below n b good 0 (let some = cells_least n b good in omega arith) in
        let inside : c < n * n = step_of-inside n (blank b) move c good.low good.high from step in
        let same : slid b c ≡ d = cc in
        let there : blank d ≡ c = ap blank (sym same) ∙ blank-slid n b good c inside in
        (subst (Adjacent n (blank b)) (sym there) (inside, move, step), ap (slid b) there ∙ same)
