-- The member of a set that has a tile, and what a move of the tile does to the set.
use Rattle.std.proofs.Common.{◌≡◌, ◌≢◌, ℕ, ◌+◌, ◌*◌, ◌/◌, ◌%◌, ◌^◌, eqb, eq-eqb, ne_eqb, ◌<◌, ◌≤◌, Bool, true, false, cond, List, [], ◌∷◌, length, get_or}
use Rattle.std.proofs.Common.{slice_index, slice_set, Some, None, inl, inr, refl, sym, ◌∙◌, ap, subst, arith, get_or-set_same, get_or-set_other}
use Rattle.std.specs.Prelude.{slice_get}
use Rattle.std.specs.List.{AllByRecursion}
use Rattle.std.specs.Int.{bit_at}
use Rattle.std.proofs.lemmas.Bool.{false_from_ne_true}
use Rattle.puz_board.specs.Masks.{numbers_of}
use Rattle.puz_board.proofs.CellLemmas.{by_side, few_cells}
use Rattle.pat_place.proofs.MaskLemmas.{in_numbers_below}
use Rattle.puz_board.specs.Boards.{IsBoardOf, blank}
use Rattle.puz_board.specs.Costs.{IsLeastCost, has}
use Rattle.puz_board.specs.declared.moves.Move.{Move}
use Rattle.puz_board.proofs.HasLemmas.{has-get}
use Rattle.pat_place.specs.Patterns.{IsPattern, ShownPattern, most_tiles}
use Rattle.tab_rule.specs.declared.tables.Count.TheVariants.{Finite}
use Rattle.edge_words.specs.Spots.{IsIndexStep, IsStepOf, IsTileStep, index_on}
use Rattle.edge_words.specs.Words.{IsEdgeWord, IsTileMove, RisesOrFalls, ShownWords, bit_number}
use Rattle.set_sum.specs.Bundles.{ShownBundle, BundleSays, IsBundle, IsSetOf, set_of}
use Rattle.set_sum.specs.Members.{MemberSays, board_for, table_of, table_pattern}
use Rattle.set_sum.specs.declared.members.Member.{Member}
use Rattle.set_sum.proofs.AnswerLemmas.{all_get}
use Rattle.set_sum.proofs.ListLemmas.{all_at, get_or-slice_get}
use Rattle.puz_walk.specs.StoredWords.{HasNoOwner, IsOwner, cell_for, move_for}
use Rattle.puz_walk.specs.WordBundles.{HaveWords, pattern_at}
use Rattle.puz_walk.specs.WordSpots.{AreKeptOf, HasPlaces, IsFoundOn, IsShift, Shifts, member_place}
use Rattle.puz_walk.specs.declared.word_spots.Kept.{Kept}
use Rattle.puz_walk.specs.declared.owners.Owner.{Owner}
use Rattle.puz_walk.proofs.MoveLemmas.{way_low}
use Rattle.puz_walk.proofs.ShiftLemmas.{IsFull, member_index_still, member_placement_still, member_shifts, member_still, owner_or_not, shift_more}
use Rattle.puz_walk.proofs.ShiftLemmas.{sum_moves, sum_still}
use Rattle.puz_walk.proofs.TurnLemmas.{blank_below, next_good, step_for}

-- the tile of a step is one of the board
pub tile_below : (n : ℕ) (move : Move) (b next : List ℕ) (tile from to : ℕ) → IsStepOf n move b next tile from to → tile < n * n
tile_below n move b next tile from to step =
    subst (λ t. t < n * n) (sym step.tile_is) (step.board.below (blank next) (blank_below n next (next_good n move b next tile from to step)))

-- ---- tiles and masks

-- a cell of a board of side 2 to 5 has a number below 32
pub cell_small : (n c : ℕ) → 2 ≤ n → n ≤ 5 → c < n * n → c < 32
cell_small n c low high inside = let most = few_cells n low high in omega arith

-- a number outside the mask is none of the tiles
pub other_bit : (tiles : List ℕ) (mask tile : ℕ) → numbers_of mask ≡ tiles → (bit_at mask tile ≡ 1 → ⊥) → has tiles tile ≡ false
other_bit tiles mask tile is none = false_from_ne_true (has tiles tile) (λ h. none (in_numbers_below 32 mask tile (ap (λ xs. has xs tile) is ∙ h)).1)

-- ---- places

same_parts : (set t u : ℕ) (x y : Bool) → 16 * set + (2 * t + cond x 1 0) ≡ 16 * set + (2 * u + cond y 1 0) → (t ≡ u) × (x ≡ y)
same_parts set t u true true e = (let h : t ≡ u = omega arith in h, refl)
same_parts set t u true false e = absurd (omega arith)
same_parts set t u false true e = absurd (omega arith)
same_parts set t u false false e = (let h : t ≡ u = omega arith in h, refl)

-- no two members have one place
pub same_member : (set : ℕ) (m o : Member) → member_place set m ≡ member_place set o → m ≡ o
same_member set m o e =
    let parts = same_parts set m.table o.table m.is_transposed o.is_transposed e in
    λ i. record { table = parts.0 i; is_transposed = parts.1 i }

apart_parts : (set other t u : ℕ) (x y : Bool) → t < 8 → u < 8 → other ≢ set → 16 * other + (2 * t + cond x 1 0) ≢ 16 * set + (2 * u + cond y 1 0)
apart_parts set other t u true true low less ne e = ne (omega arith)
apart_parts set other t u true false low less ne e = ne (omega arith)
apart_parts set other t u false true low less ne e = ne (omega arith)
apart_parts set other t u false false low less ne e = ne (omega arith)

-- each set has 16 places
pub place_low : (set t : ℕ) (x : Bool) → t < 8 → 16 * set + (2 * t + cond x 1 0) < 16 * set + 16
place_low set t true low = omega arith
place_low set t false low = omega arith

-- what stands at a place
pub place_parts : (set t : ℕ) (x : Bool) → t < 8 → ((16 * set + (2 * t + cond x 1 0)) % 16 / 2 ≡ t) × (eqb ((16 * set + (2 * t + cond x 1 0)) % 2) 1 ≡ x)
place_parts set t true low = (let h : (16 * set + (2 * t + 1)) % 16 / 2 ≡ t = omega arith in h, eq-eqb ((16 * set + (2 * t + 1)) % 2) 1 (omega arith))
place_parts set t false low = (let h : (16 * set + (2 * t + 0)) % 16 / 2 ≡ t = omega arith in h, ne_eqb ((16 * set + (2 * t + 0)) % 2) 1 (λ e. omega arith))

-- no pattern has more than 8 tiles
few_tiles : (n : ℕ) → 2 ≤ n → n ≤ 5 → (k : ℕ) → k ≤ most_tiles n → k ≤ 8
few_tiles = by_side (λ n. (k : ℕ) → k ≤ most_tiles n → k ≤ 8)
    (λ k l. let few : k ≤ 3 = l in omega arith)
    (λ k l. l)
    (λ k l. l)
    (λ k l. let few : k ≤ 6 = l in omega arith)

-- ---- members of a set

module _ (v : ShownBundle) (bundle : IsBundle v) (set : ℕ) (low : set < length v.sets) where
  -- each set of a bundle is a set of members for the bundle's side and tables
  pub set_is : IsSetOf v.side v.tables (set_of v set)
  set_is = all_at (IsSetOf v.side v.tables) v.sets set _ low bundle.each

  -- all members of a bundle's set have tables that are in the bundle
  pub tables_there : AllByRecursion (λ m. m.table < length v.tables) (set_of v set)
  tables_there = all_at (AllByRecursion (λ o. o.table < length v.tables)) v.sets set _ low bundle.there

  module _ (number : ℕ) (m : Member) (is : slice_get (set_of v set) number ≡ Some m) where
    -- the table of a member with some number in a set is one of the bundle's tables
    pub member_there : m.table < length v.tables
    member_there = all_get (λ o. o.table < length v.tables) (set_of v set) number m is tables_there

    -- the table of a set's member has a pattern for boards of the bundle's side
    pub member_pattern : IsPattern (pattern_at v m.table)
    member_pattern = all_get (λ o. IsPattern (pattern_at v o.table)) (set_of v set) number m is set_is.patterns

  -- the owner's table has the tile that the owner looks up
  pub owner_takes : (tile : ℕ) (owner : Owner) → IsOwner v set tile owner → has (table_pattern v.tables owner.member) (cell_for v.side owner.member tile) ≡ true
  owner_takes tile owner is =
      let tiles = table_pattern v.tables owner.member in
      subst (λ t. has tiles t ≡ true) is.is (has-get tiles owner.tile (slice_index tiles owner.tile) (get_or-slice_get tiles owner.tile 0 is.low))

-- what was found at another place than the one that is set is found there still
pub found_set : (kept : Kept) (place index word other : ℕ) → other ≢ place → (p : ShownPattern) (b : List ℕ)
    → IsFoundOn p b (slice_index kept.indexes other) (slice_index kept.words other)
    → IsFoundOn p b (slice_index (slice_set kept.indexes place index) other) (slice_index (slice_set kept.words place word) other)
found_set kept place index word other ne p b found =
    subst (λ w. IsFoundOn p b (slice_index (slice_set kept.indexes place index) other) w) (sym (get_or-set_other kept.words place other word 0 ne))
    (subst (λ i. IsFoundOn p b i (slice_index kept.words other)) (sym (get_or-set_other kept.indexes place other index 0 ne)) found)

module _ (v : ShownBundle) (bundle : IsBundle v) (words : List ShownWords) (have : HaveWords v words) (set : ℕ) (low : set < length v.sets) where
  module _ (number : ℕ) (m : Member) (is : slice_get (set_of v set) number ≡ Some m) where
    has_table : m.table < length v.tables
    has_table = member_there v bundle set low number m is

    pat : IsPattern (pattern_at v m.table)
    pat = member_pattern v bundle set low number m is

    -- in a bundle with edge words, the table of a set's member isn't folded
    pub member_full : (table_of v.tables m).is_folded ≡ false
    member_full = (have.each m.table has_table).full

    -- in a bundle with edge words, the table of a set's member has a number below 8
    pub table_low : m.table < 8
    table_low = let l = has_table in let few = have.few in omega arith

    -- a member has one of the 256 places that a spot has
    pub member_place_low : member_place set m < 256
    member_place_low = let l = place_low set m.table m.is_transposed table_low in let few = bundle.few_sets in omega arith

    -- the words that were read for it are those of its table's pattern
    pub words_at : (place : ℕ) (w : ShownWords) → place ≡ m.table → w ≡ get_or words place w → w.pattern ≡ pattern_at v m.table
    words_at place w place_is read =
        let there = has_table in
        let size = have.size in
        let at_table : w ≡ get_or words m.table w = subst (λ k. w ≡ get_or words k w) place_is read in
        (have.each m.table there).pattern w (get_or-slice_get words m.table w (omega arith) ∙ ap Some (sym at_table))

  full_of : (ms : List Member) → AllByRecursion (λ m. IsPattern (pattern_at v m.table)) ms → AllByRecursion (λ m. m.table < length v.tables) ms
      → AllByRecursion (IsFull v.side v.tables) ms
  full_of [] patterns there = tt
  full_of (m ∷ ms) patterns there = ((patterns.0, (have.each m.table there.0).full), full_of ms patterns.1 there.1)

  full_all : AllByRecursion (IsFull v.side v.tables) (set_of v set)
  full_all = full_of (set_of v set) (set_is v bundle set low).patterns (tables_there v bundle set low)

  -- the bits of an owner's moves are bits of a word
  pub owner_bit_low : (tile : ℕ) (owner : Owner) → IsOwner v set tile owner → (move : Move) → bit_number owner.tile move < 32
  owner_bit_low tile owner is move =
      let p = pat is.number owner.member is.member in
      let few = few_tiles (pattern_at v owner.member.table).side p.low p.high (length (table_pattern v.tables owner.member)) p.most in
      let low = is.low in
      let way = way_low move in
      omega arith

  -- ---- the owner of a tile

  module _ (move : Move) (b next : List ℕ) (tile from to : ℕ) (step : IsStepOf v.side move b next tile from to) where
    tile_low : tile < v.side * v.side
    tile_low = tile_below v.side move b next tile from to step

    still : (m : Member) → IsFull v.side v.tables m → has (table_pattern v.tables m) (cell_for v.side m tile) ≡ false → (d : ℕ)
        → MemberSays v.tables m b (Finite d) → MemberSays v.tables m next (Finite d)
    still m full none d says = member_still v.side move b next tile from to step v.tables m full.0 full.1 none d says

    -- where no member has the tile, the sum stays
    pub none_shifts : HasNoOwner v set tile → (d : ℕ) → BundleSays v set b (Finite d) → IsShift v b next set None
    none_shifts none d says = record {
      before = d;
      after = d;
      says_before = says;
      says_after = record {
        there = low;
        says = sum_still v.side v.tables tile tile_low (IsFull v.side v.tables) b next still
            (set_of v set) full_all none d says.says;
      };
      is = refl;
    }

    -- a member that hasn't the tile looks up the same index and the same word after the move
    pub found_still : (number : ℕ) (m : Member) → slice_get (set_of v set) number ≡ Some m → has (table_pattern v.tables m) (cell_for v.side m tile) ≡ false
        → (index word : ℕ) → IsFoundOn (pattern_at v m.table) (board_for m b) index word → IsFoundOn (pattern_at v m.table) (board_for m next) index word
    found_still number m is none index word found = record {
      index_is = found.index_is ∙ sym (member_index_still v.side move b next tile from to step v.tables m (pat number m is) none);
      word_is = subst (λ cells. IsEdgeWord (pattern_at v m.table) cells word)
          (sym (member_placement_still v.side move b next tile from to step v.tables m (pat number m is) none)) found.word_is;
    }

    -- where no member has the tile, all look up the same
    pub none_kept : HasNoOwner v set tile → (kept : Kept) → AreKeptOf v b kept set → AreKeptOf v next kept set
    none_kept none kept are number m is =
        found_still number m is (all_get (λ o. has (table_pattern v.tables o) (cell_for v.side o tile) ≡ false) (set_of v set) number m is none) _ _
        (are number m is)

    module _ (owner : Owner) (is : IsOwner v set tile owner) where
      -- the member of the set whose pattern has the tile that moves
      abbrev pub own : Member
      own = owner.member

      own_takes : has (table_pattern v.tables own) (cell_for v.side own tile) ≡ true
      own_takes = owner_takes v bundle set low tile owner is

      -- the move of the board that the owner looks up is one of its tile
      pub owner_moves : IsTileMove (pattern_at v own.table) owner.tile (move_for own move) (board_for own b) (board_for own next)
      owner_moves =
          let looked = step_for v.side move b next tile from to step own in
          record { board = looked.board; leads = looked.leads; is_index = is.low; tile = sym looked.tile_is ∙ sym is.is }

      -- and the board after it is one of the side
      pub owner_board : IsBoardOf v.side (board_for own next)
      owner_board =
          next_good v.side (move_for own move) (board_for own b) (board_for own next) _ _ _ (step_for v.side move b next tile from to step own)

      -- what the move adds leads to the index of the board after it
      pub owner_index : (added index : ℕ) → IsIndexStep (pattern_at v own.table) owner.tile (move_for own move) added
          → index ≡ index_on (pattern_at v own.table) (board_for own b) → (index + added) % 2 ^ 32 ≡ index_on (pattern_at v own.table) (board_for own next)
      owner_index added index adds is_index =
          ap (λ k. (k + added) % 2 ^ 32) is_index ∙ sym (adds (board_for own b) (board_for own next) owner_moves)

      -- on the boards that the tile's owner looks up, the move is a step of its own tile, with the blank's cells looked up alike
      pub owner_steps : IsTileStep (pattern_at v own.table) owner.tile (board_for own b) (board_for own next) (cell_for v.side own from)
          (cell_for v.side own to)
      owner_steps =
          let looked = step_for v.side move b next tile from to step own in
          record { move = move_for own move; moves = owner_moves; from_is = looked.from_is; to_is = looked.to_is }

      -- its word tells of the sum
      pub owner_shifts : (rises : Bool) → ((d : ℕ) → IsLeastCost (table_pattern v.tables own) (board_for own b) d
          → RisesOrFalls rises (table_pattern v.tables own) (board_for own next) d)
          → (d : ℕ) → BundleSays v set b (Finite d) → IsShift v b next set (Some rises)
      owner_shifts rises told d says =
          let shifts = sum_moves v.side v.tables tile tile_low (IsFull v.side v.tables) b next still own own_takes (Shifts (Some rises)) (shift_more rises)
          (member_shifts v.side move b next tile from to step v.tables own (pat is.number own is.member) (member_full is.number own is.member) rises told)
          (set_of v set) full_all (set_is v bundle set low).disjoint is.number is.member d says.says in
          record {
            before = d;
            after = shifts.0;
            says_before = says;
            says_after = record { there = low; says = shifts.1 };
            is = shifts.2;
          }

      -- the owner's index and word are those that change
      pub owner_kept : (kept : Kept) (place index word : ℕ) → HasPlaces kept → place ≡ member_place set own
          → IsFoundOn (pattern_at v own.table) (board_for own next) index word → AreKeptOf v b kept set
          → AreKeptOf v next (record { indexes = slice_set kept.indexes place index; words = slice_set kept.words place word }) set
      owner_kept kept place index word room place_is found are number m there =
          elim (owner_or_not v.side v.tables tile tile_low (set_of v set) (set_is v bundle set low).disjoint is.number own is.member own_takes number m there) [
            | inl same ↦
                let below = member_place_low is.number own is.member in
                let index_here : slice_index (slice_set kept.indexes place index) place ≡ index =
                get_or-set_same kept.indexes place index 0 (let l = room.indexes_room in omega arith) in
                let word_here : slice_index (slice_set kept.words place word) place ≡ word =
                get_or-set_same kept.words place word 0 (let l = room.words_room in omega arith) in
                subst (λ o. IsFoundOn (pattern_at v o.table) (board_for o next) (slice_index (slice_set kept.indexes place index) (member_place set o))
                (slice_index (slice_set kept.words place word) (member_place set o))) (sym same)
                (subst (λ k. IsFoundOn (pattern_at v own.table) (board_for own next) (slice_index (slice_set kept.indexes place index) k)
                (slice_index (slice_set kept.words place word) k)) place_is
                (subst (λ w. IsFoundOn (pattern_at v own.table) (board_for own next) (slice_index (slice_set kept.indexes place index) place) w) (sym word_here)
                (subst (λ i. IsFoundOn (pattern_at v own.table) (board_for own next) i word) (sym index_here) found)))
            | inr none ↦
                let other : member_place set m ≢ place = (λ e.
                let one : m ≡ own = same_member set m own (e ∙ place_is) in
                let takes : has (table_pattern v.tables m) (cell_for v.side m tile) ≡ true =
                subst (λ o. has (table_pattern v.tables o) (cell_for v.side o tile) ≡ true) (sym one) own_takes in
                absurd cc) in
                found_set kept place index word (member_place set m) other (pattern_at v m.table) (board_for m next)
                (found_still number m there none _ _ (are number m there))
          ]

-- what is kept of another set stays
pub other_kept : (v : ShownBundle) (bundle : IsBundle v) (words : List ShownWords) (have : HaveWords v words) (set other : ℕ)
    → other < length v.sets → other ≢ set → (own : Member) → own.table < 8
    → (kept : Kept) (place index word : ℕ) → place ≡ member_place set own → (b : List ℕ) → AreKeptOf v b kept other
    → AreKeptOf v b (record { indexes = slice_set kept.indexes place index; words = slice_set kept.words place word }) other
other_kept v bundle words have set other low ne own few kept place index word place_is b are number m there =
    found_set kept place index word (member_place other m) (λ e.
    apart_parts set other m.table own.table m.is_transposed own.is_transposed (table_low v bundle words have other low number m there) few ne (e ∙ place_is))
    (pattern_at v m.table) (board_for m b) (are number m there)
