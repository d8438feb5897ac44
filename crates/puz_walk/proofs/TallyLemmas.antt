-- Tallies, and what a move does to them: only the member that has the tile says another thing.
use Rattle.std.proofs.Common.{◌≡◌, ◌≢◌, ℕ, ◌+◌, ◌-◌, ◌*◌, ◌<◌, ◌≤◌, ◌⊎◌, Bool, true, false, cond, eqb, eq-eqb, ne_eqb, List, [], ◌∷◌, length, get_or}
use Rattle.std.proofs.Common.{slice_index, slice_set, Option, Some, None, zero, suc, inl, inr, sym, ◌∙◌, ap, subst, arith, get_or-set_same}
use Rattle.std.proofs.Common.{get_or-set_other}
use Rattle.std.specs.Prelude.{Any, slice_get}
use Rattle.std.proofs.lemmas.Bool.{cases_eq, cond-true, cond-false}
use Rattle.puz_board.specs.Boards.{IsBoardOf, at, blank, slid}
use Rattle.puz_board.specs.Cells.{Adjacent}
use Rattle.puz_board.proofs.BoardLemmas.{IsBoardOf-slid}
use Rattle.pat_place.specs.Patterns.{IsPattern}
use Rattle.tab_rule.specs.declared.tables.Count.{Count}
use Rattle.tab_rule.specs.declared.tables.Count.TheVariants.{Finite, Never}
use Rattle.set_sum.specs.Bundles.{ShownBundle, BundleSays, IsBundle, set_of}
use Rattle.set_sum.specs.Known.{said_by}
use Rattle.set_sum.specs.Members.{MemberSays}
use Rattle.set_sum.specs.Owners.{has_tile}
use Rattle.set_sum.specs.Parts.{ShownPart}
use Rattle.set_sum.specs.Sums.{AddUpTo}
use Rattle.set_sum.specs.declared.members.Member.{Member}
use Rattle.set_sum.proofs.AnswerLemmas.{all_get}
use Rattle.set_sum.proofs.AnyLemmas.{Any-here, Any-later}
use Rattle.set_sum.proofs.KnownLemmas.{one_place}
use Rattle.set_sum.proofs.MemberLemmas.{member_either, member_once}
use Rattle.tab_rule.proofs.StillLemmas.{at-back, slid-back, slid-near}
use Rattle.set_sum.proofs.StillLemmas.{member_still}
use Rattle.puz_walk.specs.Cuts.{GoesBeyond}
use Rattle.puz_walk.specs.StoredWords.{AreOwnersOf, HasNoOwner, IsOwner, IsOwnerOf}
use Rattle.puz_walk.specs.Tallies.{AreEntriesOf, AreTallied, IsLow, IsSlideOf, IsTold, entry_place}
use Rattle.puz_walk.specs.WordBundles.{pattern_at}
use Rattle.puz_walk.specs.declared.owners.Owner.{Owner}
use Rattle.puz_walk.specs.declared.tallies.Tally.{Tally}
use Rattle.puz_walk.proofs.OwnerLemmas.{member_pattern, member_there, owner_takes, set_is}
use Rattle.puz_walk.proofs.ShiftLemmas.{owner_or_not, sum_moves, sum_still}

-- ---- places

-- each set has 32 places
pub place_small : (t : ℕ) (x : Bool) → t < 16 → 2 * t + cond x 1 0 < 32
place_small t true low = omega arith
place_small t false low = omega arith

-- of 16 sets and 16 tables, the place of each member's entry is below 512
pub entry_place_low : (set : ℕ) (m : Member) → set < 16 → m.table < 16 → entry_place set m < 512
entry_place_low set m low few = let l = place_small m.table m.is_transposed few in omega arith

-- no two members have one
same_place : (set : ℕ) (m o : Member) → entry_place set m ≡ entry_place set o → m ≡ o
same_place set m o e = one_place m o (omega arith)

other_place : (set other : ℕ) (m o : Member) → m.table < 16 → o.table < 16 → other ≢ set → entry_place other m ≢ entry_place set o
other_place set other m o low few ne e = ne (let l = place_small m.table m.is_transposed low in let k = place_small o.table o.is_transposed few in omega arith)

-- the entries of another set stay
pub other_entries : (v : ShownBundle) (bundle : IsBundle v) (set other : ℕ) → other < length v.sets → other ≢ set → (own : Member) → own.table < 16
    → (entries : List ℕ) (place entry : ℕ) → place ≡ entry_place set own
    → (x : List ℕ) → AreEntriesOf v x entries other → AreEntriesOf v x (slice_set entries place entry) other
other_entries v bundle set other low ne own few entries place entry place_is x are number m there =
    let table : m.table < 16 = (let l = member_there v bundle other low number m there in let most = bundle.few_tables in omega arith) in
    subst (λ k. MemberSays v.tables m x (said_by k)) (sym
    (get_or-set_other entries place (entry_place other m) entry 0 (λ e. other_place set other m own table few ne (e ∙ place_is)))) (are number m there)

-- ---- entries

said_never : (entry : ℕ) → entry ≡ 255 → said_by entry ≡ Never
said_never entry e = cond-true (eqb entry 255) Never (Finite entry) (eq-eqb entry 255 e)

said_finite : (entry : ℕ) → entry ≢ 255 → said_by entry ≡ Finite entry
said_finite entry ne = cond-false (eqb entry 255) Never (Finite entry) (ne_eqb entry 255 ne)

-- an entry is the number that its member says
pub entry_is : (tables : List ShownPart) (m : Member) (b : List ℕ) (entry d : ℕ) → MemberSays tables m b (said_by entry)
    → MemberSays tables m b (Finite d) → entry ≡ d
entry_is tables m b entry d says number = elim (cases_eq entry 255) [
  | inl e ↦ absurd (member_either tables m b d number (subst (MemberSays tables m b) (said_never entry e) says))
  | inr ne ↦ member_once tables m b entry d (subst (MemberSays tables m b) (said_finite entry ne) says) number
]

-- a part of a sum
part_of : (tables : List ShownPart) (b : List ℕ) (ms : List Member) (k : ℕ) (m : Member) → slice_get ms k ≡ Some m → (d : ℕ) → AddUpTo tables ms b d
    → (first : ℕ) × MemberSays tables m b (Finite first) × (first ≤ d)
part_of tables b [] k m is d sum = absurd (let e : _ = is in cc)
part_of tables b (x ∷ ms) zero m is d sum =
    let same : x ≡ m = (let e : Some x ≡ Some m = is in cc) in
    (sum.0, subst (λ o. MemberSays tables o b (Finite sum.0)) same sum.2, let e : d ≡ sum.0 + sum.1 = sum.4 in omega arith)
part_of tables b (x ∷ ms) (suc k) m is d sum =
    let rest = part_of tables b ms k m is sum.1 sum.3 in
    (rest.0, rest.1, let l : rest.0 ≤ sum.1 = rest.2 in let e : d ≡ sum.0 + sum.1 = sum.4 in omega arith)

any_at : (P : Member → Type 0) (ms : List Member) (k : ℕ) (m : Member) → slice_get ms k ≡ Some m → P m → Any P ms
any_at P [] k m is h = absurd (let e : _ = is in cc)
any_at P (x ∷ ms) zero m is h = Any-here P x ms (subst P (let e : Some m ≡ Some x = sym is in cc) h)
any_at P (x ∷ ms) (suc k) m is h = Any-later P x ms (any_at P ms k m is h)

-- ---- a move

module _ (v : ShownBundle) (b next : List ℕ) (tile : ℕ) (slides : IsSlideOf v b next tile) where
  -- a board after the slide of a tile is a board of the bundle's side
  pub next_good : IsBoardOf v.side next
  next_good = subst (IsBoardOf v.side) slides.leads (IsBoardOf-slid v.side b slides.board (blank next) slides.near.0)

  -- the tile that slides has a number below the count of cells
  pub tile_low : tile < v.side * v.side
  tile_low = subst (λ t. t < v.side * v.side) (sym slides.tile_is) (slides.board.below (blank next) slides.near.0)

  -- the move back
  pub slides_back : IsSlideOf v next b tile
  slides_back = record {
    board = next_good;
    near = subst (λ x. Adjacent v.side (blank x) (blank b)) slides.leads (slid-near v.side b slides.board (blank next) slides.near);
    leads = ap (λ x. slid x (blank b)) (sym slides.leads) ∙ slid-back v.side b slides.board (blank next) slides.near;
    tile_is = slides.tile_is ∙ sym (at-back v.side b slides.board (blank next) slides.near) ∙ ap (λ x. at x (blank b)) slides.leads;
  }

  -- a member that hasn't the tile says the same
  still : (m : Member) → IsPattern (pattern_at v m.table) → has_tile v.side v.tables m tile ≡ false → (count : Count) → MemberSays v.tables m b count
      → MemberSays v.tables m next count
  still m pat none count says =
      subst (λ x. MemberSays v.tables m x count) slides.leads
      (member_still v.side b slides.board (blank next) slides.near v.tables m pat.tiles
      (ap (has_tile v.side v.tables m) (sym slides.tile_is) ∙ none) count says)

  still_number : (m : Member) → IsPattern (pattern_at v m.table) → has_tile v.side v.tables m tile ≡ false → (d : ℕ)
      → MemberSays v.tables m b (Finite d) → MemberSays v.tables m next (Finite d)
  still_number m pat none d says = still m pat none (Finite d) says

  module _ (bundle : IsBundle v) (set : ℕ) (low : set < length v.sets) where
    abbrev IsOf : Member → Type 0
    IsOf m = IsPattern (pattern_at v m.table)

    -- where no member has the tile, the sum stays
    pub none_says : HasNoOwner v set tile → (d : ℕ) → BundleSays v set b (Finite d) → BundleSays v set next (Finite d)
    none_says none d says = record {
      there = low;
      says =
          sum_still v.side v.tables tile tile_low IsOf b next still_number (set_of v set) (set_is v bundle set low).patterns none d says.says;
    }

    -- and the entries
    pub none_entries : HasNoOwner v set tile → (entries : List ℕ) → AreEntriesOf v b entries set → AreEntriesOf v next entries set
    none_entries none entries are number m is =
        still m (member_pattern v bundle set low number m is)
        (all_get (λ o. has_tile v.side v.tables o tile ≡ false) (set_of v set) number m is none) _ (are number m is)

    -- and nothing need be told
    pub none_told : HasNoOwner v set tile → (x : List ℕ) (entry : ℕ) → IsTold v x tile set entry
    none_told none x entry number m is takes = absurd (let no = all_get (λ o. has_tile v.side v.tables o tile ≡ false) (set_of v set) number m is none in cc)

    module _ (owner : Owner) (is : IsOwner v set tile owner) where
      abbrev own : Member
      own = owner.member

      takes : has_tile v.side v.tables own tile ≡ true
      takes = owner_takes v bundle set low tile owner is

      -- the table of the tile's owner has a number below 16
      pub own_table : own.table < 16
      own_table = let l = member_there v bundle set low is.number own is.member in let most = bundle.few_tables in omega arith

      -- each member is the owner, or hasn't the tile
      which : (number : ℕ) (m : Member) → slice_get (set_of v set) number ≡ Some m → (m ≡ own) ⊎ (has_tile v.side v.tables m tile ≡ false)
      which number m there = owner_or_not v.side v.tables tile tile_low (set_of v set)
          (set_is v bundle set low).disjoint is.number own is.member takes number m there

      -- what the owner says is told of the set
      pub own_told : (x : List ℕ) (entry : ℕ) → MemberSays v.tables own x (said_by entry) → IsTold v x tile set entry
      own_told x entry says number m there has = elim (which number m there) [
        | inl same ↦ subst (λ o. MemberSays v.tables o x (said_by entry)) (sym same) says
        | inr none ↦ absurd cc
      ]

      -- the entry of the owner is a part of the sum
      pub own_number : (x : List ℕ) (entry d : ℕ) → MemberSays v.tables own x (said_by entry) → BundleSays v set x (Finite d)
          → MemberSays v.tables own x (Finite entry) × (entry ≤ d)
      own_number x entry d says sum =
          let part = part_of v.tables x (set_of v set) is.number own is.member d sum.says in
          let same : entry ≡ part.0 = entry_is v.tables own x entry part.0 says part.1 in
          (subst (λ k. MemberSays v.tables own x (Finite k)) (sym same) part.1, let l : part.0 ≤ d = part.2 in omega arith)

      -- the sum after the move
      pub own_sum : (old new d : ℕ) → MemberSays v.tables own b (said_by old) → BundleSays v set b (Finite d)
          → MemberSays v.tables own next (Finite new) → BundleSays v set next (Finite (d - old + new))
      own_sum old new d before sum after =
          let part = own_number b old d before sum in
          let moves = sum_moves v.side v.tables tile tile_low IsOf b next still_number own takes (λ x y. y + old ≡ x + new) (λ x y k e. omega arith)
          (λ x says. (new, after, let e : old ≡ x = entry_is v.tables own b old x before says in let g : new + old ≡ x + new = omega arith in g))
          (set_of v set) (set_is v bundle set low).patterns (set_is v bundle set low).disjoint is.number is.member d sum.says in
          let is_sum : moves.0 ≡ d - old + new = (let e : moves.0 + old ≡ d + new = moves.2 in let l : old ≤ d = part.1 in omega arith) in
          record { there = low; says = subst (AddUpTo v.tables (set_of v set) next) is_sum moves.1 }

      -- and where the owner says never, the set does
      pub own_never : MemberSays v.tables own next Never → BundleSays v set next Never
      own_never says = record { there = low; says = any_at (λ m. MemberSays v.tables m next Never) (set_of v set) is.number own is.member says }

      -- the entry of the owner is the one that changes
      pub own_entries : (entries : List ℕ) (place entry : ℕ) → length entries ≡ 512 → place ≡ entry_place set own → MemberSays v.tables own next (said_by entry)
          → AreEntriesOf v b entries set → AreEntriesOf v next (slice_set entries place entry) set
      own_entries entries place entry room place_is says are number m there = elim (which number m there) [
        | inl same ↦
            let here : slice_index (slice_set entries place entry) place ≡ entry =
            get_or-set_same entries place entry 0 (let l = entry_place_low set own (let s = bundle.few_sets in omega arith) own_table in omega arith) in
            subst (λ o. MemberSays v.tables o next (said_by (slice_index (slice_set entries place entry) (entry_place set o)))) (sym same)
            (subst (λ k. MemberSays v.tables own next (said_by k)) (sym (ap (slice_index (slice_set entries place entry)) (sym place_is) ∙ here)) says)
        | inr none ↦
            let other : entry_place set m ≢ place = (λ e.
            let one : m ≡ own = same_place set m own (e ∙ place_is) in
            let has : has_tile v.side v.tables m tile ≡ true = subst (λ o. has_tile v.side v.tables o tile ≡ true) (sym one) takes in
            absurd cc) in
            subst (λ k. MemberSays v.tables m next (said_by k)) (sym (get_or-set_other entries place (entry_place set m) entry 0 other))
            (still m (member_pattern v bundle set low number m there) none _ (are number m there))
      ]

-- the owner that is kept of a tile in a set
pub owner_at : (v : ShownBundle) (owners : List (Option Owner)) → AreOwnersOf v owners → (set tile : ℕ) → set < length v.sets
    → tile < v.side * v.side → (number low : ℕ) → number ≡ set → low ≡ tile
    → (o : Option Owner) → get_or owners (32 * number + low) None ≡ o → IsOwnerOf v set tile o
owner_at v owners are set tile there inside number low number_is low_is o is =
    let same : 32 * number + low ≡ 32 * set + tile = omega arith in
    subst (IsOwnerOf v set tile) (sym (ap (λ k. get_or owners k None) same) ∙ is) (are.each set tile there inside)

-- ---- a set that is judged

module _ (v : ShownBundle) (bundle : IsBundle v) (b next : List ℕ) (tile : ℕ) (slides : IsSlideOf v b next tile) (tally : Tally)
    (kept : AreTallied v b tally) (set : ℕ) (low : set < length v.sets) (limit : ℕ) where
  -- a set of a bundle has a number below 16
  pub set_low : set < 16
  set_low = let few = bundle.few_sets in omega arith

  -- the sum, which is found at a number
  abbrev pub sum : ℕ
  sum = slice_index tally.sums set

  module _ (none : HasNoOwner v set tile) where
    sum_stays : BundleSays v set next (Finite sum)
    sum_stays = none_says v b next tile slides bundle set low none sum (kept.each set low).says

    -- where no member has the tile and the kept sum is below the limit, the set's sum is so after the move
    pub still_low : sum < limit → IsLow v next limit set
    still_low below = record { sum = sum; says = sum_stays; low = below }

    -- where no member has the tile and the kept sum isn't below the limit, the next board goes beyond it
    pub still_cut : (sum < limit → ⊥) → GoesBeyond v next limit
    still_cut above = (set, Finite sum, sum_stays, let l : limit ≤ sum = omega arith in l)

  module _ (owner : Owner) (is : IsOwner v set tile owner) (place : ℕ) (place_is : place ≡ entry_place set owner.member) where
    old_says : MemberSays v.tables owner.member b (said_by (slice_index tally.entries place))
    old_says = subst (λ k. MemberSays v.tables owner.member b (said_by (slice_index tally.entries k))) (sym place_is)
        ((kept.each set low).are is.number owner.member is.member)

    -- the entry before the move is a part of the sum
    pub entry_fits : slice_index tally.entries place ≤ sum
    entry_fits = (own_number v b next tile slides bundle set low owner is b (slice_index tally.entries place) sum old_says (kept.each set low).says).1

    module _ (entry : ℕ) (says : MemberSays v.tables owner.member next (said_by entry)) where
      sum_moved : entry ≢ 255 → BundleSays v set next (Finite (sum - slice_index tally.entries place + entry))
      sum_moved ne =
          own_sum v b next tile slides bundle set low owner is (slice_index tally.entries place) entry sum old_says (kept.each set low).says
          (subst (MemberSays v.tables owner.member next) (said_finite entry ne) says)

      -- where the sum with the owner's new entry is below a limit under 255, the set's sum is so after the move
      pub moved_low : limit < 255 → sum - slice_index tally.entries place + entry < limit → IsLow v next limit set
      moved_low small below = record { sum = sum - slice_index tally.entries place + entry; says = sum_moved (λ e. omega arith); low = below }

      -- where the sum with the owner's new entry isn't below the limit, the next board goes beyond it
      pub moved_cut : (sum - slice_index tally.entries place + entry < limit → ⊥) → GoesBeyond v next limit
      moved_cut above = elim (cases_eq entry 255) [
        | inl e ↦ (
          set,
          Never,
          own_never v b next tile slides bundle set low owner is
              (subst (MemberSays v.tables owner.member next) (said_never entry e) says),
          tt,
        )
        | inr ne ↦ (
          set,
          Finite (sum - slice_index tally.entries place + entry),
          sum_moved ne,
          let l : limit ≤ sum - slice_index tally.entries place + entry = omega arith in l,
        )
      ]
