-- Members in their order, which is that of their places: two for each table, the plain member's and the transposed one's.
use Rattle.std.proofs.Common.{◌≡◌, ◌≢◌, ℕ, suc, ◌+◌, ◌*◌, ◌/◌, ◌%◌, ◌<◌, ◌⊎◌, Bool, true, false, cond, eqb, All, AllPairs, List, [], ◌∷◌, ◌++◌, inl}
use Rattle.std.proofs.Common.{inr, refl, sym, ap₂, arith, eq-eqb, ne_eqb}
use Rattle.std.specs.Prelude.{⊤}
use Rattle.std.specs.List.{AllByRecursion}
use Rattle.std.proofs.lemmas.Bool.{cases_eq, cases_lt, true≢false}
use Rattle.std.proofs.lemmas.List.Elements.{All-from_recursion, recursion_from_All}
use Rattle.std.proofs.lemmas.List.Kept.{AllPairs-cons}
use Rattle.set_sum.specs.Members.{IsBefore}
use Rattle.set_sum.specs.declared.members.Member.{Member}
use Rattle.set_sum.proofs.ListLemmas.{all_push, all_weaker}

-- the member with this table, transposed or not
abbrev pub member : ℕ → Bool → Member
member table is_transposed = record { table = table; is_transposed = is_transposed }

-- a member's place among all members
abbrev pub place : Member → ℕ
place m = 2 * m.table + cond m.is_transposed 1 0

before_by : (x y : ℕ) (s t : Bool) → IsBefore (member x s) (member y t) → place (member x s) < place (member y t)
before_by x y true true h = elim h [ inl low ↦ let l : x < y = low in omega arith | inr same ↦ absurd (true≢false same.1) ]
before_by x y true false h = elim h [ inl low ↦ let l : x < y = low in omega arith | inr same ↦ absurd (true≢false same.1) ]
before_by x y false true h = elim h [ inl low ↦ let l : x < y = low in omega arith | inr same ↦ let e : x ≡ y = same.0 in omega arith ]
before_by x y false false h = elim h [ inl low ↦ let l : x < y = low in omega arith | inr same ↦ absurd (true≢false (sym same.2)) ]

-- a member that is before another has the lower place
pub before-place : (m o : Member) → IsBefore m o → place m < place o
before-place m o h = before_by m.table o.table m.is_transposed o.is_transposed h

by_place : (x y : ℕ) (s t : Bool) → place (member x s) < place (member y t) → IsBefore (member x s) (member y t)
by_place x y true true l = inl (let low : x < y = omega arith in low)
by_place x y true false l = inl (let low : x < y = omega arith in low)
by_place x y false true l = elim (cases_lt x y) [ inl low ↦ inl low | inr high ↦ inr (let e : x ≡ y = omega arith in e, refl, refl) ]
by_place x y false false l = inl (let low : x < y = omega arith in low)

-- a member with a lower place than another is before it
pub place-before : (m o : Member) → place m < place o → IsBefore m o
place-before m o l = by_place m.table o.table m.is_transposed o.is_transposed l

one_by : (x y : ℕ) (s t : Bool) → place (member x s) ≡ place (member y t) → (x ≡ y) × (s ≡ t)
one_by x y true true e = (omega arith, refl)
one_by x y true false e = absurd (omega arith)
one_by x y false true e = absurd (omega arith)
one_by x y false false e = (omega arith, refl)

-- a member is told by its table and whether it is transposed
pub member_by : (m o : Member) → m.table ≡ o.table → m.is_transposed ≡ o.is_transposed → m ≡ o
member_by m o tables transposed = ap₂ member tables transposed

-- so it is told by its place
pub place-once : (m o : Member) → place m ≡ place o → m ≡ o
place-once m o e = let both = one_by m.table o.table m.is_transposed o.is_transposed e in member_by m o both.0 both.1

-- the member of a place
abbrev pub member_in : ℕ → Member
member_in k = member (k / 2) (eqb (k % 2) 1)

by_bit : (k : ℕ) (b : Bool) → ((b ≡ true) × (k % 2 ≡ 1)) ⊎ ((b ≡ false) × (k % 2 ≢ 1)) → place (member (k / 2) b) ≡ k
by_bit k true h = elim h [ inl odd ↦ let e : k % 2 ≡ 1 = odd.1 in omega arith | inr even ↦ absurd (true≢false even.0) ]
by_bit k false h = elim h [ inl odd ↦ absurd (true≢false (sym odd.0)) | inr even ↦ let e : k % 2 ≢ 1 = even.1 in omega arith ]

-- the member made for a place has this place
pub place-member_in : (k : ℕ) → place (member_in k) ≡ k
place-member_in k =
    by_bit k (eqb (k % 2) 1) (elim (cases_eq (k % 2) 1) [ inl odd ↦ inl (eq-eqb (k % 2) 1 odd, odd) | inr even ↦ inr (ne_eqb (k % 2) 1 even, even) ])

bit_by : (s : Bool) → cond s 1 0 < 2
bit_by true = omega arith
bit_by false = omega arith

-- the two places of a table
pub place-table : (m : Member) → (2 * m.table < place m + 1) × (place m < 2 * m.table + 2)
place-table m = let bit : cond m.is_transposed 1 0 < 2 = bit_by m.is_transposed in (omega arith, omega arith)

-- ---- members that ascend

-- the place of each is below those of all that follow it
abbrev pub AreAscending : List Member → Type 0
AreAscending [] = ⊤
AreAscending (m ∷ ms) = AllByRecursion (λ o. place m < place o) ms × AreAscending ms

-- members each before all that follow it have ascending places
pub ascending_from : (ms : List Member) → AllPairs IsBefore ms → AreAscending ms
ascending_from [] h = tt
ascending_from (m ∷ ms) h = (
  all_weaker (IsBefore m) (λ o. place m < place o) (before-place m) ms (recursion_from_All (IsBefore m) ms head),
  ascending_from ms tail,
)
  where
    head : All (IsBefore m) ms
    head = λ k d low. h 0 (suc k) d (omega arith) (omega arith)

    tail : AllPairs IsBefore ms
    tail = λ i j d low within. h (suc i) (suc j) d (omega arith) (omega arith)

-- members with ascending places are each before all that follow it
pub ascending_to : (ms : List Member) → AreAscending ms → AllPairs IsBefore ms
ascending_to [] h = λ i j d low within. absurd (omega arith)
ascending_to (m ∷ ms) h =
    AllPairs-cons IsBefore m ms (All-from_recursion (IsBefore m) ms (all_weaker (λ o. place m < place o) (IsBefore m) (place-before m) ms h.0))
    (ascending_to ms h.1)

-- ascending members and one with a higher place than all of them are ascending
pub ascending_push : (ms : List Member) (m : Member) → AreAscending ms → AllByRecursion (λ o. place o < place m) ms → AreAscending (ms ++ m ∷ [])
ascending_push [] m up below = (tt, tt)
ascending_push (o ∷ ms) m up below = (all_push (λ p. place o < place p) ms m up.0 below.0, ascending_push ms m up.1 below.1)
