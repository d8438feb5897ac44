-- Ranks: each placement has one, each number below the count is one, and how a rank is made of places.
use Rattle.std.proofs.Common.{◌≡◌, ◌≢◌, ℕ, zero, suc, ◌+◌, ◌-◌, ◌*◌, ◌^◌, ◌<◌, ◌≤◌, true, false, cond, eqb, not, ◌⊎◌, List, [], ◌∷◌, ◌++◌, length}
use Rattle.std.proofs.Common.{map, Some, inl, inr, refl, sym, ◌∙◌, ap, ap₂, subst, arith, flat_map, zero-mul, lit<, take}
use Rattle.std.specs.Prelude.{slice_get}
use Rattle.std.specs.List.{AllByRecursion, range_with_len}
use Rattle.std.proofs.lemmas.Bool.{cases_eq, cases_Bool, both_ways, or_parts, or_from, eqb-false, eq-eqb, ne_eqb, true≢false}
use Rattle.std.proofs.lemmas.List.{length-append, length-map}
use Rattle.std.proofs.lemmas.List.FromFn.{length-range_with_len}
use Rattle.std.proofs.lemmas.Nat.{mul-le}
use Rattle.std.proofs.Math.Nat.{pow-suc, pow-le-pow_right}
use Rattle.puz_board.proofs.HasLemmas.{has_cases, has-here, has-later, has-filter, has-filter_not, has-range, in_range}
use Rattle.pat_place.specs.Patterns.{has, IsAscending, ShownPattern}
use Rattle.pat_place.specs.Placements.{IsApart, IsPlacement}
use Rattle.pat_place.specs.Laws.{IsLexicographicallyBefore}
use Rattle.pat_place.specs.Ranks.{without, lists_of, placements, falling_factorial, IsRank}
use Rattle.pat_place.proofs.ListLemmas.{Some-one, apart_from_ascending, ascending-range, ascending-filter}

-- ---- get in a list that is made of others

-- an element of a list keeps its place where another list is put behind
pub get-append_left : {A : Type 0} (xs ys : List A) (i : ℕ) (x : A) → slice_get xs i ≡ Some x → slice_get (xs ++ ys) i ≡ Some x
get-append_left [] ys i x e = cc
get-append_left (y ∷ xs) ys zero x e = e
get-append_left (y ∷ xs) ys (suc i) x e = get-append_left xs ys i x e

get-append_right : {A : Type 0} (xs ys : List A) (i : ℕ) → slice_get (xs ++ ys) (length xs + i) ≡ slice_get ys i
get-append_right [] ys i = ap (slice_get ys) (let e : 0 + i ≡ i = omega arith in e)
get-append_right (y ∷ xs) ys i = ap (slice_get (y ∷ (xs ++ ys))) (let e : suc (length xs) + i ≡ suc (length xs + i) = omega arith in e)
    ∙ get-append_right xs ys i

-- an element of xs ++ ys is in xs or in ys
get-append_cases : {A : Type 0} (xs ys : List A) (i : ℕ) (x : A) → slice_get (xs ++ ys) i ≡ Some x
    → ((i < length xs) × (slice_get xs i ≡ Some x)) ⊎ ((j : ℕ) × (i ≡ length xs + j) × (slice_get ys j ≡ Some x))
get-append_cases [] ys i x e = inr (i, omega arith, e)
get-append_cases (y ∷ xs) ys zero x e = inl (omega arith, e)
get-append_cases (y ∷ xs) ys (suc i) x e = elim (get-append_cases xs ys i x e) [
  | inl h ↦ inl (let l : i < length xs = h.0 in omega arith, h.1)
  | inr h ↦ inr (h.0, let w : i ≡ length xs + h.0 = h.1 in omega arith, h.2)
]

get-map : {A B : Type 0} (f : A → B) (xs : List A) (i : ℕ) (x : A) → slice_get xs i ≡ Some x → slice_get (map f xs) i ≡ Some (f x)
get-map f [] i x e = cc
get-map f (y ∷ xs) zero x e = ap Some (ap f (Some-one y x e))
get-map f (y ∷ xs) (suc i) x e = get-map f xs i x e

get-map_back : {A B : Type 0} (f : A → B) (xs : List A) (i : ℕ) (z : B) → slice_get (map f xs) i ≡ Some z → (x : A) × (slice_get xs i ≡ Some x) × (f x ≡ z)
get-map_back f [] i z e = cc
get-map_back f (y ∷ xs) zero z e = (y, refl, Some-one (f y) z e)
get-map_back f (y ∷ xs) (suc i) z e = get-map_back f xs i z e

-- ---- the list of lists

without_cases : (c d : ℕ) (cs : List ℕ) → ((d ≡ c) × (without c (d ∷ cs) ≡ without c cs)) ⊎ ((d ≢ c) × (without c (d ∷ cs) ≡ d ∷ without c cs))
without_cases c d cs = elim (cases_eq d c) [
  | inl e ↦ inl (e, ap (λ b. cond (not b) (d ∷ without c cs) (without c cs)) (eq-eqb d c e))
  | inr ne ↦ inr (ne, ap (λ b. cond (not b) (d ∷ without c cs) (without c cs)) (ne_eqb d c ne))
]

-- a cell other than the one taken out is still among the rest
pub has-without : (c x : ℕ) (cs : List ℕ) → has cs x ≡ true → c ≢ x → has (without c cs) x ≡ true
has-without c x cs h ne = has-filter (λ d. not (eqb d c)) x cs (ap not (ne_eqb x c (λ e. ne (sym e)))) ∙ h

-- a cell that was taken out is not among the rest
pub has-without_same : (c : ℕ) (cs : List ℕ) → has (without c cs) c ≡ false
has-without_same c cs = has-filter_not (λ d. not (eqb d c)) c cs (ap not (eq-eqb c c refl))

-- a cell that is among the rest was there before one was taken out
pub has_from-without : (c x : ℕ) (cs : List ℕ) → has (without c cs) x ≡ true → has cs x ≡ true
has_from-without c x cs h = elim (cases_eq x c) [
  | inl e ↦ absurd (both_ways (has (without c cs) c) (has-without_same c cs) (ap (has (without c cs)) (sym e) ∙ h))
  | inr ne ↦ sym (has-filter (λ d. not (eqb d c)) x cs (ap not (ne_eqb x c ne))) ∙ h
]

IsApart-without : (c : ℕ) (cs : List ℕ) → IsApart cs → IsApart (without c cs)
IsApart-without c [] a = tt
IsApart-without c (d ∷ cs) a = go (IsApart-without c cs a.1) (without_cases c d cs)
  where
    none : has (without c cs) d ≡ false
    none = elim (cases_Bool (has (without c cs) d)) [ inl t ↦ absurd (both_ways (has cs d) a.0 (has_from-without c d cs t)) | inr f ↦ f ]

    go : IsApart (without c cs) → (((d ≡ c) × (without c (d ∷ cs) ≡ without c cs)) ⊎ ((d ≢ c) × (without c (d ∷ cs) ≡ d ∷ without c cs)))
        → IsApart (without c (d ∷ cs))
    go rest (inl w) = subst IsApart (sym w.1) rest
    go rest (inr w) = subst IsApart (sym w.1) (none, rest)

-- ---- each list of different cells is there

in_flat : (f : ℕ → List (List ℕ)) (cs : List ℕ) (c i : ℕ) (z : List ℕ) → has cs c ≡ true → slice_get (f c) i ≡ Some z → (r : ℕ)
    × (slice_get (flat_map f cs) r ≡ Some z)
in_flat f [] c i z h e = absurd (true≢false (sym h))
in_flat f (d ∷ cs) c i z h e = elim (has_cases c d cs h) [
  | inl same ↦ (i, get-append_left (f d) (flat_map f cs) i z (ap (λ x. slice_get (f x) i) same ∙ e))
  | inr k ↦ let r = in_flat f cs c i z k e in (length (f d) + r.0, get-append_right (f d) (flat_map f cs) r.0 ∙ r.1)
]

-- where all of a list are among some cells, and one that is taken out isn't in it, they are among the rest
pub still_in : (c : ℕ) (p cs : List ℕ) → AllByRecursion (λ x. has cs x ≡ true) p → has p c ≡ false → AllByRecursion (λ x. has (without c cs) x ≡ true) p
still_in c [] cs all out = tt
still_in c (x ∷ p) cs all out = let o = or_parts (eqb x c) (has p c) out in
    (has-without c x cs all.0 (λ e. eqb-false x c o.0 (sym e)), still_in c p cs all.1 o.1)

-- different cells out of some cells have a place among the lists of as many
pub rank_total : (p cs : List ℕ) → IsApart p → AllByRecursion (λ x. has cs x ≡ true) p → (r : ℕ) × (slice_get (lists_of (length p) cs) r ≡ Some p)
rank_total [] cs apart all = (0, refl)
rank_total (c ∷ p) cs apart all =
    let r = rank_total p (without c cs) apart.1 (still_in c p cs all.1 apart.0) in
    in_flat (λ d. map (λ q. d ∷ q) (lists_of (length p) (without d cs))) cs c r.0 (c ∷ p) all.0
    (get-map (λ q. c ∷ q) (lists_of (length p) (without c cs)) r.0 p r.1)

-- ---- and once

head_in : (L : ℕ → List (List ℕ)) (cs : List ℕ) (i : ℕ) (z : List ℕ) → slice_get (flat_map (λ d. map (λ q. d ∷ q) (L d)) cs) i ≡ Some z → (c : ℕ)
    × (y : List ℕ) × (has cs c ≡ true) × (z ≡ c ∷ y)
head_in L [] i z e = cc
head_in L (d ∷ cs) i z e = elim (get-append_cases (map (λ q. d ∷ q) (L d)) (flat_map (λ d. map (λ q. d ∷ q) (L d)) cs) i z e) [
  | inl h ↦ let x = get-map_back (λ q. d ∷ q) (L d) i z h.1 in (d, x.0, has-here d d cs refl, sym x.2)
  | inr h ↦ let r = head_in L cs h.0 z h.2 in (r.0, r.1, has-later r.0 d cs r.2, r.3)
]

flat_one : (L : ℕ → List (List ℕ)) → ((c i j : ℕ) (z : List ℕ) → slice_get (L c) i ≡ Some z → slice_get (L c) j ≡ Some z → i ≡ j) → (cs : List ℕ)
    → IsApart cs → (i j : ℕ) (z : List ℕ)
    → slice_get (flat_map (λ d. map (λ q. d ∷ q) (L d)) cs) i ≡ Some z → slice_get (flat_map (λ d. map (λ q. d ∷ q) (L d)) cs) j ≡ Some z → i ≡ j
flat_one L one [] apart i j z a b = cc
flat_one L one (d ∷ cs) apart i j z a b =
    elim (get-append_cases block rest i z a) [
      | inl h ↦ elim (get-append_cases block rest j z b) [
        | inl k ↦ both_here h.1 k.1
        | inr k ↦ absurd (mixed i k.0 h.1 k.2)
      ]
      | inr h ↦ elim (get-append_cases block rest j z b) [
        | inl k ↦ absurd (mixed j h.0 k.1 h.2)
        | inr k ↦ let same : h.0 ≡ k.0 = flat_one L one cs apart.1 h.0 k.0 z h.2 k.2 in let e : i ≡ length block + h.0 = h.1 in
            let f : j ≡ length block + k.0 = k.1 in omega arith
      ]
    ]
  where
    block : List (List ℕ)
    block = map (λ q. d ∷ q) (L d)

    rest : List (List ℕ)
    rest = flat_map (λ d. map (λ q. d ∷ q) (L d)) cs

    both_here : slice_get block i ≡ Some z → slice_get block j ≡ Some z → i ≡ j
    both_here h k = let x = get-map_back (λ q. d ∷ q) (L d) i z h in let y = get-map_back (λ q. d ∷ q) (L d) j z k in
        one d i j x.0 x.1 (y.1 ∙ ap Some (let w : y.0 ≡ x.0 = (let v : d ∷ y.0 ≡ d ∷ x.0 = y.2 ∙ sym x.2 in cc) in w))

    mixed : (r s : ℕ) → slice_get block r ≡ Some z → slice_get rest s ≡ Some z → ⊥
    mixed r s h k =
        let x = get-map_back (λ q. d ∷ q) (L d) r z h in
        let y = head_in L cs s z k in
        let same : d ≡ y.0 = (let v : d ∷ x.0 ≡ y.0 ∷ y.1 = x.2 ∙ y.3 in cc) in
        both_ways (has cs d) apart.0 (ap (has cs) same ∙ y.2)

-- no list of k cells out of different ones comes at two places
pub rank_one : (k : ℕ) (cs : List ℕ) → IsApart cs → (i j : ℕ) (z : List ℕ) → slice_get (lists_of k cs) i ≡ Some z → slice_get (lists_of k cs) j ≡ Some z → i ≡ j
rank_one zero cs apart zero zero z a b = refl
rank_one zero cs apart zero (suc j) z a b = cc
rank_one zero cs apart (suc i) j z a b = cc
rank_one (suc k) cs apart i j z a b = flat_one (λ c. lists_of k (without c cs)) (λ c. rank_one k (without c cs) (IsApart-without c cs apart)) cs apart i j z a b

-- ---- how many, and the arithmetic of a rank

length-without_miss : (c : ℕ) (cs : List ℕ) → has cs c ≡ false → length (without c cs) ≡ length cs
length-without_miss c [] h = refl
length-without_miss c (d ∷ cs) h = go (length-without_miss c cs (or_parts (eqb d c) (has cs c) h).1) (without_cases c d cs)
  where
    go : length (without c cs) ≡ length cs → (((d ≡ c) × (without c (d ∷ cs) ≡ without c cs)) ⊎ ((d ≢ c) × (without c (d ∷ cs) ≡ d ∷ without c cs)))
        → length (without c (d ∷ cs)) ≡ suc (length cs)
    go ih (inl w) = absurd (eqb-false d c (or_parts (eqb d c) (has cs c) h).0 w.0)
    go ih (inr w) = ap length w.1 ∙ ap suc ih

-- taking out one of some different cells leaves one cell fewer
pub length-without : (c : ℕ) (cs : List ℕ) → IsApart cs → has cs c ≡ true → suc (length (without c cs)) ≡ length cs
length-without c [] a h = absurd (true≢false (sym h))
length-without c (d ∷ cs) a h = go (λ k. length-without c cs a.1 k) (without_cases c d cs)
  where
    go : (has cs c ≡ true → suc (length (without c cs)) ≡ length cs)
        → (((d ≡ c) × (without c (d ∷ cs) ≡ without c cs)) ⊎ ((d ≢ c) × (without c (d ∷ cs) ≡ d ∷ without c cs)))
        → suc (length (without c (d ∷ cs))) ≡ suc (length cs)
    go ih (inl w) = ap suc (ap length w.1 ∙ length-without_miss c cs (ap (has cs) (sym w.0) ∙ a.0))
    go ih (inr w) = elim (has_cases c d cs h) [ inl e ↦ absurd (w.0 e) | inr k ↦ ap suc (ap length w.1 ∙ ih k) ]

-- blocks of one size
length-flat : (f : ℕ → List (List ℕ)) (size : ℕ) (cs : List ℕ) → ((c : ℕ) → has cs c ≡ true → length (f c) ≡ size) → length (flat_map f cs) ≡ length cs * size
length-flat f size [] all = sym (zero-mul size)
length-flat f size (c ∷ cs) all = length-append (f c) (flat_map f cs)
    ∙ ap₂ (λ x y. x + y) (all c (has-here c c cs refl)) (length-flat f size cs (λ d h. all d (has-later d c cs h)))
    ∙ (let e : size + length cs * size ≡ suc (length cs) * size = omega arith in e)

-- out of m different cells there are m · (m - 1) · .. · (m - k + 1) lists of k
pub length_lists : (k : ℕ) (cs : List ℕ) → IsApart cs → length (lists_of k cs) ≡ falling_factorial (length cs) k
length_lists zero cs apart = refl
length_lists (suc k) cs apart = length-flat (λ c. map (λ q. c ∷ q) (lists_of k (without c cs))) (falling_factorial (length cs - 1) k) cs
    (λ c h. length-map (lists_of k (without c cs)) (λ q. c ∷ q) ∙ length_lists k (without c cs) (IsApart-without c cs apart)
    ∙ ap (λ m. falling_factorial m k) (let w = length-without c cs apart h in let e : length (without c cs) ≡ length cs - 1 = omega arith in e))

get_flat : (f : ℕ → List (List ℕ)) (size : ℕ) (cs : List ℕ) → ((c : ℕ) → has cs c ≡ true → length (f c) ≡ size) → (place c r : ℕ) (z : List ℕ)
    → slice_get cs place ≡ Some c → slice_get (f c) r ≡ Some z
    → slice_get (flat_map f cs) (place * size + r) ≡ Some z
get_flat f size [] all place c r z e h = cc
get_flat f size (d ∷ cs) all zero c r z e h = ap (slice_get (f d ++ flat_map f cs)) (let q : 0 * size + r ≡ r = omega arith in q)
    ∙ get-append_left (f d) (flat_map f cs) r z (ap (λ x. slice_get (f x) r) (Some-one d c e) ∙ h)
get_flat f size (d ∷ cs) all (suc place) c r z e h =
    ap (slice_get (f d ++ flat_map f cs)) (let n : length (f d) ≡ size = all d (has-here d d cs refl) in
    let q : suc place * size + r ≡ length (f d) + (place * size + r) = omega arith in q)
    ∙ get-append_right (f d) (flat_map f cs) (place * size + r)
    ∙ get_flat f size cs (λ x k. all x (has-later x d cs k)) place c r z e h

-- the rank of c ∷ p among cs, by the place of c and the rank of p among the others
pub rank_step : (k : ℕ) (cs : List ℕ) → IsApart cs → (place c r : ℕ) (p : List ℕ) → slice_get cs place ≡ Some c
    → slice_get (lists_of k (without c cs)) r ≡ Some p
    → slice_get (lists_of (suc k) cs) (place * falling_factorial (length cs - 1) k + r) ≡ Some (c ∷ p)
rank_step k cs apart place c r p e h = get_flat (λ c. map (λ q. c ∷ q) (lists_of k (without c cs))) (falling_factorial (length cs - 1) k) cs
    (λ c h. length-map (lists_of k (without c cs)) (λ q. c ∷ q) ∙ length_lists k (without c cs) (IsApart-without c cs apart)
    ∙ ap (λ m. falling_factorial m k) (let w = length-without c cs apart h in let e : length (without c cs) ≡ length cs - 1 = omega arith in e))
    place c r (c ∷ p) e (get-map (λ q. c ∷ q) (lists_of k (without c cs)) r p h)

-- ---- what has a rank is a placement

found_flat : (f : ℕ → List (List ℕ)) (cs : List ℕ) (i : ℕ) (z : List ℕ) → slice_get (flat_map f cs) i ≡ Some z → (c : ℕ) × (j : ℕ)
    × (has cs c ≡ true) × (slice_get (f c) j ≡ Some z)
found_flat f [] i z e = cc
found_flat f (d ∷ cs) i z e = elim (get-append_cases (f d) (flat_map f cs) i z e) [
  | inl h ↦ (d, i, has-here d d cs refl, h.1)
  | inr h ↦ let r = found_flat f cs h.0 z h.2 in (r.0, r.1, has-later r.0 d cs r.2, r.3)
]

out_of : (c : ℕ) (p cs : List ℕ) → AllByRecursion (λ x. has (without c cs) x ≡ true) p → has p c ≡ false
out_of c [] cs all = refl
out_of c (x ∷ p) cs all = or_from (eqb x c) (has p c)
    (ne_eqb x c (λ e. both_ways (has (without c cs) c) (has-without_same c cs) (ap (has (without c cs)) (sym e) ∙ all.0))) (out_of c p cs all.1)

back_in : (c : ℕ) (p cs : List ℕ) → AllByRecursion (λ x. has (without c cs) x ≡ true) p → AllByRecursion (λ x. has cs x ≡ true) p
back_in c [] cs all = tt
back_in c (x ∷ p) cs all = (has_from-without c x cs all.0, back_in c p cs all.1)

-- each list of k different ones of some cells has k cells, none of them twice and all of them from there
pub placement_of_rank : (k : ℕ) (cs : List ℕ) (i : ℕ) (z : List ℕ) → slice_get (lists_of k cs) i ≡ Some z → (length z ≡ k) × IsApart z
    × AllByRecursion (λ x. has cs x ≡ true) z
placement_of_rank zero cs zero z e = subst (λ z. (length z ≡ 0) × IsApart z × AllByRecursion (λ x. has cs x ≡ true) z) (Some-one [] z e) (refl, tt, tt)
placement_of_rank zero cs (suc i) z e = cc
placement_of_rank (suc k) cs i z e =
    let h = found_flat (λ c. map (λ q. c ∷ q) (lists_of k (without c cs))) cs i z e in
    let y = get-map_back (λ q. h.0 ∷ q) (lists_of k (without h.0 cs)) h.1 z h.3 in
    let ih = placement_of_rank k (without h.0 cs) h.1 y.0 y.1 in
    subst (λ z. (length z ≡ suc k) × IsApart z × AllByRecursion (λ x. has cs x ≡ true) z) y.2
    (ap suc ih.0, (out_of h.0 y.0 cs ih.2, ih.1), (h.2, back_in h.0 y.0 cs ih.2))

-- ---- falling_factorial factorials

-- the factor behind k falling ones from m on is m - k
pub falling_more : (m k : ℕ) → falling_factorial m (suc k) ≡ falling_factorial m k * (m - k)
falling_more m zero = omega arith
falling_more m (suc k) =
    ap (λ x. m * x) (falling_more (m - 1) k) ∙
    (let e : m - 1 - k ≡ m - suc k = omega arith in ap (λ x. m * (falling_factorial (m - 1) k * x)) e) ∙
    regroup m (falling_factorial (m - 1) k) (m - suc k)
  where
    regroup : (a b c : ℕ) → a * (b * c) ≡ a * b * c
    regroup a b c = omega arith

-- k falling factors, the first of them at most 25, multiply to no more than 25^k
pub falling_fits : (m k : ℕ) → m ≤ 25 → falling_factorial m k ≤ 25 ^ k
falling_fits m zero l = omega arith
falling_fits m (suc k) l = omega (arith, mul-le m (falling_factorial (m - 1) k) 25 (25 ^ k) l (falling_fits (m - 1) k (omega arith)), pow-suc 25 k)

-- side n has n² · (n² - 1) · .. · (n² - k + 1) lists of k different cells
pub count_of_placements : (n k : ℕ) → length (placements n k) ≡ falling_factorial (n * n) k
unfolding placements
count_of_placements n k = length_lists k (range_with_len 0 (n * n)) (apart_from_ascending (range_with_len 0 (n * n)) (ascending-range 0 (n * n)))
    ∙ ap (λ m. falling_factorial m k) (length-range_with_len 0 (n * n))

-- a step of the product fits 64 bits
pub falling_step_fits : (count cells placed : ℕ) → count ≡ falling_factorial cells placed → cells ≤ 25 → placed < 8 → count * (cells - placed) < 2 ^ 64
falling_step_fits count cells placed is few less =
    let low : count ≤ 25 ^ placed = omega (arith, falling_fits cells placed few) in
    let more : 25 ^ placed ≤ 25 ^ 7 = pow-le-pow_right (lit< tt) (let l : placed ≤ 7 = omega arith in l) in
    omega (arith, mul-le count (cells - placed) (25 ^ 7) 25 (omega arith) (omega arith))

-- ---- ranks among all placements

-- the place of a list of cells among all lists of as many is its rank
pub IsRank-from : (n : ℕ) (cells : List ℕ) (r : ℕ) → slice_get (lists_of (length cells) (range_with_len 0 (n * n))) r ≡ Some cells → IsRank n cells r
unfolding placements
IsRank-from n cells r e = e

-- a placement has one rank
pub IsRank-one : (n : ℕ) (cells : List ℕ) (r s : ℕ) → IsRank n cells r → IsRank n cells s → r ≡ s
unfolding placements
IsRank-one n cells r s a b = rank_one (length cells) (range_with_len 0 (n * n))
    (apart_from_ascending (range_with_len 0 (n * n)) (ascending-range 0 (n * n))) r s cells a b

-- a place at which a list has an element is below its length
pub get-below : {A : Type 0} (xs : List A) (i : ℕ) (x : A) → slice_get xs i ≡ Some x → i < length xs
get-below [] i x e = cc
get-below (y ∷ xs) zero x e = omega arith
get-below (y ∷ xs) (suc i) x e = let l = get-below xs i x e in omega arith

-- the rank of a list of cells is below the number of lists of as many
pub IsRank-below : (n : ℕ) (cells : List ℕ) (r : ℕ) → IsRank n cells r → r < length (placements n (length cells))
IsRank-below n cells r e = get-below (placements n (length cells)) r cells e

placements-is : (n k : ℕ) → placements n k ≡ lists_of k (range_with_len 0 (n * n))
unfolding placements
placements-is n k = refl

-- the placements of k tiles are as many as the lists of so many of the board's cells
pub length-placements : (n k count size : ℕ) → count ≡ n * n → size ≡ k → length (placements n k) ≡ length (lists_of size (range_with_len 0 count))
length-placements n k count size e f = ap length (placements-is n k) ∙ ap₂ (λ s m. length (lists_of s (range_with_len 0 m))) (sym f) (sym e)

-- numbers that are all in the range below a count are below the count
pub inside_from : (count : ℕ) (xs : List ℕ) → AllByRecursion (λ x. has (range_with_len 0 count) x ≡ true) xs → AllByRecursion (λ x. x < count) xs
inside_from count [] all = tt
inside_from count (x ∷ xs) all = (let l = (in_range 0 count x all.0).1 in omega arith, inside_from count xs all.1)

-- what a rank leads to is a placement, and of that rank
module _ (p : ShownPattern) (count size rank : ℕ) (cells : List ℕ) (is_count : count ≡ p.side * p.side) (is_size : size ≡ length p.tiles)
    (found : slice_get (lists_of size (range_with_len 0 count)) rank ≡ Some (take size cells)) where
  -- the cells found at a place among the lists are a placement of the pattern
  pub IsPlacement-found : IsPlacement (record { pattern = p; cells = take (length p.tiles) cells })
  IsPlacement-found =
      let z = placement_of_rank size (range_with_len 0 count) rank (take size cells) found in
      subst (λ k. IsPlacement (record { pattern = p; cells = take k cells })) is_size (record {
        size = z.0 ∙ is_size;
        inside = subst (λ n. AllByRecursion (λ x. x < n) (take size cells)) is_count (inside_from count (take size cells) z.2);
        apart = z.1;
      })

  -- the place at which cells are found among the lists is their rank
  pub IsRank-found : IsRank p.side (take (length p.tiles) cells) rank
  IsRank-found =
      let z = placement_of_rank size (range_with_len 0 count) rank (take size cells) found in
      subst (λ k. IsRank p.side (take k cells) rank) is_size (
      ap (λ l. slice_get l rank) (placements-is p.side (length (take size cells)) ∙ ap₂ (λ k m. lists_of k (range_with_len 0 m)) z.0 (sym is_count)) ∙ found)

-- ---- ranks go up as the lists do

-- a number below all of a list is below each one that the list has
pub above-has : (d c : ℕ) (cs : List ℕ) → AllByRecursion (λ y. d < y) cs → has cs c ≡ true → d < c
above-has d c [] all h = absurd (true≢false (sym h))
above-has d c (x ∷ cs) all h = elim (has_cases c x cs h) [ inl e ↦ subst (λ y. d < y) e all.0 | inr k ↦ above-has d c cs all.1 k ]

flat_in_order : (L : ℕ → List (List ℕ)) → ((c i j : ℕ) (y z : List ℕ) → slice_get (L c) i ≡ Some y → slice_get (L c) j ≡ Some z → i < j
    → IsLexicographicallyBefore y z) → (cs : List ℕ) → IsAscending cs → (i j : ℕ) (y z : List ℕ)
    → slice_get (flat_map (λ d. map (λ q. d ∷ q) (L d)) cs) i ≡ Some y → slice_get (flat_map (λ d. map (λ q. d ∷ q) (L d)) cs) j ≡ Some z → i < j
    → IsLexicographicallyBefore y z
flat_in_order L inner [] up i j y z a b l = cc
flat_in_order L inner (d ∷ cs) up i j y z a b l =
    elim (get-append_cases block rest i y a) [
      | inl h ↦ elim (get-append_cases block rest j z b) [
        | inl k ↦ both_here h.1 k.1
        | inr k ↦ here_and_later h.1 k.0 k.2
      ]
      | inr h ↦ elim (get-append_cases block rest j z b) [
        | inl k ↦ absurd (let w : i ≡ length block + h.0 = h.1 in let u : j < length block = k.0 in omega arith)
        | inr k ↦ flat_in_order L inner cs up.1 h.0 k.0 y z h.2 k.2 (let w : i ≡ length block + h.0 = h.1 in let u : j ≡ length block + k.0 = k.1 in
            omega arith)
      ]
    ]
  where
    block : List (List ℕ)
    block = map (λ q. d ∷ q) (L d)

    rest : List (List ℕ)
    rest = flat_map (λ d. map (λ q. d ∷ q) (L d)) cs

    both_here : slice_get block i ≡ Some y → slice_get block j ≡ Some z → IsLexicographicallyBefore y z
    both_here h k =
        let u = get-map_back (λ q. d ∷ q) (L d) i y h in
        let v = get-map_back (λ q. d ∷ q) (L d) j z k in
        let P : List ℕ → List ℕ → Type 0 = λ a b. IsLexicographicallyBefore a b in
        subst (λ a. IsLexicographicallyBefore a z) u.2 (subst (λ b. IsLexicographicallyBefore (d ∷ u.0) b) v.2 (inr (refl, inner d i j u.0 v.0 u.1 v.1 l)))

    here_and_later : slice_get block i ≡ Some y → (s : ℕ) → slice_get rest s ≡ Some z → IsLexicographicallyBefore y z
    here_and_later h s k =
        let u = get-map_back (λ q. d ∷ q) (L d) i y h in
        let v = head_in L cs s z k in
        subst (λ a. IsLexicographicallyBefore a z) u.2 (subst (λ b. IsLexicographicallyBefore (d ∷ u.0) b) (sym v.3) (inl (above-has d v.0 cs up.0 v.2)))

lists_in_order : (k : ℕ) (cs : List ℕ) → IsAscending cs → (i j : ℕ) (y z : List ℕ) → slice_get (lists_of k cs) i ≡ Some y
    → slice_get (lists_of k cs) j ≡ Some z → i < j → IsLexicographicallyBefore y z
lists_in_order zero cs up i zero y z a b l = absurd (omega arith)
lists_in_order zero cs up i (suc j) y z a b l = cc
lists_in_order (suc k) cs up i j y z a b l = flat_in_order (λ c. lists_of k (without c cs))
    (λ c. lists_in_order k (without c cs) (ascending-filter (λ d. not (eqb d c)) cs up)) cs up i j y z a b l

-- of two lists of cells, the one with the lower rank comes first in lexicographic order
pub placements_in_order : (n k r s : ℕ) (p q : List ℕ) → slice_get (placements n k) r ≡ Some p → slice_get (placements n k) s ≡ Some q → r < s
    → IsLexicographicallyBefore p q
unfolding placements
placements_in_order n k r s p q a b l = lists_in_order k (range_with_len 0 (n * n)) (ascending-range 0 (n * n)) r s p q a b l

-- numbers that are all below a count are in the range below the count
pub in_all : (count : ℕ) (xs : List ℕ) → AllByRecursion (λ x. x < count) xs → AllByRecursion (λ x. has (range_with_len 0 count) x ≡ true) xs
in_all count [] all = tt
in_all count (x ∷ xs) all = (has-range 0 count x (omega arith) (let l = all.0 in omega arith), in_all count xs all.1)

-- different cells of the board have a rank
pub IsRank-some : (n : ℕ) (cells : List ℕ) → AllByRecursion (λ c. c < n * n) cells → IsApart cells → (r : ℕ) × IsRank n cells r
unfolding placements
IsRank-some n cells inside apart = rank_total cells (range_with_len 0 (n * n)) apart (in_all (n * n) cells inside)
