-- The parts of a layer.
use Rattle.std.proofs.Common.{get_or, ◌≡◌, ℕ, false, subst, ◌≢◌, eq-eqb, ne_eqb, zero, suc, ◌+◌, ◌-◌, ◌*◌, ◌<◌, ◌≤◌, ◌==◌, ⊎_elim, Bool, cond, List}
use Rattle.std.proofs.Common.{[], ◌∷◌, ◌++◌, length, take, drop, min, sym, ◌∙◌, ap, ap₂, arith, refl}
use Rattle.std.specs.Prelude.{filter, count_by, slice_index, Result, Ok, map}
use Rattle.std.specs.List.{range_with_len, AllZip}
use Rattle.std.specs.declared.vec.Vec.{Vec}
use Rattle.std.proofs.lemmas.List.{append-nil, append_assoc}
use Rattle.std.proofs.lemmas.List.Elements.{filter-append}
use Rattle.std.proofs.lemmas.Bool.{cases_lt, false_from_ne_true}
use Rattle.std.proofs.lemmas.List.Sums.{sum_by-cons}
use Rattle.pat_place.proofs.ListLemmas.{range-append}
use lib.Seq.{drop-cons}
use Rattle.tab_make.specs.Layers.{layer_from}
use Rattle.tab_make.specs.Pieces.{all_items}

abbrev weight : Bool → ℕ
weight b = cond b 1 0

no_one : (b : Bool) → weight b ≡ 0 → b ≡ false
no_one b e = false_from_ne_true b (λ t. let one : weight b ≡ 1 = ap weight t in omega (arith, one, e))

module _ (d : ℕ) (xs : List ℕ) where
  -- a layer is that of a part and that of the rest
  pub layer-split : (a m n : ℕ) → layer_from d xs a (m + n) ≡ layer_from d xs a m ++ layer_from d xs (a + m) n
  layer-split a m n = ap (filter (λ i. slice_index xs i == d)) (range-append a m n)
      ∙ filter-append (λ i. slice_index xs i == d) (range_with_len a m) (range_with_len (a + m) n)

  -- one more entry
  pub layer-more : (a m : ℕ) → layer_from d xs a (m + 1) ≡ layer_from d xs a m ++ cond (slice_index xs (a + m) == d) ((a + m) ∷ []) []
  layer-more a m = layer-split a m 1

  -- the next entries up to so many
  pub layer-next : (a s l : ℕ) → layer_from d xs a (l - a) ≡ layer_from d xs a (min s (l - a)) ++ layer_from d xs (a + s) (l - (a + s))
  layer-next a s l = ⊎_elim
      (λ lt.
      let all : min s (l - a) ≡ l - a = omega arith in
      let none : l - (a + s) ≡ 0 = omega arith in
      sym (ap₂ (λ m n. layer_from d xs a m ++ layer_from d xs (a + s) n) all none ∙ append-nil (layer_from d xs a (l - a))))
      (λ ge.
      let some : min s (l - a) ≡ s = omega arith in
      let rest : l - a ≡ s + (l - (a + s)) = omega arith in
      ap (layer_from d xs a) rest ∙ layer-split a s (l - (a + s)) ∙ ap (λ m. layer_from d xs a m ++ layer_from d xs (a + s) (l - (a + s))) (sym some))
      (cases_lt (l - a) s)

  -- one entry more, which holds d
  pub layer-yes : (a i : ℕ) → a ≤ i → slice_index xs i ≡ d → layer_from d xs a (i + 1 - a) ≡ layer_from d xs a (i - a) ++ i ∷ []
  layer-yes a i from holds =
      let more : i + 1 - a ≡ (i - a) + 1 = omega arith in
      let at : a + (i - a) ≡ i = omega arith in
      ap (layer_from d xs a) more ∙ layer-more a (i - a)
      ∙ ap (λ k. layer_from d xs a (i - a) ++ cond (slice_index xs k == d) (k ∷ []) []) at
      ∙ ap (λ b. layer_from d xs a (i - a) ++ cond b (i ∷ []) []) (eq-eqb (slice_index xs i) d holds)

  -- one entry more, which holds another number
  pub layer-no : (a i : ℕ) → a ≤ i → slice_index xs i ≢ d → layer_from d xs a (i + 1 - a) ≡ layer_from d xs a (i - a)
  layer-no a i from differs =
      let more : i + 1 - a ≡ (i - a) + 1 = omega arith in
      let at : a + (i - a) ≡ i = omega arith in
      ap (layer_from d xs a) more ∙ layer-more a (i - a)
      ∙ ap (λ k. layer_from d xs a (i - a) ++ cond (slice_index xs k == d) (k ∷ []) []) at
      ∙ ap (λ b. layer_from d xs a (i - a) ++ cond b (i ∷ []) []) (ne_eqb (slice_index xs i) d differs)
      ∙ append-nil (layer_from d xs a (i - a))

  -- entries none of which holds d
  pub layer-none : (n a : ℕ) → a + n ≤ length xs → count_by (λ x. x == d) (take n (drop a xs)) ≡ 0 → layer_from d xs a n ≡ []
  layer-none zero a room none = refl
  layer-none (suc n) a room none =
      let here : a < length xs = omega arith in
      let head : take (suc n) (drop a xs) ≡ slice_index xs a ∷ take n (drop (suc a) xs) = ap (take (suc n)) (drop-cons xs a 0 here) in
      let split : weight (slice_index xs a == d) + count_by (λ x. x == d) (take n (drop (suc a) xs)) ≡ 0 =
      sym (sum_by-cons (λ x. cond (x == d) 1 0) (slice_index xs a) (take n (drop (suc a) xs))) ∙ sym (ap (count_by (λ x. x == d)) head) ∙ none in
      let next : suc a ≡ a + 1 = omega arith in
      let later : layer_from d xs (a + 1) n ≡ [] = layer-none n (a + 1) (omega arith)
      (subst (λ k. count_by (λ x. x == d) (take n (drop k xs)) ≡ 0) next (omega (arith, split))) in
      ap (λ b. cond b (a ∷ layer_from d xs (a + 1) n) (layer_from d xs (a + 1) n)) (no_one (slice_index xs a == d) (omega (arith, split))) ∙ later

  -- the layers of all pieces from one on
  pub pieces-joined : {Z : Type 0} (l p n : ℕ) → l ≤ (p + n) * 65536 → (lists : List (Vec ℕ Z))
      → AllZip (λ k v. v.items ≡ layer_from d xs (k * 65536) (min 65536 (l - k * 65536))) (range_with_len p n) lists
      → all_items lists ≡ layer_from d xs (p * 65536) (l - p * 65536)
  pieces-joined l p zero most [] each = sym (ap (layer_from d xs (p * 65536)) (let e : l - p * 65536 ≡ 0 = omega arith in e))
  pieces-joined l p zero most (v ∷ vs) each = elim each [ ]
  pieces-joined l p (suc n) most [] each = elim each [ ]
  pieces-joined l p (suc n) most (v ∷ vs) each =
      let next : (p + 1) * 65536 ≡ p * 65536 + 65536 = omega arith in
      ap₂ (λ a b. a ++ b) each.0 (pieces-joined l (p + 1) n (omega arith) vs each.1 ∙ ap (λ k. layer_from d xs k (l - k)) next) ∙
      sym (layer-next (p * 65536) 65536 l)

none : (i : ℕ) → i < 0 → ⊥
none i low = omega (arith, low)

-- the items of one list more
pub all_items-more : {Z : Type 0} (lists : List (Vec ℕ Z)) (i : ℕ) (v : Vec ℕ Z) → i < length lists → v ≡ get_or lists i v
    → all_items (take (i + 1) lists) ≡ all_items (take i lists) ++ v.items
all_items-more [] i v low here = elim (none i low) [ ]
all_items-more (w ∷ lists) zero v low here = append-nil w.items ∙ ap (λ (x : Vec ℕ _). x.items) (sym here)
all_items-more (w ∷ lists) (suc i) v low here =
    let next : suc i + 1 ≡ suc (i + 1) = omega arith in
    ap (λ k. all_items (take k (w ∷ lists))) next ∙ ap (λ l. w.items ++ l) (all_items-more lists i v (omega (arith, low)) here) ∙
    sym (append_assoc w.items (all_items (take i lists)) v.items)

-- the layer up to a place, and from there on
pub layer-between : (d : ℕ) (xs : List ℕ) (a i j : ℕ) → a ≤ i → i ≤ j → layer_from d xs a (j - a) ≡ layer_from d xs a (i - a) ++ layer_from d xs i (j - i)
layer-between d xs a i j low high =
    let both : j - a ≡ (i - a) + (j - i) = omega arith in
    let here : a + (i - a) ≡ i = omega arith in
    ap (layer_from d xs a) both ∙ layer-split d xs a (i - a) (j - i) ∙ ap (λ k. layer_from d xs a (i - a) ++ layer_from d xs k (j - i)) here

-- what holds of the answers of an item, of the values of those that are all `Ok`
module _ {A B E : Type 0} (P : A → Result B E → Type 0) (Q : A → B → Type 0) (turn : (a : A) (b : B) → P a (Ok b) → Q a b) where
  oks : (xs : List A) (ys : List B) → AllZip P xs (map Ok ys) → AllZip Q xs ys
  oks [] [] each = tt
  oks [] (y ∷ ys) each = elim each [ ]
  oks (x ∷ xs) [] each = elim each [ ]
  oks (x ∷ xs) (y ∷ ys) each = (turn x y each.0, oks xs ys each.1)

  -- where all results are fine, what holds of each one as a result holds of the values in their order
  pub all_oks : (xs zs : List A) (us : List (Result B E)) (ys ls : List B) → xs ≡ zs → us ≡ map Ok ys → ls ≡ ys → AllZip P xs us → AllZip Q zs ls
  all_oks xs zs us ys ls same answers values each =
      subst (λ l. AllZip Q zs l) (sym values) (oks zs ys (subst (λ l. AllZip P zs l) answers (subst (λ l. AllZip P l us) same each)))
