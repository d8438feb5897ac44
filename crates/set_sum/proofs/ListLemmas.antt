-- What holds of each element of a list, and the tables of members.
use Rattle.std.proofs.Common.{◌≡◌, ℕ, zero, suc, ◌+◌, ◌<◌, List, [], ◌∷◌, ◌++◌, length, map, get_or, take, drop, false, refl, sym, ◌∙◌, ap, subst, arith, Some}
use Rattle.std.specs.Prelude.{slice_get}
use Rattle.std.proofs.lemmas.List.{get_or-map, take_more, take-append-drop}
use Rattle.std.proofs.Math.Seq.{drop-cons}
use Rattle.std.specs.List.{AllByRecursion}
use Rattle.set_sum.specs.Members.{table_of}
use Rattle.set_sum.specs.Parts.{no_part, part_pattern, part_shown, parts_shown}
use Rattle.set_sum.specs.Reading.{IsFirstWith, first_side}
use Rattle.set_sum.specs.declared.members.Member.{Member}
use Rattle.set_sum.specs.declared.parts.Part.{Part}

-- ---- each element

-- what holds all along a list holds of the element at a place below its length
pub all_at : {X : Type 0} (P : X → Type 0) (xs : List X) (i : ℕ) (d : X) → i < length xs → AllByRecursion P xs → P (get_or xs i d)
all_at P [] i d low all = absurd (omega arith)
all_at P (x ∷ xs) zero d low all = all.0
all_at P (x ∷ xs) (suc i) d low all = all_at P xs i d (omega arith) all.1

-- what holds all along a list and of one more element holds with that one at the end
pub all_push : {X : Type 0} (P : X → Type 0) (xs : List X) (x : X) → AllByRecursion P xs → P x → AllByRecursion P (xs ++ x ∷ [])
all_push P [] x all h = (h, tt)
all_push P (y ∷ xs) x all h = (all.0, all_push P xs x all.1 h)

-- what holds of the first i elements and of the next one holds of the first i + 1
pub all_more : {X : Type 0} (P : X → Type 0) (xs : List X) (i : ℕ) (d : X) → i < length xs → AllByRecursion P (take i xs) → P (get_or xs i d)
    → AllByRecursion P (take (i + 1) xs)
all_more P xs i d low all h = subst (AllByRecursion P) (sym (take_more xs i d low)) (all_push P (take i xs) (get_or xs i d) all h)

-- what holds all along a list holds in each weaker form too
pub all_weaker : {X : Type 0} (P Q : X → Type 0) → ((x : X) → P x → Q x) → (xs : List X) → AllByRecursion P xs → AllByRecursion Q xs
all_weaker P Q f [] all = tt
all_weaker P Q f (x ∷ xs) all = (f x all.0, all_weaker P Q f xs all.1)

-- an element that was read at a place is the one there, whatever the default
pub read_at : {X : Type 0} (xs : List X) (i : ℕ) (x d : X) → i < length xs → x ≡ get_or xs i x → get_or xs i d ≡ x
read_at [] i x d low is = absurd (omega arith)
read_at (y ∷ xs) zero x d low is = sym is
read_at (y ∷ xs) (suc i) x d low is = read_at xs i x d (omega arith) is

-- ---- a list at one of its places

-- what is read where a list of members has ended
abbrev pub no_member : Member
no_member = record { table = 0; is_transposed = false }

-- a list is its elements before a place, the one at the place and those behind it
pub split_at : {X : Type 0} (xs : List X) (i : ℕ) (d : X) → i < length xs → xs ≡ take i xs ++ get_or xs i d ∷ drop (suc i) xs
split_at xs i d low = sym (take-append-drop i xs) ∙ ap (λ s. take i xs ++ s) (drop-cons xs i d low)

-- ---- the table of a member

module _ (tables : List Part) (m : Member) (t : Part) (there : m.table < length tables) (is_table : t ≡ get_or tables m.table t) where
  -- the table of a member, as it is shown, is the one with the member's number
  pub part_at : table_of (parts_shown tables) m ≡ part_shown t
  part_at = get_or-map part_shown tables m.table t no_part there ∙ ap part_shown (sym is_table)

  -- what holds of each table holds of it
  pub table_has : (P : Part → Type 0) → AllByRecursion P tables → P t
  table_has P all = subst P (read_at tables m.table t t there is_table) (all_at P tables m.table t there all)

-- ---- the first element with a property

-- below its length, a list has at a place the element that reading with a default gives
pub get_or-slice_get : {X : Type 0} (xs : List X) (i : ℕ) (d : X) → i < length xs → slice_get xs i ≡ Some (get_or xs i d)
get_or-slice_get [] i d low = absurd (omega arith)
get_or-slice_get (x ∷ xs) zero d low = refl
get_or-slice_get (x ∷ xs) (suc i) d low = get_or-slice_get xs i d (omega arith)

-- an element with a property, before which none has it, is the first one with it
pub first_with : {X : Type 0} (Has : X → Type 0) (xs : List X) (i : ℕ) (d : X) → i < length xs → Has (get_or xs i d)
    → AllByRecursion (λ x. ¬ Has x) (take i xs) → IsFirstWith Has xs i
first_with Has xs i d low has none = record { item = get_or xs i d; is_item = get_or-slice_get xs i d low; has = has; first = none }

-- the side of the table that was read first
pub first_side-read : (tables : List Part) (t : Part) → 0 < length tables → t ≡ get_or tables 0 t → first_side tables ≡ (part_pattern t).side
first_side-read [] t low is = absurd (omega arith)
first_side-read (u ∷ tables) t low is = ap (λ v. (part_pattern v).side) (sym is)

-- what a list maps to, at a place that was read
pub mapped_at : {X Y : Type 0} (f : X → Y) (xs : List X) (i : ℕ) (x : X) (d : Y) → i < length xs → x ≡ get_or xs i x → get_or (map f xs) i d ≡ f x
mapped_at f xs i x d low is = get_or-map f xs i x d low ∙ ap f (sym is)
