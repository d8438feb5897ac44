-- Words of tables, one after the other, and how many placements the tables have.
use Rattle.std.proofs.Common.{true, false, ◌≡◌, ◌∙◌, ◌+◌, ◌*◌, ◌<◌, ◌⊎◌, ℕ, zero, suc, List, [], ◌∷◌, ◌++◌, Option, Some, None}
use Rattle.std.proofs.Common.{MatchOption, inl, inr, is_some, ap, arith, drop, get_or, length, refl, slice_get, slice_index_or, sym, take}
use Rattle.std.specs.List.{sum_by}
use Rattle.std.proofs.lemmas.Bool.{cases_lt}
use Rattle.std.proofs.lemmas.Grind.{common_steps}
use Rattle.std.proofs.lemmas.List.{drop_more}
use Rattle.std.proofs.lemmas.List.Sums.{sum_by_more}
use Rattle.std.proofs.lemmas.Option.{gets}
use Rattle.pat_place.specs.Patterns.{ShownPattern}
use Rattle.pat_place.specs.Ranks.{falling_factorial}
use Rattle.tab_file.specs.Tables.{Table}
use Rattle.set_sum.specs.Bundles.{ShownBundle}
use Rattle.set_sum.specs.Parts.{ShownPart, no_part, part_pattern, part_shown}
use Rattle.set_sum.specs.declared.parts.Part.TheVariants.{Full}
use Rattle.set_sum.proofs.ListLemmas.{get_or-slice_get}
use Rattle.edge_words.specs.Words.{ShownWords}
use Rattle.puz_walk.specs.WordBundles.{HasWords, pattern_at}
use Rattle.pdb_prove.specs.Steps.{HaveRooms, IsRoomFor, IsWantedIf}
use Rattle.pdb_prove.specs.declared.words.TableWords.{TableWords}

same_below : {X : Type 0} (xs : List X) (y x : X) (t : ℕ) → t < length xs → slice_get (xs ++ y ∷ []) t ≡ Some x → slice_get xs t ≡ Some x
same_below xs y x t low is = grind (arith, common_steps, gets)

last_is : {X : Type 0} (xs : List X) (y x : X) → slice_get (xs ++ y ∷ []) (length xs) ≡ Some x → x ≡ y
last_is xs y x is = grind (arith, common_steps, gets)

-- where something is found, no words are wanted
pub not_wanted : {A : Type 0} (found : A) (v : ShownBundle) (words : Option TableWords) → IsWantedIf (Some found) v words → words ≡ None
not_wanted found v None is = refl
not_wanted found v (Some words) is = absurd (let e : true ≡ false = is.0 in cc)

-- and else there is all memory for them
pub room_wanted : (A : Type 0) (v : ShownBundle) (words : Option TableWords) → IsWantedIf {A = A} None v words → (Else : Type 0)
    → MatchOption words Else (IsRoomFor v)
room_wanted A v None is Else = absurd (let e : false ≡ true = is in cc)
room_wanted A v (Some words) is Else = is.1

-- the same, asked of the words
pub none_wanted : (words : Option TableWords) → is_some words ≡ false → words ≡ None
none_wanted None none = refl
none_wanted (Some words) none = absurd (let e : true ≡ false = none in cc)

pub some_wanted : (v : ShownBundle) (Else Other : Type 0) (words : Option TableWords) → is_some words ≡ true
    → MatchOption words Else (IsRoomFor v) → MatchOption words Other (IsRoomFor v)
some_wanted v Else Other None some is = absurd (let e : false ≡ true = some in cc)
some_wanted v Else Other (Some words) some is = is

-- an element of a list with one more is one of the list, or that one
get_push : {X : Type 0} (xs : List X) (y x : X) (t : ℕ) → slice_get (xs ++ y ∷ []) t ≡ Some x
    → (slice_get xs t ≡ Some x) ⊎ ((t ≡ length xs) × (x ≡ y))
get_push [] y x zero is = inr (refl, (let s : Some y ≡ Some x = is in cc))
get_push [] y x (suc t) is = absurd (let s : None ≡ Some x = is in cc)
get_push (z ∷ xs) y x zero is = inl is
get_push (z ∷ xs) y x (suc t) is = elim (get_push xs y x t is) [
  | inl there ↦ inl there
  | inr last ↦ inr (ap suc last.0, last.1)
]

-- with memory for the words of the next table there is memory for those of all tables so far and of this one
pub more_rooms : (v : ShownBundle) (rooms : List ShownPattern) (room : ShownPattern)
    → ((t : ℕ) (r : ShownPattern) → slice_get rooms t ≡ Some r → r ≡ pattern_at v t) → room ≡ pattern_at v (length rooms)
    → (t : ℕ) (r : ShownPattern) → slice_get (rooms ++ room ∷ []) t ≡ Some r → r ≡ pattern_at v t
more_rooms v rooms room each here t r is = elim (get_push rooms room r t is) [
  | inl there ↦ each t r there
  | inr last ↦ last.1 ∙ here ∙ ap (pattern_at v) (sym last.0)
]

-- of the memory for the words of all tables, that for the next table comes first
pub next_room : (v : ShownBundle) (all : List ShownPattern) → HaveRooms v all → (n : ℕ) → n < length v.tables → (room : ShownPattern)
    → room ≡ slice_index_or (drop n all) 0 room → room ≡ pattern_at v n
next_room v all have n low room is =
    let size = have.size in
    let more = drop_more all n room (omega arith) in
    let first : room ≡ get_or all n room = is ∙ ap (λ xs. slice_index_or xs 0 room) more in
    have.each n room (get_or-slice_get all n room (omega arith) ∙ ap Some (sym first))

drop_one : {X : Type 0} (k : ℕ) (xs : List X) → drop 1 (drop k xs) ≡ drop (suc k) xs
drop_one zero xs = refl
drop_one (suc k) [] = refl
drop_one (suc k) (x ∷ xs) = drop_one k xs

-- and behind it that for the others
pub rooms_left : (all : List ShownPattern) (n : ℕ) → take 0 (drop n all) ++ drop 1 (drop n all) ≡ drop (n + 1) all
rooms_left all n = drop_one n all ∙ ap (λ k. drop k all) (let e : suc n ≡ n + 1 = omega arith in e)

module _ (v : ShownBundle) (n : ℕ) (table : Table) (shows : part_shown (Full table) ≡ slice_index_or v.tables n no_part)
    (side : (part_pattern (Full table)).side ≡ v.side) where
  -- the words of the next table stand behind those of the tables before it
  pub more_words : (all : List ShownWords) (w : ShownWords) → length all ≡ n → ((t : ℕ) → t < n → HasWords v all t) → w.pattern ≡ table.pattern
      → (t : ℕ) → t < n + 1 → HasWords v (all ++ w ∷ []) t
  more_words all w count have pattern t low = elim (cases_lt t n) [
    | inl below ↦ record {
      full = (have t below).full;
      pattern = λ x is. (have t below).pattern x (same_below all w x t (omega (arith, below, count)) is);
    }
    | inr above ↦
        let here : t ≡ n = omega (arith, above, low) in
        let last : t ≡ length all = omega (arith, here, count) in
        record {
          full = rw here (sym (ap (λ (part : ShownPart). part.is_folded) shows));
          pattern = λ x is. let same = last_is all w x (rw last at is) in rw (same, here, ← shows, ← side) pattern;
        }
  ]

  -- the placements of the next table count besides those of the tables before it
  pub more_placements : (m : ℕ) → n < length v.tables → m ≡ sum_by (λ part. falling_factorial (v.side * v.side) (length part.tiles)) (take n v.tables)
      → (more : ℕ) → more ≡ falling_factorial (table.pattern.side * table.pattern.side) (length table.pattern.tiles)
      → m + more ≡ sum_by (λ part. falling_factorial (v.side * v.side) (length part.tiles)) (take (n + 1) v.tables)
  more_placements m low is more counts =
      let next = sum_by_more (λ (part : ShownPart). falling_factorial (v.side * v.side) (length part.tiles)) v.tables n no_part low in
      let here = ap (λ (part : ShownPart). falling_factorial (v.side * v.side) (length part.tiles)) shows in
      let counted = rw side at counts in omega (arith, next, here, counted, is)
