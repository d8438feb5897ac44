-- Lines as they are counted and kept.
use Rattle.std.proofs.Common.{◌≡◌, ◌≢◌, ℕ, suc, ◌+◌, ◌<◌, ◌≤◌, ◌⊎◌, List, [], ◌∷◌, ◌++◌, length, get_or, take, Option, Some, None, inl, inr, refl}
use Rattle.std.proofs.Common.{sym, ◌∙◌, ap, subst, arith, length-append, Bool, true, false, not, eqb}
use Rattle.std.proofs.lemmas.Bool.{eqb-false, eqb-true}
use Rattle.std.proofs.lemmas.List.{append-nil, length-take, take-append-le, take_all}
use Rattle.std.specs.Prelude.{Any, is_some, slice_get}
use Rattle.std.specs.List.{AllByRecursion}
use Rattle.pat_place.proofs.RankLemmas.{get-append_left, get-below}
use Rattle.set_sum.specs.Bundles.{most_sets}
use Rattle.set_sum.specs.Reading.{IsFirstWith}
use Rattle.set_sum.specs.ReadLines.{AreKept, AreReadLines, IsReadAsSet, IsReadLine}
use Rattle.set_sum.specs.SetTexts.{AreLines, IsLine, members_text, set_line, set_lines}
use Rattle.set_sum.specs.declared.members.Member.{Member}
use Rattle.set_sum.proofs.LineLemmas.{set_lines-push}
use Rattle.set_sum.proofs.ListLemmas.{all_at, all_push, all_weaker}

-- ---- the first element with a property, in a longer list

get-end : {X : Type 0} (xs : List X) (x : X) → slice_get (xs ++ x ∷ []) (length xs) ≡ Some x
get-end [] x = refl
get-end (y ∷ xs) x = get-end xs x

take-front : {X : Type 0} (xs ys : List X) → take (length xs) (xs ++ ys) ≡ xs
take-front [] ys = refl
take-front (x ∷ xs) ys = ap (λ s. x ∷ s) (take-front xs ys)

first-longer : {X : Type 0} (Has : X → Type 0) (xs ys : List X) (i : ℕ) → IsFirstWith Has xs i → IsFirstWith Has (xs ++ ys) i
first-longer Has xs ys i first = record {
  item = first.item;
  is_item = get-append_left xs ys i first.item first.is_item;
  has = first.has;
  first = subst (AllByRecursion (λ x. ¬ Has x)) (sym (take-append-le i xs ys (let low = get-below xs i first.item first.is_item in omega arith))) first.first;
}

first-end : {X : Type 0} (Has : X → Type 0) (xs : List X) (x : X) → AllByRecursion (λ y. ¬ Has y) xs → Has x → IsFirstWith Has (xs ++ x ∷ []) (length xs)
first-end Has xs x none has = record {
  item = x;
  is_item = get-end xs x;
  has = has;
  first = subst (AllByRecursion (λ y. ¬ Has y)) (sym (take-front xs (x ∷ []))) none;
}

-- where each member's table is below the count of tables, no member's table is missing
pub all_there : (tables : ℕ) (xs : List Member) → AllByRecursion (λ m. m.table < tables) xs → ¬ Any (λ m. tables ≤ m.table) xs
all_there tables xs all any =
    let low : (get_or xs any.0 any.1).table < tables = all_at (λ m. m.table < tables) xs any.0 any.1 any.2 all in
    let high : tables ≤ any.1.table = any.4 in
    let low_too : any.1.table < tables = subst (λ (m : Member). m.table < tables) any.3 low in
    omega arith

-- ---- one line more

module _ (tables : ℕ) (lines : List (List Member)) (members : List Member) where
  abbrev No : List Member → Type 0
  No = λ line. Any (λ m. tables ≤ m.table) line

  -- the sets of as many lines as a bundle may have are kept
  kept_more : (kept next : List (List Member)) → AreKept tables lines None kept → AllByRecursion (λ m. m.table < tables) members
      → ((length kept < most_sets) × (next ≡ kept ++ members ∷ [])) ⊎ ((most_sets ≤ length kept) × (next ≡ kept))
      → AreKept tables (lines ++ members ∷ []) None next
  kept_more kept next are there pushed = (
    elim pushed [ inl room ↦ roomy room.0 room.1 | inr full ↦ filled full.0 full.1 ],
    all_push (AllByRecursion (λ m. m.table < tables)) lines members are.1 there,
  )
    where
      count : length kept ≡ length (take most_sets lines)
      count = ap length are.0

      roomy : length kept < most_sets → next ≡ kept ++ members ∷ [] → next ≡ take most_sets (lines ++ members ∷ [])
      roomy low is =
          let cut = length-take most_sets lines in
          let c = count in
          let short : length lines < most_sets = omega arith in
          let longer : length (lines ++ members ∷ []) ≡ length lines + 1 = length-append lines (members ∷ []) in
          is ∙ ap (λ s. s ++ members ∷ []) (are.0 ∙ take_all most_sets lines (omega arith)) ∙ sym (take_all most_sets (lines ++ members ∷ []) (omega arith))

      filled : most_sets ≤ length kept → next ≡ kept → next ≡ take most_sets (lines ++ members ∷ [])
      filled high is =
          let cut = length-take most_sets lines in
          let c = count in
          is ∙ are.0 ∙ sym (take-append-le most_sets lines (members ∷ []) (omega arith))

  missing_first : (kept : List (List Member)) → AreKept tables lines None kept → Any (λ m. tables ≤ m.table) members → (next : List (List Member))
      → AreKept tables (lines ++ members ∷ []) (Some (length lines)) next
  missing_first kept are missing next = first-end No lines members
      (all_weaker (AllByRecursion (λ m. m.table < tables)) (λ line. ¬ No line) (all_there tables) lines are.1) missing

  missing_before : (kept : List (List Member)) (line : ℕ) → AreKept tables lines (Some line) kept → (next : List (List Member))
      → AreKept tables (lines ++ members ∷ []) (Some line) next
  missing_before kept line are next = first-longer No lines (members ∷ []) line are

  counted_more : (count : ℕ) → count ≡ length lines → count + 1 ≡ length (lines ++ members ∷ [])
  counted_more count is = let longer : length (lines ++ members ∷ []) ≡ length lines + 1 = length-append lines (members ∷ []) in omega arith

  -- a line all of whose tables are there
  pub read_there : (count : ℕ) (missing : Option ℕ) (kept next : List (List Member)) → AreReadLines tables lines count missing kept
      → (set : List Member) → IsReadAsSet tables members (Some set)
      → ((length kept < most_sets) × (next ≡ kept ++ set ∷ [])) ⊎ ((most_sets ≤ length kept) × (next ≡ kept))
      → AreReadLines tables (lines ++ members ∷ []) (count + 1) missing next
  read_there count missing kept next are set is pushed = record { counted = counted_more count are.counted; are_kept = go missing are.are_kept }
    where
      go : (missing : Option ℕ) → AreKept tables lines missing kept → AreKept tables (lines ++ members ∷ []) missing next
      go None h = kept_more kept next h is.1 (subst (λ s. ((length kept < most_sets) × (next ≡ kept ++ s ∷ []))
          ⊎ ((most_sets ≤ length kept) × (next ≡ kept))) is.0 pushed)
      go (Some line) h = missing_before kept line h next

  -- a line one of whose tables isn't
  pub read_missing : (count : ℕ) (missing after : Option ℕ) (kept : List (List Member)) → AreReadLines tables lines count missing kept
      → IsReadAsSet tables members None
      → ((missing ≡ None) × (after ≡ Some count)) ⊎ ((line : ℕ) × (missing ≡ Some line) × (after ≡ missing))
      → AreReadLines tables (lines ++ members ∷ []) (count + 1) after kept
  read_missing count missing after kept are is changed = record {
    counted = counted_more count are.counted;
    are_kept = elim changed [
      | inl first ↦
          subst (λ m. AreKept tables (lines ++ members ∷ []) m kept) (sym (first.1 ∙ ap Some are.counted))
          (missing_first kept (subst (λ m. AreKept tables lines m kept) first.0 are.are_kept) is kept)
      | inr before ↦
          subst (λ m. AreKept tables (lines ++ members ∷ []) m kept) (sym (before.2 ∙ before.1))
          (missing_before kept before.0 (subst (λ m. AreKept tables lines m kept) before.1 are.are_kept) kept)
    ];
  }

-- ---- the text so far

-- the text begins with some lines, which are read; behind them is the rest
pub record HasLines (tables : ℕ) (text rest : List ℕ) (count : ℕ) (missing : Option ℕ) (kept : List (List Member)) : Type 0 where
  pub lines : List (List Member)
  pub are_lines : AllByRecursion IsLine lines
  pub whole : text ≡ set_lines lines ++ rest
  pub are_read : AreReadLines tables lines count missing kept
  pub more : (count ≡ 0) ⊎ (rest ≢ [])

-- before the first line, nothing is read or kept and all of the text is left
pub no_lines : (tables : ℕ) (text : List ℕ) → HasLines tables text text 0 None []
no_lines tables text = record { lines = []; are_lines = tt; whole = refl; are_read = record { counted = refl; are_kept = (refl, tt) }; more = inl refl }

module _ (tables : ℕ) (text rest : List ℕ) (count : ℕ) (missing : Option ℕ) (kept : List (List Member)) (has : HasLines tables text rest count missing kept)
    (set : Option (List Member)) (behind : List ℕ) (read : IsReadLine tables rest set behind) where
  -- the lines with the one that is read
  abbrev pub longer : List (List Member)
  longer = has.lines ++ read.members ∷ []

  whole_more : text ≡ set_lines longer ++ behind
  whole_more = has.whole ∙ ap (λ s. set_lines has.lines ++ s) read.whole ∙ sym (set_lines-push has.lines read.members behind)

  size_more : length longer ≡ length has.lines + 1
  size_more = length-append has.lines (read.members ∷ [])

  module _ (next : ℕ) (after : Option ℕ) (keeps : List (List Member)) (are : AreReadLines tables longer next after keeps) where
    -- the text goes on behind it
    pub lines_next : behind ≢ [] → HasLines tables text behind next after keeps
    lines_next more = record {
      lines = longer;
      are_lines = all_push IsLine has.lines read.members has.are_lines read.is_line;
      whole = whole_more;
      are_read = are;
      more = inr more;
    }

    -- or it is the last
    pub lines_end : behind ≡ [] → (lines : List (List Member)) × AreLines text lines × AreReadLines tables lines next after keeps
    lines_end end = (
      longer,
      record {
        some = (let e = size_more in omega arith);
        lines = all_push IsLine has.lines read.members has.are_lines read.is_line;
        whole = whole_more ∙ ap (λ s. set_lines longer ++ s) end ∙ append-nil (set_lines longer);
      },
      are,
    )

    -- there are fewer lines than bytes
    pub lines_room : count + length rest ≤ length text → next + length behind ≤ length text
    lines_room room =
        let old : count ≡ length has.lines = has.are_read.counted in
        let new : next ≡ length longer = are.counted in
        let e = size_more in
        let cut : length rest ≡ length (set_line read.members) + length behind = ap length read.whole ∙ length-append (set_line read.members) behind in
        let line : length (set_line read.members) ≡ suc (suc (suc (length (members_text read.members ++ 10 ∷ [])))) = refl in
        omega arith

is_some-Some : {X : Type 0} (o : Option X) → is_some o ≡ true → (x : X) × (o ≡ Some x)
is_some-Some None e = absurd (let bad : false ≡ true = e in cc)
is_some-Some (Some x) e = (x, refl)

is_some-None : {X : Type 0} (o : Option X) → is_some o ≡ false → o ≡ None
is_some-None None e = refl
is_some-None (Some x) e = absurd (let bad : true ≡ false = e in cc)

-- how a test whether a line was missing before tells which is known after it
pub changed_first : (missing after : Option ℕ) (count : ℕ) (r : Bool) → is_some missing ≡ not r → r ≡ true → after ≡ Some count
    → ((missing ≡ None) × (after ≡ Some count)) ⊎ ((line : ℕ) × (missing ≡ Some line) × (after ≡ missing))
changed_first missing after count r is none set = inl (is_some-None missing (is ∙ ap not none), set)

-- where a line was found to be noted before, it is still the one that is noted as missing a table
pub changed_before : (missing after : Option ℕ) (count : ℕ) (r : Bool) → is_some missing ≡ not r → r ≡ false → after ≡ missing
    → ((missing ≡ None) × (after ≡ Some count)) ⊎ ((line : ℕ) × (missing ≡ Some line) × (after ≡ missing))
changed_before missing after count r is some same = let found = is_some-Some missing (is ∙ ap not some) in inr (found.0, found.1, same)

-- nothing is left, or something
pub nothing_left : (xs : List ℕ) (r : Bool) → r ≡ eqb (length xs) 0 → r ≡ true → xs ≡ []
nothing_left [] r is e = refl
nothing_left (x ∷ xs) r is e = absurd (let none = eqb-true (suc (length xs)) 0 (sym is ∙ e) in omega arith)

-- a list whose length isn't 0 has something in it
pub something_left : (xs : List ℕ) (r : Bool) → r ≡ eqb (length xs) 0 → r ≡ false → xs ≢ []
something_left xs r is e none = eqb-false (length xs) 0 (sym is ∙ e) (ap length none)

-- lines that are all read are kept, where a bundle may have so many
pub all_kept : (tables : ℕ) (lines : List (List Member)) (count : ℕ) (missing : Option ℕ) (kept : List (List Member))
    → AreReadLines tables lines count missing kept → missing ≡ None → count ≤ most_sets
    → (kept ≡ lines) × AllByRecursion (AllByRecursion (λ m. m.table < tables)) lines
all_kept tables lines count missing kept are none few =
    let h = subst (λ m. AreKept tables lines m kept) none are.are_kept in
    let c : count ≡ length lines = are.counted in
    (h.0 ∙ take_all most_sets lines (omega arith), h.1)

-- the line that is noted as missing is the first one with a table that isn't there
pub missing_line : (tables : ℕ) (lines : List (List Member)) (count : ℕ) (missing : Option ℕ) (kept : List (List Member)) (line : ℕ)
    → AreReadLines tables lines count missing kept → missing ≡ Some line
    → IsFirstWith (λ members. Any (λ m. tables ≤ m.table) members) lines line
missing_line tables lines count missing kept line are some = subst (λ m. AreKept tables lines m kept) some are.are_kept

-- the first place with a property is a place of the list
pub first-within : {X : Type 0} (Has : X → Type 0) (xs : List X) (i : ℕ) → IsFirstWith Has xs i → i < length xs
first-within Has xs i first = get-below xs i first.item first.is_item
