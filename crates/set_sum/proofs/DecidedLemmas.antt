-- Tables and a set text make a bundle or have a fault.
use Rattle.std.proofs.Common.{◌≡◌, ◌≢◌, ℕ, zero, suc, ◌+◌, ◌/◌, ◌<◌, ◌≤◌, ◌⊎◌, Bool, true, false, List, [], ◌∷◌, ◌++◌, length, inl, inr, refl, sym}
use Rattle.std.proofs.Common.{◌∙◌, ap, subst, arith, length-append}
use Rattle.std.specs.Prelude.{Any, ◌==◌}
use Rattle.std.specs.List.{AllByRecursion}
use Rattle.std.proofs.lemmas.Bool.{cases_eq, cases_lt, eqb-true, eq-eqb}
use Rattle.std.proofs.lemmas.List.{append-nil, append_cancel_left}
use Rattle.std.proofs.lemmas.List.Folds.{Any-from_list_any, list_any-from_Any}
use Rattle.puz_board.specs.Costs.{has}
use Rattle.set_sum.specs.Bundles.{ShownBundle, most_sets, most_tables}
use Rattle.set_sum.specs.Members.{AreOnePattern, pattern_of, patterns_of_set}
use Rattle.set_sum.specs.Parts.{ShownPart, part_pattern, parts_shown}
use Rattle.set_sum.specs.Reading.{AreAlike, AreFew, AreSets, IsBundleOf, IsSetFaultOf, IsFirstWith, NamesNoTable, NamesOverlap, NamesTwice, first_side}
use Rattle.set_sum.specs.SetTexts.{AreLines, BeginsWithNoLine, IsFirstBadLine, IsLine, members_text, member_text, set_line, set_lines}
use Rattle.set_sum.specs.Sums.{HaveTwo, Overlap}
use Rattle.set_sum.specs.declared.faults.SetFault.{SetFault}
use Rattle.set_sum.specs.declared.faults.SetFault.TheVariants.{S1, S2, S3, S4, S5, S6}
use Rattle.set_sum.specs.declared.members.Member.{Member}
use Rattle.set_sum.specs.declared.parts.Part.{Part}
use Rattle.set_sum.proofs.AnyLemmas.{Any-cases, Any-here, Any-later, Any-none, Any-weaker}
use Rattle.set_sum.proofs.LineLemmas.{set_line-text, set_lines-cons}
use Rattle.set_sum.proofs.ListLemmas.{all_weaker}
use Rattle.set_sum.proofs.NumeralLemmas.{head_is, members_text-cons, tail_is}
use Rattle.set_sum.proofs.OrderLemmas.{AreAscending, ascending_from, ascending_to, member_in, place, place-member_in, place-once, place-table}

-- ---- what can be decided

abbrev Decided : Type 0 → Type 0
Decided P = P ⊎ (¬ P)

is_true_decided : (b : Bool) → Decided (b ≡ true)
is_true_decided true = inl refl
is_true_decided false = inr (λ e. cc)

any_decided : {X : Type 0} (P : X → Type 0) → ((x : X) → Decided (P x)) → (xs : List X) → Decided (Any P xs)
any_decided P dec [] = inr (Any-none P)
any_decided P dec (x ∷ xs) = elim (dec x) [
  | inl here ↦ inl (Any-here P x xs here)
  | inr not_here ↦ elim (any_decided P dec xs) [
    | inl later ↦ inl (Any-later P x xs later)
    | inr not_later ↦ inr (λ any. elim (Any-cases P x xs any) [ inl h ↦ not_here h | inr h ↦ not_later h ])
  ]
]

-- each element lacks what is decided, or there is a first one that has it
first_or_none : {X : Type 0} (Has : X → Type 0) → ((x : X) → Decided (Has x)) → (xs : List X) → AllByRecursion (λ x. ¬ Has x) xs
    ⊎ ((i : ℕ) × IsFirstWith Has xs i)
first_or_none Has dec [] = inl tt
first_or_none Has dec (x ∷ xs) = elim (dec x) [
  | inl here ↦ inr (0, record { item = x; is_item = refl; has = here; first = tt })
  | inr not_here ↦ elim (first_or_none Has dec xs) [
    | inl none ↦ inl (not_here, none)
    | inr h ↦ inr (suc h.0, record { item = h.1.item; is_item = h.1.is_item; has = h.1.has; first = (not_here, h.1.first) })
  ]
]

-- ---- whether a line begins a text

abbrev BeginsWith : List ℕ → List ℕ → Type 0
BeginsWith xs text = (rest : List ℕ) × (text ≡ xs ++ rest)

begins_decided : (xs text : List ℕ) → Decided (BeginsWith xs text)
begins_decided [] text = inl (text, refl)
begins_decided (x ∷ xs) [] = inr (λ h. let e : _ = h.1 in cc)
begins_decided (x ∷ xs) (y ∷ text) = elim (cases_eq x y) [
  | inl same ↦ elim (begins_decided xs text) [
    | inl h ↦ inl (h.0, λ i. sym same i ∷ h.1 i)
    | inr none ↦ inr (λ h. none (h.0, tail_is y x text (xs ++ h.0) h.1))
  ]
  | inr other ↦ inr (λ h. other (sym (head_is y x text (xs ++ h.0) h.1)))
]

-- the text begins with the rest of a line, whose members have places from `low` on
record EndsLine (low : ℕ) (text : List ℕ) : Type 0 where
  members : List Member
  behind : List ℕ
  from_low : AllByRecursion (λ m. low ≤ place m) members
  short : AllByRecursion (λ m. m.table < 100) members
  ascending : AreAscending members
  whole : text ≡ members_text members ++ 10 ∷ behind

-- its first member is that of `low`, or all are behind it
from_next : (low : ℕ) (text : List ℕ) (members : List Member) (behind : List ℕ) → AllByRecursion (λ m. low ≤ place m) members
    → AllByRecursion (λ m. m.table < 100) members → AreAscending members
    → text ≡ members_text members ++ 10 ∷ behind → ((t : List ℕ) × (text ≡ 32 ∷ (member_text (member_in low) ++ t)) × EndsLine (low + 1) t)
    ⊎ EndsLine (low + 1) text
from_next low text [] behind from_low short ascending whole =
    inr (record { members = []; behind = behind; from_low = tt; short = tt; ascending = tt; whole = whole })
from_next low text (m ∷ ms) behind from_low short ascending whole = elim (cases_eq (place m) low) [
  | inl same ↦ inl (
    members_text ms ++ 10 ∷ behind,
    whole ∙ members_text-cons m ms (10 ∷ behind) ∙ ap (λ o. 32 ∷ (member_text o ++ (members_text ms ++ 10 ∷ behind)))
        (place-once m (member_in low) (same ∙ sym (place-member_in low))),
    record {
      members = ms;
      behind = behind;
      from_low = all_weaker (λ o. place m < place o) (λ o. low + 1 ≤ place o) (λ o up. omega arith) ms ascending.0;
      short = short.1;
      ascending = ascending.1;
      whole = refl;
    },
  )
  | inr other ↦ inr (let first : low ≤ place m = from_low.0 in record {
    members = m ∷ ms;
    behind = behind;
    from_low = (omega arith, all_weaker (λ o. place m < place o) (λ o. low + 1 ≤ place o) (λ o up. omega arith) ms ascending.0);
    short = short;
    ascending = ascending;
    whole = whole;
  })
]

-- so it is decided from the last place down
ends_decided : (k low : ℕ) → low + k ≡ 200 → (text : List ℕ) → Decided (EndsLine low text)
ends_decided zero low all text = elim (begins_decided (10 ∷ []) text) [
  | inl h ↦ inl (record { members = []; behind = h.0; from_low = tt; short = tt; ascending = tt; whole = h.1 })
  | inr none ↦ inr (λ e. no_more none e.members e.behind e.from_low e.short e.whole)
]
  where
    no_more : ¬ BeginsWith (10 ∷ []) text → (members : List Member) (behind : List ℕ) → AllByRecursion (λ m. low ≤ place m) members
        → AllByRecursion (λ m. m.table < 100) members
        → text ≡ members_text members ++ 10 ∷ behind → ⊥
    no_more none [] behind from_low short whole = none (behind, whole)
    no_more none (m ∷ ms) behind from_low short whole = let first : low ≤ place m = from_low.0 in let high : m.table < 100 = short.0 in
        let last = (place-table m).1 in omega arith
ends_decided (suc k) low all text = elim (ends_decided k (low + 1) (omega arith) text) [
  | inl e ↦ inl (record {
    members = e.members;
    behind = e.behind;
    from_low = all_weaker (λ m. low + 1 ≤ place m) (λ m. low ≤ place m) (λ m up. omega arith) e.members e.from_low;
    short = e.short;
    ascending = e.ascending;
    whole = e.whole;
  })
  | inr above ↦ elim (begins_decided (32 ∷ member_text (member_in low)) text) [
    | inr none ↦ inr (λ e. elim (from_next low text e.members e.behind e.from_low e.short e.ascending e.whole) [ inl h ↦ none (h.0, h.1) | inr h ↦ above h ])
    | inl h ↦ elim (ends_decided k (low + 1) (omega arith) h.0) [
      | inl e ↦ inl (let here : place (member_in low) ≡ low = place-member_in low in record {
        members = member_in low ∷ e.members;
        behind = e.behind;
        from_low = (omega arith, all_weaker (λ m. low + 1 ≤ place m) (λ m. low ≤ place m) (λ m up. omega arith) e.members e.from_low);
        short = (let l : low / 2 < 100 = omega arith in l, e.short);
        ascending = (all_weaker (λ m. low + 1 ≤ place m) (λ m. place (member_in low) < place m) (λ m up. omega arith) e.members e.from_low, e.ascending);
        whole = h.1 ∙ ap (λ t. 32 ∷ (member_text (member_in low) ++ t)) e.whole ∙ sym (members_text-cons (member_in low) e.members (10 ∷ e.behind));
      })
      | inr none ↦ inr (λ e. elim (from_next low text e.members e.behind e.from_low e.short e.ascending e.whole) [
        | inl g ↦ none (subst (EndsLine (low + 1)) (append_cancel_left (32 ∷ member_text (member_in low)) g.0 h.0 (sym g.1 ∙ h.1)) g.2)
        | inr g ↦ above g
      ])
    ]
  ]
]

-- a line at the front of a text
record HasLine (text : List ℕ) : Type 0 where
  members : List Member
  behind : List ℕ
  is_line : IsLine members
  whole : text ≡ set_line members ++ behind

-- the word `set`, and then the rest of a line with a member
line_decided : (text : List ℕ) → Decided (HasLine text)
line_decided text = elim (begins_decided (115 ∷ 101 ∷ 116 ∷ []) text) [
  | inr none ↦ inr (λ h. none (members_text h.members ++ 10 ∷ h.behind, h.whole ∙ set_line-text h.members h.behind))
  | inl word ↦ elim (ends_decided 200 0 refl word.0) [
    | inr none ↦ inr (λ h. let line = h.is_line in none (record {
      members = h.members;
      behind = h.behind;
      from_low = all_weaker (λ m. m.table < 100) (λ m. 0 ≤ place m) (λ m short. omega arith) h.members line.short;
      short = line.short;
      ascending = ascending_from h.members line.ascending;
      whole = behind_word word.0 h.members h.behind (sym word.1 ∙ h.whole);
    }))
    | inl e ↦ by_members word.0 word.1 e.members e.behind e.short e.ascending e.whole
  ]
]
  where
    behind_word : (rest : List ℕ) (members : List Member) (behind : List ℕ) → 115 ∷ 101 ∷ 116 ∷ rest ≡ set_line members ++ behind
        → rest ≡ members_text members ++ 10 ∷ behind
    behind_word rest members behind same = append_cancel_left (115 ∷ 101 ∷ 116 ∷ []) rest (members_text members ++ 10 ∷ behind)
        (same ∙ set_line-text members behind)

    no_members : (rest behind : List ℕ) (members : List Member) (other : List ℕ) → rest ≡ 10 ∷ behind → 0 < length members
        → rest ≡ members_text members ++ 10 ∷ other → ⊥
    no_members rest behind [] other is some same = omega arith
    no_members rest behind (m ∷ ms) other is some same =
        let first = head_is 10 32 behind (member_text m ++ (members_text ms ++ 10 ∷ other)) (sym is ∙ same ∙ members_text-cons m ms (10 ∷ other)) in omega arith

    by_members : (rest : List ℕ) → text ≡ 115 ∷ 101 ∷ 116 ∷ rest → (members : List Member) (behind : List ℕ)
        → AllByRecursion (λ m. m.table < 100) members → AreAscending members
        → rest ≡ members_text members ++ 10 ∷ behind → Decided (HasLine text)
    by_members rest word [] behind short ascending whole =
        inr (λ h. let line = h.is_line in no_members rest behind h.members h.behind whole line.some (behind_word rest h.members h.behind (sym word ∙ h.whole)))
    by_members rest word (m ∷ ms) behind short ascending whole = inl (record {
      members = m ∷ ms;
      behind = behind;
      is_line = record { some = omega arith; short = short; ascending = ascending_to (m ∷ ms) ascending };
      whole = word ∙ ap (λ t. 115 ∷ 101 ∷ 116 ∷ t) whole ∙ sym (set_line-text (m ∷ ms) behind);
    })

-- ---- the lines of a text, as far as lines go

record HasLines (text : List ℕ) : Type 0 where
  lines : List (List Member)
  rest : List ℕ
  are_lines : AllByRecursion IsLine lines
  whole : text ≡ set_lines lines ++ rest
  bad : BeginsWithNoLine rest

shorter : (text : List ℕ) (members : List Member) (behind : List ℕ) → text ≡ set_line members ++ behind → length behind < length text
shorter text members behind whole =
    let size : length text ≡ length (115 ∷ 101 ∷ 116 ∷ (members_text members ++ 10 ∷ behind)) = ap length (whole ∙ set_line-text members behind) in
    let parts : length (members_text members ++ 10 ∷ behind) ≡ length (members_text members) + length (10 ∷ behind) =
    length-append (members_text members) (10 ∷ behind) in
    omega arith

no_lines : (text : List ℕ) → ¬ HasLine text → HasLines text
no_lines text none = record {
  lines = [];
  rest = text;
  are_lines = tt;
  whole = refl;
  bad = λ members behind is_line whole. none (record { members = members; behind = behind; is_line = is_line; whole = whole });
}

one_line_more : (text : List ℕ) (first : HasLine text) → HasLines first.behind → HasLines text
one_line_more text first others = record {
  lines = first.members ∷ others.lines;
  rest = others.rest;
  are_lines = (first.is_line, others.are_lines);
  whole = first.whole ∙ ap (λ t. set_line first.members ++ t) others.whole ∙ sym (set_lines-cons first.members others.lines others.rest);
  bad = others.bad;
}

lines_found : (most : ℕ) (text : List ℕ) → length text ≤ most → HasLines text
lines_found zero text low = elim (line_decided text) [
  | inr none ↦ no_lines text none
  | inl first ↦ let less = shorter text first.members first.behind first.whole in absurd (omega arith)
]
lines_found (suc most) text low = elim (line_decided text) [
  | inr none ↦ no_lines text none
  | inl first ↦ let less = shorter text first.members first.behind first.whole in one_line_more text first (lines_found most first.behind (omega arith))
]

-- a text is one of lines, or has a first bad one
lines_or_bad : (text : List ℕ) → ((sets : List (List Member)) × AreLines text sets) ⊎ ((line : ℕ) × IsFirstBadLine text line)
lines_or_bad text = let has = lines_found (length text) text (omega arith) in by_rest has.lines has.rest has.are_lines has.whole has.bad
  where
    bad_at : (lines : List (List Member)) (rest : List ℕ) → AllByRecursion IsLine lines → text ≡ set_lines lines ++ rest → BeginsWithNoLine rest
        → (length lines ≡ 0) ⊎ (rest ≢ []) → IsFirstBadLine text (length lines)
    bad_at lines rest are_lines whole bad more = record { before = lines; rest = rest; number = refl; lines = are_lines; whole = whole; more = more; bad = bad }

    by_rest : (lines : List (List Member)) (rest : List ℕ) → AllByRecursion IsLine lines → text ≡ set_lines lines ++ rest → BeginsWithNoLine rest
        → ((sets : List (List Member)) × AreLines text sets) ⊎ ((line : ℕ) × IsFirstBadLine text line)
    by_rest [] rest are_lines whole bad = inr (0, bad_at [] rest are_lines whole bad (inl refl))
    by_rest (l ∷ ls) [] are_lines whole bad = inl (l ∷ ls, record { some = omega arith; lines = are_lines; whole = whole ∙ append-nil (set_lines (l ∷ ls)) })
    by_rest (l ∷ ls) (r ∷ rs) are_lines whole bad = inr (length (l ∷ ls), bad_at (l ∷ ls) (r ∷ rs) are_lines whole bad (inr (λ e. cc)))

-- ---- tables that overlap

overlap_decided : (p q : List ℕ) → Decided (Overlap p q)
overlap_decided p q = elim (any_decided (λ t. has q t ≡ true) (λ t. is_true_decided (has q t)) p) [
  | inl any ↦ inl (any.1, list_any-from_Any (λ x. x == any.1) p (any.0, any.1, any.2, any.3, eq-eqb any.1 any.1 refl), any.4)
  | inr none ↦ inr (λ h. none (Any-weaker (λ x. (x == h.0) ≡ true) (λ x. has q x ≡ true)
      (λ x same. subst (λ t. has q t ≡ true) (sym (eqb-true x h.0 same)) h.2) p (Any-from_list_any (λ x. x == h.0) p h.1)))
]

two_decided : {X : Type 0} (R : X → X → Type 0) → ((x y : X) → Decided (R x y)) → (xs : List X) → Decided (HaveTwo R xs)
two_decided R dec [] = inr (λ h. h)
two_decided R dec (x ∷ xs) = elim (any_decided (R x) (dec x) xs) [
  | inl any ↦ inl (inl any)
  | inr none ↦ elim (two_decided R dec xs) [
    | inl others ↦ inl (inr others)
    | inr no_others ↦ inr (λ h. elim h [ inl any ↦ none any | inr others ↦ no_others others ])
  ]
]

list_decided : (xs ys : List ℕ) → Decided (xs ≡ ys)
list_decided [] [] = inl refl
list_decided [] (y ∷ ys) = inr (λ e. cc)
list_decided (x ∷ xs) [] = inr (λ e. cc)
list_decided (x ∷ xs) (y ∷ ys) = elim (cases_eq x y) [
  | inr other ↦ inr (λ e. other (head_is x y xs ys e))
  | inl same ↦ elim (list_decided xs ys) [
    | inl rest ↦ inl (λ i. same i ∷ rest i)
    | inr others ↦ inr (λ e. others (tail_is x y xs ys e))
  ]
]

one_pattern_decided : (n : ℕ) (tables : List ShownPart) (m o : Member) → Decided (AreOnePattern n tables m o)
one_pattern_decided n tables m o = elim (list_decided (pattern_of n tables m) (pattern_of n tables o)) [
  | inr other ↦ inr (λ h. other h.same)
  | inl same ↦ elim (is_true_decided m.is_transposed) [
    | inl one ↦ inl (record { transposed = inl one; same = same })
    | inr plain ↦ elim (is_true_decided o.is_transposed) [
      | inl one ↦ inl (record { transposed = inr one; same = same })
      | inr also ↦ inr (λ h. elim h.transposed [ inl one ↦ plain one | inr one ↦ also one ])
    ]
  ]
]

-- ---- tables and a text

module _ (tables : List Part) (text : List ℕ) where
  abbrev Answer : Type 0
  Answer = ((v : ShownBundle) × IsBundleOf tables text v) ⊎ ((f : SetFault) × IsSetFaultOf f tables text)

  sets_answer : AreAlike tables → (sets : List (List Member)) → AreSets text sets → Answer
  sets_answer alike sets are = elim (first_or_none (NamesNoTable tables) (any_decided (λ m. length tables ≤ m.table) within) sets) [
    | inr missing ↦ inr (S2 missing.0, (alike, sets, are, missing.1))
    | inl there ↦ elim (first_or_none (NamesTwice tables)
        (λ set. two_decided (AreOnePattern (first_side tables) (parts_shown tables)) (one_pattern_decided (first_side tables) (parts_shown tables)) set) sets) [
          | inr twice ↦ inr (S6 twice.0, (alike, sets, are, there, twice.1))
          | inl apart ↦ elim (first_or_none (NamesOverlap tables)
              (λ set. two_decided Overlap overlap_decided (patterns_of_set (first_side tables) (parts_shown tables) set)) sets) [
                | inr overlap ↦ inr (S3 overlap.0, (alike, sets, are, there, apart, overlap.1))
                | inl disjoint ↦ inl (
                  record { side = first_side tables; tables = parts_shown tables; sets = sets },
                  record { alike = alike; side = refl; shown = refl; are_sets = are; there = there; apart = apart; disjoint = disjoint },
                )
              ]
        ]
  ]
    where
      within : (m : Member) → Decided (length tables ≤ m.table)
      within m = elim (cases_lt m.table (length tables)) [ inl low ↦ inr (λ high. omega arith) | inr high ↦ inl high ]

  lines_answer : AreAlike tables → (sets : List (List Member)) → AreLines text sets → Answer
  lines_answer alike sets lines = elim (cases_lt most_sets (length sets)) [
    | inl many ↦ inr (S5, inr (alike, sets, lines, many))
    | inr few ↦ sets_answer alike sets (record { lines = lines; few = few })
  ]

  text_answer : AreAlike tables → Answer
  text_answer alike = elim (lines_or_bad text) [ inl are ↦ lines_answer alike are.0 are.1 | inr bad ↦ inr (S1 bad.0, (alike, bad.1)) ]

  sides_answer : AreFew tables → Answer
  sides_answer few = elim (first_or_none (λ t. (part_pattern t).side ≢ first_side tables) other_side tables) [
    | inr first ↦ inr (S4 first.0, (few, first.1))
    | inl none ↦ text_answer (record {
      count = few;
      one_side =
          all_weaker (λ t. ¬ ((part_pattern t).side ≢ first_side tables)) (λ t. (part_pattern t).side ≡ first_side tables) same_side tables none;
    })
  ]
    where
      other_side : (t : Part) → Decided ((part_pattern t).side ≢ first_side tables)
      other_side t = elim (cases_eq (part_pattern t).side (first_side tables)) [ inl same ↦ inr (λ other. other same) | inr other ↦ inl other ]

      same_side : (t : Part) → ¬ ((part_pattern t).side ≢ first_side tables) → (part_pattern t).side ≡ first_side tables
      same_side t not_other = elim (cases_eq (part_pattern t).side (first_side tables)) [ inl same ↦ same | inr other ↦ absurd (not_other other) ]

  -- a bundle or a fault
  pub bundle_answer : Answer
  bundle_answer = elim (cases_eq (length tables) 0) [
    | inl none ↦ inr (S5, inl (inl none))
    | inr some ↦ elim (cases_lt most_tables (length tables)) [
      | inl many ↦ inr (S5, inl (inr many))
      | inr few ↦ sides_answer (record { some = omega arith; few = few })
    ]
  ]
