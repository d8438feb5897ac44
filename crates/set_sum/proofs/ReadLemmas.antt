-- Lines as they are read, member by member.
use Rattle.std.proofs.Common.{◌≡◌, ℕ, ◌+◌, ◌*◌, ◌<◌, ◌≤◌, ◌⊎◌, Bool, true, false, List, [], ◌∷◌, ◌++◌, length, Option, Some, None, inl, inr, refl}
use Rattle.std.proofs.Common.{sym, ◌∙◌, ap, subst, arith, get_or, length-append, take}
use Rattle.std.specs.Prelude.{Any}
use Rattle.std.specs.List.{AllByRecursion}
use Rattle.set_sum.specs.ReadLines.{MayFollow, IsReadAsSet, IsReadLine}
use Rattle.set_sum.specs.SetTexts.{IsLine, members_text, member_text, set_line}
use Rattle.set_sum.specs.declared.members.Member.{Member}
use Rattle.set_sum.proofs.AnyLemmas.{Any-here, Any-left, Any-right}
use Rattle.set_sum.proofs.LineLemmas.{set_line-text}
use Rattle.set_sum.proofs.ListLemmas.{all_at, all_push, all_weaker}
use Rattle.set_sum.proofs.NumeralLemmas.{BeginsWithEnd, GoesOn, begins, goes_on, members_text-push, tail_is}
use Rattle.set_sum.proofs.OrderLemmas.{AreAscending, ascending_from, ascending_push, ascending_to, before-place, place, place-before, place-table}

-- the members that may come next begin at this place
abbrev pub next_place : Option Member → ℕ
next_place None = 0
next_place (Some last) = place last + 1

-- a member that may follow the last one has its place among those that may come next
pub next-place : (last : Option Member) (m : Member) → MayFollow last m → next_place last ≤ place m
next-place None m next = omega arith
next-place (Some last) m next = let low : place last < place m = before-place last m next in omega arith

place-next : (last : Option Member) (m : Member) → next_place last ≤ place m → MayFollow last m
place-next None m low = tt
place-next (Some last) m low = place-before last m (let l : place last + 1 ≤ place m = low in omega arith)

-- what is kept of the members of a line, and whether the tables of all of them are there
abbrev pub IsKept : ℕ → List Member → List Member → Bool → Type 0
IsKept tables members kept true = (kept ≡ members) × AllByRecursion (λ m. m.table < tables) members
IsKept tables members kept false = Any (λ m. tables ≤ m.table) members

-- the text begins with the word `set` and some members, which are before `next`; behind them is the rest
pub record HasMembers (tables : ℕ) (text rest : List ℕ) (kept : List Member) (is_there : Bool) (next : ℕ) : Type 0 where
  pub members : List Member
  pub whole : text ≡ 115 ∷ 101 ∷ 116 ∷ (members_text members ++ rest)
  pub short : AllByRecursion (λ m. m.table < 100) members
  pub ascending : AreAscending members
  pub below : AllByRecursion (λ m. place m < next) members
  pub last : (next ≡ 0) ⊎ Any (λ m. place m + 1 ≡ next) members
  pub few : length kept ≤ next
  pub is_kept : IsKept tables members kept is_there

-- behind the word of a set, no member is read yet and none is missing
pub no_members : (tables : ℕ) (text rest : List ℕ) → text ≡ 115 ∷ 101 ∷ 116 ∷ 32 ∷ rest → HasMembers tables text (32 ∷ rest) [] true 0
no_members tables text rest is = record {
  members = [];
  whole = is;
  short = tt;
  ascending = tt;
  below = tt;
  last = inl refl;
  few = omega arith;
  is_kept = (refl, tt);
}

module _ (tables : ℕ) (text rest : List ℕ) (kept : List Member) (is_there : Bool) (next : ℕ) (m : Member) (behind : List ℕ)
    (so_far : HasMembers tables text (32 ∷ rest) kept is_there next)
    (short : m.table < 100) (up : next ≤ place m) (is : rest ≡ member_text m ++ behind) where
  whole_more : text ≡ 115 ∷ 101 ∷ 116 ∷ (members_text (so_far.members ++ m ∷ []) ++ behind)
  whole_more =
      so_far.whole ∙
      ap (λ s. 115 ∷ 101 ∷ 116 ∷ (members_text so_far.members ++ 32 ∷ s)) is ∙
      ap (λ s. 115 ∷ 101 ∷ 116 ∷ s) (sym (members_text-push so_far.members m behind))

  more : (keeps : List Member) (there : Bool) → length keeps ≤ place m + 1 → IsKept tables (so_far.members ++ m ∷ []) keeps there
      → HasMembers tables text behind keeps there (place m + 1)
  more keeps there few is_kept = record {
    members = so_far.members ++ m ∷ [];
    whole = whole_more;
    short = all_push (λ o. o.table < 100) so_far.members m so_far.short short;
    ascending = ascending_push so_far.members m so_far.ascending
        (all_weaker (λ o. place o < next) (λ o. place o < place m) (λ o low. omega arith) so_far.members so_far.below);
    below = all_push (λ o. place o < place m + 1) so_far.members m
        (all_weaker (λ o. place o < next) (λ o. place o < place m + 1) (λ o low. omega arith) so_far.members so_far.below) (omega arith);
    last = inr (Any-right (λ o. place o + 1 ≡ place m + 1) so_far.members (m ∷ []) (Any-here (λ o. place o + 1 ≡ place m + 1) m [] refl));
    few = few;
    is_kept = is_kept;
  }

  -- a member is kept where its table is there
  pub more_there : m.table < tables → (keeps : List Member) → keeps ≡ kept ++ m ∷ [] → length keeps ≤ place m + 1
      → HasMembers tables text behind keeps is_there (place m + 1)
  more_there low keeps pushed few = more keeps is_there few (go is_there so_far.is_kept)
    where
      go : (there : Bool) → IsKept tables so_far.members kept there → IsKept tables (so_far.members ++ m ∷ []) keeps there
      go true h = (pushed ∙ ap (λ s. s ++ m ∷ []) h.0, all_push (λ o. o.table < tables) so_far.members m h.1 low)
      go false h = Any-left (λ o. tables ≤ o.table) so_far.members (m ∷ []) h

  -- any other is not
  pub more_missing : tables ≤ m.table → HasMembers tables text behind kept false (place m + 1)
  more_missing high = more kept false (let few = so_far.few in
      omega arith) (Any-right (λ o. tables ≤ o.table) so_far.members (m ∷ []) (Any-here (λ o. tables ≤ o.table) m [] high))

-- a member is kept where its table is there
abbrev pub IsPushed : ℕ → Member → List Member → Bool → List Member → Bool → Type 0
IsPushed tables m kept is_there keeps there =
    ((m.table < tables) × (keeps ≡ kept ++ m ∷ []) × (there ≡ is_there)) ⊎ ((tables ≤ m.table) × (keeps ≡ kept) × (there ≡ false))

-- a next member of the line, kept where its table is there, is one more of those read
pub member_more : (tables : ℕ) (text rest : List ℕ) (kept : List Member) (is_there : Bool) (last : Option Member) (m : Member) (behind : List ℕ)
    → HasMembers tables text (32 ∷ rest) kept is_there (next_place last)
    → m.table < 100 → MayFollow last m → rest ≡ member_text m ++ behind → (keeps : List Member) (there : Bool)
    → IsPushed tables m kept is_there keeps there → HasMembers tables text behind keeps there (place m + 1)
member_more tables text rest kept is_there last m behind so_far short next is keeps there pushed = elim pushed [
  | inl low ↦
      let up = next-place last m next in
      let few : length kept ≤ next_place last = so_far.few in
      let count : length keeps ≡ length kept + 1 = ap length low.1 ∙ length-append kept (m ∷ []) in
      subst (λ t. HasMembers tables text behind keeps t (place m + 1)) (sym low.2)
      (more_there tables text rest kept is_there (next_place last) m behind so_far short up is low.0 keeps low.1 (omega arith))
  | inr high ↦
      let up = next-place last m next in
      subst (λ t. HasMembers tables text behind keeps t (place m + 1)) (sym high.2) (
      subst (λ k. HasMembers tables text behind k false (place m + 1)) (sym high.1)
      (more_missing tables text rest kept is_there (next_place last) m behind so_far short up is high.0))
]

-- there is room for a member whose table is there, where there are few tables
pub member_room : (tables : ℕ) (text rest : List ℕ) (kept : List Member) (is_there : Bool) (last : Option Member) (m : Member)
    → HasMembers tables text rest kept is_there (next_place last)
    → MayFollow last m → m.table < tables → length kept < 2 * tables
member_room tables text rest kept is_there last m so_far next low =
    let few : length kept ≤ next_place last = so_far.few in
    let up = next-place last m next in
    let high = (place-table m).1 in
    omega arith

-- LF ends the line
pub line_read : (tables : ℕ) (text rest : List ℕ) (kept : List Member) (is_there : Bool) (next : ℕ)
    → HasMembers tables text (10 ∷ rest) kept is_there (next + 1)
    → (set : Option (List Member)) → ((is_there ≡ true) × (set ≡ Some kept)) ⊎ ((is_there ≡ false) × (set ≡ None)) → IsReadLine tables text set rest
line_read tables text rest kept is_there next has set end = record {
  members = has.members;
  is_line = record { some = some_members has.members has.last; short = has.short; ascending = ascending_to has.members has.ascending };
  whole = has.whole ∙ sym (set_line-text has.members rest);
  is_read = elim end [
    | inl there ↦ subst (IsReadAsSet tables has.members) (sym there.1) (subst (IsKept tables has.members kept) there.0 has.is_kept)
    | inr missing ↦ subst (IsReadAsSet tables has.members) (sym missing.1) (subst (IsKept tables has.members kept) missing.0 has.is_kept)
  ];
}
  where
    some_members : (ms : List Member) → (next + 1 ≡ 0) ⊎ Any (λ m. place m + 1 ≡ next + 1) ms → 0 < length ms
    some_members ms h = elim h [ inl none ↦ omega arith | inr any ↦ let low : any.0 < length ms = any.2 in omega arith ]

-- a line has a further member behind a space, and behind it a space or LF
pub record NextMember (rest : List ℕ) (last : Option Member) : Type 0 where
  pub member : Member
  pub end : ℕ
  pub behind : List ℕ
  pub short : member.table < 100
  pub next : MayFollow last member
  pub is_end : (end ≡ 32) ⊎ (end ≡ 10)
  pub text : rest ≡ member_text member ++ end ∷ behind

all_middle : (P : Member → Type 0) (xs : List Member) (x : Member) (ys : List Member) → AllByRecursion P (xs ++ x ∷ ys) → P x
all_middle P [] x ys all = all.0
all_middle P (y ∷ xs) x ys all = all_middle P xs x ys all.1

ascending_middle : (xs : List Member) (x : Member) (ys : List Member) → AreAscending (xs ++ x ∷ ys) → AllByRecursion (λ y. place y < place x) xs
ascending_middle [] x ys up = tt
ascending_middle (y ∷ xs) x ys up = (all_middle (λ z. place y < place z) xs x ys up.0, ascending_middle xs x ys up.1)

-- where the text begins with a line, a member that may come next is at the front of the rest
pub next_member : (tables : ℕ) (text rest : List ℕ) (kept : List Member) (is_there : Bool) (last : Option Member)
    → HasMembers tables text (32 ∷ rest) kept is_there (next_place last)
    → (members : List Member) (behind : List ℕ) → IsLine members → text ≡ set_line members ++ behind → NextMember rest last
next_member tables text rest kept is_there last has members behind line is = record {
  member = on.member;
  end = first.byte;
  behind = first.rest;
  short = all_middle (λ m. m.table < 100) has.members on.member on.others (subst (AllByRecursion (λ m. m.table < 100)) on.members_are line.short);
  next = place-next last on.member above;
  is_end = first.end;
  text = on.text ∙ ap (λ s. member_text on.member ++ s) first.is;
}
  where
    same : 115 ∷ 101 ∷ 116 ∷ (members_text has.members ++ 32 ∷ rest) ≡ 115 ∷ 101 ∷ 116 ∷ (members_text members ++ 10 ∷ behind)
    same = sym has.whole ∙ is ∙ set_line-text members behind

    on : GoesOn has.members members rest behind
    on =
        let s : List ℕ = members_text has.members ++ 32 ∷ rest in
        let t : List ℕ = members_text members ++ 10 ∷ behind in
        goes_on has.members members rest behind has.short line.short
        (tail_is 116 116 s t (tail_is 101 101 (116 ∷ s) (116 ∷ t) (tail_is 115 115 (101 ∷ 116 ∷ s) (101 ∷ 116 ∷ t) same)))

    first : BeginsWithEnd (members_text on.others ++ 10 ∷ behind)
    first = begins on.others 10 behind (inr refl)

    above : next_place last ≤ place on.member
    above = elim has.last [
      | inl none ↦ omega arith
      | inr any ↦
          let all = ascending_middle has.members on.member on.others (subst AreAscending on.members_are (ascending_from members line.ascending)) in
          let low : place (get_or has.members any.0 any.1) < place on.member = all_at (λ m. place m < place on.member) has.members any.0 any.1 any.2 all in
          let e : place (get_or has.members any.0 any.1) ≡ place any.1 = ap place any.3 in
          let f : place any.1 + 1 ≡ next_place last = any.4 in
          omega arith
    ]

-- the line of a set begins with the word `set` and a space
pub begins_with_set : (text : List ℕ) (members : List Member) (behind : List ℕ) → IsLine members → text ≡ set_line members ++ behind
    → take 4 text ≡ 115 ∷ 101 ∷ 116 ∷ 32 ∷ []
begins_with_set text [] behind line is = absurd (let some : 0 < 0 = line.some in omega arith)
begins_with_set text (m ∷ members) behind line is = ap (take 4) (is ∙ set_line-text (m ∷ members) behind)
