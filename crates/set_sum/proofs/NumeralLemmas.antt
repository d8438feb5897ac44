-- Numerals, and the members of a line: a text has one reading.
use Rattle.std.proofs.Common.{◌≡◌, Bool, true, false, cond, ℕ, ◌+◌, ◌/◌, ◌%◌, ◌<◌, ◌≤◌, ◌⊎◌, ltb, List, [], ◌∷◌, ◌++◌, codes, inl, inr, refl, sym}
use Rattle.std.proofs.Common.{◌∙◌, ap, ap₂, append_assoc, arith}
use Rattle.std.proofs.lemmas.Bool.{cases_lt, cond-true, cond-false, lt-ltb, le-ltb}
use Rattle.std.specs.List.{AllByRecursion}
use Rattle.set_sum.specs.SetTexts.{member_text, members_text, numeral}
use Rattle.set_sum.specs.declared.members.Member.{Member}
use Rattle.set_sum.proofs.OrderLemmas.{member_by}

-- equal lists have the same first element
pub head_is : (x y : ℕ) (xs ys : List ℕ) → x ∷ xs ≡ y ∷ ys → x ≡ y
head_is x y xs ys e = cc

-- equal lists have the same rest behind the first element
pub tail_is : (x y : ℕ) (xs ys : List ℕ) → x ∷ xs ≡ y ∷ ys → xs ≡ ys
tail_is x y xs ys e = cc

-- ---- a numeral

-- a number below 10 is written with one digit
pub numeral-one : (n : ℕ) → n < 10 → numeral n ≡ (48 + n) ∷ []
numeral-one n low = cond-true (ltb n 10) ((48 + n) ∷ []) ((48 + n / 10) ∷ (48 + n % 10) ∷ []) (lt-ltb n 10 low)

-- a number from 10 on is written with its tens' digit and its ones' digit
pub numeral-two : (n : ℕ) → 10 ≤ n → numeral n ≡ (48 + n / 10) ∷ (48 + n % 10) ∷ []
numeral-two n high = cond-false (ltb n 10) ((48 + n) ∷ []) ((48 + n / 10) ∷ (48 + n % 10) ∷ []) (le-ltb n 10 high)

-- no digit
abbrev pub IsBehind : ℕ → Type 0
IsBehind c = (c < 48) ⊎ (57 < c)

module _ (m n c d : ℕ) (x y : List ℕ) (small : m < 100) (also : n < 100) (end : IsBehind c) (other : IsBehind d)
    (same : numeral m ++ c ∷ x ≡ numeral n ++ d ∷ y) where
  one_one : m < 10 → n < 10 → (m ≡ n) × (c ∷ x ≡ d ∷ y)
  one_one p q =
      let e : (48 + m) ∷ c ∷ x ≡ (48 + n) ∷ d ∷ y = ap (λ s. s ++ c ∷ x) (sym (numeral-one m p)) ∙ same ∙ ap (λ s. s ++ d ∷ y) (numeral-one n q) in
      (let h = head_is (48 + m) (48 + n) (c ∷ x) (d ∷ y) e in omega arith, tail_is (48 + m) (48 + n) (c ∷ x) (d ∷ y) e)

  one_two : m < 10 → 10 ≤ n → ⊥
  one_two p q =
      let e : (48 + m) ∷ c ∷ x ≡ (48 + n / 10) ∷ (48 + n % 10) ∷ d ∷ y = ap (λ s. s ++ c ∷ x) (sym (numeral-one m p)) ∙ same
      ∙ ap (λ s. s ++ d ∷ y) (numeral-two n q) in
      let h = head_is c (48 + n % 10) x (d ∷ y) (tail_is (48 + m) (48 + n / 10) (c ∷ x) ((48 + n % 10) ∷ d ∷ y) e) in
      omega arith

  two_one : 10 ≤ m → n < 10 → ⊥
  two_one p q =
      let e : (48 + m / 10) ∷ (48 + m % 10) ∷ c ∷ x ≡ (48 + n) ∷ d ∷ y = ap (λ s. s ++ c ∷ x) (sym (numeral-two m p)) ∙ same
      ∙ ap (λ s. s ++ d ∷ y) (numeral-one n q) in
      let h = head_is (48 + m % 10) d (c ∷ x) y (tail_is (48 + m / 10) (48 + n) ((48 + m % 10) ∷ c ∷ x) (d ∷ y) e) in
      omega arith

  two_two : 10 ≤ m → 10 ≤ n → (m ≡ n) × (c ∷ x ≡ d ∷ y)
  two_two p q =
      let e : (48 + m / 10) ∷ (48 + m % 10) ∷ c ∷ x ≡ (48 + n / 10) ∷ (48 + n % 10) ∷ d ∷ y = ap (λ s. s ++ c ∷ x) (sym (numeral-two m p)) ∙ same
      ∙ ap (λ s. s ++ d ∷ y) (numeral-two n q) in
      let high = head_is (48 + m / 10) (48 + n / 10) ((48 + m % 10) ∷ c ∷ x) ((48 + n % 10) ∷ d ∷ y) e in
      let rest = tail_is (48 + m / 10) (48 + n / 10) ((48 + m % 10) ∷ c ∷ x) ((48 + n % 10) ∷ d ∷ y) e in
      let low = head_is (48 + m % 10) (48 + n % 10) (c ∷ x) (d ∷ y) rest in
      (omega arith, tail_is (48 + m % 10) (48 + n % 10) (c ∷ x) (d ∷ y) rest)

  -- two numerals before bytes that are no digits are of one number
  pub numeral-once : (m ≡ n) × (c ∷ x ≡ d ∷ y)
  numeral-once = elim (cases_lt m 10) [
    | inl p ↦ elim (cases_lt n 10) [ inl q ↦ one_one p q | inr q ↦ absurd (one_two p q) ]
    | inr p ↦ elim (cases_lt n 10) [ inl q ↦ absurd (two_one p q) | inr q ↦ two_two p q ]
  ]

-- ---- a member

-- a space or LF
abbrev pub IsEnd : ℕ → Type 0
IsEnd c = (c ≡ 32) ⊎ (c ≡ 10)

end-behind : (c : ℕ) → IsEnd c → IsBehind c
end-behind c end = elim end [ inl e ↦ inl (omega arith) | inr e ↦ inl (omega arith) ]

-- the letter of a transposed member
abbrev pub letter : Bool → List ℕ
letter is_transposed = cond is_transposed (codes "t") []

-- behind a numeral comes the letter, or what is behind the member
record Lettered (is_transposed : Bool) (c : ℕ) (x : List ℕ) : Type 0 where
  byte : ℕ
  rest : List ℕ
  behind : IsBehind byte
  is : letter is_transposed ++ c ∷ x ≡ byte ∷ rest

lettered : (is_transposed : Bool) (c : ℕ) (x : List ℕ) → IsEnd c → Lettered is_transposed c x
lettered true c x end = record { byte = 116; rest = c ∷ x; behind = inr (omega arith); is = refl }
lettered false c x end = record { byte = c; rest = x; behind = end-behind c end; is = refl }

-- before a space or LF, the letter of a transposed member is there or not, but not both
pub letter-once : (s t : Bool) (c d : ℕ) (x y : List ℕ) → IsEnd c → IsEnd d → letter s ++ c ∷ x ≡ letter t ++ d ∷ y → (s ≡ t) × (c ∷ x ≡ d ∷ y)
letter-once true true c d x y end other same = (refl, tail_is 116 116 (c ∷ x) (d ∷ y) same)
letter-once true false c d x y end other same = absurd (let h = head_is 116 d (c ∷ x) y same in elim other [ inl e ↦ omega arith | inr e ↦ omega arith ])
letter-once false true c d x y end other same = absurd (let h = head_is c 116 x (d ∷ y) same in elim end [ inl e ↦ omega arith | inr e ↦ omega arith ])
letter-once false false c d x y end other same = (refl, same)

-- two members before a space or LF are one
pub member-once : (m n : Member) (c d : ℕ) (x y : List ℕ) → m.table < 100 → n.table < 100 → IsEnd c → IsEnd d
    → member_text m ++ c ∷ x ≡ member_text n ++ d ∷ y → (m ≡ n) × (c ∷ x ≡ d ∷ y)
member-once m n c d x y small also end other same =
    let one = lettered m.is_transposed c x end in
    let two = lettered n.is_transposed d y other in
    let e : numeral m.table ++ one.byte ∷ one.rest ≡ numeral n.table ++ two.byte ∷ two.rest =
    ap (λ s. numeral m.table ++ s) (sym one.is) ∙ sym (append_assoc (numeral m.table) (letter m.is_transposed) (c ∷ x)) ∙ same ∙
    append_assoc (numeral n.table) (letter n.is_transposed) (d ∷ y) ∙ ap (λ s. numeral n.table ++ s) two.is in
    let both = numeral-once m.table n.table one.byte two.byte one.rest two.rest small also one.behind two.behind e in
    let rest = letter-once m.is_transposed n.is_transposed c d x y end other (one.is ∙ both.1 ∙ sym two.is) in
    (member_by m n both.0 rest.0, rest.1)

-- ---- the members of a line

-- one member more, at the front
pub members_text-cons : (n : Member) (ns : List Member) (x : List ℕ) → members_text (n ∷ ns) ++ x ≡ 32 ∷ (member_text n ++ (members_text ns ++ x))
members_text-cons n ns x = ap (λ s. 32 ∷ s) (append_assoc (member_text n) (members_text ns) x)

-- and at the end
pub members_text-push : (ns : List Member) (n : Member) (x : List ℕ) → members_text (ns ++ n ∷ []) ++ x ≡ members_text ns ++ 32 ∷ (member_text n ++ x)
members_text-push [] n x = members_text-cons n [] x
members_text-push (m ∷ ns) n x =
    members_text-cons m (ns ++ n ∷ []) x ∙
    ap (λ s. 32 ∷ (member_text m ++ s)) (members_text-push ns n x) ∙
    sym (members_text-cons m ns (32 ∷ (member_text n ++ x)))

-- behind a member comes a space or LF
pub record BeginsWithEnd (x : List ℕ) : Type 0 where
  pub byte : ℕ
  pub rest : List ℕ
  pub end : IsEnd byte
  pub is : x ≡ byte ∷ rest

-- members of a line with a space or LF behind them begin with a space or LF
pub begins : (ns : List Member) (c : ℕ) (x : List ℕ) → IsEnd c → BeginsWithEnd (members_text ns ++ c ∷ x)
begins [] c x end = record { byte = c; rest = x; end = end; is = refl }
begins (n ∷ ns) c x end = record { byte = 32; rest = member_text n ++ (members_text ns ++ c ∷ x); end = inl refl; is = members_text-cons n ns (c ∷ x) }

-- the first member of two texts that begin with one
step : (m n : Member) (s t : List ℕ) → m.table < 100 → n.table < 100 → BeginsWithEnd s → BeginsWithEnd t → member_text m ++ s ≡ member_text n ++ t
    → (m ≡ n) × (s ≡ t)
step m n s t small also one other same =
    let e : member_text m ++ one.byte ∷ one.rest ≡ member_text n ++ other.byte ∷ other.rest = ap (λ x. member_text m ++ x) (sym one.is) ∙ same
    ∙ ap (λ x. member_text n ++ x) other.is in
    let both = member-once m n one.byte other.byte one.rest other.rest small also one.end other.end e in
    (both.0, one.is ∙ both.1 ∙ sym other.is)

-- LF ends the members, so they are one list
pub members-once : (ms ns : List Member) (x y : List ℕ) → AllByRecursion (λ n. n.table < 100) ms → AllByRecursion (λ n. n.table < 100) ns
    → members_text ms ++ 10 ∷ x ≡ members_text ns ++ 10 ∷ y → (ms ≡ ns) × (x ≡ y)
members-once [] [] x y small also same = (refl, tail_is 10 10 x y same)
members-once [] (n ∷ ns) x y small also same = absurd
    (let h = head_is 10 32 x (member_text n ++ (members_text ns ++ 10 ∷ y)) (same ∙ members_text-cons n ns (10 ∷ y)) in omega arith)
members-once (m ∷ ms) [] x y small also same = absurd
    (let h = head_is 32 10 (member_text m ++ (members_text ms ++ 10 ∷ x)) y (sym (members_text-cons m ms (10 ∷ x)) ∙ same) in omega arith)
members-once (m ∷ ms) (n ∷ ns) x y small also same =
    let s : List ℕ = members_text ms ++ 10 ∷ x in
    let t : List ℕ = members_text ns ++ 10 ∷ y in
    let e = tail_is 32 32 (member_text m ++ s) (member_text n ++ t) (sym (members_text-cons m ms (10 ∷ x)) ∙ same ∙ members_text-cons n ns (10 ∷ y)) in
    let both = step m n s t small.0 also.0 (begins ms 10 x (inr refl)) (begins ns 10 y (inr refl)) e in
    let rest = members-once ms ns x y small.1 also.1 both.1 in
    (ap₂ (λ a b. a ∷ b) both.0 rest.0, rest.1)

-- where a space stands behind some members of a line, the line goes on with one more
pub record GoesOn (ms ns : List Member) (x y : List ℕ) : Type 0 where
  pub member : Member
  pub others : List Member
  pub members_are : ns ≡ ms ++ member ∷ others
  pub text : x ≡ member_text member ++ (members_text others ++ 10 ∷ y)

-- where a space follows some members of a line that LF ends, the line has a further member
pub goes_on : (ms ns : List Member) (x y : List ℕ) → AllByRecursion (λ n. n.table < 100) ms → AllByRecursion (λ n. n.table < 100) ns
    → members_text ms ++ 32 ∷ x ≡ members_text ns ++ 10 ∷ y → GoesOn ms ns x y
goes_on [] [] x y small also same = absurd (let h = head_is 32 10 x y same in omega arith)
goes_on [] (n ∷ ns) x y small also same = record {
  member = n;
  others = ns;
  members_are = refl;
  text = tail_is 32 32 x (member_text n ++ (members_text ns ++ 10 ∷ y)) (same ∙ members_text-cons n ns (10 ∷ y));
}
goes_on (m ∷ ms) [] x y small also same = absurd (let h =
    head_is 32 10 (member_text m ++ (members_text ms ++ 32 ∷ x)) y (sym (members_text-cons m ms (32 ∷ x)) ∙ same) in omega arith)
goes_on (m ∷ ms) (n ∷ ns) x y small also same =
    let s : List ℕ = members_text ms ++ 32 ∷ x in
    let t : List ℕ = members_text ns ++ 10 ∷ y in
    let e = tail_is 32 32 (member_text m ++ s) (member_text n ++ t) (sym (members_text-cons m ms (32 ∷ x)) ∙ same ∙ members_text-cons n ns (10 ∷ y)) in
    let both = step m n s t small.0 also.0 (begins ms 32 x (inl refl)) (begins ns 10 y (inr refl)) e in
    let rest = goes_on ms ns x y small.1 also.1 both.1 in
    record { member = rest.member; others = rest.others; members_are = ap₂ (λ a b. a ∷ b) (sym both.0) rest.members_are; text = rest.text }
