-- Remarks among lines, and that none is a claim.
use mir.Val.{bool_byte}
use Rattle.std.proofs.Common.{◌≡◌, ◌≤◌, ◌⊎◌, ℕ, suc, ◌+◌, ◌<◌, Bool, true, false, List, [], ◌∷◌, ◌++◌, ap, arith, eqb, get_or, inl, inr, length, not, sym}
use Rattle.std.proofs.Common.{◌∙◌, length-append, refl, subst, zero}
use Rattle.std.proofs.lemmas.Bool.{cases_Bool, cond-false, cond-true, eqb-true, or_cases}
use Rattle.std.proofs.lemmas.List.{append-nil, get_or_append_left}
use Rattle.std.proofs.lemmas.List.Elements.{All-cons, All-head}
use Rattle.std.proofs.lemmas.List.Splits.{slice_split-cons_no}
use Rattle.std.proofs.lemmas.List.Sums.{AllPass-from_list_all}
use Rattle.std.specs.Char.{is_ascii_digit}
use Rattle.std.specs.List.{All, AllPass, AllZip, list_all, onto_first, slice_split}
use Rattle.puz_board.specs.Boards.{IsBoard, side_of}
use Rattle.puz_board.specs.BoardTexts.{IsShortNumeral, Spells, is_separator, numbers_in, parts}
use Rattle.claim_text.specs.Claims.{IsClaim, IsClaimOf, ShownAsks, ShownClaim, bound, moves, part, shortest}
use Rattle.claim_text.specs.Laws.{RemarksAreNoClaims}
use Rattle.claim_text.specs.Texts.{SaysClaim, claims_among, is_remark}
use Rattle.claim_text.proofs.AnswerLemmas.{no_side}
use Rattle.claim_text.proofs.WordLemmas.{kept, kept-some, parts-blank}

-- ---- remarks say nothing

numbers-blank : (text : List ℕ) → parts text ≡ [] → numbers_in text ≡ []
unfolding numbers_in
numbers-blank text none = rw none refl

-- separators alone are no board
no_blank : (text b : List ℕ) → AllPass is_separator text → ¬ Spells text b
no_blank text b all spelled =
    let empty : b ≡ [] = sym spelled.numbers ∙ numbers-blank text (parts-blank text all) in
    let board : IsBoard [] = subst IsBoard empty spelled.board in
    let low : 2 ≤ side_of [] = board.low in no_side low

first_part : (x : ℕ) (all : List (List ℕ)) → (word : List ℕ) × (more : List (List ℕ)) × (onto_first x all ≡ (x ∷ word) ∷ more)
first_part x [] = ([], [], refl)
first_part x (word ∷ more) = (word, more, refl)

-- what begins with `#` is none
no_hash : (xs b : List ℕ) → ¬ Spells (35 ∷ xs) b
no_hash xs b spelled =
    let first = first_part 35 (slice_split is_separator xs) in
    let is : parts (35 ∷ xs) ≡ (35 ∷ first.0) ∷ kept first.1 =
    ap kept (slice_split-cons_no is_separator 35 xs refl ∙ first.2) ∙ kept-some 35 first.0 first.1 in
    let numeral = All-head IsShortNumeral (35 ∷ first.0) (kept first.1) (subst (All IsShortNumeral) is spelled.numerals) in
    let digit : is_ascii_digit 35 ≡ true = All-head (λ d. is_ascii_digit d ≡ true) 35 first.0 numeral.digits in
    (let no : false ≡ true = digit in cc)

-- no front of a remark is one
no_front : (before rest b : List ℕ) → is_remark (before ++ rest) ≡ true → ¬ Spells before b
unfolding is_remark
no_front [] rest b is spelled = no_blank [] b (λ k d low. absurd (omega (arith, low))) spelled
no_front (x ∷ xs) rest b is spelled = elim (or_cases (list_all is_separator (x ∷ xs ++ rest)) (eqb x 35) is) [
  | inl all ↦ no_blank (x ∷ xs) b (AllPass-front (x ∷ xs) rest (AllPass-from_list_all is_separator (x ∷ xs ++ rest) all)) spelled
  | inr hash ↦ no_hash xs b (subst (λ n. Spells (n ∷ xs) b) (eqb-true x 35 hash) spelled)
]
  where
    AllPass-front : (xs ys : List ℕ) → AllPass is_separator (xs ++ ys) → AllPass is_separator xs
    AllPass-front xs ys all k d low =
        subst (λ n. is_separator n ≡ true) (get_or_append_left xs ys d k low) (all k d (omega (arith, low, length-append xs ys)))

no_claim_of : (line b : List ℕ) (asks : ShownAsks) → is_remark line ≡ true → ¬ IsClaimOf line b asks
no_claim_of line b shortest is s = no_front line [] b (subst (λ text. is_remark text ≡ true) (sym (append-nil line)) is) s.board
no_claim_of line b (moves text) is s = no_front s.before (59 ∷ text) b (subst (λ text. is_remark text ≡ true) s.whole.whole is) s.board
no_claim_of line b (bound n) is s = no_front s.before (58 ∷ s.behind) b (subst (λ text. is_remark text ≡ true) s.whole.whole is) s.board
no_claim_of line b (part n p) is s = no_front s.before (58 ∷ s.behind) b (subst (λ text. is_remark text ≡ true) s.whole.whole is) s.board

-- no remark is a claim
pub no_claim : RemarksAreNoClaims
no_claim line is claim = no_claim_of line claim.board claim.asks is

-- ---- remarks among lines

-- a remark isn't among the claims
pub among-remark : (line : List ℕ) (lines : List (List ℕ)) → is_remark line ≡ true → claims_among (line ∷ lines) ≡ claims_among lines
among-remark line lines is = cond-false (not (is_remark line)) (line ∷ claims_among lines) (claims_among lines) (ap not is)

-- another line is
pub among-other : (line : List ℕ) (lines : List (List ℕ)) → is_remark line ≡ false → claims_among (line ∷ lines) ≡ line ∷ claims_among lines
among-other line lines other = cond-true (not (is_remark line)) (line ∷ claims_among lines) (claims_among lines) (ap not other)

-- how many claims a line adds
pub among_more : (line : List ℕ) (lines : List (List ℕ)) (remark : Bool) → remark ≡ is_remark line
    → (bool_byte (not remark) ≤ 1) × (bool_byte (not remark) + length (claims_among lines) ≡ length (claims_among (line ∷ lines)))
among_more line lines true is =
    let same = ap length (among-remark line lines (sym is)) in (omega arith, omega (arith, same))
among_more line lines false is =
    let more = ap length (among-other line lines (sym is)) in (omega arith, omega (arith, more))

-- lines that are claims or remarks have claims among them alone
pub all_say : (lines : List (List ℕ)) → ((i : ℕ) → i < length lines → SaysClaim (get_or lines i []) ⊎ (is_remark (get_or lines i []) ≡ true))
    → All SaysClaim (claims_among lines)
all_say [] each = λ k d low. absurd (omega (arith, low))
all_say (line ∷ lines) each =
    let rest = all_say lines (λ i low. each (suc i) (omega (arith, low))) in
    elim (cases_Bool (is_remark line)) [
      | inl is ↦ subst (All SaysClaim) (sym (among-remark line lines is)) rest
      | inr other ↦ subst (All SaysClaim) (sym (among-other line lines other)) (elim (each 0 (omega arith)) [
        | inl says ↦ All-cons SaysClaim line (claims_among lines) says rest
        | inr is ↦ absurd (let no : true ≡ false = sym is ∙ other in cc)
      ])
    ]

first_zip : (line : List ℕ) (lines : List (List ℕ)) (claims : List ShownClaim) → AllZip IsClaim (line ∷ lines) claims
    → (x : ShownClaim) × (xs : List ShownClaim) × IsClaim line x × AllZip IsClaim lines xs
first_zip line lines [] all = absurd all
first_zip line lines (x ∷ xs) all = (x, xs, all.0, all.1)

say_more : (line : List ℕ) (lines : List (List ℕ)) (k : ℕ) (d : List ℕ) → k < length (line ∷ lines) → is_remark (get_or (line ∷ lines) k d) ≡ false
    → (is_remark line ≡ false → SaysClaim line) → ((j : ℕ) → j < length lines → is_remark (get_or lines j d) ≡ false → SaysClaim (get_or lines j d))
    → SaysClaim (get_or (line ∷ lines) k d)
say_more line lines zero d within other first rest = first other
say_more line lines (suc k) d within other first rest = rest k (omega (arith, within)) other

-- a line of these claims that is no remark is one of them
pub claims_say : (lines : List (List ℕ)) (claims : List ShownClaim) → AllZip IsClaim (claims_among lines) claims → (k : ℕ) (d : List ℕ) → k < length lines
    → is_remark (get_or lines k d) ≡ false → SaysClaim (get_or lines k d)
claims_say [] claims all k d within other = absurd (omega (arith, within))
claims_say (line ∷ lines) claims all k d within other = elim (cases_Bool (is_remark line)) [
  | inl is ↦
      let rest = subst (λ among. AllZip IsClaim among claims) (among-remark line lines is) all in
      say_more line lines k d within other (λ no. absurd (let f : true ≡ false = sym is ∙ no in cc)) (λ j. claims_say lines claims rest j d)
  | inr others ↦
      let first = first_zip line (claims_among lines) claims (subst (λ among. AllZip IsClaim among claims) (among-other line lines others) all) in
      say_more line lines k d within other (λ _. (first.0, first.2)) (λ j. claims_say lines first.1 first.3 j d)
]
