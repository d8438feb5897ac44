-- What a text of claims is read as: one thing.
use Rattle.std.proofs.Common.{◌≡◌, ℕ, zero, suc, ◌+◌, ◌<◌, ◌≤◌, List, [], ◌∷◌, ◌++◌, add-one, length, length-drop, get_or, drop, take, true}
use Rattle.std.proofs.Common.{false, refl, sym, ◌∙◌, ap, subst, arith, inl, inr}
use Rattle.std.proofs.Math.Seq.{drop-cons}
use Rattle.std.proofs.lemmas.Bool.{cases_lt}
use Rattle.std.proofs.lemmas.List.Elements.{All-head, All-tail}
use Rattle.std.specs.Prelude.{IfSome, Option, Some, None, is_some, map}
use Rattle.std.proofs.lemmas.List.{take_more}
use Rattle.std.specs.List.{All, AllZip}
use Rattle.claim_text.specs.Claims.{IsClaim, IsClaimOf, ShownAsks, ShownClaim, bound, moves, part, shortest}
use Rattle.claim_text.specs.Laws.{ClaimsHaveNoFault, TextsHaveOneFault, TextsHaveOneReading}
use Rattle.claim_text.specs.Lines.{AreFewLetters, HasFewLetters}
use Rattle.claim_text.specs.Texts.{AreClaims, IsFirstNoClaim, SaysClaim, claim_lines, lines_of, most_lines}
use Rattle.claim_text.proofs.ClaimLemmas.{one_claim}
use Rattle.claim_text.proofs.RemarkLemmas.{claims_say}

same_claims : (lines : List (List ℕ)) (a b : List ShownClaim) → AllZip IsClaim lines a → AllZip IsClaim lines b → a ≡ b
same_claims [] [] [] p q = refl
same_claims [] [] (y ∷ ys) p q = absurd q
same_claims [] (x ∷ xs) b p q = absurd p
same_claims (line ∷ lines) [] b p q = absurd p
same_claims (line ∷ lines) (x ∷ xs) [] p q = absurd q
same_claims (line ∷ lines) (x ∷ xs) (y ∷ ys) p q =
    let first = one_claim line x y p.0 q.0 in
    let rest = same_claims lines xs ys p.1 q.1 in
    λ i. first i ∷ rest i

-- a text is one list of claims at most
pub one_reading : TextsHaveOneReading
one_reading text a b p q = same_claims (claim_lines text) a b p.lines q.lines

-- what is the first line that is none isn't passed by a later one
not_later : (text : List ℕ) (a b : ℕ) → IsFirstNoClaim text a → IsFirstNoClaim text b → ¬ (a < b)
not_later text a b p q below = elim p.none [
  | inl bad ↦ elim bad.bad [
    | inl none ↦ elim (q.before a below) [
      | inl says ↦ none.0 says.0 says.1
      | inr is ↦ (let no : true ≡ false = sym is ∙ none.1 in cc)
    ]
    | inr most ↦ let room = q.room in omega arith
  ]
  | inr alone ↦ elim q.none [
    | inl bad ↦ omega (arith, alone.all, bad.there, below)
    | inr other ↦ omega (arith, alone.all, other.all, below)
  ]
]

-- a text has one first line at most that is no claim
pub one_fault : TextsHaveOneFault
one_fault text a b p q = elim (cases_lt a b) [
  | inl below ↦ absurd (not_later text a b p q below)
  | inr above ↦ elim (cases_lt b a) [
    | inl below ↦ absurd (not_later text b a q p below)
    | inr other ↦ omega arith
  ]
]

-- as many claims as lines
pub length-claims : (lines : List (List ℕ)) (claims : List ShownClaim) → AllZip IsClaim lines claims → length claims ≡ length lines
length-claims [] [] all = refl
length-claims [] (x ∷ xs) all = absurd all
length-claims (line ∷ lines) [] all = absurd all
length-claims (line ∷ lines) (x ∷ xs) all = ap suc (length-claims lines xs all.1)

-- a text of claims has none
pub no_fault : ClaimsHaveNoFault
no_fault text claims number p q = elim q.none [
  | inl bad ↦ elim bad.bad [
    | inl none ↦ let says = claims_say (lines_of text) claims p.lines number [] bad.there none.1 in none.0 says.0 says.1
    | inr most ↦ omega (arith, bad.there, most, p.few)
  ]
  | inr alone ↦
      let size = length-claims (claim_lines text) claims p.lines in
      omega (arith, size, ap length alone.none, p.some)
]

-- ---- letters

few_letters_of : (line b : List ℕ) (asks : ShownAsks) → IsClaimOf line b asks → AreFewLetters asks
few_letters_of line b shortest is = tt
few_letters_of line b (moves text) is = is.moves.few
few_letters_of line b (bound n) is = tt
few_letters_of line b (part n p) is = tt

-- a claim of a line has 1,000 letters at most
pub few_letters : (line : List ℕ) (claim : ShownClaim) → IsClaim line claim → HasFewLetters claim
few_letters line claim is = few_letters_of line claim.board claim.asks is

-- each claim that is read of a text has
pub all_few : {A : Type 0} (shown : A → ShownClaim) (lines : List (List ℕ)) (read : List A) → AllZip IsClaim lines (map shown read) → (k : ℕ) (d : A)
    → k < length read
    → HasFewLetters (shown (get_or read k d))
all_few shown lines [] all k d within = absurd (omega arith)
all_few shown [] (x ∷ xs) all k d within = absurd all
all_few shown (line ∷ lines) (x ∷ xs) all zero d within = few_letters line (shown x) all.0
all_few shown (line ∷ lines) (x ∷ xs) all (suc k) d within = all_few shown lines xs all.1 k d (omega arith)

-- ---- line after line

-- where the rest of a list begins with an element, it is the one at that place
pub next_line : (lines : List (List ℕ)) (n : ℕ) (line : List ℕ) (behind : List (List ℕ)) → drop n lines ≡ line ∷ behind
    → (n < length lines) × (get_or lines n [] ≡ line) × (drop (n + 1) lines ≡ behind)
next_line lines n line behind e =
    let within : n < length lines = omega (arith, length-drop n lines, ap length e) in
    let cons = sym (drop-cons lines n [] within) ∙ e in
    (within, ap (head_of []) cons, ap (λ k. drop k lines) (add-one n) ∙ ap tail_of cons)
  where
    head_of : List ℕ → List (List ℕ) → List ℕ
    head_of d [] = d
    head_of d (x ∷ xs) = x

    tail_of : List (List ℕ) → List (List ℕ)
    tail_of [] = []
    tail_of (x ∷ xs) = xs

-- where nothing is left, all are passed
pub no_more_lines : (lines : List (List ℕ)) (n : ℕ) → n ≤ length lines → drop n lines ≡ [] → length lines ≡ n
no_more_lines lines n few e = omega (arith, length-drop n lines, ap length e)

-- one claim more
pub AllZip-more : (lines : List (List ℕ)) (claims : List ShownClaim) (n : ℕ) (line : List ℕ) (claim : ShownClaim)
    → n < length lines → get_or lines n [] ≡ line → AllZip IsClaim (take n lines) claims → IsClaim line claim
    → AllZip IsClaim (take (n + 1) lines) (claims ++ claim ∷ [])
AllZip-more lines claims n line claim within here all is =
    subst (λ first. AllZip IsClaim first (claims ++ claim ∷ [])) (sym (take_more lines n [] within))
    (snoc (take n lines) claims all)
  where
    snoc : (xs : List (List ℕ)) (ys : List ShownClaim) → AllZip IsClaim xs ys → AllZip IsClaim (xs ++ get_or lines n [] ∷ []) (ys ++ claim ∷ [])
    snoc [] [] all = (subst (λ text. IsClaim text claim) (sym here) is, tt)
    snoc [] (y ∷ ys) all = absurd all
    snoc (x ∷ xs) [] all = absurd all
    snoc (x ∷ xs) (y ∷ ys) all = (all.0, snoc xs ys all.1)

-- lines that are claims have a list of them
pub claims_there : (lines : List (List ℕ)) → All SaysClaim lines → (claims : List ShownClaim) × AllZip IsClaim lines claims
claims_there [] all = ([], tt)
claims_there (line ∷ lines) all =
    let first = All-head SaysClaim line lines all in
    let rest = claims_there lines (All-tail SaysClaim line lines all) in
    (first.0 ∷ rest.0, (first.1, rest.1))

-- a text whose lines are claims, so many of them, and remarks
pub are_claims : (text : List ℕ) (count : ℕ) (claims : List ShownClaim) → length (claim_lines text) ≡ count → 1 ≤ count
    → length (lines_of text) ≤ most_lines → AllZip IsClaim (claim_lines text) claims
    → AreClaims text claims
are_claims text count claims size some few all =
    let same = length-claims (claim_lines text) claims all in
    record { lines = all; some = omega arith; few = few }

-- a line of which a claim was read says one
pub says_claim : {A : Type 0} (shown : A → ShownClaim) (line : List ℕ) (r : Option A) → is_some r ≡ true → IfSome r (λ x. IsClaim line (shown x))
    → SaysClaim line
says_claim shown line None there is = absurd (let no : false ≡ true = there in cc)
says_claim shown line (Some x) there is = (shown x, is)
