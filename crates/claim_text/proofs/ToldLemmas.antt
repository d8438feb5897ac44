-- Lines that say that parts of a bound hold.
use Rattle.std.proofs.Common.{◌≡◌, ℕ, ◌-◌, ◌<◌, ◌≤◌, true, List, ◌∷◌, ◌++◌, append_assoc, drop, eqb, length, lit<, not, refl, take, ◌∙◌, ap, subst}
use Rattle.std.proofs.Common.{arith, codes, decimal}
use Rattle.std.proofs.lemmas.List.{length-drop, take_all, take_at}
use Rattle.std.proofs.lemmas.List.Elements.{All-append, All-take}
use Rattle.std.proofs.lemmas.List.Prefix.{front_rest}
use Rattle.std.proofs.lemmas.List.Sums.{AllPass-from_list_all}
use Rattle.puz_goal.specs.declared.goals.Goal.{Goal}
use Rattle.puz_goal.specs.Goals.{goal_words}
use Rattle.move_strings.specs.BoundParts.{IsPart, ShownPart}
use Rattle.claim_text.specs.Claims.{HasNo, IsCutAt, ShownClaim}
use Rattle.claim_text.specs.Lines.{claim_words, numbers, part_bounded, refused, told_line}
use Rattle.claim_text.specs.Parts.{AreParts, part_at, part_claim}
use Rattle.claim_text.proofs.CutLemmas.{cut_nowhere, one_cut}
use Rattle.claim_text.proofs.DecimalLemmas.{decimal-no}

-- what stands behind the `/` of a line that says that a part holds
told_rest : Goal → ShownPart → ℕ → List ℕ → List ℕ
told_rest goal p n b =
    decimal p.count ++ (codes " of bound " ++ (decimal n ++ (codes " of" ++ (numbers b ++ (goal_words goal ++ codes "\n")))))

told_front : (goal : Goal) (p : ShownPart) (n : ℕ) (b : List ℕ)
    → told_line goal (part_bounded p n b) ≡ codes "part " ++ (decimal p.index ++ (codes "/" ++ told_rest goal p n b))
unfolding told_rest
told_front goal p n b = simp append_assoc

-- behind `part ` such a line goes on with the index
words_of : (goal : Goal) (line words : List ℕ) (p : ShownPart) (n : ℕ) (b : List ℕ) → words ≡ drop 5 line → line ≡ told_line goal (part_bounded p n b)
    → words ≡ decimal p.index ++ 47 ∷ told_rest goal p n b
words_of goal line words p n b e is = e ∙ ap (drop 5) (is ∙ told_front goal p n b)

-- without a `/` it isn't one
pub no_index : (goal : Goal) (line words : List ℕ) (p : ShownPart) (n : ℕ) (b : List ℕ) → words ≡ drop 5 line → HasNo 47 words
    → ¬ (line ≡ told_line goal (part_bounded p n b))
no_index goal line words p n b e none is =
    cut_nowhere 47 (decimal p.index) (told_rest goal p n b) (subst (HasNo 47) (words_of goal line words p n b e is) none)

-- what comes before the first one is the index
pub index_of : (goal : Goal) (line words index rest : List ℕ) (p : ShownPart) (n : ℕ) (b : List ℕ) → words ≡ drop 5 line → IsCutAt 47 words index rest
    → line ≡ told_line goal (part_bounded p n b)
    → index ≡ decimal p.index
index_of goal line words index rest p n b e cut is =
    let whole : IsCutAt 47 words (decimal p.index) (told_rest goal p n b) =
    record { whole = words_of goal line words p n b e is; first = decimal-no 47 p.index (lit< tt) } in
    (one_cut 47 words index rest (decimal p.index) (told_rest goal p n b) cut whole).0

-- an index below a count of parts that a bound may have is one of a part
pub part_of : (count index : ℕ) → AreParts count → index < count → IsPart (part_at count index)
part_of count index parts below = record { below = below; odd = parts.odd; few = parts.few }

-- ---- lines that refuse the claim of a part

-- the end of a line that answers the claim of a part, up to the words of the part
abbrev pub front_of : ℕ → List ℕ → List ℕ
front_of n b = codes " of" ++ numbers b ++ (codes " : " ++ decimal n) ++ codes " part "

regrouped : (o a s n p i l c w e : List ℕ)
    → ((o ++ (a ++ (((s ++ n) ++ p) ++ ((i ++ l) ++ c)))) ++ w) ++ e ≡ (((o ++ a) ++ (s ++ n)) ++ p) ++ (i ++ (l ++ (c ++ (w ++ e))))
regrouped o a s n p i l c w e = simp append_assoc

-- behind that stand the index, a slash, the count and the line's end
pub claim_behind : (goal : Goal) (count n : ℕ) (b : List ℕ) (i : ℕ)
    → told_line goal (refused (codes "") (part_claim count n b i)) ≡ front_of n b ++ (decimal i ++ 47 ∷ (decimal count ++ (goal_words goal ++ codes "\n")))
claim_behind goal count n b i =
    regrouped (codes " of") (numbers b) (codes " : ") (decimal n) (codes " part ") (decimal i) (codes "/") (decimal count) (goal_words goal) (codes "\n")

-- a line that refuses a claim is what it is refused for, and then the end of such a line
pub what_behind : (goal : Goal) (what : List ℕ) (claim : ShownClaim) → told_line goal (refused what claim) ≡ what ++ told_line goal (refused (codes "") claim)
what_behind goal what claim = simp append_assoc

-- what stands behind the `o` of `of`
of_rest : Goal → ShownClaim → List ℕ
of_rest goal claim = codes "f" ++ (claim_words claim ++ (goal_words goal ++ codes "\n"))

-- it is cut there
of_cut : (goal : Goal) (what : List ℕ) (claim : ShownClaim) → told_line goal (refused what claim) ≡ (what ++ codes " ") ++ 111 ∷ of_rest goal claim
unfolding of_rest
of_cut goal what claim = simp append_assoc

spaced_no : (what : List ℕ) → HasNo 111 what → HasNo 111 (what ++ codes " ")
spaced_no what none =
    All-append (λ b. not (eqb b 111) ≡ true) what (codes " ") none (AllPass-from_list_all (λ b. not (eqb b 111)) (codes " ") refl)

-- so a line without an `o` is none
pub no_of : (goal : Goal) (line what : List ℕ) (claim : ShownClaim) → HasNo 111 line → ¬ (line ≡ told_line goal (refused what claim))
no_of goal line what claim none is =
    cut_nowhere 111 (what ++ codes " ") (of_rest goal claim) (subst (HasNo 111) (is ∙ of_cut goal what claim) none)

-- and before its first `o` stand what it is refused for, and a space
pub what_of : (goal : Goal) (line before behind what : List ℕ) (claim : ShownClaim) → HasNo 111 what → IsCutAt 111 line before behind
    → line ≡ told_line goal (refused what claim) → before ≡ what ++ codes " "
what_of goal line before behind what claim none cut is =
    let other : IsCutAt 111 line (what ++ codes " ") (of_rest goal claim) =
    record { whole = is ∙ of_cut goal what claim; first = spaced_no what none } in
    (one_cut 111 line before behind (what ++ codes " ") (of_rest goal claim) cut other).0

-- what stands before a space has no byte that the whole has none of
pub front_no : (what before : List ℕ) → before ≡ what ++ codes " " → HasNo 111 before → HasNo 111 what
front_no what before is none =
    subst (HasNo 111) (ap (take (length what)) is ∙ take_at what (codes " ") (length what) refl)
    (All-take (λ b. not (eqb b 111) ≡ true) (length what) before none)

-- what stands in a line behind a front of it, as the code has it
pub rest_of : (line front rest : List ℕ) → line ≡ front ++ rest → take (length line - length front) (drop (length front) line) ≡ rest
rest_of line front rest is =
    take_all (length line - length front) (drop (length front) line) (omega (arith, length-drop (length front) line)) ∙ front_rest line front rest is

-- what holds of the number behind that front holds of the index
pub found_index : (goal : Goal) (P : ℕ → Type 0) (count n : ℕ) (b text : List ℕ) (j : ℕ) → j < count → count ≤ 65535
    → ((k : ℕ) (rest : List ℕ) → k ≤ 65535 → text ≡ front_of n b ++ (decimal k ++ 47 ∷ rest) → P k)
    → text ≡ told_line goal (refused (codes "") (part_claim count n b j)) → P j
found_index goal P count n b text j below few found is =
    found j (decimal count ++ (goal_words goal ++ codes "\n")) (omega arith) (is ∙ claim_behind goal count n b j)
