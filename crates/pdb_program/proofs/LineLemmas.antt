-- The whole lines of a text, and of a front of it.
use Rattle.std.proofs.Common.{◌≡◌, ◌∙◌, ◌⊎◌, inl, inr, ap, ℕ, true, false, List, [], ◌∷◌, ◌++◌, append_assoc, arith, codes, eqb, flat_map, length}
use Rattle.std.proofs.Common.{length-append, refl, subst, sym}
use Rattle.std.proofs.lemmas.List.{append-nil}
use Rattle.std.proofs.lemmas.List.Concat.{flat_map-append}
use Rattle.std.specs.List.{AllByRecursion}
use Rattle.claim_text.specs.Claims.{HasNo}
use Rattle.claim_text.proofs.CutLemmas.{one_cut, other_first, other_rest}
use Rattle.byte_io.specs.Shelf.{Bytes}
use Rattle.pdb_program.specs.Headline.{AreWholeLines, HasLine, SaysYes}

-- lines, each ended by an LF
abbrev pub ended : List Bytes → Bytes
ended lines = flat_map (λ line. line ++ codes "\n") lines

-- each is one line, and this holds of it
abbrev pub AreLines : (Bytes → Type 0) → List Bytes → Type 0
AreLines Holds lines = AllByRecursion (λ line. HasNo 10 line × Holds line) lines

head_of : ℕ → Bytes → ℕ
head_of d [] = d
head_of d (x ∷ xs) = x

tail_of : Bytes → Bytes
tail_of [] = []
tail_of (x ∷ xs) = xs

-- ---- cuts

-- a text that is cut at an LF, and at its first, is cut at its first or behind it
cut_behind : (front l behind rest : Bytes) → HasNo 10 l → front ++ (10 ∷ behind) ≡ l ++ (10 ∷ rest)
    → ((front ≡ l) × (behind ≡ rest)) ⊎ ((more : Bytes) × (front ≡ l ++ (10 ∷ more)) × (more ++ (10 ∷ behind) ≡ rest))
unfolding head_of tail_of
cut_behind [] [] behind rest none e = inl (refl, ap tail_of e)
cut_behind [] (y ∷ ys) behind rest none e =
    let clash : true ≡ false = subst (λ n. eqb n 10 ≡ false) (sym (ap (head_of 0) e)) (other_first 10 y ys none) in absurd (cc)
cut_behind (x ∷ xs) [] behind rest none e = inr (xs, ap (λ h. h ∷ xs) (ap (head_of 0) e), ap tail_of e)
cut_behind (x ∷ xs) (y ∷ ys) behind rest none e =
    let first : x ≡ y = ap (head_of 0) e in
    elim (cut_behind xs ys behind rest (other_rest 10 y ys none) (ap tail_of e)) [
      | inl same ↦ inl ((λ i. first i ∷ same.0 i), same.1)
      | inr more ↦ inr (more.0, (λ i. first i ∷ more.1 i), more.2)
    ]

-- a line of a text is its first line, or stands behind that
first_line : (l rest above line below : Bytes) → HasNo 10 l → HasNo 10 line → AreWholeLines above
    → above ++ (line ++ (codes "\n" ++ below)) ≡ l ++ (codes "\n" ++ rest)
    → ((above ≡ []) × (line ≡ l) × (below ≡ rest))
    ⊎ ((more : Bytes) × AreWholeLines more × (above ≡ l ++ (codes "\n" ++ more)) × (more ++ (line ++ (codes "\n" ++ below)) ≡ rest))
first_line l rest above line below none one begins e = elim begins [
  | inl empty ↦
      let whole : line ++ (10 ∷ below) ≡ l ++ (10 ∷ rest) = subst (λ (t : Bytes). t ++ (line ++ (10 ∷ below)) ≡ l ++ (10 ∷ rest)) empty e in
      let same = one_cut 10 (line ++ (10 ∷ below)) line below l rest (record { whole = refl; first = one }) (record { whole = whole; first = none }) in
      inl (empty, same.0, same.1)
  | inr front ↦
      let behind = line ++ (10 ∷ below) in
      let cut : front.0 ++ (10 ∷ behind) ≡ l ++ (10 ∷ rest) = sym (ap (λ (t : Bytes). t ++ behind) front.1 ∙ append_assoc front.0 (codes "\n") behind) ∙ e in
      elim (cut_behind front.0 l behind rest none cut) [
        | inl same ↦ inr ([], inl refl, front.1 ∙ ap (λ (t : Bytes). t ++ codes "\n") same.0, same.1)
        | inr more ↦
            inr (
              more.0 ++ codes "\n",
              inr (more.0, refl),
              front.1 ∙ ap (λ (t : Bytes). t ++ codes "\n") more.1 ∙ append_assoc l (10 ∷ more.0) (codes "\n"),
              append_assoc more.0 (codes "\n") behind ∙ more.2,
            )
      ]
]

-- no text with an LF is empty
no_line : {A : Type 0} (above line below : Bytes) → above ++ (line ++ (codes "\n" ++ below)) ≡ [] → A
no_line above line below e =
    let count : length (above ++ (line ++ (10 ∷ below))) ≡ 0 = ap length e in
    let all = length-append above (line ++ (10 ∷ below)) in
    let some = length-append line (10 ∷ below) in
    absurd (omega (arith, count, all, some))

-- ---- the lines of a text

-- a line of a text is among the lines that it begins with, or stands behind these
line_among : (Holds : Bytes → Type 0) (lines : List Bytes) (tail above line below : Bytes) → AreLines Holds lines → HasNo 10 line → AreWholeLines above
    → above ++ (line ++ (codes "\n" ++ below)) ≡ ended lines ++ tail
    → Holds line ⊎ ((more : Bytes) × AreWholeLines more × (above ≡ ended lines ++ more) × (more ++ (line ++ (codes "\n" ++ below)) ≡ tail))
line_among Holds [] tail above line below each one begins e = inr (above, begins, refl, e)
line_among Holds (l ∷ lines) tail above line below each one begins e =
    let rest = ended lines ++ tail in
    let front : ended (l ∷ lines) ++ tail ≡ l ++ (codes "\n" ++ rest) =
    append_assoc (l ++ codes "\n") (ended lines) tail ∙ append_assoc l (codes "\n") rest in
    elim (first_line l rest above line below each.0.0 one begins (e ∙ front)) [
      | inl same ↦ inl (subst Holds (sym same.1) each.0.1)
      | inr behind ↦ elim (line_among Holds lines tail behind.0 line below each.1 one behind.1 behind.3) [
        | inl holds ↦ inl holds
        | inr more ↦
            let whole = behind.2 ∙ ap (λ (t : Bytes). l ++ (codes "\n" ++ t)) more.2 in
            let split : ended (l ∷ lines) ++ more.0 ≡ l ++ (codes "\n" ++ (ended lines ++ more.0)) =
            append_assoc (l ++ codes "\n") (ended lines) more.0 ∙ append_assoc l (codes "\n") (ended lines ++ more.0) in
            inr (more.0, more.1, whole ∙ sym split, more.3)
      ]
    ]

-- a line of a front of a text stands in the text
grown : (above line below lines rest text : Bytes) → HasLine above line below lines → lines ++ rest ≡ text
    → above ++ (line ++ (codes "\n" ++ (below ++ rest))) ≡ text
grown above line below lines rest text has is =
    sym (append_assoc above (line ++ (10 ∷ below)) rest ∙ ap (λ (t : Bytes). above ++ t) (append_assoc line (10 ∷ below) rest)) ∙
    ap (λ (t : Bytes). t ++ rest) (sym has.2) ∙ is

-- what holds of the lines of a text holds of each line of a front of it
pub line_holds : (Holds : Bytes → Type 0) (all : List Bytes) (above line below lines rest : Bytes) → AreLines Holds all
    → HasLine above line below lines → lines ++ rest ≡ ended all → Holds line
line_holds Holds all above line below lines rest each has is =
    elim (line_among Holds all [] above line (below ++ rest) each has.1 has.0
    (grown above line below lines rest (ended all) has is ∙ sym (append-nil (ended all)))) [
      | inl holds ↦ holds
      | inr more ↦ no_line more.0 line (below ++ rest) more.3
    ]

-- where no line of a text but its last says a yes, each line of a front of it that does is the last, and the front is the whole
pub last_yes : (all : List Bytes) (last above line below lines rest : Bytes) → AreLines (λ l. ¬ SaysYes l) all → HasNo 10 last
    → HasLine above line below lines → SaysYes line → lines ++ rest ≡ ended all ++ (last ++ codes "\n")
    → (above ≡ ended all) × (line ≡ last) × (below ++ rest ≡ [])
last_yes all last above line below lines rest each one has says is =
    elim (line_among (λ l. ¬ SaysYes l) all (last ++ codes "\n") above line (below ++ rest) each has.1 has.0 (grown above line below lines rest _ has is)) [
      | inl none ↦ absurd (none says)
      | inr more ↦ elim (first_line last [] more.0 line (below ++ rest) one has.1 more.1 more.3) [
        | inl same ↦ (more.2 ∙ ap (λ (t : Bytes). ended all ++ t) same.0 ∙ append-nil (ended all), same.1, same.2)
        | inr behind ↦ no_line behind.0 line (below ++ rest) behind.3
      ]
    ]

-- ---- texts of lines

-- the text is of lines, of each of which this holds
abbrev pub IsOfLines : (Bytes → Type 0) → Bytes → Type 0
IsOfLines Holds text = (all : List Bytes) × (text ≡ ended all) × AreLines Holds all

each_of_both : (Holds : Bytes → Type 0) (a b : List Bytes) → AreLines Holds a → AreLines Holds b → AreLines Holds (a ++ b)
each_of_both Holds [] b p q = q
each_of_both Holds (l ∷ a) b p q = (p.0, each_of_both Holds a b p.1 q)

-- one behind the other is
pub joined_lines : (Holds : Bytes → Type 0) (a b : Bytes) → IsOfLines Holds a → IsOfLines Holds b → IsOfLines Holds (a ++ b)
joined_lines Holds a b p q = (
  p.0 ++ q.0,
  ap (λ (t : Bytes). t ++ b) p.1 ∙ ap (λ (t : Bytes). ended p.0 ++ t) q.1 ∙ sym (flat_map-append (λ line. line ++ codes "\n") p.0 q.0),
  each_of_both Holds p.0 q.0 p.2 q.2,
)

-- one line is
pub line_alone : (Holds : Bytes → Type 0) (line : Bytes) → HasNo 10 line → Holds line → IsOfLines Holds (line ++ codes "\n")
line_alone Holds line one holds = (line ∷ [], sym (append-nil (line ++ codes "\n")), ((one, holds), tt))

-- a text of lines ends with an LF, or is empty
pub whole_lines : (all : List Bytes) → AreWholeLines (ended all)
whole_lines [] = inl refl
whole_lines (l ∷ all) = elim (whole_lines all) [
  | inl none ↦ inr (l, ap (λ (t : Bytes). (l ++ codes "\n") ++ t) none ∙ append-nil (l ++ codes "\n"))
  | inr some ↦ inr ((l ++ codes "\n") ++ some.0, ap (λ (t : Bytes). (l ++ codes "\n") ++ t) some.1 ∙ sym (append_assoc (l ++ codes "\n") some.0 (codes "\n")))
]
