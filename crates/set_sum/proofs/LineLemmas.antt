-- Lines of set texts: a text has one reading.
use Rattle.std.proofs.Common.{◌≡◌, ℕ, ◌<◌, List, [], ◌∷◌, ◌++◌, length, inl, inr, refl, sym, ◌∙◌, ap, ap₂, append_assoc, arith}
use Rattle.std.proofs.lemmas.List.{append-nil}
use Rattle.std.specs.List.{AllByRecursion}
use Rattle.set_sum.specs.SetTexts.{AreLines, BeginsWithNoLine, IsFirstBadLine, IsLine, members_text, set_line, set_lines}
use Rattle.set_sum.specs.declared.members.Member.{Member}
use Rattle.set_sum.proofs.NumeralLemmas.{members-once, tail_is}

-- ---- a line

-- what follows the word `set`
pub set_line-text : (members : List Member) (x : List ℕ) → set_line members ++ x ≡ 115 ∷ 101 ∷ 116 ∷ (members_text members ++ 10 ∷ x)
set_line-text members x = ap (λ s. 115 ∷ 101 ∷ 116 ∷ s) (append_assoc (members_text members) (10 ∷ []) x)

-- two lines of sets at the front of one text are one line, with the same text behind them
pub line-once : (ms ns : List Member) (x y : List ℕ) → IsLine ms → IsLine ns → set_line ms ++ x ≡ set_line ns ++ y → (ms ≡ ns) × (x ≡ y)
line-once ms ns x y one other same =
    members-once ms ns x y one.short other.short (
    let s : List ℕ = members_text ms ++ 10 ∷ x in
    let t : List ℕ = members_text ns ++ 10 ∷ y in
    let e : 115 ∷ 101 ∷ 116 ∷ s ≡ 115 ∷ 101 ∷ 116 ∷ t = sym (set_line-text ms x) ∙ same ∙ set_line-text ns y in
    tail_is 116 116 s t (tail_is 101 101 (116 ∷ s) (116 ∷ t) (tail_is 115 115 (101 ∷ 116 ∷ s) (101 ∷ 116 ∷ t) e)))

-- ---- lines

-- the lines of sets with one more in front are its line and then the others
pub set_lines-cons : (ns : List Member) (lines : List (List Member)) (x : List ℕ) → set_lines (ns ∷ lines) ++ x ≡ set_line ns ++ (set_lines lines ++ x)
set_lines-cons ns lines x = append_assoc (set_line ns) (set_lines lines) x

-- the lines of sets with one more at the end are the others and then its line
pub set_lines-push : (lines : List (List Member)) (ns : List Member) (x : List ℕ) → set_lines (lines ++ ns ∷ []) ++ x ≡ set_lines lines ++ (set_line ns ++ x)
set_lines-push [] ns x = set_lines-cons ns [] x
set_lines-push (ms ∷ lines) ns x =
    set_lines-cons ms (lines ++ ns ∷ []) x ∙
    ap (λ s. set_line ms ++ s) (set_lines-push lines ns x) ∙
    sym (set_lines-cons ms lines (set_line ns ++ x))

-- a text is read as lines, as far as lines go, in one way
pub lines-once : (ls ms : List (List Member)) (x y : List ℕ) → AllByRecursion IsLine ls → AllByRecursion IsLine ms → BeginsWithNoLine x
    → BeginsWithNoLine y → set_lines ls ++ x ≡ set_lines ms ++ y → (ls ≡ ms) × (x ≡ y)
lines-once [] [] x y one other bad also same = (refl, same)
lines-once [] (m ∷ ms) x y one other bad also same = absurd (bad m (set_lines ms ++ y) other.0 (same ∙ set_lines-cons m ms y))
lines-once (l ∷ ls) [] x y one other bad also same = absurd (also l (set_lines ls ++ x) one.0 (sym same ∙ set_lines-cons l ls x))
lines-once (l ∷ ls) (m ∷ ms) x y one other bad also same =
    let first = line-once l m (set_lines ls ++ x) (set_lines ms ++ y) one.0 other.0 (sym (set_lines-cons l ls x) ∙ same ∙ set_lines-cons m ms y) in
    let rest = lines-once ls ms x y one.1 other.1 bad also first.1 in
    (ap₂ (λ a b. a ∷ b) first.0 rest.0, rest.1)

-- an empty text doesn't begin with the line of a set
pub nothing_begins : BeginsWithNoLine []
nothing_begins members behind is e = let f : [] ≡ 115 ∷ 101 ∷ 116 ∷ (members_text members ++ 10 ∷ behind) = e ∙ set_line-text members behind in cc

-- the lines of a set text have one reading
pub AreLines-once : (text : List ℕ) (ls ms : List (List Member)) → AreLines text ls → AreLines text ms → ls ≡ ms
AreLines-once text ls ms one other =
    (lines-once ls ms [] [] one.lines other.lines nothing_begins nothing_begins
    (append-nil (set_lines ls) ∙ sym one.whole ∙ other.whole ∙ sym (append-nil (set_lines ms)))).0

-- a text has one first bad line at most
pub bad_line-once : (text : List ℕ) (i j : ℕ) → IsFirstBadLine text i → IsFirstBadLine text j → i ≡ j
bad_line-once text i j one other =
    let same = (lines-once one.before other.before one.rest other.rest one.lines other.lines one.bad other.bad (sym one.whole ∙ other.whole)).0 in
    sym one.number ∙ ap length same ∙ other.number

-- a text of lines alone has no bad line
pub no_bad_line : (text : List ℕ) (ls : List (List Member)) (i : ℕ) → AreLines text ls → ¬ IsFirstBadLine text i
no_bad_line text ls i are bad =
    let both = lines-once bad.before ls bad.rest [] bad.lines are.lines bad.bad nothing_begins (sym bad.whole ∙ are.whole ∙ sym (append-nil (set_lines ls))) in
    elim bad.more [
      | inl none ↦ (let count : length bad.before ≡ length ls = ap length both.0 in let number : length bad.before ≡ i = bad.number in
          let some : 0 < length ls = are.some in omega arith)
      | inr more ↦ more both.1
    ]
