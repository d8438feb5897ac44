-- Lines that say no yes: digests, refusals, faults and want of memory.
use Rattle.std.proofs.Common.{◌≡◌, ◌≢◌, ◌||◌, ◌/◌, ◌%◌, ◌≤◌, inl, inr, ap, ℕ, Bool, true, false, List, [], ◌∷◌, ◌++◌, Option, Some, None}
use Rattle.std.proofs.Common.{append_assoc, arith, codes, cond, decimal, eqb, ltb, map, not, refl, subst, suc, sym, zero}
use Rattle.std.proofs.lemmas.Bool.{and_parts, ltb-false, ne_eqb, not-true, not_from_false}
use Rattle.std.proofs.lemmas.List.{append-nil}
use Rattle.std.proofs.lemmas.List.Elements.{All-cons, All-nil}
use Rattle.std.proofs.lemmas.List.Sums.{AllPass-from_list_all}
use Rattle.std.specs.Prelude.{slice_index}
use Rattle.std.specs.List.{list_all}
use Rattle.hex.specs.Hex.{encode_lower, encode_with, lower_digits}
use Rattle.sha2.specs.Sha256.{sha256}
use Rattle.claim_text.specs.Claims.{HasNo}
use Rattle.claim_text.proofs.AnswerLemmas.{decimal-no_lf, join_no_lf}
use Rattle.log_check.specs.declared.faults.LogRefusal.TheVariants as log
use Rattle.log_file.specs.declared.faults.FormFault.TheVariants as form
use Rattle.puz_board.specs.declared.replays.MoveFault.TheVariants as move
use Rattle.puz_board.specs.declared.texts.BoardFault.TheVariants as board
use Rattle.set_sum.specs.declared.faults.SetFault.TheVariants as set
use Rattle.tab_file.specs.declared.headers.HeadFault.TheVariants as head
use Rattle.tab_rule.specs.declared.tables.TableRefusal.TheVariants as table
use Rattle.byte_io.specs.Shelf.{Bytes}
use Rattle.pdb_run.specs.Writing.{digest_line, digests_of, maker_line, memory_line, named_line, shown, shown_byte}
use Rattle.pdb_verdict.specs.Lines.{counted, line_of_fault}
use Rattle.pdb_verdict.specs.declared.verdicts.Fault.{Fault}
use Rattle.pdb_verdict.specs.declared.verdicts.Fault.TheVariants as fault
use Rattle.pdb_program.specs.Headline.{SaysYes}
use Rattle.pdb_program.specs.PartLines.{SaysPart}
use Rattle.pdb_program.proofs.LineLemmas.{IsOfLines, joined_lines, line_alone}

-- a line that says no yes
abbrev pub SaysNoYes : Bytes → Type 0
SaysNoYes line = ¬ SaysYes line

-- the words are of one line, and begin with another letter than the words of a yes do, `s`, `e`, `b`, `o` or `j`, and with another
-- than the line of a part does, `p`
abbrev pub SaysElse : Bytes → Type 0
SaysElse [] = ⊥
SaysElse (first ∷ rest) =
    (first ≢ 115) × (first ≢ 101) × (first ≢ 98) × (first ≢ 111) × (first ≢ 106) × (first ≢ 112) × HasNo 10 (first ∷ rest)

head_of : ℕ → Bytes → ℕ
head_of d [] = d
head_of d (x ∷ xs) = x

second_of : Bytes → ℕ
second_of [] = 0
second_of (x ∷ xs) = head_of 0 xs

-- such words say no yes, whatever stands behind them
pub else_no_yes : (words behind : Bytes) → SaysElse words → SaysNoYes (words ++ behind)
unfolding head_of
else_no_yes [] behind says = absurd says
else_no_yes (first ∷ words) behind says = λ yes. elim yes.1 [
  | inl e ↦ says.0 (ap (head_of 0) e)
  | inr (inl e) ↦ says.1 (ap (head_of 0) e)
  | inr (inr (inl e)) ↦ says.2 (ap (head_of 0) e)
  | inr (inr (inr (inl e))) ↦ says.3 (ap (head_of 0) e)
  | inr (inr (inr (inr e))) ↦ says.4 (ap (head_of 0) e)
]

-- such words are of one line
pub says_else : (words : Bytes) → SaysElse words → HasNo 10 words
says_else [] says = absurd says
says_else (first ∷ words) says = says.6

-- what begins with another letter is no line of a part
pub other_no_part : (first : ℕ) (rest : Bytes) → first ≢ 112 → ¬ SaysPart (first ∷ rest)
unfolding head_of
other_no_part first rest other says = other (ap (head_of 0) says.1)

-- so such words say no part, whatever stands behind them
pub else_no_part : (words behind : Bytes) → SaysElse words → ¬ SaysPart (words ++ behind)
else_no_part [] behind says = absurd says
else_no_part (first ∷ words) behind says = other_no_part first (words ++ behind) says.5

-- a line of a part says no yes
pub part_no_yes : (rest : Bytes) → SaysNoYes (codes "part " ++ rest)
unfolding head_of
part_no_yes rest = λ yes. elim yes.1 [
  | inl e ↦ let first : 112 ≡ 115 = ap (head_of 0) e in absurd (omega (arith, first))
  | inr (inl e) ↦ let first : 112 ≡ 101 = ap (head_of 0) e in absurd (omega (arith, first))
  | inr (inr (inl e)) ↦ let first : 112 ≡ 98 = ap (head_of 0) e in absurd (omega (arith, first))
  | inr (inr (inr (inl e))) ↦ let first : 112 ≡ 111 = ap (head_of 0) e in absurd (omega (arith, first))
  | inr (inr (inr (inr e))) ↦ let first : 112 ≡ 106 = ap (head_of 0) e in absurd (omega (arith, first))
]

-- nor does the line of a digest
pub digest_no_yes : (digest : Bytes) → SaysNoYes (codes "sha256 " ++ digest)
unfolding head_of second_of
digest_no_yes digest = λ yes. elim yes.1 [
  | inl e ↦ let second : 104 ≡ 111 = ap second_of e in absurd (omega (arith, second))
  | inr (inl e) ↦ let first : 115 ≡ 101 = ap (head_of 0) e in absurd (omega (arith, first))
  | inr (inr (inl e)) ↦ let first : 115 ≡ 98 = ap (head_of 0) e in absurd (omega (arith, first))
  | inr (inr (inr (inl e))) ↦ let first : 115 ≡ 111 = ap (head_of 0) e in absurd (omega (arith, first))
  | inr (inr (inr (inr e))) ↦ let first : 115 ≡ 106 = ap (head_of 0) e in absurd (omega (arith, first))
]

-- the line has words that say no yes
abbrev pub IsElseLine : Bytes → Type 0
IsElseLine line = (words : Bytes) × (line ≡ words ++ codes "\n") × SaysElse words

-- a text that is known has no LF
pub known : (text : Bytes) → list_all (λ b. not (eqb b 10)) text ≡ true → HasNo 10 text
known text all = AllPass-from_list_all (λ b. not (eqb b 10)) text all

-- a refusal begins with the letter r, whose byte is 114
pub refused_whole : (words : Bytes) → HasNo 10 (codes "refused " ++ words) → SaysElse (codes "refused " ++ words)
refused_whole words none = (
  (λ e. omega (arith, e)),
  (λ e. omega (arith, e)),
  (λ e. omega (arith, e)),
  (λ e. omega (arith, e)),
  (λ e. omega (arith, e)),
  (λ e. omega (arith, e)),
  none,
)

refused_else : (words : Bytes) → HasNo 10 words → SaysElse (codes "refused " ++ words)
refused_else words none = refused_whole words (join_no_lf (codes "refused ") words (known (codes "refused ") refl) none)

refused_line : (words : Bytes) → HasNo 10 words → IsElseLine ((codes "refused " ++ words) ++ codes "\n")
refused_line words none = (codes "refused " ++ words, refl, refused_else words none)

plain : (text : Bytes) → list_all (λ b. not (eqb b 10)) text ≡ true → IsElseLine ((codes "refused " ++ text) ++ codes "\n")
plain text all = refused_line text (known text all)

-- a text and a number have no LF
pub with_number : (text : Bytes) (n : ℕ) → list_all (λ b. not (eqb b 10)) text ≡ true → HasNo 10 (text ++ decimal n)
with_number text n all = join_no_lf text (decimal n) (known text all) (decimal-no_lf n)

numbered : (text : Bytes) (n : ℕ) → list_all (λ b. not (eqb b 10)) text ≡ true → IsElseLine (counted (codes "refused " ++ text) n)
numbered text n all = refused_line (text ++ decimal n) (with_number text n all)

twice_numbered : (text other : Bytes) (n m : ℕ) → list_all (λ b. not (eqb b 10)) text ≡ true → list_all (λ b. not (eqb b 10)) other ≡ true
    → IsElseLine (((codes "refused " ++ text) ++ decimal n) ++ counted other m)
twice_numbered text other n m first second =
    let words = (text ++ decimal n) ++ (other ++ decimal m) in
    let none = join_no_lf (text ++ decimal n) (other ++ decimal m) (with_number text n first) (with_number other m second) in (
      codes "refused " ++ words,
      ap (λ (t : Bytes). codes "refused " ++ t) (sym (append_assoc (text ++ decimal n) (other ++ decimal m) (codes "\n"))),
      refused_else words none,
    )

-- want of memory is said so
pub memory : IsElseLine memory_line
memory = (
  codes "no memory",
  refl,
  (
    (λ e. omega (arith, e)),
    (λ e. omega (arith, e)),
    (λ e. omega (arith, e)),
    (λ e. omega (arith, e)),
    (λ e. omega (arith, e)),
    (λ e. omega (arith, e)),
    known (codes "no memory") refl,
  ),
)

-- what a maker made is wrong
pub maker : IsElseLine maker_line
maker = (
  codes "fault maker",
  refl,
  (
    (λ e. omega (arith, e)),
    (λ e. omega (arith, e)),
    (λ e. omega (arith, e)),
    (λ e. omega (arith, e)),
    (λ e. omega (arith, e)),
    (λ e. omega (arith, e)),
    known (codes "fault maker") refl,
  ),
)

-- the lines of refusals
pub fault_line : (refused : Fault) → IsElseLine (line_of_fault refused)
fault_line fault.P1 = plain (codes "P1") refl
fault_line (fault.Board (board.B1 n)) = numbered (codes "B1 at byte ") n refl
fault_line (fault.Board (board.B2 n)) = numbered (codes "B2 at byte ") n refl
fault_line (fault.Board (board.B3 n)) = numbered (codes "B3 count ") n refl
fault_line (fault.Board (board.B4 n)) = numbered (codes "B4 at number ") n refl
fault_line (fault.Board (board.B5 n)) = numbered (codes "B5 at number ") n refl
fault_line (fault.Moves (move.M1 n)) = numbered (codes "M1 at byte ") n refl
fault_line (fault.Moves (move.M2 n)) = numbered (codes "M2 at step ") n refl
fault_line (fault.Moves move.M3) = plain (codes "M3") refl
fault_line (fault.Moves move.M4) = plain (codes "M4") refl
fault_line (fault.Table (table.Head head.T1)) = plain (codes "T1") refl
fault_line (fault.Table (table.Head head.T2)) = plain (codes "T2") refl
fault_line (fault.Table (table.Head head.T3)) = plain (codes "T3") refl
fault_line (fault.Table (table.Head head.T4)) = plain (codes "T4") refl
fault_line (fault.Table (table.Head head.T5)) = plain (codes "T5") refl
fault_line (fault.Table (table.Head head.T6)) = plain (codes "T6") refl
fault_line (fault.Table (table.T7 n)) = numbered (codes "T7 at entry ") n refl
fault_line (fault.TableOf i (table.Head head.T1)) = numbered (codes "T1 of table ") i refl
fault_line (fault.TableOf i (table.Head head.T2)) = numbered (codes "T2 of table ") i refl
fault_line (fault.TableOf i (table.Head head.T3)) = numbered (codes "T3 of table ") i refl
fault_line (fault.TableOf i (table.Head head.T4)) = numbered (codes "T4 of table ") i refl
fault_line (fault.TableOf i (table.Head head.T5)) = numbered (codes "T5 of table ") i refl
fault_line (fault.TableOf i (table.Head head.T6)) = numbered (codes "T6 of table ") i refl
fault_line (fault.TableOf i (table.T7 n)) = twice_numbered (codes "T7 at entry ") (codes " of table ") n i refl refl
fault_line (fault.Sets (set.S1 n)) = numbered (codes "S1 at line ") n refl
fault_line (fault.Sets (set.S2 n)) = numbered (codes "S2 at line ") n refl
fault_line (fault.Sets (set.S3 n)) = numbered (codes "S3 at line ") n refl
fault_line (fault.Sets (set.S4 n)) = numbered (codes "S4 at table ") n refl
fault_line (fault.Sets set.S5) = plain (codes "S5") refl
fault_line (fault.Sets (set.S6 n)) = numbered (codes "S6 at line ") n refl
fault_line (fault.Log (log.Form form.L1)) = plain (codes "L1") refl
fault_line (fault.Log (log.Form (form.L2 n))) = numbered (codes "L2 at lemma ") n refl
fault_line (fault.Log (log.Form (form.L3 n))) = numbered (codes "L3 at lemma ") n refl
fault_line (fault.Log log.L4) = plain (codes "L4") refl
fault_line (fault.Log log.L5) = plain (codes "L5") refl
fault_line (fault.Log (log.L6 n)) = numbered (codes "L6 at lemma ") n refl
fault_line (fault.O1 solution bound) = twice_numbered (codes "O1 solution ") (codes " bound ") solution bound refl refl
fault_line (fault.K1 bound) = plain (codes "K1") refl
fault_line fault.K2 = plain (codes "K2") refl
fault_line fault.K3 = plain (codes "K3") refl
fault_line fault.K4 = plain (codes "K4") refl
fault_line fault.K5 = plain (codes "K5") refl
fault_line (fault.Q1 n) = numbered (codes "Q1 at line ") n refl
fault_line (fault.Q2 n) = numbered (codes "Q2 at line ") n refl
fault_line fault.Memory = memory

-- a byte as it is shown is no LF
byte_other : (b : ℕ) → eqb (shown_byte b) 10 ≡ false
byte_other b = go (ltb b 32) (eqb b 127) (ltb-false b 32)
  where
    go : (low last : Bool) → (low ≡ false → 32 ≤ b) → eqb (cond (low || last) 63 b) 10 ≡ false
    go true last high = refl
    go false true high = refl
    go false false high = let h = high refl in ne_eqb b 10 (λ e. omega (arith, h))

-- nor is one in a name
name_other : (name : Bytes) → HasNo 10 (map shown_byte name)
name_other [] = All-nil (λ b. not (eqb b 10) ≡ true)
name_other (b ∷ name) =
    All-cons (λ b. not (eqb b 10) ≡ true) (shown_byte b) (map shown_byte name) (not_from_false (eqb (shown_byte b) 10) (byte_other b)) (name_other name)

shown_other : (name : Option Bytes) → HasNo 10 (shown name)
shown_other None = known (codes "-") refl
shown_other (Some name) = name_other name

-- a fault begins with the letter f
pub named : (text : Bytes) (name : Option Bytes) → list_all (λ b. not (eqb b 10)) text ≡ true
    → IsElseLine (named_line (codes "fault " ++ text) (shown name))
named text name all = (
  codes "fault " ++ (text ++ shown name),
  ap (λ (t : Bytes). codes "fault " ++ t) (sym (append_assoc text (shown name) (codes "\n"))),
  (
    (λ e. omega (arith, e)),
    (λ e. omega (arith, e)),
    (λ e. omega (arith, e)),
    (λ e. omega (arith, e)),
    (λ e. omega (arith, e)),
    (λ e. omega (arith, e)),
    join_no_lf (codes "fault ") (text ++ shown name) (known (codes "fault ") refl) (join_no_lf text (shown name) (known text all) (shown_other name)),
  ),
)

-- ---- texts of such lines

-- the text is of lines that say no yes
abbrev pub IsOfNoYes : Bytes → Type 0
IsOfNoYes text = IsOfLines SaysNoYes text

-- one such line is such a text
pub else_alone : (line : Bytes) → IsElseLine line → IsOfNoYes line
else_alone line is =
    subst IsOfNoYes (sym is.1) (line_alone SaysNoYes is.0 (says_else is.0 is.2) (subst SaysNoYes (append-nil is.0) (else_no_yes is.0 [] is.2)))

-- ---- digests

-- a digit is no LF, nor is what stands in the place of one that isn't there
digit_other : (k : ℕ) → eqb (slice_index lower_digits k) 10 ≡ false
digit_other k = go k lower_digits refl
  where
    go : (k : ℕ) (digits : Bytes) → list_all (λ b. not (eqb b 10)) digits ≡ true → eqb (slice_index digits k) 10 ≡ false
    go k [] all = refl
    go zero (d ∷ digits) all = not-true (eqb d 10) (and_parts (not (eqb d 10)) (list_all (λ b. not (eqb b 10)) digits) all).0
    go (suc k) (d ∷ digits) all = go k digits (and_parts (not (eqb d 10)) (list_all (λ b. not (eqb b 10)) digits) all).1

digest-no_lf : (bytes : Bytes) → HasNo 10 (encode_lower bytes)
unfolding encode_with
digest-no_lf [] = All-nil (λ b. not (eqb b 10) ≡ true)
digest-no_lf (b ∷ bytes) =
    let high = slice_index lower_digits (b / 16) in
    let low = slice_index lower_digits (b % 16) in
    All-cons (λ b. not (eqb b 10) ≡ true) high (low ∷ encode_lower bytes) (not_from_false (eqb high 10) (digit_other (b / 16)))
    (All-cons (λ b. not (eqb b 10) ≡ true) low (encode_lower bytes) (not_from_false (eqb low 10) (digit_other (b % 16))) (digest-no_lf bytes))

-- the line of a digest is one, and holds what each such line does
pub digest_alone : (Holds : Bytes → Type 0) → ((digest : Bytes) → Holds (codes "sha256 " ++ digest)) → (file : Bytes) → IsOfLines Holds (digest_line file)
digest_alone Holds each file =
    let digest = encode_lower (sha256 file) in
    line_alone Holds (codes "sha256 " ++ digest)
    (join_no_lf (codes "sha256 ") digest (known (codes "sha256 ") refl) (digest-no_lf (sha256 file))) (each digest)

-- so of several
pub digests_are : (Holds : Bytes → Type 0) → ((digest : Bytes) → Holds (codes "sha256 " ++ digest)) → (files : List Bytes) → IsOfLines Holds (digests_of files)
digests_are Holds each [] = ([], refl, tt)
digests_are Holds each (file ∷ files) =
    joined_lines Holds (digest_line file) (digests_of files) (digest_alone Holds each file) (digests_are Holds each files)
