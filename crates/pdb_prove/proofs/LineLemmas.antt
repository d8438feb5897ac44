-- The lines of refusals, and their words.
use Rattle.std.proofs.Common.{◌≡◌, ◌+◌, ◌-◌, ◌<◌, ◌≤◌, ℕ, [], ◌∷◌, ◌++◌, append_assoc, arith, codes, length, length-append, refl, slice_index, sym}
use Rattle.std.proofs.Common.{decimal}
use Rattle.std.specs.String.Boundary.{IsSplitPoint}
use Rattle.std.proofs.lemmas.Grind.{common_steps}
use Rattle.claim_text.specs.Claims.{letters}
use Rattle.log_check.specs.declared.faults.LogRefusal.TheVariants as log
use Rattle.log_file.specs.declared.faults.FormFault.TheVariants as form
use Rattle.puz_board.specs.declared.replays.MoveFault.TheVariants as move
use Rattle.puz_board.specs.declared.texts.BoardFault.TheVariants as board
use Rattle.set_sum.specs.declared.faults.SetFault.TheVariants as set
use Rattle.tab_file.specs.declared.headers.HeadFault.TheVariants as head
use Rattle.tab_rule.specs.declared.tables.TableRefusal.TheVariants as table
use Rattle.byte_io.specs.Shelf.{Bytes}
use Rattle.pdb_verdict.specs.Lines.{counted, line_of_fault}
use Rattle.pdb_verdict.specs.declared.verdicts.Fault.{Fault}
use Rattle.pdb_verdict.specs.declared.verdicts.Fault.TheVariants as fault

-- the line is these words and its end
abbrev pub IsLineOf : Bytes → Bytes → Type 0
IsLineOf line words = line ≡ words ++ codes "\n"

-- two texts with their numbers are words and the line's end
twice : (text other : Bytes) (n m : ℕ) → IsLineOf (text ++ decimal n ++ counted other m) ((text ++ decimal n) ++ (other ++ decimal m))
twice text other n m = sym (append_assoc (text ++ decimal n) (other ++ decimal m) (codes "\n"))

-- each refusal's line is some words and its end
pub fault_line : (refused : Fault) → (words : Bytes) × IsLineOf (line_of_fault refused) words
fault_line fault.P1 = (codes "refused P1", refl)
fault_line (fault.Board (board.B1 n)) = (codes "refused B1 at byte " ++ decimal n, refl)
fault_line (fault.Board (board.B2 n)) = (codes "refused B2 at byte " ++ decimal n, refl)
fault_line (fault.Board (board.B3 n)) = (codes "refused B3 count " ++ decimal n, refl)
fault_line (fault.Board (board.B4 n)) = (codes "refused B4 at number " ++ decimal n, refl)
fault_line (fault.Board (board.B5 n)) = (codes "refused B5 at number " ++ decimal n, refl)
fault_line (fault.Moves (move.M1 n)) = (codes "refused M1 at byte " ++ decimal n, refl)
fault_line (fault.Moves (move.M2 n)) = (codes "refused M2 at step " ++ decimal n, refl)
fault_line (fault.Moves move.M3) = (codes "refused M3", refl)
fault_line (fault.Moves move.M4) = (codes "refused M4", refl)
fault_line (fault.Table (table.Head head.T1)) = (codes "refused T1", refl)
fault_line (fault.Table (table.Head head.T2)) = (codes "refused T2", refl)
fault_line (fault.Table (table.Head head.T3)) = (codes "refused T3", refl)
fault_line (fault.Table (table.Head head.T4)) = (codes "refused T4", refl)
fault_line (fault.Table (table.Head head.T5)) = (codes "refused T5", refl)
fault_line (fault.Table (table.Head head.T6)) = (codes "refused T6", refl)
fault_line (fault.Table (table.T7 n)) = (codes "refused T7 at entry " ++ decimal n, refl)
fault_line (fault.TableOf i (table.Head head.T1)) = (codes "refused T1 of table " ++ decimal i, refl)
fault_line (fault.TableOf i (table.Head head.T2)) = (codes "refused T2 of table " ++ decimal i, refl)
fault_line (fault.TableOf i (table.Head head.T3)) = (codes "refused T3 of table " ++ decimal i, refl)
fault_line (fault.TableOf i (table.Head head.T4)) = (codes "refused T4 of table " ++ decimal i, refl)
fault_line (fault.TableOf i (table.Head head.T5)) = (codes "refused T5 of table " ++ decimal i, refl)
fault_line (fault.TableOf i (table.Head head.T6)) = (codes "refused T6 of table " ++ decimal i, refl)
fault_line (fault.TableOf i (table.T7 n)) = (
  (codes "refused T7 at entry " ++ decimal n) ++ (codes " of table " ++ decimal i),
  twice (codes "refused T7 at entry ") (codes " of table ") n i,
)
fault_line (fault.Sets (set.S1 n)) = (codes "refused S1 at line " ++ decimal n, refl)
fault_line (fault.Sets (set.S2 n)) = (codes "refused S2 at line " ++ decimal n, refl)
fault_line (fault.Sets (set.S3 n)) = (codes "refused S3 at line " ++ decimal n, refl)
fault_line (fault.Sets (set.S4 n)) = (codes "refused S4 at table " ++ decimal n, refl)
fault_line (fault.Sets set.S5) = (codes "refused S5", refl)
fault_line (fault.Sets (set.S6 n)) = (codes "refused S6 at line " ++ decimal n, refl)
fault_line (fault.Log (log.Form form.L1)) = (codes "refused L1", refl)
fault_line (fault.Log (log.Form (form.L2 n))) = (codes "refused L2 at lemma " ++ decimal n, refl)
fault_line (fault.Log (log.Form (form.L3 n))) = (codes "refused L3 at lemma " ++ decimal n, refl)
fault_line (fault.Log log.L4) = (codes "refused L4", refl)
fault_line (fault.Log log.L5) = (codes "refused L5", refl)
fault_line (fault.Log (log.L6 n)) = (codes "refused L6 at lemma " ++ decimal n, refl)
fault_line (fault.O1 solution bound) = (
  (codes "refused O1 solution " ++ decimal solution) ++ (codes " bound " ++ decimal bound),
  twice (codes "refused O1 solution ") (codes " bound ") solution bound,
)
fault_line (fault.K1 bound) = (codes "refused K1", refl)
fault_line fault.K2 = (codes "refused K2", refl)
fault_line fault.K3 = (codes "refused K3", refl)
fault_line fault.K4 = (codes "refused K4", refl)
fault_line fault.K5 = (codes "refused K5", refl)
fault_line (fault.Q1 n) = (codes "refused Q1 at line " ++ decimal n, refl)
fault_line (fault.Q2 n) = (codes "refused Q2 at line " ++ decimal n, refl)
fault_line fault.Memory = (codes "no memory", refl)

-- a line can be cut before its end
pub split_at_end : (line words : Bytes) → IsLineOf line words → (0 < length line) × IsSplitPoint line (length line - 1)
split_at_end line words is =
    let count : length line ≡ length words + 1 = rw is (length-append words (codes "\n")) in
    let place : length line - 1 ≡ length words = omega (arith, count) in
    let last : slice_index line (length line - 1) ≡ 10 = rw (place, is) (grind (arith, common_steps)) in
    (omega (arith, count), (omega arith, λ some low big. absurd (omega (arith, last, big))))

-- a text has no more letters than bytes
pub few_letters : (text : Bytes) → length (letters text) ≤ length text
few_letters [] = omega arith
few_letters (x ∷ text) = let rest = few_letters text in grind (arith, common_steps, rest)
