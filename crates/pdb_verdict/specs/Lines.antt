-- The lines that a verdict or a refusal is told in.
use Rattle.std.specs.Prelude.{ℕ, Bool, true, false, if◌then◌else◌, is_ok, List, [], ◌∷◌, ◌++◌, None, Result, Ok, Err, codes, decimal}
use Rattle.puz_board.specs.declared.replays.MoveFault.{MoveFault}
use Rattle.puz_board.specs.declared.replays.MoveFault.TheVariants.{M1, M2, M3, M4}
use Rattle.puz_board.specs.declared.texts.BoardFault.{BoardFault}
use Rattle.puz_board.specs.declared.texts.BoardFault.TheVariants.{B1, B2, B3, B4, B5}
use Rattle.tab_file.specs.declared.headers.HeadFault.{HeadFault}
use Rattle.tab_file.specs.declared.headers.HeadFault.TheVariants.{T1, T2, T3, T4, T5, T6}
use Rattle.tab_rule.specs.declared.tables.TableRefusal.{TableRefusal}
use Rattle.tab_rule.specs.declared.tables.TableRefusal.TheVariants.{Head, T7}
use Rattle.set_sum.specs.declared.faults.SetFault.{SetFault}
use Rattle.set_sum.specs.declared.faults.SetFault.TheVariants.{S1, S2, S3, S4, S5, S6}
use Rattle.log_file.specs.declared.faults.FormFault.{FormFault}
use Rattle.log_file.specs.declared.faults.FormFault.TheVariants.{L1, L2, L3}
use Rattle.log_check.specs.declared.faults.LogRefusal.{LogRefusal}
use Rattle.log_check.specs.declared.faults.LogRefusal.TheVariants.{Form, L4, L5, L6}
use Rattle.puz_goal.specs.declared.goals.Goal.{Goal}
use Rattle.puz_goal.specs.declared.goals.Goal.TheVariants.{First}
use Rattle.puz_goal.specs.Goals.{goal_words}
use Rattle.byte_io.specs.Shelf.{Bytes}
use Rattle.pdb_run.specs.Writing.{memory_line, reply_text}
use Rattle.pdb_run.specs.Commands.{Reply}
use Rattle.pdb_verdict.specs.Inputs.{Given, goal_of, log_claim, puzzle_text, table_file}
use Rattle.pdb_verdict.specs.declared.verdicts.Fault.{Fault}
use Rattle.pdb_verdict.specs.declared.verdicts.Fault.TheVariants as fault
use Rattle.pdb_verdict.specs.declared.verdicts.Verdict.{Verdict}
use Rattle.pdb_verdict.specs.declared.verdicts.Verdict.TheVariants as verdict

-- a text, a number, and the line's end
abbrev pub counted : Bytes → ℕ → Bytes
counted text n = text ++ decimal n ++ codes "\n"

-- of a refused board text
abbrev pub line_of_board_fault : BoardFault → Bytes
line_of_board_fault (B1 place) = counted (codes "refused B1 at byte ") place
line_of_board_fault (B2 place) = counted (codes "refused B2 at byte ") place
line_of_board_fault (B3 count) = counted (codes "refused B3 count ") count
line_of_board_fault (B4 index) = counted (codes "refused B4 at number ") index
line_of_board_fault (B5 index) = counted (codes "refused B5 at number ") index

-- of a refused moves text
abbrev pub line_of_move_fault : MoveFault → Bytes
line_of_move_fault (M1 place) = counted (codes "refused M1 at byte ") place
line_of_move_fault (M2 step) = counted (codes "refused M2 at step ") step
line_of_move_fault M3 = codes "refused M3\n"
line_of_move_fault M4 = codes "refused M4\n"

-- of a refused header of a table file
abbrev pub line_of_head_fault : HeadFault → Bytes
line_of_head_fault T1 = codes "refused T1\n"
line_of_head_fault T2 = codes "refused T2\n"
line_of_head_fault T3 = codes "refused T3\n"
line_of_head_fault T4 = codes "refused T4\n"
line_of_head_fault T5 = codes "refused T5\n"
line_of_head_fault T6 = codes "refused T6\n"

-- of a refused table file
abbrev pub line_of_table_refusal : TableRefusal → Bytes
line_of_table_refusal (Head refused) = line_of_head_fault refused
line_of_table_refusal (T7 number) = counted (codes "refused T7 at entry ") number

-- of a refused header of the table file with number i, where there are several
abbrev pub line_of_numbered_head_fault : ℕ → HeadFault → Bytes
line_of_numbered_head_fault i T1 = counted (codes "refused T1 of table ") i
line_of_numbered_head_fault i T2 = counted (codes "refused T2 of table ") i
line_of_numbered_head_fault i T3 = counted (codes "refused T3 of table ") i
line_of_numbered_head_fault i T4 = counted (codes "refused T4 of table ") i
line_of_numbered_head_fault i T5 = counted (codes "refused T5 of table ") i
line_of_numbered_head_fault i T6 = counted (codes "refused T6 of table ") i

-- two texts, each with a number behind it, and the line's end
abbrev pub counted_twice : Bytes → ℕ → Bytes → ℕ → Bytes
counted_twice text n other m = text ++ decimal n ++ counted other m

-- of the refused table file with number i, where there are several
abbrev pub line_of_numbered_table_refusal : ℕ → TableRefusal → Bytes
line_of_numbered_table_refusal i (Head refused) = line_of_numbered_head_fault i refused
line_of_numbered_table_refusal i (T7 number) = counted_twice (codes "refused T7 at entry ") number (codes " of table ") i

-- of refused tables and a refused set text
abbrev pub line_of_set_fault : SetFault → Bytes
line_of_set_fault (S1 line) = counted (codes "refused S1 at line ") line
line_of_set_fault (S2 line) = counted (codes "refused S2 at line ") line
line_of_set_fault (S3 line) = counted (codes "refused S3 at line ") line
line_of_set_fault (S4 table) = counted (codes "refused S4 at table ") table
line_of_set_fault S5 = codes "refused S5\n"
line_of_set_fault (S6 line) = counted (codes "refused S6 at line ") line

-- of bytes that are no log file
abbrev pub line_of_form_fault : FormFault → Bytes
line_of_form_fault L1 = codes "refused L1\n"
line_of_form_fault (L2 lemma) = counted (codes "refused L2 at lemma ") lemma
line_of_form_fault (L3 lemma) = counted (codes "refused L3 at lemma ") lemma

-- of a refused log file
abbrev pub line_of_log_refusal : LogRefusal → Bytes
line_of_log_refusal (Form refused) = line_of_form_fault refused
line_of_log_refusal L4 = codes "refused L4\n"
line_of_log_refusal L5 = codes "refused L5\n"
line_of_log_refusal (L6 lemma) = counted (codes "refused L6 at lemma ") lemma

-- of a refusal or want of memory
abbrev pub line_of_fault : Fault → Bytes
line_of_fault fault.P1 = codes "refused P1\n"
line_of_fault (fault.Board refused) = line_of_board_fault refused
line_of_fault (fault.Moves refused) = line_of_move_fault refused
line_of_fault (fault.Table refused) = line_of_table_refusal refused
line_of_fault (fault.TableOf number refused) = line_of_numbered_table_refusal number refused
line_of_fault (fault.Sets refused) = line_of_set_fault refused
line_of_fault (fault.Log refused) = line_of_log_refusal refused
line_of_fault (fault.O1 solution bound) = counted_twice (codes "refused O1 solution ") solution (codes " bound ") bound
line_of_fault (fault.K1 bound) = codes "refused K1\n"
line_of_fault fault.K2 = codes "refused K2\n"
line_of_fault fault.K3 = codes "refused K3\n"
line_of_fault fault.K4 = codes "refused K4\n"
line_of_fault fault.K5 = codes "refused K5\n"
line_of_fault (fault.Q1 line) = counted (codes "refused Q1 at line ") line
line_of_fault (fault.Q2 line) = counted (codes "refused Q2 at line ") line
line_of_fault fault.Memory = memory_line

-- the line `exact`: the side and the mask of a table's pattern, how many entries it has, how many of them say that no walk leads
-- home, and the greatest count
abbrev pub exact_line : (side mask entries unreachable deepest : ℕ) → Bytes
exact_line side mask entries unreachable deepest = codes "exact side " ++ decimal side ++ codes " mask " ++ decimal mask ++ codes " entries " ++ decimal entries
    ++ codes " unreachable " ++ decimal unreachable ++ codes " deepest " ++ decimal deepest ++ codes "\n"

-- a text, a number, what an answer for the goal ends with, and the line's end
abbrev pub counted_for : Goal → Bytes → ℕ → Bytes
counted_for goal text n = text ++ decimal n ++ goal_words goal ++ codes "\n"

-- of a yes on a board for a goal, or on a table
abbrev pub line_of_verdict : Goal → Verdict → Bytes
line_of_verdict goal (verdict.Solution n) = counted_for goal (codes "solution ") n
line_of_verdict goal (verdict.Exact side mask census) = exact_line side mask census.entries census.unreachable census.deepest
line_of_verdict goal (verdict.Bound n) = counted_for goal (codes "bound ") n
line_of_verdict goal (verdict.Optimal n) = counted_for goal (codes "optimal ") n

-- of an answer
abbrev pub line_for : Goal → Result Verdict Fault → Bytes
line_for goal (Ok taken) = line_of_verdict goal taken
line_for goal (Err refused) = line_of_fault refused

-- of an answer for the first goal, or of any refusal
abbrev pub line_of : Result Verdict Fault → Bytes
line_of answer = line_for First answer

-- ---- behind the digests of files

-- the files whose digests are told
abbrev pub digested_of : Given → List Bytes
digested_of (puzzle_text goal puzzle) = []
digested_of (table_file table) = table ∷ []
digested_of (log_claim claim files) = files.tables ++ files.log ∷ []

-- an answer behind the digests of these files, as a run tells it; no file is made
abbrev pub reply_for : Goal → List Bytes → Result Verdict Fault → Reply
reply_for goal files answer = record { digested = files; made = None; lines = line_for goal answer; is_yes = is_ok answer }

-- the same for the first goal, or of any refusal
abbrev pub reply_on : List Bytes → Result Verdict Fault → Reply
reply_on files answer = reply_for First files answer

-- an answer on inputs
abbrev pub reply_to : Given → Result Verdict Fault → Reply
reply_to inputs answer = reply_for (goal_of inputs) (digested_of inputs) answer

-- want of memory is said without digests
abbrev pub stands_alone : Result Verdict Fault → Bool
stands_alone (Err fault.Memory) = true
stands_alone answer = false

-- all lines on the inputs: the digests, and then the answer's line
abbrev pub lines_of : Given → Result Verdict Fault → Bytes
lines_of inputs answer = if stands_alone answer then line_for (goal_of inputs) answer else reply_text (reply_to inputs answer)
