-- What lines and statuses mean follows from what is answered and what is kept.
use Rattle.std.proofs.Common.{◌≡◌, ◌∙◌, ◌⊎◌, ◌≤◌, ◌^◌, inl, inr, ℕ, Bool, true, false, List, [], ◌∷◌, ◌++◌, Option, Some, None, IfSome, ap, arith}
use Rattle.std.proofs.Common.{codes, append_assoc, decimal, drop, length, length-append, refl, subst, sym, take, take-append-drop}
use Rattle.std.specs.Option.{option_map_or}
use Rattle.std.proofs.lemmas.List.{append-nil, append_cancel_left, length-drop}
use Rattle.std.specs.Prelude.{◌≢◌}
use Rattle.claim_text.specs.Lines.{numbers}
use Rattle.claim_text.proofs.AnswerLemmas.{decimal-no_lf, goal-no_lf, join_no_lf}
use Rattle.tab_file.specs.TableFiles.{most_table_bytes}
use Rattle.tab_file.specs.Tables.{Table}
use Rattle.tab_rule.specs.ExactTables.{IsExactFile}
use Rattle.byte_io.specs.Shelf.{Bytes, Files, with_file}
use Rattle.byte_io.specs.Streams.{output}
use Rattle.pdb_request.specs.Asked.{Asked, ProveArguments, TableArguments, bound, goal_asked, make_table, optimal, parts, prove, replay, solve, table}
use Rattle.pdb_request.specs.declared.requests.LogClaim.TheVariants.{Bound, Optimum}
use Rattle.pdb_run.specs.Calls.{Calls}
use Rattle.pdb_run.specs.Commands.{Wanted}
use Rattle.pdb_run.specs.Inputs.{AreRead, Failures, IsReadFrom, left}
use Rattle.pdb_run.specs.Runs.{Ends, IsAnswered, World, status_of, status_of_reply, text_of, world}
use Rattle.pdb_run.specs.Writing.{digests_of}
use Rattle.pdb_run.specs.Statuses.{status_number}
use Rattle.pdb_run.specs.declared.statuses.Status.{Status}
use Rattle.pdb_run.specs.declared.statuses.Status.TheVariants.{Fault, NoMemory, Yes, Refused}
use Rattle.puz_goal.specs.Goals.{goal_words}
use Rattle.pdb_verdict.specs.Inputs.{Given, files_in_order, goal_of, puzzle_text, table_file}
use Rattle.pdb_verdict.specs.Lines.{digested_of, line_of_verdict}
use Rattle.pdb_verdict.specs.Verdicts.{HoldsOfSolutions, IsTrueOf}
use Rattle.pdb_verdict.specs.declared.verdicts.Verdict.{Verdict}
use Rattle.pdb_verdict.proofs.VerdictLemmas.{no_told, yes_told}
use Rattle.pdb_check.specs.Plans.{check_plan, log_check_inputs, log_given, replay_inputs, table_inputs, table_plan}
use Rattle.pdb_check.proofs.ReadLemmas.{files_stood, log_stood, replay_stood, table_stood}
use Rattle.pdb_keep.specs.Laws.{told_moves}
use Rattle.pdb_keep.specs.Solve.{letters_of, moves_line}
use Rattle.pdb_keep.proofs.KeptLemmas.{file-kept, log_answered, search_stood, table_answered}
use Rattle.pdb_keep.proofs.LetterLemmas.{told_solution}
use Rattle.pdb_parts.proofs.ReplyLemmas.{yes_says}
use Rattle.pdb_words.specs.CommandLine.{Parses, asked_of}
use Rattle.pdb_program.specs.Headline.{AreAYes, ArePartLinesTrue, AreWholeLines, HasLine, Headline, HoldsOfYes, SaysExact, SaysYes}
use Rattle.pdb_program.specs.Programs.{EndsFor, IsNumberOfStatus, RunsOn, plan_of}
use Rattle.pdb_program.specs.Steps.{SaysHeadline, SaysParts}
use Rattle.pdb_program.proofs.AnswerLemmas.{AnswersOnce, IsLast, behind_digests, counted_last, digests_say_no_yes, exact_one, exact_words}
use Rattle.pdb_program.proofs.AnswerLemmas.{joined_ended, joined_one, joined_words, line_last, moves_say_no_yes, outcome_answer}
use Rattle.pdb_program.proofs.ElseLemmas.{SaysNoYes, known}
use Rattle.pdb_program.proofs.LineLemmas.{ended, joined_lines, last_yes, whole_lines}
use Rattle.pdb_program.proofs.ProgramLemmas.{answered_by}
use Rattle.pdb_program.proofs.SpellLemmas.{numbers_spelt}
use Rattle.pdb_program.proofs.TrueLemmas.{claims_true, claims_yes, part_lines_true, yes_lines}

-- ---- a yes or a no

says : (is_yes other : Bool) → status_of_reply other ≡ status_of_reply is_yes → is_yes ≡ other
says true true is = refl
says false false is = refl
says true false is = let clash : Refused ≡ Yes = is in cc
says false true is = let clash : Yes ≡ Refused = is in cc

yes_or_not : (status : Status) → (status ≡ Yes) ⊎ (status ≢ Yes)
yes_or_not Yes = inl refl
yes_or_not Refused = inr (λ e. cc)
yes_or_not Fault = inr (λ e. cc)
yes_or_not NoMemory = inr (λ e. cc)

-- ---- over what tells its bytes

module _ (before later : Files) (input start lines : Bytes) (calls calls_after : Calls) (failed failed_after : Failures) (cut cut_after : Bool)
    (reader : Option Bytes) where
  abbrev old : World
  old = world (Some before) calls failed (Some input) (output (Some start) cut)

  abbrev new : World
  new = world (Some later) calls_after failed_after reader (output (Some (start ++ lines)) cut_after)

  -- what was appended is all that was written
  last : (files more : List Bytes) (line text : Bytes) → IsLast line text
      → start ++ lines ≡ start ++ (digests_of files ++ (digests_of more ++ text)) → IsLast line lines
  last files more line text is appends =
      subst (IsLast line) (sym (append_cancel_left start lines _ appends)) (behind_digests files more line text is)

  -- what was read stood there
  stood : (name : Option Bytes) (bytes : Bytes) → IsReadFrom (Some before) (Some input) name bytes
      → option_map_or before name (Some input) ≡ Some bytes
  stood None bytes read = ap Some read
  stood (Some name) bytes read = read

  -- what was kept stands under its name
  stands : (out file : Bytes) → Some later ≡ Some (with_file before out file) → later out ≡ Some file
  stands out file kept =
      subst (λ (o : Option Files). IfSome o (λ files. files out ≡ Some file)) (sym kept) (file-kept before out file)

  -- a yes on inputs that were read
  checked : {A : Type 0} (wanted : List Wanted) (given_of : A → Given)
      → (a : IsAnswered (check_plan wanted given_of) old new Yes) → let of = given_of a.right.1.0 in
      (v : Verdict) × AreRead (Some before) (Some input) wanted (files_in_order of) × IsTrueOf of v
      × HoldsOfSolutions of v × ((w : Verdict) (line : Bytes) → v ≡ w → IsLast line (line_of_verdict (goal_of of) w) → IsLast line lines)
  checked wanted given_of a =
      let is = a.right.1 in
      let of = given_of is.0 in
      let yes = yes_told of a.reply is.2 (says a.reply.is_yes true a.is_status) in (
        yes.verdict,
        rw is.1 at a.right.0,
        yes.is_true,
        yes.holds,
        λ w line same is_last. last (digested_of of) [] line (line_of_verdict (goal_of of) w) is_last (rw (yes.told, same) at a.lines.0),
      )

  -- the last line says a yes, and this is true
  record EndsWithYes (asked : Asked) : Type 0 where
    line : Bytes
    is_last : IsLast line lines
    says : SaysYes line
    holds : HoldsOfYes asked before later input is_last.above line

  yes_by : (asked : Asked) → AnswersOnce asked → IsAnswered (plan_of asked) old new Yes → EndsWithYes asked
  yes_by (replay arguments) once a =
      let goal = arguments.goal in
      let all = checked (replay_inputs arguments) (puzzle_text goal) a in
      let puzzle = a.right.1.0 in
      let read = replay_stood (Some before) (Some input) arguments puzzle all.1 in
      let n = all.2.0 in
      let is_last = all.4 _ (codes "solution " ++ decimal n ++ goal_words goal) all.2.2 (counted_last goal (codes "solution ") n (known (codes "solution ") refl)) in
      record {
        line = codes "solution " ++ decimal n ++ goal_words goal;
        is_last = is_last;
        says = (codes " " ++ decimal n ++ goal_words goal, inl refl);
        holds = (puzzle, n, stood arguments.puzzle puzzle read, refl, all.2.1);
      }
  yes_by (table arguments) once a =
      let all = checked (table_inputs arguments) table_file a in
      let file = a.right.1.0 in
      let side = all.2.0.0 in
      let mask = all.2.0.1 in
      let census = all.2.0.2 in
      let is = all.2.1 in
      let stood = table_stood (Some before) (Some input) arguments file all.1 in
      let words = exact_words side mask census.entries census.unreachable census.deepest in
      let exact : SaysExact words file side mask =
      (is.table, sym is.is_side, sym is.is_mask, is.exact, census.entries, census.unreachable, census.deepest, refl) in
      record {
        line = words;
        is_last = all.4 _ words all.2.2 (line_last words (exact_one side mask census.entries census.unreachable census.deepest));
        says = (_, inr (inl refl));
        holds = (file, side, mask, stood, is.mask_low, exact);
      }
  yes_by (bound arguments) once a =
      let all = checked (log_check_inputs arguments) (log_given Bound arguments) a in
      let files = a.right.1.0 in
      let read = log_stood (Some before) (Some input) Bound arguments files all.1 in
      let n = all.3.0 in
      record {
        line = codes "bound " ++ decimal n ++ goal_words arguments.goal;
        is_last = all.4 _ _ all.3.2 (counted_last arguments.goal (codes "bound ") n (known (codes "bound ") refl));
        says = (codes " " ++ decimal n ++ goal_words arguments.goal, inr (inr (inl refl)));
        holds = (files.text, n, read.text, refl, all.3.1);
      }
  yes_by (optimal arguments) once a =
      let all = checked (log_check_inputs arguments) (log_given Optimum arguments) a in
      let files = a.right.1.0 in
      let read = log_stood (Some before) (Some input) Optimum arguments files all.1 in
      let n = all.3.0 in
      record {
        line = codes "optimal " ++ decimal n ++ goal_words arguments.goal;
        is_last = all.4 _ _ all.3.2 (counted_last arguments.goal (codes "optimal ") n (known (codes "optimal ") refl));
        says = (codes " " ++ decimal n ++ goal_words arguments.goal, inr (inr (inr (inl refl))));
        holds = (files.text, n, all.3.1.solved, read.text, refl, all.3.1.least.bounded);
      }
  yes_by (make_table arguments) once a =
      let kept = table_answered arguments old new a in
      let is = kept.exact in
      let census = kept.census in
      let words = exact_words arguments.side arguments.mask census.entries census.unreachable census.deepest in
      let exact : SaysExact words kept.file arguments.side arguments.mask =
      (is.table, sym is.is_side, sym is.is_mask, is.exact, census.entries, census.unreachable, census.deepest, refl) in
      let one = exact_one arguments.side arguments.mask census.entries census.unreachable census.deepest in
      record {
        line = words;
        is_last = last [] (kept.file ∷ []) words _ (line_last words one) kept.lines.0;
        says = (_, inr (inl refl));
        holds = (kept.file, stands arguments.out kept.file kept.kept, exact);
      }
  yes_by (solve arguments) once a =
      let kept = log_answered arguments old new a in
      let f = kept.found in
      let n = kept.n in
      let read = search_stood (Some before) (Some input) arguments f.board_text f.set_text kept.files f.read in
      let goal = arguments.goal in
      let words = goal_words goal in
      let solution = told_solution goal f.board kept.moves n f.solved in
      let told = told_moves (letters_of kept.moves) in
      let ml = moves_line goal (letters_of kept.moves) in
      let line = codes "optimal " ++ decimal n ++ words in
      let tables = digests_of kept.files in
      let kept_digest = digests_of (kept.log ∷ []) in
      let digests = tables ++ kept_digest in
      let no_digest = joined_lines SaysNoYes tables kept_digest (digests_say_no_yes kept.files) (digests_say_no_yes (kept.log ∷ [])) in
      let is_last : IsLast line lines = record {
        above = digests ++ ml;
        whole = append_cancel_left start lines _ kept.lines.0 ∙ sym (append_assoc tables kept_digest (ml ++ (line ++ codes "\n")))
            ∙ sym (append_assoc digests ml (line ++ codes "\n"));
        none = joined_lines SaysNoYes digests ml no_digest (moves_say_no_yes goal kept.moves);
        one = join_no_lf (codes "optimal " ++ decimal n) words
            (join_no_lf (codes "optimal ") (decimal n) (known (codes "optimal ") refl) (decimal-no_lf n)) (goal-no_lf goal);
      } in
      let moves_above : HasLine digests (codes "moves" ++ told ++ words) [] (digests ++ ml) = (
        subst AreWholeLines (sym no_digest.1) (whole_lines no_digest.0),
        join_no_lf (codes "moves" ++ told) words (join_no_lf (codes "moves") told (known (codes "moves") refl) solution.one_line) (goal-no_lf goal),
        ap (λ (t : Bytes). digests ++ t) solution.line,
      ) in
      record {
        line = line;
        is_last = is_last;
        says = (codes " " ++ decimal n ++ words, inr (inr (inr (inl refl))));
        holds = (
          f.board_text,
          f.board,
          told,
          n,
          read.board,
          f.spelt,
          refl,
          digests,
          moves_above,
          solution.solves,
          f.least.bounded,
          f.set_text,
          kept.files,
          kept.log,
          read.sets,
          files_stood before (Some input) most_table_bytes arguments.tables kept.files read.tables,
          stands arguments.out kept.log kept.kept,
          f.proved,
        );
      }
  yes_by (prove arguments) once a = absurd (once arguments refl)
  yes_by (parts arguments) once a =
      let is = a.right.1 in
      let said = yes_says arguments a.inputs a.reply is (says a.reply.is_yes true a.is_status) in
      let read = rw is.order at a.right.0 in
      let goal = arguments.goal in
      let words = joined_words goal arguments.bound arguments.count said.board in
      let is_last : IsLast words lines = record {
        above = digests_of is.answers;
        whole = append_cancel_left start lines _ a.lines.0 ∙ said.line
            ∙ ap (λ (t : Bytes). digests_of is.answers ++ t) (joined_ended goal arguments.bound arguments.count said.board);
        none = digests_say_no_yes is.answers;
        one = joined_one goal arguments.bound arguments.count said.board;
      } in
      record {
        line = words;
        is_last = is_last;
        says = (_, inr (inr (inr (inr refl))));
        holds = (
          is.text,
          numbers said.board,
          said.board,
          stood arguments.board is.text read.0.0,
          said.spelt,
          numbers_spelt said.board said.spelt.board,
          refl,
          is.answers,
          files_stood before (left (Some input) arguments.board) (2 ^ 26) arguments.answers is.answers read.1,
          refl,
          said.bounded,
        );
      }

  no_by : (arguments : TableArguments) → IsAnswered (table_plan arguments) old new Refused
      → (file : Bytes) × (before arguments.file ≡ Some file) × ((t : Table) → ¬ IsExactFile t file)
  no_by arguments a =
      let is = a.right.1 in
      let read = table_stood (Some before) (Some input) arguments is.0 (rw is.1 at a.right.0) in
      (is.0, read, no_told is.0 a.reply is.2 (says a.reply.is_yes false a.is_status))

  -- a line that says a yes is the last one, and the status is that of a yes
  yes_is_last : (asked : Asked) (status : Status) → AnswersOnce asked → Ends (plan_of asked) old new status
      → (above line below : Bytes) → HasLine above line below lines → SaysYes line → (below ≡ []) × (status ≡ Yes)
  yes_is_last asked status once ends above line below has says =
      let text = text_of ends.outcome in
      let is = outcome_answer asked old new.failed ends.outcome once ends.cause in
      let all = is.1.none in
      let whole : text ≡ ended all.0 ++ (is.0 ++ codes "\n") = is.1.whole ∙ ap (λ (t : Bytes). t ++ (is.0 ++ codes "\n")) all.1 in
      elim ends.said [
        | inl said ↦
            let same = append_cancel_left start lines text said.0.0 in
            let found = last_yes all.0 is.0 above line below lines [] all.2 is.1.one has says (append-nil lines ∙ same ∙ whole) in
            elim (yes_or_not (status_of ends.outcome)) [
              | inl e ↦ (sym (append-nil below) ∙ found.2, said.1 ∙ e)
              | inr other ↦ absurd (is.2 other (subst SaysYes found.1 says))
            ]
        | inr cut ↦
            let n = cut.0.0.0 in
            let rest = drop n text in
            let same = ap (λ (t : Bytes). t ++ rest) (append_cancel_left start lines (take n text) cut.0.0.2) ∙ take-append-drop n text in
            let found = last_yes all.0 is.0 above line below lines rest all.2 is.1.one has says (same ∙ whole) in
            let none : length (below ++ rest) ≡ 0 = ap length found.2 in
            let sum = length-append below rest in
            let left = length-drop n text in
            absurd (omega (arith, cut.0.0.1, none, sum, left))
      ]

  -- what such a line says is true
  yes_is_true : (asked : Asked) → EndsWithYes asked → (above line below : Bytes) → HasLine above line below lines → SaysYes line
      → HoldsOfYes asked before later input above line
  yes_is_true asked ends above line below has says =
      let all = ends.is_last.none in
      let whole = append-nil lines ∙ ends.is_last.whole ∙ ap (λ (t : Bytes). t ++ (ends.line ++ codes "\n")) all.1 in
      let found = last_yes all.0 ends.line above line below lines [] all.2 ends.is_last.one has says whole in
      subst (λ (t : Bytes × Bytes). HoldsOfYes asked before later input t.0 t.1)
      (λ i. (((all.1 ∙ sym found.0) i), (sym found.1 i)))
      ends.holds

  -- such a run wasn't cut
  once_ends : (asked : Asked) (status : Status) → AnswersOnce asked → EndsFor asked old new status → Ends (plan_of asked) old new status
  once_ends asked status once (inl ends) = ends
  once_ends (prove a) status once (inr cut) = absurd (once a refl)
  once_ends _ status once (inr cut) = absurd cut

  once_yes : (asked : Asked) → AnswersOnce asked → ((above : Bytes) × (line : Bytes) × HasLine above line [] lines × SaysYes line) → AreAYes asked lines
  once_yes (prove a) once there = absurd (once a refl)
  once_yes _ once there = there

  -- and there is one
  yes_is_there : (asked : Asked) → EndsWithYes asked → (above : Bytes) × (line : Bytes) × HasLine above line [] lines × SaysYes line
  yes_is_there asked ends =
      let all = ends.is_last.none in
      let begins = subst AreWholeLines (sym all.1) (whole_lines all.0) in
      (ends.is_last.above, ends.line, (begins, ends.is_last.one, ends.is_last.whole), ends.says)

  -- no status is another than these
  low : (status : Status) (number : ℕ) → number ≡ status_number status → number ≤ 3
  low Yes number e = omega arith
  low _ number e = omega arith

  -- what a no means
  no_told_by : (asked : Asked) (number : ℕ) → IsNumberOfStatus (EndsFor asked old new) number
      → (a : TableArguments) → asked ≡ table a → number ≡ 1 → (file : Bytes) × (before a.file ≡ Some file) × ((t : Table) → ¬ IsExactFile t file)
  no_told_by asked number ended a same one = no_by a (answered_by (table a) old new false number (rw same at ended) one)

  -- of a command that answers once
  once_told : (asked : Asked) (number : ℕ) → AnswersOnce asked → IsNumberOfStatus (EndsFor asked old new) number
      → Headline asked before later input lines number
  once_told asked number once ended =
      let ends = once_ends asked ended.0 once ended.2 in
      let found = yes_is_last asked ended.0 once ends in
      let yes = λ (zero : number ≡ 0). yes_by asked once (answered_by asked old new true number ended zero) in
      let zero = λ (is_yes : ended.0 ≡ Yes). ended.1 ∙ ap status_number is_yes in
      record {
        lines_true = λ above line below has says.
            yes_is_true asked (yes (zero (found above line below has says).1)) above line below has says;
        parts_true = λ a same. absurd (once a same);
        last = λ above line below has says _. ((found above line below has says).0, zero (found above line below has says).1);
        yes = λ is_zero. once_yes asked once (yes_is_there asked (yes is_zero));
        no = no_told_by asked number ended;
        known = low ended.0 number ended.1;
      }

  -- of `prove`
  prove_told : (a : ProveArguments) (number : ℕ) → IsNumberOfStatus (EndsFor (prove a) old new) number
      → Headline (prove a) before later input lines number
  prove_told a number ended = record {
    lines_true = claims_true start lines a old new ended.0 ended.2 refl refl;
    parts_true = λ b same.
        subst (λ goal. ArePartLinesTrue goal lines) (ap goal_asked same) (part_lines_true start lines a old new ended.0 ended.2 refl refl);
    last = λ above line below has says once. absurd (once a refl);
    yes = λ zero.
        let answered = answered_by (prove a) old new true number ended zero in
        let told = yes_lines a old new Yes answered (says answered.reply.is_yes true answered.is_status) in
        claims_yes a lines told.0 told.1 (append_cancel_left start lines _ answered.lines.0 ∙ told.2) told.3;
    no = no_told_by (prove a) number ended;
    known = low ended.0 number ended.1;
  }

  -- the sentence follows from how a run ends
  headline_told : (asked : Asked) (number : ℕ) → IsNumberOfStatus (EndsFor asked old new) number
      → Headline asked before later input lines number
  headline_told (replay a) number ended = once_told (replay a) number (λ b e. cc) ended
  headline_told (table a) number ended = once_told (table a) number (λ b e. cc) ended
  headline_told (bound a) number ended = once_told (bound a) number (λ b e. cc) ended
  headline_told (optimal a) number ended = once_told (optimal a) number (λ b e. cc) ended
  headline_told (make_table a) number ended = once_told (make_table a) number (λ b e. cc) ended
  headline_told (solve a) number ended = once_told (solve a) number (λ b e. cc) ended
  headline_told (prove a) number ended = prove_told a number ended
  headline_told (parts a) number ended = once_told (parts a) number (λ b e. cc) ended

-- so of a run on words, and on the same words
pub headline_of : (words other : List Bytes) (old new : World) (old_err new_err : Option Bytes) (number : ℕ) → other ≡ words
    → RunsOn other old new old_err new_err number → SaysHeadline words old new number
headline_of words other old new old_err new_err number same runs before later input start lines parses had has left stood wrote =
    let ends = rw same at (runs.ends (rw same parses)) in
    headline_told before later input start lines old.calls new.calls old.failed new.failed old.written.failed new.written.failed new.reader
    (asked_of words) number
    (subst (λ (w : World × World). IsNumberOfStatus (EndsFor (asked_of words) w.0 w.1) number)
    (λ i. (
      world (had i) old.calls old.failed (left i) (output (stood i) old.written.failed),
      world (has i) new.calls new.failed new.reader (output (wrote i) new.written.failed),
    ))
    ends)

-- what the lines of `prove` on parts mean follows from it too
pub part_lines_of : (words other : List Bytes) (old new : World) (status : Status) → other ≡ words
    → (Parses other → EndsFor (asked_of other) old new status) → SaysParts words old new
part_lines_of words other old new status same ended a start lines parses asked stood wrote =
    part_lines_true start lines a old new status (rw asked at (rw same at (ended (rw same parses)))) stood wrote
