-- What a run of a command that answers once writes: lines that say no yes, and a last line.
use Rattle.std.proofs.Common.{◌≡◌, ◌∙◌, ◌*◌, ◌<◌, ◌≤◌, ◌&&◌, ap, ℕ, suc, Bool, true, false, List, [], ◌∷◌, ◌++◌, None, Option, Some, Ok, Err, Result, append_assoc}
use Rattle.std.proofs.Common.{arith, codes, cond, decimal, filter, flat_map, length, lit<, map, not, refl, subst, sym}
use Rattle.std.proofs.lemmas.List.{append-nil}
use Rattle.std.proofs.lemmas.List.Elements.{All-cons, All-nil}
use Rattle.std.specs.Prelude.{◌==◌, ◌≢◌}
use Rattle.std.specs.List.{list_all, range_with_len}
use Rattle.claim_text.specs.Claims as claims
use Rattle.claim_text.specs.Claims.{HasNo, ShownAsks, ShownClaim, part}
use Rattle.claim_text.specs.Lines.{asks_words, claim_line, claim_words, joined_goal, joined_line, numbers, shorter, spaced_letters, told_line, told_text}
use Rattle.claim_text.specs.Parts.{part_at}
use Rattle.claim_text.proofs.AnswerLemmas.{answer-no_lf, claim-no_lf, decimal-no_lf, goal-no_lf, join_no_lf, no_side, numbers-no_lf}
use Rattle.claim_text.proofs.CutLemmas.{other_rest}
use Rattle.puz_board.specs.Boards.{IsBoard, side_of}
use Rattle.puz_board.specs.BoardTexts.{board_of_text}
use Rattle.puz_board.specs.MovesTexts.{moves_of}
use Rattle.puz_board.specs.declared.texts.BoardFault.{BoardFault}
use Rattle.puz_board.proofs.BoardLemmas.{cells_most}
use Rattle.puz_board.proofs.SpellingLemmas.{spelled-board_of_text}
use Rattle.puz_board.specs.declared.moves.Move.{Move}
use Rattle.puz_board.specs.declared.moves.Move.TheVariants.{Up, Down, Left, Right}
use Rattle.byte_io.specs.Shelf.{Bytes}
use Rattle.byte_io.specs.declared.shelf.KeepFault.{KeepFault}
use Rattle.byte_io.specs.declared.shelf.KeepFault.TheVariants as keep
use Rattle.byte_io.specs.declared.streams.ReadFault.TheVariants as read
use Rattle.pdb_request.specs.Asked.{Asked, PartsArguments, ProveArguments, bound, make_table, optimal, parts, prove, replay, solve, table}
use Rattle.pdb_run.specs.Commands.{Reply}
use Rattle.pdb_run.specs.Inputs.{Failures}
use Rattle.pdb_run.specs.Runs.{HasCause, IsRight, Outcome, World, made_wrong, no_memory, replied, spared, status_of, status_of_reply, text_of, unkept}
use Rattle.pdb_run.specs.Runs.{unkept_status, unkept_text, unlisted, unread, unseen, unwritable}
use Rattle.pdb_run.specs.Writing.{digests_of, reply_text}
use Rattle.pdb_run.specs.declared.statuses.Status.{Status}
use Rattle.pdb_run.specs.declared.statuses.Status.TheVariants.{Yes}
use Rattle.pdb_verdict.specs.Inputs.{Given, goal_of}
use Rattle.puz_goal.specs.Goals.{goal_words}
use Rattle.puz_goal.specs.declared.goals.Goal.{Goal}
use Rattle.puz_goal.specs.declared.goals.Goal.TheVariants.{First, Last}
use Rattle.pdb_verdict.specs.Lines.{counted_for, line_of_fault, line_of_verdict, reply_to}
use Rattle.pdb_verdict.specs.Verdicts.{TellsResult}
use Rattle.pdb_verdict.specs.declared.verdicts.Fault.{Fault}
use Rattle.pdb_verdict.specs.declared.verdicts.Fault.TheVariants as fault
use Rattle.pdb_verdict.specs.declared.verdicts.Verdict.{Verdict}
use Rattle.pdb_verdict.specs.declared.verdicts.Verdict.TheVariants as verdict
use Rattle.pdb_keep.specs.MakeTable.{Build, built, reply_to_build, unbuilt}
use Rattle.pdb_keep.specs.Solve.{SearchOutcome, letter_of, letters_of, moves_line, reply_to_search, searched, unmade}
use Rattle.pdb_parts.specs.Joining.{ShownBoundInParts, are_told, bound_reply, is_told, joined_reply, open_claim, open_reply, whole_lines}
use Rattle.pdb_parts.specs.Parts.{IsPartsReply, IsReplyOfParts, asked_of_board}
use Rattle.pdb_program.specs.Programs.{plan_of}
use Rattle.pdb_program.proofs.ElseLemmas.{IsElseLine, IsOfNoYes, SaysElse, SaysNoYes, digest_no_yes, digests_are, else_alone, else_no_yes, fault_line}
use Rattle.pdb_program.proofs.ElseLemmas.{known, maker, memory, named, refused_whole, says_else, with_number}
use Rattle.pdb_program.proofs.LineLemmas.{joined_lines}
use Rattle.pdb_program.proofs.SpellLemmas.{digit_first}

-- this line is the last of the lines, and those above it say no yes
pub record IsLast (line lines : Bytes) : Type 0 where
  pub above : Bytes
  pub whole : lines ≡ above ++ (line ++ codes "\n")
  pub none : IsOfNoYes above
  pub one : HasNo 10 line

-- ---- behind other lines

-- so it is behind lines that say no yes
pub behind_lines : (front line lines : Bytes) → IsOfNoYes front → IsLast line lines → IsLast line (front ++ lines)
behind_lines front line lines none last = record {
  above = front ++ last.above;
  whole = ap (λ (t : Bytes). front ++ t) last.whole ∙ sym (append_assoc front last.above (line ++ codes "\n"));
  none = joined_lines SaysNoYes front last.above none last.none;
  one = last.one;
}

-- lines of digests say no yes
pub digests_say_no_yes : (files : List Bytes) → IsOfNoYes (digests_of files)
digests_say_no_yes files = digests_are SaysNoYes digest_no_yes files

-- and behind digests
pub behind_digests : (files more : List Bytes) (line lines : Bytes) → IsLast line lines → IsLast line (digests_of files ++ (digests_of more ++ lines))
behind_digests files more line lines last =
    behind_lines (digests_of files) line (digests_of more ++ lines) (digests_say_no_yes files)
    (behind_lines (digests_of more) line lines (digests_say_no_yes more) last)

-- or alone
pub line_last : (line : Bytes) → HasNo 10 line → IsLast line (line ++ codes "\n")
line_last line one = record { above = []; whole = refl; none = ([], refl, tt); one = one }

-- ---- the last line of a text with which a run ends so

-- the text has a last line, which says no yes where the status is another than that of a yes
abbrev pub IsAnswerText : Bytes → Status → Type 0
IsAnswerText text status = (line : Bytes) × IsLast line text × (status ≢ Yes → SaysNoYes line)

-- one line that says no yes
else_answer : (line : Bytes) (status : Status) → IsElseLine line → IsAnswerText line status
else_answer line status is = (
  is.0,
  subst (IsLast is.0) (sym is.1) (line_last is.0 (says_else is.0 is.2)),
  λ other. subst SaysNoYes (append-nil is.0) (else_no_yes is.0 [] is.2),
)

digested : (files more : List Bytes) (lines : Bytes) (status : Status) → IsAnswerText lines status
    → IsAnswerText (digests_of files ++ (digests_of more ++ lines)) status
digested files more lines status is = (is.0, behind_digests files more is.0 lines is.1, is.2)

-- ---- verdicts

-- the words of the line `exact`
abbrev pub exact_words : (side mask entries unreachable deepest : ℕ) → Bytes
exact_words side mask entries unreachable deepest =
    codes "exact side " ++ decimal side ++ codes " mask " ++ decimal mask ++ codes " entries " ++ decimal entries
    ++ codes " unreachable " ++ decimal unreachable ++ codes " deepest " ++ decimal deepest

-- they are one line
pub exact_one : (side mask entries unreachable deepest : ℕ) → HasNo 10 (exact_words side mask entries unreachable deepest)
exact_one side mask entries unreachable deepest =
    let a = codes "exact side " ++ decimal side in
    let b = a ++ codes " mask " ++ decimal mask in
    let c = b ++ codes " entries " ++ decimal entries in
    let d = c ++ codes " unreachable " ++ decimal unreachable in
    let more = λ (front text : Bytes) (n : ℕ) (none : HasNo 10 front) (one : HasNo 10 text).
    join_no_lf (front ++ text) (decimal n) (join_no_lf front text none one) (decimal-no_lf n) in
    let is_a = with_number (codes "exact side ") side refl in
    let is_b = more a (codes " mask ") mask is_a (known (codes " mask ") refl) in
    let is_c = more b (codes " entries ") entries is_b (known (codes " entries ") refl) in
    let is_d = more c (codes " unreachable ") unreachable is_c (known (codes " unreachable ") refl) in
    more d (codes " deepest ") deepest is_d (known (codes " deepest ") refl)

-- a text, a number and the words of a goal are the last line, where they stand alone
pub counted_last : (goal : Goal) (text : Bytes) (n : ℕ) → HasNo 10 text → IsLast (text ++ decimal n ++ goal_words goal) (counted_for goal text n)
counted_last goal text n none =
    line_last (text ++ decimal n ++ goal_words goal)
    (join_no_lf (text ++ decimal n) (goal_words goal) (join_no_lf text (decimal n) none (decimal-no_lf n)) (goal-no_lf goal))

yes_answer : (line lines : Bytes) → IsLast line lines → IsAnswerText lines Yes
yes_answer line lines last = (line, last, λ other. absurd (other refl))

verdict_answer : (goal : Goal) (v : Verdict) → IsAnswerText (line_of_verdict goal v) Yes
verdict_answer goal (verdict.Solution n) = yes_answer _ _ (counted_last goal (codes "solution ") n (known (codes "solution ") refl))
verdict_answer goal (verdict.Exact side mask census) =
    yes_answer _ _ (line_last (exact_words side mask census.entries census.unreachable census.deepest)
    (exact_one side mask census.entries census.unreachable census.deepest))
verdict_answer goal (verdict.Bound n) = yes_answer _ _ (counted_last goal (codes "bound ") n (known (codes "bound ") refl))
verdict_answer goal (verdict.Optimal n) = yes_answer _ _ (counted_last goal (codes "optimal ") n (known (codes "optimal ") refl))

-- a reply's text ends as its status says
abbrev IsAnswerReply : Reply → Type 0
IsAnswerReply reply = IsAnswerText (reply_text reply) (status_of_reply reply.is_yes)

result_answer : (inputs : Given) (answer : Result Verdict Fault) → IsAnswerReply (reply_to inputs answer)
result_answer inputs (Ok v) = digested _ [] (line_of_verdict (goal_of inputs) v) Yes (verdict_answer (goal_of inputs) v)
result_answer inputs (Err refused) = digested _ [] (line_of_fault refused) _ (else_answer (line_of_fault refused) _ (fault_line refused))

check_answer : (inputs : Given) (reply : Reply) → TellsResult inputs reply → IsAnswerReply reply
check_answer inputs reply tells = subst IsAnswerReply (sym tells.told) (result_answer inputs tells.answer)

-- ---- makers

build_answer : (build : Build) → IsAnswerReply (reply_to_build build)
build_answer (unbuilt refused) = digested [] [] _ _ (else_answer (line_of_fault refused) _ (fault_line refused))
build_answer (built file said) = digested [] (file ∷ []) (line_of_verdict First said) Yes (verdict_answer First said)

-- the letters of moves are on one line
letters_one : (moves : Bytes) → HasNo 10 (letters_of moves)
letters_one moves = go (moves_of moves)
  where
    one : (m : Move) → not (letter_of m == 10) ≡ true
    one = elim [ Up ↦ refl | Down ↦ refl | Left ↦ refl | Right ↦ refl ]

    go : (all : List Move) → HasNo 10 (map letter_of all)
    go [] = All-nil (λ b. not (b == 10) ≡ true)
    go (m ∷ all) = All-cons (λ b. not (b == 10) ≡ true) (letter_of m) (map letter_of all) (one m) (go all)

-- the line `moves` says no yes
else_moves : (behind : Bytes) → HasNo 10 behind → SaysElse (codes "moves" ++ behind)
else_moves behind one = (
  (λ e. omega (arith, e)),
  (λ e. omega (arith, e)),
  (λ e. omega (arith, e)),
  (λ e. omega (arith, e)),
  (λ e. omega (arith, e)),
  (λ e. omega (arith, e)),
  join_no_lf (codes "moves") behind (known (codes "moves") refl) one,
)

moves_else : (goal : Goal) (letters : Bytes) → HasNo 10 letters → IsElseLine (moves_line goal letters)
moves_else goal [] one = (codes "moves" ++ goal_words goal, refl, else_moves (goal_words goal) (goal-no_lf goal))
moves_else goal (letter ∷ letters) one =
    let spaced = codes " " ++ (letter ∷ letters) in
    let told = join_no_lf spaced (goal_words goal) (join_no_lf (codes " ") (letter ∷ letters) (known (codes " ") refl) one) (goal-no_lf goal) in
    (codes "moves" ++ (spaced ++ goal_words goal), refl, else_moves (spaced ++ goal_words goal) told)

-- nor does its text
pub moves_say_no_yes : (goal : Goal) (moves : Bytes) → IsOfNoYes (moves_line goal (letters_of moves))
moves_say_no_yes goal moves = else_alone (moves_line goal (letters_of moves)) (moves_else goal (letters_of moves) (letters_one moves))

search_answer : (goal : Goal) (tables : List Bytes) (outcome : SearchOutcome) → IsAnswerReply (reply_to_search goal tables outcome)
search_answer goal tables (unmade refused) = digested tables [] _ _ (else_answer (line_of_fault refused) _ (fault_line refused))
search_answer goal tables (searched moves log n) =
    let last = counted_last goal (codes "optimal ") n (known (codes "optimal ") refl) in
    digested tables (log ∷ []) _ Yes
    (yes_answer (codes "optimal " ++ decimal n ++ goal_words goal) _
    (behind_lines (moves_line goal (letters_of moves)) _ (counted_for goal (codes "optimal ") n) (moves_say_no_yes goal moves) last))

-- ---- parts of bounds

-- what the goal adds to them is in one line
joined_goal_one : (goal : Goal) → HasNo 10 (joined_goal goal)
joined_goal_one First = All-nil (λ b. not (b == 10) ≡ true)
joined_goal_one Last = known (joined_goal Last) refl

-- the words of the line of a bound in parts
abbrev pub joined_words : Goal → (n count : ℕ) → List ℕ → Bytes
joined_words goal n count b =
    codes "joined bound " ++ decimal n ++ codes " of" ++ numbers b ++ codes " from " ++ decimal count ++ codes " parts, by lines that were read"
    ++ joined_goal goal

-- they are one line
pub joined_one : (goal : Goal) (n count : ℕ) (b : List ℕ) → HasNo 10 (joined_words goal n count b)
joined_one goal n count b =
    let upto_bound = codes "joined bound " ++ decimal n in
    let upto_board = upto_bound ++ codes " of" ++ numbers b in
    let upto_count = upto_board ++ codes " from " ++ decimal count in
    let bound : HasNo 10 upto_bound = with_number (codes "joined bound ") n refl in
    let of_board = join_no_lf upto_bound (codes " of") bound (known (codes " of") refl) in
    let board = join_no_lf (upto_bound ++ codes " of") (numbers b) of_board (numbers-no_lf b) in
    let from_count = join_no_lf upto_board (codes " from ") board (known (codes " from ") refl) in
    let count_told = join_no_lf (upto_board ++ codes " from ") (decimal count) from_count (decimal-no_lf count) in
    let read = join_no_lf upto_count (codes " parts, by lines that were read") count_told (known (codes " parts, by lines that were read") refl) in
    join_no_lf (upto_count ++ codes " parts, by lines that were read") (joined_goal goal) read (joined_goal_one goal)

-- which their end makes whole
pub joined_ended : (goal : Goal) (n count : ℕ) (b : List ℕ) → joined_line goal n count b ≡ joined_words goal n count b ++ codes "\n"
joined_ended goal n count b = refl

digit_other : (digit letter : ℕ) → digit ≤ 57 → 57 < letter → digit ≢ letter
digit_other digit letter low high = λ same. omega (arith, low, high, same)

-- the line of a claim begins with a digit, so it says no yes
claim_else : (b : List ℕ) (asks : ShownAsks) → IsBoard b → IsElseLine (claim_line (record { board = b; asks = asks }))
claim_else [] asks board = absurd (let low : 2 ≤ side_of [] = board.low in no_side low)
claim_else (n ∷ b) asks board =
    let most : side_of (n ∷ b) * side_of (n ∷ b) ≤ 25 = cells_most (side_of (n ∷ b)) (n ∷ b) board in
    let size : suc (length b) ≡ side_of (n ∷ b) * side_of (n ∷ b) = board.size in
    let low : n < side_of (n ∷ b) * side_of (n ∷ b) = board.below 0 (omega (arith, size)) in
    let digit = digit_first n (omega (arith, low, most)) in
    let words = decimal n ++ numbers b ++ asks_words asks in
    let one : HasNo 10 words = other_rest 10 32 words (claim-no_lf (record { board = n ∷ b; asks = asks })) in
    let begins : words ≡ digit.0 ∷ (digit.1 ++ numbers b ++ asks_words asks) = ap (λ (t : Bytes). t ++ numbers b ++ asks_words asks) digit.2 in
    let other = λ (letter : ℕ) (high : 57 < letter). digit_other digit.0 letter digit.4 high in (
      words,
      refl,
      subst SaysElse (sym begins) (
        other 115 (lit< tt),
        other 101 (lit< tt),
        other 98 (lit< tt),
        other 111 (lit< tt),
        other 106 (lit< tt),
        other 112 (lit< tt),
        subst (HasNo 10) begins one,
      ),
    )

module _ (asked : ShownBoundInParts) (board : IsBoard asked.board) where
  open_else : (index : ℕ) → IsElseLine (open_claim asked index)
  open_else index = claim_else asked.board (part asked.bound (part_at asked.count index)) board

  -- so the last of such lines says none
  open_answer : (first : ℕ) (more : List ℕ) (status : Status) → IsAnswerText (flat_map (open_claim asked) (first ∷ more)) status
  open_answer first [] status =
      subst (λ (text : Bytes). IsAnswerText text status) (sym (append-nil (open_claim asked first)))
      (else_answer (open_claim asked first) status (open_else first))
  open_answer first (next ∷ more) status =
      let rest = flat_map (open_claim asked) (next ∷ more) in
      let last = open_answer next more status in
      (last.0, behind_lines (open_claim asked first) last.0 rest (else_alone (open_claim asked first) (open_else first)) last.1, last.2)

-- where not all elements pass a test, there are some that don't
some_fail : (passes : ℕ → Bool) (all : List ℕ) → list_all passes all ≡ false
    → (first : ℕ) × (more : List ℕ) × (filter (λ x. not (passes x)) all ≡ first ∷ more)
some_fail passes [] none = absurd (let clash : true ≡ false = none in cc)
some_fail passes (x ∷ all) none = go (passes x) none (some_fail passes all)
  where
    go : (b : Bool) → (b && list_all passes all) ≡ false
        → (list_all passes all ≡ false → (first : ℕ) × (more : List ℕ) × (filter (λ x. not (passes x)) all ≡ first ∷ more))
        → (first : ℕ) × (more : List ℕ)
        × (cond (not b) (x ∷ filter (λ x. not (passes x)) all) (filter (λ x. not (passes x)) all) ≡ first ∷ more)
    go true none later = later none
    go false none later = (x, filter (λ x. not (passes x)) all, refl)

-- the bound is told in one line behind digests, and what is open in such lines
joined_answer : (answers : List Bytes) (asked : ShownBoundInParts) (moves : Option (List ℕ)) → IsBoard asked.board
    → IsAnswerReply (joined_reply answers asked moves)
joined_answer answers asked (Some moves) board =
    let claim : ShownClaim = record { board = asked.board; asks = claims.bound asked.bound } in
    let words = codes "O2 by" ++ spaced_letters moves ++ codes " of" ++ claim_words claim ++ goal_words asked.goal in
    else_answer (told_line asked.goal (shorter moves claim)) _
    (told_text asked.goal (shorter moves claim), refl, refused_whole words (answer-no_lf asked.goal (shorter moves claim) tt))
joined_answer answers asked None board = go (are_told (flat_map whole_lines answers) asked) refl
  where
    go : (told : Bool) → are_told (flat_map whole_lines answers) asked ≡ told
        → IsAnswerReply (cond told (bound_reply answers asked) (open_reply answers asked))
    go true is =
        let words = joined_words asked.goal asked.bound asked.count asked.board in
        let last = line_last words (joined_one asked.goal asked.bound asked.count asked.board) in
        digested answers [] _ Yes (yes_answer words _ (subst (IsLast words) (sym (joined_ended asked.goal asked.bound asked.count asked.board)) last))
    go false is =
        let left = some_fail (is_told (flat_map whole_lines answers) asked) (range_with_len 0 asked.count) is in
        subst (λ (indices : List ℕ). IsAnswerText (flat_map (open_claim asked) indices) (status_of_reply false)) (sym left.2)
        (open_answer asked board left.0 left.1 (status_of_reply false))

parts_answer : (arguments : PartsArguments) (inputs : List Bytes) (reply : Reply) → IsPartsReply arguments inputs reply → IsAnswerReply reply
parts_answer arguments inputs reply is = go (board_of_text is.text) refl is.said
  where
    go : (r : Result (List ℕ) BoardFault) → board_of_text is.text ≡ r → IsReplyOfParts arguments r is.answers reply → IsAnswerReply reply
    go (Err refused) same said =
        subst IsAnswerReply (sym said) (digested [] [] _ _ (else_answer (line_of_fault (fault.Board refused)) _ (fault_line (fault.Board refused))))
    go (Ok b) same said =
        subst IsAnswerReply (sym said.is) (joined_answer is.answers (asked_of_board arguments b) said.moves (spelled-board_of_text is.text b same).board)

-- ---- whatever a run comes to

-- the words ask for a command that answers once
abbrev pub AnswersOnce : Asked → Type 0
AnswersOnce asked = (a : ProveArguments) → asked ≢ prove a

right_answer : (asked : Asked) (old : World) (inputs : List Bytes) (reply : Reply) → AnswersOnce asked → IsRight (plan_of asked) old inputs reply
    → IsAnswerReply reply
right_answer (replay a) old inputs reply once is = check_answer _ reply is.1.2
right_answer (table a) old inputs reply once is = check_answer _ reply is.1.2
right_answer (bound a) old inputs reply once is = check_answer _ reply is.1.2
right_answer (optimal a) old inputs reply once is = check_answer _ reply is.1.2
right_answer (make_table a) old inputs reply once is = subst IsAnswerReply (sym is.1.told) (build_answer is.1.build)
right_answer (solve a) old inputs reply once is = subst IsAnswerReply (sym is.1.4.told) (search_answer a.goal is.1.2 is.1.4.outcome)
right_answer (prove a) old inputs reply once is = absurd (once a refl)
right_answer (parts a) old inputs reply once is = parts_answer a inputs reply is.1

unkept_answer : (name : Bytes) (why : KeepFault) → IsAnswerText (unkept_text name why) (unkept_status why)
unkept_answer name keep.F3 = else_answer _ _ (named (codes "write ") (Some name) refl)
unkept_answer name keep.Memory = else_answer _ _ memory

-- the text of each outcome ends as its status says
pub outcome_answer : (asked : Asked) (old : World) (failed : Failures) (outcome : Outcome) → AnswersOnce asked → HasCause (plan_of asked) old failed outcome
    → IsAnswerText (text_of outcome) (status_of outcome)
outcome_answer asked old failed (replied inputs reply) once cause = right_answer asked old inputs reply once cause
outcome_answer asked old failed (unread wanted read.F1) once cause = else_answer _ _ (named (codes "read ") wanted.name refl)
outcome_answer asked old failed (unread wanted read.F2) once cause = else_answer _ _ (named (codes "size ") wanted.name refl)
outcome_answer asked old failed (unread wanted read.Memory) once cause = else_answer _ _ memory
outcome_answer asked old failed (spared name) once cause = unkept_answer name keep.F3
outcome_answer asked old failed (unseen name) once cause = else_answer _ _ memory
outcome_answer asked old failed (unwritable name why) once cause = unkept_answer name why
outcome_answer asked old failed (unkept name why) once cause = unkept_answer name why
outcome_answer asked old failed unlisted once cause = else_answer _ _ memory
outcome_answer asked old failed no_memory once cause = else_answer _ _ memory
outcome_answer asked old failed made_wrong once cause = else_answer _ _ maker
