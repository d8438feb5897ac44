-- What the lines of `prove` say is true.
use Rattle.std.proofs.Common.{◌≡◌, ◌∙◌, ◌⊎◌, ◌-◌, ◌+◌, ◌≤◌, inl, inr, ap, ℕ, Bool, true, false, List, [], ◌∷◌, ◌++◌, Some, None, append_assoc, arith}
use Rattle.std.proofs.Common.{codes, drop, length, length-append, refl, subst, sym, take, take-append-drop}
use Rattle.std.proofs.lemmas.Bool.{and_parts}
use Rattle.std.proofs.lemmas.List.{append-nil, append_cancel_left, take_at}
use Rattle.std.specs.Prelude.{⊤}
use Rattle.std.specs.List.{AllByRecursion, AllZip}
use Rattle.claim_text.specs.Claims as claims
use Rattle.claim_text.specs.Claims.{ShownAsks, ShownClaim}
use Rattle.claim_text.specs.Lines as line
use Rattle.claim_text.specs.Lines.{Told, WhatHasNoLf, claim_words, numbers, told_text}
use Rattle.claim_text.proofs.AnswerLemmas.{answer-no_lf}
use Rattle.puz_goal.specs.Goals.{goal_words}
use Rattle.puz_goal.specs.Turning.{board_for}
use Rattle.puz_goal.specs.declared.goals.Goal.{Goal}
use Rattle.puz_search.specs.Guides.{ShownGuide}
use Rattle.set_sum.specs.Bundles.{ShownBundle}
use Rattle.byte_io.specs.Shelf.{Bytes}
use Rattle.byte_io.specs.Streams.{AppendsFront, Output}
use Rattle.byte_io.specs.declared.streams.ReadFault.TheVariants as read
use Rattle.pdb_request.specs.Asked.{ProveArguments, prove}
use Rattle.pdb_run.specs.Commands.{Reply}
use Rattle.pdb_run.specs.Inputs.{Failures}
use Rattle.pdb_run.specs.Runs.{HasCause, IsAnswered, Says, World, made_wrong, no_memory, replied, spared, text_of, unkept, unlisted, unread, unseen, unwritable}
use Rattle.pdb_run.specs.Runs as runs
use Rattle.pdb_run.specs.Writing.{digests_of, reply_text}
use Rattle.pdb_run.specs.declared.statuses.Status.{Status}
use Rattle.pdb_verdict.specs.Lines.{line_of_fault}
use Rattle.pdb_verdict.specs.declared.verdicts.Fault.{Fault}
use Rattle.pdb_prove.specs.Answers.{IsFoundOf, IsToldOf, are_yes, asks_for, told_of, is_yes, words_of}
use Rattle.pdb_prove.specs.Laws.{IsTrueFor}
use Rattle.pdb_prove.proofs.TruthLemmas.{HaveBoards, claims_boards, each_true, first_boards}
use Rattle.pdb_prove.specs.Prove.{ClaimsFiles, IsOutcomeOf, ClaimsOutcome, TellsClaims, answered, budget_of, digested_files, prove_plan, reply_to_claims}
use Rattle.pdb_prove.specs.Prove.{told_lines, unready}
use Rattle.pdb_prove.specs.declared.answers.Finding.{Finding}
use Rattle.pdb_prove.specs.declared.answers.Finding.TheVariants.{Bound, Optimum, Part, Refused, Shorter, Shortest}
use Rattle.pdb_program.specs.Headline.{AreAYes, AreWholeLines, HasLine, HoldsOfClaim, SaysYes}
use Rattle.pdb_program.specs.PartLines.{ArePartLinesTrue, HoldsOfPart, SaysPart}
use Rattle.pdb_program.specs.Programs.{EndsFor}
use Rattle.pdb_program.proofs.ElseLemmas.{IsElseLine, SaysElse, SaysNoYes, digest_no_yes, digests_are, else_no_part, else_no_yes, fault_line, known}
use Rattle.pdb_program.proofs.ElseLemmas.{memory, named, other_no_part, part_no_yes, says_else}
use Rattle.pdb_program.proofs.LineLemmas.{IsOfLines, joined_lines, line_alone, line_holds, whole_lines}
use Rattle.pdb_program.proofs.SpellLemmas.{numbers_bounded, numbers_spelt, words_optimal}

-- ---- what is told of claims

-- a line without its end
without_end : (line words : Bytes) → line ≡ words ++ codes "\n" → take (length line - 1) line ≡ words
without_end line words is =
    let count : length line ≡ length words + 1 = rw is (length-append words (codes "\n")) in
    ap (take (length line - 1)) is ∙ take_at words (codes "\n") (length line - 1) (omega (arith, count))

-- what is told else says no yes
abbrev IsElseTold : Told → Type 0
IsElseTold (line.bounded n b) = ⊤
IsElseTold (line.part_bounded p n b) = ⊤
IsElseTold (line.optimal n b moves) = ⊤
IsElseTold (line.shorter solution claim) = ⊤
IsElseTold (line.refused what claim) = SaysElse what

-- what is known of what is told: a yes is true for the goal, and what is told else is no yes
abbrev IsTrueTold : Goal → Told → Type 0
IsTrueTold goal t = IsTrueFor goal t × IsElseTold t

-- the words of a refusal say no yes
refused_words : (refused : Fault) → SaysElse (words_of refused)
refused_words refused =
    let line = fault_line refused in subst SaysElse (sym (without_end (line_of_fault refused) line.0 line.1)) line.2

module _ (goal : Goal) (guide : ShownGuide) (budget : ℕ) (b : List ℕ) where
  -- what is found for what a claim asks is told as a yes, or says none
  found_else : (asks : ShownAsks) (found : Finding) → IsFoundOf guide budget (board_for goal b) (asks_for goal asks) found
      → IsElseTold (told_of goal b asks found)
  found_else (claims.bound r) Bound is = tt
  found_else (claims.bound r) (Optimum n) is = absurd is
  found_else (claims.bound r) (Shortest n letters) is = absurd is
  found_else (claims.bound r) (Shorter letters) is = tt
  found_else (claims.bound r) (Refused refused) is = refused_words refused
  found_else (claims.bound r) Part is = absurd is
  found_else (claims.part r p) Part is = tt
  found_else (claims.part r p) Bound is = absurd is
  found_else (claims.part r p) (Optimum n) is = absurd is
  found_else (claims.part r p) (Shortest n letters) is = absurd is
  found_else (claims.part r p) (Shorter letters) is = tt
  found_else (claims.part r p) (Refused refused) is = refused_words refused
  found_else (claims.moves text) Part is = absurd is
  found_else (claims.moves text) Bound is = absurd is
  found_else (claims.moves text) (Optimum n) is = tt
  found_else (claims.moves text) (Shortest n letters) is = absurd is
  found_else (claims.moves text) (Shorter letters) is = tt
  found_else (claims.moves text) (Refused refused) is = refused_words refused
  found_else claims.shortest Part is = absurd is
  found_else claims.shortest Bound is = absurd is
  found_else claims.shortest (Optimum n) is = absurd is
  found_else claims.shortest (Shortest n letters) is = tt
  found_else claims.shortest (Shorter letters) is = absurd is
  found_else claims.shortest (Refused refused) is = refused_words refused

module _ (goal : Goal) (v : ShownBundle) (budget : ℕ) where
  -- so each of them does
  each_else : (all : List ShownClaim) (told : List Told) → AllZip (IsToldOf goal v budget) all told → AllByRecursion IsElseTold told
  each_else [] [] each = tt
  each_else [] (t ∷ told) each = absurd each
  each_else (claim ∷ all) [] each = absurd each
  each_else (claim ∷ all) (t ∷ told) each =
      let is = each.0 in
      let by = is.is_found in (
        subst IsElseTold (sym is.is_told) (found_else goal by.guide budget claim.board claim.asks is.found by.is_found),
        each_else all told each.1,
      )

both : (goal : Goal) (told : List Told) → AllByRecursion (IsTrueFor goal) told → AllByRecursion IsElseTold told
    → AllByRecursion (IsTrueTold goal) told
both goal [] true_told else_told = tt
both goal (t ∷ told) true_told else_told = ((true_told.0, else_told.0), both goal told true_told.1 else_told.1)

-- all that is told of claims on boards is true, or no yes
all_true : (goal : Goal) (v : ShownBundle) (budget : ℕ) (all : List ShownClaim) (told : List Told) → HaveBoards all
    → AllZip (IsToldOf goal v budget) all told → AllByRecursion (IsTrueTold goal) told
all_true goal v budget all told boards each =
    both goal told (each_true goal v budget all told boards each) (each_else goal v budget all told each)

-- ---- what is written

-- what is told is one line
told_one : (t : Told) → IsElseTold t → WhatHasNoLf t
told_one (line.bounded n b) is = tt
told_one (line.part_bounded p n b) is = tt
told_one (line.optimal n b moves) is = tt
told_one (line.shorter solution claim) is = tt
told_one (line.refused what claim) is = says_else what is

-- a refusal with what stands behind it
refused_regrouped : (goal : Goal) (what : Bytes) (claim : ShownClaim)
    → told_text goal (line.refused what claim) ≡ what ++ (codes " of" ++ claim_words claim ++ goal_words goal)
refused_regrouped goal what claim =
    ap (λ (t : Bytes). t ++ goal_words goal) (append_assoc what (codes " of") (claim_words claim)) ∙
    append_assoc what (codes " of" ++ claim_words claim) (goal_words goal)

-- what a yes of what is told says
yes_of_told : (goal : Goal) (t : Told) → IsTrueTold goal t → SaysYes (told_text goal t) → HoldsOfClaim goal (told_text goal t)
yes_of_told goal (line.bounded n b) is says = inl (numbers b, n, refl, numbers_bounded goal b n is.0.0 is.0.1)
yes_of_told goal (line.part_bounded p n b) is says = absurd (part_no_yes _ says)
yes_of_told goal (line.optimal n b text) is says =
    let least = words_optimal goal b text n is.0.0 is.0.1 is.0.2 in
    inr (claim_words (record { board = b; asks = claims.moves text }), n, least.0, refl, least.1)
yes_of_told goal (line.shorter solution claim) is says =
    absurd (else_no_yes (codes "refused") _ refused says)
  where
    refused : SaysElse (codes "refused")
    refused = (
      (λ e. omega (arith, e)),
      (λ e. omega (arith, e)),
      (λ e. omega (arith, e)),
      (λ e. omega (arith, e)),
      (λ e. omega (arith, e)),
      (λ e. omega (arith, e)),
      known (codes "refused") refl,
    )
yes_of_told goal (line.refused what claim) is says =
    absurd (else_no_yes what (codes " of" ++ claim_words claim ++ goal_words goal) is.1 (subst SaysYes (refused_regrouped goal what claim) says))

-- and what a line of a part does
part_of_told : (goal : Goal) (t : Told) → IsTrueTold goal t → SaysPart (told_text goal t) → HoldsOfPart goal (told_text goal t)
part_of_told goal (line.bounded n b) is says = absurd (other_no_part 98 _ (λ e. omega (arith, e)) says)
part_of_told goal (line.part_bounded p n b) is says =
    (p, n, numbers b, b, is.0.1, is.0.2, numbers_spelt b is.0.0, is.0.3, refl)
part_of_told goal (line.optimal n b text) is says = absurd (other_no_part 111 _ (λ e. omega (arith, e)) says)
part_of_told goal (line.shorter solution claim) is says = absurd (other_no_part 114 _ (λ e. omega (arith, e)) says)
part_of_told goal (line.refused what claim) is says =
    absurd (else_no_part what (codes " of" ++ claim_words claim ++ goal_words goal) is.1 (subst SaysPart (refused_regrouped goal what claim) says))

-- a line of which what it says as a yes is true, and what it says of a part
abbrev IsTrueLine : Goal → Bytes → Type 0
IsTrueLine goal line = (SaysYes line → HoldsOfClaim goal line) × (SaysPart line → HoldsOfPart goal line)

none_true : (goal : Goal) (line : Bytes) → SaysNoYes line → ¬ SaysPart line → IsTrueLine goal line
none_true goal line no_yes no_part = (λ yes. absurd (no_yes yes), λ part. absurd (no_part part))

told_true : (goal : Goal) (told : List Told) → AllByRecursion (IsTrueTold goal) told → IsOfLines (IsTrueLine goal) (told_lines goal told)
told_true goal [] each = ([], refl, tt)
told_true goal (t ∷ told) each =
    joined_lines (IsTrueLine goal) _ (told_lines goal told)
    (line_alone (IsTrueLine goal) (told_text goal t) (answer-no_lf goal t (told_one t each.0.1)) (yes_of_told goal t each.0, part_of_told goal t each.0))
    (told_true goal told each.1)

digests_true : (goal : Goal) (files : List Bytes) → IsOfLines (IsTrueLine goal) (digests_of files)
digests_true goal files = digests_are (IsTrueLine goal) (λ digest. none_true goal (codes "sha256 " ++ digest) (digest_no_yes digest)
    (other_no_part 115 _ (λ e. omega (arith, e)))) files

-- one other line
alone : (goal : Goal) (line : Bytes) → IsElseLine line → IsOfLines (IsTrueLine goal) line
alone goal line is =
    subst (IsOfLines (IsTrueLine goal)) (sym is.1)
    (line_alone (IsTrueLine goal) is.0 (says_else is.0 is.2)
    (none_true goal is.0 (subst SaysNoYes (append-nil is.0) (else_no_yes is.0 [] is.2))
    (subst (λ (t : Bytes). ¬ SaysPart t) (append-nil is.0) (else_no_part is.0 [] is.2))))

-- digest lines and what is told truly
answers_true : (goal : Goal) (files : ClaimsFiles) (told : List Told) → AllByRecursion (IsTrueTold goal) told
    → IsOfLines (IsTrueLine goal) (digests_of (digested_files files) ++ told_lines goal told)
answers_true goal files told each =
    joined_lines (IsTrueLine goal) (digests_of (digested_files files)) (told_lines goal told) (digests_true goal (digested_files files)) (told_true goal told each)

-- what comes of claims is told truly
comes_true : (goal : Goal) (fold : Bool) (budget : ℕ) (files : ClaimsFiles) (outcome : ClaimsOutcome) → IsOutcomeOf goal fold budget files outcome
    → IsOfLines (IsTrueLine goal) (reply_text (reply_to_claims goal files outcome))
comes_true goal fold budget files (unready refused) is =
    joined_lines (IsTrueLine goal) (digests_of (digested_files files)) (line_of_fault refused) (digests_true goal (digested_files files))
    (alone goal _ (fault_line refused))
comes_true goal fold budget files (answered told) is =
    answers_true goal files told (all_true goal is.bundle budget is.claims told (claims_boards _ is.claims is.ready.are_claims.lines) is.each)

reply_true : (goal : Goal) (fold : Bool) (budget : ℕ) (files : ClaimsFiles) (reply : Reply) → TellsClaims goal fold budget files reply
    → IsOfLines (IsTrueLine goal) (reply_text reply)
reply_true goal fold budget files reply tells =
    subst (λ (r : Reply). IsOfLines (IsTrueLine goal) (reply_text r)) (sym tells.told) (comes_true goal fold budget files tells.outcome tells.is_outcome)

-- whatever a run comes to
outcome_true : (arguments : ProveArguments) (old : World) (failed : Failures) (outcome : runs.Outcome) → HasCause (prove_plan arguments) old failed outcome
    → IsOfLines (IsTrueLine arguments.goal) (text_of outcome)
outcome_true arguments old failed (replied inputs reply) cause =
    reply_true arguments.goal arguments.fold (budget_of arguments.budget) cause.1.0 reply cause.1.2
outcome_true arguments old failed (unread wanted read.F1) cause = alone arguments.goal _ (named (codes "read ") wanted.name refl)
outcome_true arguments old failed (unread wanted read.F2) cause = alone arguments.goal _ (named (codes "size ") wanted.name refl)
outcome_true arguments old failed (unread wanted read.Memory) cause = alone arguments.goal _ memory
outcome_true arguments old failed (spared name) cause = let clash : None ≡ Some name = cause.under in cc
outcome_true arguments old failed (unseen name) cause = let clash : None ≡ Some name = cause.under in cc
outcome_true arguments old failed (unwritable name why) cause = let clash : None ≡ Some name = cause.under in cc
outcome_true arguments old failed (unkept name why) cause = let clash : None ≡ Some name = cause.under in cc
outcome_true arguments old failed unlisted cause = alone arguments.goal _ memory
outcome_true arguments old failed no_memory cause = alone arguments.goal _ memory
outcome_true arguments old failed made_wrong cause = absurd cause.2

module _ (goal : Goal) (start lines : Bytes) where
  -- the lines are a front of a text of true lines, or the whole
  abbrev AreTrue : Type 0
  AreTrue = (rest : Bytes) × IsOfLines (IsTrueLine goal) (lines ++ rest)

  -- what was cut
  cut_true : (text : Bytes) → AppendsFront (Some start) (Some (start ++ lines)) text → IsOfLines (IsTrueLine goal) text → AreTrue
  cut_true text cut whole =
      let n = cut.0 in
      let is = ap (λ (t : Bytes). t ++ drop n text) (append_cancel_left start lines (take n text) cut.2) ∙ take-append-drop n text in
      (drop n text, subst (IsOfLines (IsTrueLine goal)) (sym is) whole)

  -- what was said
  said_true : (text : Bytes) (with_text status : Status) (old new : Output) → old.bytes ≡ Some start → new.bytes ≡ Some (start ++ lines)
      → Says text with_text old new status → IsOfLines (IsTrueLine goal) text → AreTrue
  said_true text with_text status old new had wrote (inl whole) is =
      let same : start ++ lines ≡ start ++ text = rw (had, wrote) at whole.0.0 in
      ([], subst (IsOfLines (IsTrueLine goal)) (sym (append-nil lines ∙ append_cancel_left start lines text same)) is)
  said_true text with_text status old new had wrote (inr cut) is = cut_true text (rw (had, wrote) at cut.0.0) is

module _ (start lines : Bytes) where
  -- the lines of a run of `prove` are true
  lines_told : (arguments : ProveArguments) (old new : World) (status : Status) → EndsFor (prove arguments) old new status
      → old.written.bytes ≡ Some start → new.written.bytes ≡ Some (start ++ lines) → AreTrue arguments.goal start lines
  lines_told arguments old new status (inl ends) had wrote =
      said_true arguments.goal start lines (text_of ends.outcome) _ status old.written new.written had wrote ends.said (outcome_true arguments old new.failed ends.outcome ends.cause)
  lines_told arguments old new status (inr cut) had wrote =
      let boards = first_boards cut.first cut.others (claims_boards _ (cut.first ++ cut.others) cut.ready.are_claims.lines) in
      cut_true arguments.goal start lines _ (rw (had, wrote) at cut.front.0)
      (answers_true arguments.goal cut.files cut.told (all_true arguments.goal cut.bundle (budget_of arguments.budget) cut.first cut.told boards cut.each))

  -- so is each of them
  each_line : (arguments : ProveArguments) (old new : World) (status : Status) → EndsFor (prove arguments) old new status
      → old.written.bytes ≡ Some start → new.written.bytes ≡ Some (start ++ lines)
      → (above line below : Bytes) → HasLine above line below lines → IsTrueLine arguments.goal line
  each_line arguments old new status ends had wrote above line below has =
      let are = lines_told arguments old new status ends had wrote in
      line_holds (IsTrueLine arguments.goal) are.1.0 above line below lines are.0 are.1.2 has are.1.1

  -- that says a yes
  pub claims_true : (arguments : ProveArguments) (old new : World) (status : Status) → EndsFor (prove arguments) old new status
      → old.written.bytes ≡ Some start → new.written.bytes ≡ Some (start ++ lines)
      → (above line below : Bytes) → HasLine above line below lines → SaysYes line → HoldsOfClaim arguments.goal line
  claims_true arguments old new status ends had wrote above line below has =
      (each_line arguments old new status ends had wrote above line below has).0

  -- or says that a part holds
  pub part_lines_true : (arguments : ProveArguments) (old new : World) (status : Status) → EndsFor (prove arguments) old new status
      → old.written.bytes ≡ Some start → new.written.bytes ≡ Some (start ++ lines) → ArePartLinesTrue arguments.goal lines
  part_lines_true arguments old new status ends had wrote above line below has =
      (each_line arguments old new status ends had wrote above line below has).1

-- ---- a yes

-- a reply that is a yes tells a yes for each claim
abbrev TellsYes : Goal → ClaimsFiles → Reply → Type 0
TellsYes goal files reply = (told : List Told) × (reply_text reply ≡ digests_of (digested_files files) ++ told_lines goal told) × (are_yes told ≡ true)

comes_yes : (goal : Goal) (files : ClaimsFiles) (outcome : ClaimsOutcome) (reply : Reply) → reply ≡ reply_to_claims goal files outcome → reply.is_yes ≡ true
    → TellsYes goal files reply
comes_yes goal files (unready refused) reply told is_yes =
    let clash : false ≡ true = sym (ap (λ (r : Reply). r.is_yes) told) ∙ is_yes in cc
comes_yes goal files (answered all) reply told is_yes = (all, ap reply_text told, sym (ap (λ (r : Reply). r.is_yes) told) ∙ is_yes)

-- so does a run that is answered with one
pub yes_lines : (arguments : ProveArguments) (old new : World) (status : Status) → (a : IsAnswered (prove_plan arguments) old new status)
    → a.reply.is_yes ≡ true
    → (files : List Bytes) × (told : List Told) × (reply_text a.reply ≡ digests_of files ++ told_lines arguments.goal told) × (are_yes told ≡ true)
yes_lines arguments old new status a is_yes =
    let is = a.right.1 in
    let said = comes_yes arguments.goal is.0 is.2.outcome a.reply is.2.told is_yes in
    (digested_files is.0, said.0, said.1, said.2)

-- a yes, the line of a part, or a digest
abbrev IsYesOrDigest : Bytes → Type 0
IsYesOrDigest line = SaysYes line ⊎ ((rest : Bytes) × ((line ≡ codes "part " ++ rest) ⊎ (line ≡ codes "sha256 " ++ rest)))

told_yes : (goal : Goal) (told : List Told) → are_yes told ≡ true → IsOfLines IsYesOrDigest (told_lines goal told)
told_yes goal [] all = ([], refl, tt)
told_yes goal (t ∷ told) all =
    let both = and_parts (is_yes t) (are_yes told) all in
    joined_lines IsYesOrDigest _ (told_lines goal told) (one t both.0) (told_yes goal told both.1)
  where
    one : (t : Told) → is_yes t ≡ true → IsOfLines IsYesOrDigest (told_text goal t ++ codes "\n")
    one (line.bounded n b) is =
        line_alone IsYesOrDigest (told_text goal (line.bounded n b)) (answer-no_lf goal (line.bounded n b) tt) (inl (_, inr (inr (inl refl))))
    one (line.part_bounded p n b) is =
        line_alone IsYesOrDigest (told_text goal (line.part_bounded p n b)) (answer-no_lf goal (line.part_bounded p n b) tt) (inr (_, inl refl))
    one (line.optimal n b moves) is =
        line_alone IsYesOrDigest (told_text goal (line.optimal n b moves)) (answer-no_lf goal (line.optimal n b moves) tt) (inl (_, inr (inr (inr (inl refl)))))
    one (line.shorter solution claim) is = let clash : false ≡ true = is in cc
    one (line.refused what claim) is = let clash : false ≡ true = is in cc

-- the lines of a yes are whole ones, each of them a yes or a digest
pub claims_yes : (a : ProveArguments) (lines : Bytes) (files : List Bytes) (told : List Told) → lines ≡ digests_of files ++ told_lines a.goal told
    → are_yes told ≡ true → AreAYes (prove a) lines
claims_yes a lines files told is all_yes =
    let digests = digests_are IsYesOrDigest (λ digest. inr (digest, inr refl)) files in
    let all = joined_lines IsYesOrDigest (digests_of files) (told_lines a.goal told) digests (told_yes a.goal told all_yes) in
    let whole = is ∙ all.1 in (
      subst AreWholeLines (sym whole) (whole_lines all.0),
      λ above line below has. line_holds IsYesOrDigest all.0 above line below lines [] all.2 has (append-nil lines ∙ whole),
    )
