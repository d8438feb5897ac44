-- What the steps of a run of claims say.
use Rattle.std.specs.Borrow.{Bor}
use Rattle.std.specs.Prelude.{◌≡◌, ⊤, ℕ, ◌+◌, ◌*◌, ◌<◌, ◌≤◌, ◌++◌, Bool, true, false, List, [], length, map, slice_get, slice_index_or, take}
use Rattle.std.specs.Prelude.{Option, Some, None, IfSome, IsNone, IsSome, Result, Ok, Err, MatchResult, Vec, vec_capacity}
use Rattle.std.specs.List.{AllZip, sum_by}
use Rattle.puz_goal.specs.Turning.{board_for}
use Rattle.puz_goal.specs.declared.goals.Goal.{Goal}
use Rattle.pat_place.specs.Patterns.{ShownPattern}
use Rattle.pat_place.specs.Ranks.{falling_factorial}
use Rattle.move_strings.specs.Automata.{ShownAutomaton}
use Rattle.set_sum.specs.Bundles.{ShownBundle}
use Rattle.puz_walk.specs.Starts.{IsStart}
use Rattle.puz_walk.specs.WordBundles.{most_worded, pattern_at}
use Rattle.puz_walk.specs.declared.starts.Start.{Start}
use Rattle.puz_search.specs.Answers.{IsAnswerInTurn}
use Rattle.puz_search.specs.Guides.{LeavesOutReversals, ShownGuide}
use Rattle.puz_search.specs.declared.answers.SearchAnswer.{SearchAnswer}
use Rattle.puz_search.specs.declared.answers.SearchAnswer.TheVariants as search
use Rattle.claim_text.specs.Claims.{ShownClaim}
use Rattle.claim_text.specs.Lines.{Told}
use Rattle.claim_text.specs.Shown.{claim_shown}
use Rattle.claim_text.specs.Texts.{AreClaims}
use Rattle.claim_text.specs.declared.claims.Claim.{Claim}
use Rattle.claim_text.specs.declared.faults.ClaimsFault.{ClaimsFault}
use Rattle.claim_text.specs.declared.faults.ClaimsFault.TheVariants as claims_fault
use Rattle.byte_io.specs.declared.streams.WriteFault.{WriteFault}
use Rattle.pdb_request.specs.Asked.{ProveArguments}
use Rattle.pdb_request.specs.declared.requests.Prove.{Prove}
use Rattle.pdb_run.specs.Answers.{all_bytes}
use Rattle.pdb_run.specs.Io.{HasRead, IsWritten}
use Rattle.pdb_run.specs.Runs.{World}
use Rattle.pdb_run.specs.Writing.{digests_of}
use Rattle.pdb_verdict.specs.Refusals.{IsCauseBy}
use Rattle.pdb_verdict.specs.declared.verdicts.Fault.{Fault}
use Rattle.pdb_verdict.specs.declared.verdicts.Fault.TheVariants as fault
use Rattle.pdb_prove.specs.Answers.{IsFoundBy, IsFoundFor, IsShortestFor, IsToldOf, are_yes, claim_for}
use Rattle.pdb_prove.specs.Prove.{AreReady, ClaimsFiles, IsUnready, digested_files, in_order, prove_inputs, told_lines}
use Rattle.pdb_prove.specs.declared.answers.Finding.{Finding}
use Rattle.pdb_prove.specs.declared.answers.Finding.TheVariants.{Refused, Shorter}
use Rattle.pdb_prove.specs.declared.answers.Question.{Question}
use Rattle.pdb_prove.specs.declared.answers.Question.TheVariants.{Below, Shortest}
use Rattle.pdb_prove.specs.declared.asked.Asked.{Asked}
use Rattle.pdb_prove.specs.declared.asked.Posed.{Posed}
use Rattle.pdb_prove.specs.declared.words.TableWords.{TableWords}

-- ---- before anything is searched

-- the files that were read for claims
abbrev pub files_of : {A : Type 0} → Prove (Bor (List ℕ)) (Vec ℕ A) → ClaimsFiles
files_of read = record { claims = read.claims.now; sets = read.sets.items; tables = all_bytes read.tables.items }

-- why nothing is searched, or want of memory, which comes of a text of claims alone
abbrev pub IsCauseForClaims : Bool → ClaimsFiles → Fault → Type 0
IsCauseForClaims fold files cause = IsCauseBy (IsUnready fold files) ((claims : List ShownClaim) × AreClaims files.claims claims) cause

-- the same, where a text gives no claims
abbrev pub of_claims : ClaimsFault → Fault
of_claims (claims_fault.Q1 line) = fault.Q1 line
of_claims claims_fault.Memory = fault.Memory

-- the files of claims that are ready were read, and the digests written
pub record HasBegun (arguments : ProveArguments) (files : ClaimsFiles) (old new : World) (claims : List ShownClaim) (v : ShownBundle) : Type 0 where
  pub read : World
  pub are : HasRead (prove_inputs arguments) old read (in_order files)
  pub ready : AreReady arguments.fold files claims v
  pub head : IsWritten (digests_of (digested_files files)) read new (Ok tt)

-- ---- one claim

-- what is found where a search for a solution of fewer moves answers this, and the first where there is none
abbrev pub found_below : Finding → SearchAnswer → Finding
found_below refuted (search.Refuted boards) = refuted
found_below refuted (search.Solved letters) = Shorter letters
found_below refuted search.Spent = Refused (fault.K1 None)

-- what a search for this finds is right for the claim
abbrev pub IsQuestionOf : ShownClaim → Question → Type 0
IsQuestionOf claim Shortest =
    (guide : ShownGuide) (budget : ℕ) (found : Finding) → IsShortestFor guide budget claim.board found → IsFoundBy guide budget claim found
IsQuestionOf claim (Below bound refuted) =
    (guide : ShownGuide) (budget : ℕ) (answer : SearchAnswer) → IsAnswerInTurn guide bound.part claim.board bound.bound budget answer
    → IsFoundBy guide budget claim (found_below refuted answer)

-- what is found is that the budget is spent
abbrev pub is_spent : Finding → Bool
is_spent (Refused (fault.K1 bound)) = true
is_spent _ = false

-- ---- claims that are asked

abbrev pub claims_of : Asked → List ShownClaim
claims_of asked = map claim_shown asked.claims.items

-- the claims, their goal and their budget are the same
pub record IsSameAsked (old new : Asked) : Type 0 where
  pub claims : new.claims ≡ old.claims
  pub starts : new.starts ≡ old.starts
  pub reversals : new.reversals ≡ old.reversals
  pub goal : new.goal ≡ old.goal
  pub budget : new.budget ≡ old.budget

-- an automaton for boards of a side that leaves out each move which takes the one before it back
abbrev pub PrunesFor : ℕ → ShownAutomaton → Type 0
PrunesFor side automaton = (automaton.side ≡ side) × LeavesOutReversals automaton.steps

-- a search for the claim begins so
pub record IsPosed (goal : Goal) (v : ShownBundle) (claim : Claim) (start : Start) : Type 0 where
  pub is_start : IsStart v start
  pub board : start.board ≡ board_for goal claim.board

-- so does one for a claim that is posed
abbrev pub IsPosedOver : ShownBundle → Posed → Type 0
IsPosedOver v posed = IsPosed posed.goal v posed.claim.now posed.start.now

-- what is searched for then
abbrev pub claim_of : Posed → ShownClaim
claim_of posed = claim_for posed.goal (claim_shown posed.claim.now)

-- the search for each claim begins with its start, and the automaton of reversals is of the boards' side
pub record IsAskedOver (v : ShownBundle) (asked : Asked) : Type 0 where
  pub size : length asked.starts.items ≡ length asked.claims.items
  pub each : (number : ℕ) (claim : Claim) (start : Start) → number < length asked.claims.items
      → IsPosed asked.goal v (slice_index_or asked.claims.items number claim) (slice_index_or asked.starts.items number start)
  pub prunes : PrunesFor v.side asked.reversals

-- this is found for the claim with the number
abbrev pub IsFoundAt : Goal → ShownBundle → ℕ → List Claim → ℕ → Finding → Type 0
IsFoundAt goal v budget all number found =
    (other : Claim) → IsFoundFor v budget (claim_for goal (claim_shown (slice_index_or all number other))) found

-- what was found soon for some of the next claims, each in its place
abbrev pub AreFoundSoon : ShownBundle → Asked → List (Option Finding) → Type 0
AreFoundSoon v asked soon = (place : ℕ) (other : Option Finding) → place < length soon
    → IfSome (slice_index_or soon place other) (IsFoundAt asked.goal v asked.budget asked.claims.items (asked.told + place))

-- ---- the lines of claims, one after the other

module _ (goal : Goal) (v : ShownBundle) (budget : ℕ) (old new : World) where
  -- all claims were answered, and the lines written
  pub record AreAllTold (claims : List ShownClaim) (is_yes : Bool) : Type 0 where
    pub told : List Told
    pub each : AllZip (IsToldOf goal v budget) claims told
    pub yes : is_yes ≡ are_yes told
    pub written : IsWritten (told_lines goal told) old new (Ok tt)

  -- the first of them were answered, and of their lines a proper front was written
  pub record AreCut (claims : List ShownClaim) : Type 0 where
    pub first : List ShownClaim
    pub others : List ShownClaim
    pub order : claims ≡ first ++ others
    pub told : List Told
    pub each : AllZip (IsToldOf goal v budget) first told
    pub fault : WriteFault
    pub written : IsWritten (told_lines goal told) old new (Err fault)

-- the claims that are told, of those that are asked, were answered, and their lines written
pub record IsToldTo (v : ShownBundle) (old new : World) (asked : Asked) : Type 0 where
  pub few : asked.told ≤ length asked.claims.items
  pub all : AreAllTold asked.goal v asked.budget old new (take asked.told (claims_of asked)) asked.is_yes

-- the same, or a front was written
abbrev pub IsTelling : ShownBundle → World → World → Asked → Result ⊤ WriteFault → Type 0
IsTelling v old new asked result =
    MatchResult result (λ _. IsToldTo v old new asked) (λ _. AreCut asked.goal v asked.budget old new (claims_of asked))

-- ---- the words of tables

-- how many placements the tables of a bundle have together
abbrev pub placements_of : ShownBundle → ℕ
placements_of v = sum_by (λ table. falling_factorial (v.side * v.side) (length table.tiles)) v.tables

-- there is memory for the words of each table of a bundle
pub record HaveRooms (v : ShownBundle) (rooms : List ShownPattern) : Type 0 where
  pub size : length rooms ≡ length v.tables
  pub each : (table : ℕ) (room : ShownPattern) → slice_get rooms table ≡ Some room → room ≡ pattern_at v table

-- there is all memory for the words of the tables of a bundle
pub record IsRoomFor (v : ShownBundle) (words : TableWords) : Type 0 where
  pub few : length v.tables ≤ most_worded
  pub outline : words.outline.value ≡ v
  pub rooms : HaveRooms v words.rooms.items
  pub empty : words.words.items ≡ []
  pub room : length v.tables ≤ vec_capacity words.words

-- where something is found no words are wanted, and else there is all memory for them
abbrev pub IsWantedIf : {A : Type 0} → Option A → ShownBundle → Option TableWords → Type 0
IsWantedIf found v None = IsSome found
IsWantedIf found v (Some words) = IsNone found × IsRoomFor v words
