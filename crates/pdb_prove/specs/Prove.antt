-- `prove CLAIMS SETS TABLES..`: claims, a line each, are answered by a search, in their order.
use Rattle.std.specs.Prelude.{◌≡◌, ℕ, ◌-◌, ◌^◌, ◌⊎◌, Bool, List, [], ◌∷◌, ◌++◌, Option, Some, None, Err, flat_map, map}
use Rattle.std.specs.List.{AllByRecursion, AllZip}
use Rattle.puz_board.specs.Boards.{side_of}
use Rattle.puz_goal.specs.declared.goals.Goal.{Goal}
use Rattle.set_sum.specs.Bundles.{ShownBundle}
use Rattle.claim_text.specs.Claims.{ShownClaim}
use Rattle.claim_text.specs.Texts.{AreClaims, IsFirstNoClaim, IsFirstOfAnotherSide}
use Rattle.claim_text.specs.Lines.{Told, told_line}
use Rattle.byte_io.specs.Shelf.{Bytes}
use Rattle.byte_io.specs.Streams.{WritesFront}
use Rattle.pdb_request.specs.Asked.{ProveArguments}
use Rattle.pdb_run.specs.Calls.{with_inputs}
use Rattle.pdb_run.specs.Commands.{Plan, Reply, Wanted, plan}
use Rattle.pdb_run.specs.Inputs.{AreRead, IsAsTold, left_by_all}
use Rattle.pdb_run.specs.Runs.{Ends, World}
use Rattle.pdb_run.specs.Writing.{digests_of}
use Rattle.pdb_run.specs.declared.statuses.Status.{Status}
use Rattle.pdb_run.specs.declared.statuses.Status.TheVariants.{Fault}
use Rattle.pdb_verdict.specs.FileBundles.{AreRefused, IsBundleOfFiles}
use Rattle.pdb_verdict.specs.Limits.{a_table, a_text}
use Rattle.pdb_verdict.specs.Lines.{reply_on}
use Rattle.pdb_verdict.specs.declared.verdicts.Fault as verdict
use Rattle.pdb_verdict.specs.declared.verdicts.Fault.TheVariants as fault
use Rattle.pdb_prove.specs.Answers.{IsToldOf, are_yes}

-- the files of claims: a claims text, a set text and table files
pub record ClaimsFiles : Type 0 where
  pub claims : Bytes
  pub sets : Bytes
  pub tables : List Bytes

-- So many boards may be expanded for a claim. Where nothing is said of it, as many as a search can count: K1 is said then only of a
-- search that has more than 2^64 - 1 boards.
abbrev pub budget_of : Option ℕ → ℕ
budget_of None = 2 ^ 64 - 1
budget_of (Some budget) = budget

-- ---- before anything is searched

-- the text is of these claims, the table files, folded or full, and the set text make this bundle, and all boards have its side
pub record AreReady (fold : Bool) (files : ClaimsFiles) (claims : List ShownClaim) (bundle : ShownBundle) : Type 0 where
  pub are_claims : AreClaims files.claims claims
  pub is_bundle : IsBundleOfFiles fold files.tables files.sets bundle
  pub one_side : AllByRecursion (λ claim. side_of claim.board ≡ bundle.side) claims

-- the text is of claims, and the table files and the set text are refused for this
pub record AreClaimsWithoutBundle (fold : Bool) (files : ClaimsFiles) (refused : verdict.Fault) : Type 0 where
  pub claims : List ShownClaim
  pub are_claims : AreClaims files.claims claims
  pub no_bundle : AreRefused fold files.tables files.sets refused

-- the text is of claims, and the first on a board of another side than the bundle is in the line with this number
pub record AreOfAnotherSide (fold : Bool) (files : ClaimsFiles) (number : ℕ) : Type 0 where
  pub claims : List ShownClaim
  pub bundle : ShownBundle
  pub are_claims : AreClaims files.claims claims
  pub is_bundle : IsBundleOfFiles fold files.tables files.sets bundle
  pub another : IsFirstOfAnotherSide files.claims bundle.side number

-- why nothing is searched: the line of the claims text that is the first to be no claim, then the tables and the sets, then the
-- line of the first board of another side
abbrev pub IsUnready : Bool → ClaimsFiles → verdict.Fault → Type 0
IsUnready fold files refused =
    ((number : ℕ) × IsFirstNoClaim files.claims number × (refused ≡ fault.Q1 number))
    ⊎ AreClaimsWithoutBundle fold files refused
    ⊎ ((number : ℕ) × AreOfAnotherSide fold files number × (refused ≡ fault.Q2 number))

-- ---- what is told

-- what comes of the claims: a refusal of the files, or what is told of each claim
pub data ClaimsOutcome : Type 0 where
  unready : verdict.Fault → ClaimsOutcome
  answered : List Told → ClaimsOutcome

-- for claims that are ready, what is told of each, in their order
pub record AreAnswered (goal : Goal) (fold : Bool) (budget : ℕ) (files : ClaimsFiles) (told : List Told) : Type 0 where
  pub claims : List ShownClaim
  pub bundle : ShownBundle
  pub ready : AreReady fold files claims bundle
  pub each : AllZip (IsToldOf goal bundle budget) claims told

-- of these files
abbrev pub IsOutcomeOf : Goal → Bool → ℕ → ClaimsFiles → ClaimsOutcome → Type 0
IsOutcomeOf goal fold budget files (unready refused) = IsUnready fold files refused
IsOutcomeOf goal fold budget files (answered told) = AreAnswered goal fold budget files told

-- the files whose digests come first: the tables, and behind them the claims text
abbrev pub digested_files : ClaimsFiles → List Bytes
digested_files files = files.tables ++ files.claims ∷ []

-- the lines of what is told
abbrev pub told_lines : Goal → List Told → Bytes
told_lines goal told = flat_map (told_line goal) told

-- the digests, and then the lines; it is a yes where each claim is answered with one
abbrev pub reply_to_claims : Goal → ClaimsFiles → ClaimsOutcome → Reply
reply_to_claims goal files (unready refused) = reply_on (digested_files files) (Err refused)
reply_to_claims goal files (answered told) =
    record { digested = digested_files files; made = None; lines = told_lines goal told; is_yes = are_yes told }

-- a reply tells what comes of the claims
pub record TellsClaims (goal : Goal) (fold : Bool) (budget : ℕ) (files : ClaimsFiles) (reply : Reply) : Type 0 where
  pub outcome : ClaimsOutcome
  pub is_outcome : IsOutcomeOf goal fold budget files outcome
  pub told : reply ≡ reply_to_claims goal files outcome

-- ---- the command

-- a claims text, under this name or of the reader, has 2^26 bytes at most
abbrev pub a_claims_text : Option Bytes → Wanted
a_claims_text name = record { name = name; limit = 2 ^ 26 }

-- the claims text, the set text and the table files, in this order
abbrev pub prove_inputs : ProveArguments → List Wanted
prove_inputs arguments = a_claims_text arguments.claims ∷ a_text (Some arguments.sets) ∷ map a_table arguments.tables

-- the files, in the order in which they are read
abbrev pub in_order : ClaimsFiles → List Bytes
in_order files = files.claims ∷ files.sets ∷ files.tables

-- what comes of the claims is told
abbrev pub IsClaimsReply : Goal → Bool → ℕ → List Bytes → Reply → Type 0
IsClaimsReply goal fold budget inputs reply = (files : ClaimsFiles) × (inputs ≡ in_order files) × TellsClaims goal fold budget files reply

-- to list claims takes memory, and to check the tables and search
abbrev pub TakesMemoryForClaims : List Bytes → Type 0
TakesMemoryForClaims inputs = (files : ClaimsFiles) × (inputs ≡ in_order files) × (claims : List ShownClaim) × AreClaims files.claims claims

-- for any number of workers
abbrev pub prove_plan : ProveArguments → Plan
prove_plan arguments = plan (prove_inputs arguments) (IsClaimsReply arguments.goal arguments.fold (budget_of arguments.budget)) TakesMemoryForClaims

-- a write failed before all lines were written: the first claims were answered, and a proper front of the digests and the lines
-- so far is what was written
pub record IsCutShort (arguments : ProveArguments) (old new : World) (status : Status) : Type 0 where
  pub files : ClaimsFiles
  pub read : AreRead old.files old.reader (prove_inputs arguments) (in_order files)
  pub first : List ShownClaim
  pub others : List ShownClaim
  pub bundle : ShownBundle
  pub ready : AreReady arguments.fold files (first ++ others) bundle
  pub told : List Told
  pub each : AllZip (IsToldOf arguments.goal bundle (budget_of arguments.budget)) first told
  pub front : WritesFront old.written new.written (digests_of (digested_files files) ++ told_lines arguments.goal told)
  pub same : new.files ≡ old.files
  pub calls : new.calls ≡ with_inputs old.calls (prove_inputs arguments)
  pub failure : new.failed ≡ old.failed
  pub reader : IsAsTold (left_by_all old.reader (prove_inputs arguments)) new.reader
  pub is_fault : status ≡ Fault

-- a run ends as its plan says, or was cut short
abbrev pub ProveEnds : ProveArguments → World → World → Status → Type 0
ProveEnds arguments old new status = Ends (prove_plan arguments) old new status ⊎ IsCutShort arguments old new status
