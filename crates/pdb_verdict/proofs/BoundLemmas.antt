-- Table files, a set text and a log file have one result for a board, and a bound that they prove holds.
use Rattle.std.proofs.Common.{◌≡◌, ◌∙◌, ℕ, Bool, List, MatchResult, Result, Ok, Err, inl, inr, refl, sym}
use Rattle.set_sum.specs.Bounds.{IsBounded}
use Rattle.set_sum.specs.Bundles.{ShownBundle}
use Rattle.set_sum.specs.Reading as reading
use Rattle.set_sum.proofs.AnswerLemmas.{bundle-no_fault, bundle-once, fault-once}
use Rattle.set_sum.proofs.BundleLemmas.{is_bundle}
use Rattle.set_sum.proofs.DecidedLemmas.{bundle_answer}
use Rattle.log_check.specs.GoodLogs.{IsGoodFile}
use Rattle.log_check.specs.LogFaults as log_fault
use Rattle.log_check.specs.declared.faults.LogFault.{LogFault}
use Rattle.log_check.proofs.GoodLemmas.{good_log_bounds}
use Rattle.log_check.proofs.AnswerLemmas.{check_answer, good_or_fault, one_bound, one_fault}
use Rattle.byte_io.specs.Shelf.{Bytes}
use Rattle.pdb_verdict.specs.Bound.{IsBoundFor, IsProvedBound}
use Rattle.pdb_verdict.specs.FileBundles.{AreRefused, IsBundleOfFiles, IsCauseForBundle, parts_for}
use Rattle.pdb_verdict.specs.Steps.{IsFoundFor, of_log}
use Rattle.pdb_verdict.specs.declared.verdicts.Fault.{Fault}
use Rattle.pdb_verdict.proofs.BundleLemmas.{AreTablesOf, AreTablesOf-one, all_exact, bundle_taken, tables_answer}
use Rattle.pdb_verdict.proofs.RefusalLemmas.{Behind, IsOne, after, cause_by, one_behind, one_by, one_result, stays}

-- a bound for a board, or why there is none
pub found_some : (fold : Bool) (board : List ℕ) (sets log : Bytes) (files : List Bytes) → (found : Result ℕ Fault) × IsBoundFor fold board sets log files found
found_some fold board sets log files = elim (tables_answer files) [
  | inr first ↦ (Err (Fault.TableOf first.0 first.1), first.2)
  | inl are ↦ elim (bundle_answer (parts_for fold are.0) sets) [
    | inr refused ↦ (Err (Fault.Sets refused.0), record { tables = are.0; exact = are.1; fault = refused.1 })
    | inl bundle ↦
        let of_files : IsBundleOfFiles fold files sets bundle.0 = record { tables = are.0; exact = are.1; makes = bundle.1 } in
        elim (check_answer bundle.0 (is_bundle (parts_for fold are.0) sets bundle.0 (all_exact fold are.0 files are.1) bundle.1) board log) [
          | inl good ↦ (Ok good.0, record { bundle = bundle.0; is_bundle = of_files; good = good.1 })
          | inr refused ↦ (Err (Fault.Log refused.0), record { bundle = bundle.0; is_bundle = of_files; fault = refused.1 })
        ]
  ]
]

module _ (fold : Bool) (board : List ℕ) (sets log : Bytes) (files : List Bytes) where
  -- a result comes of the tables, then the set text, then the log
  abbrev BySteps : Result ℕ Fault → Type 0
  BySteps = Behind (AreTablesOf files) (λ f. Err (Fault.TableOf f.0 f.1)) (λ ts.
      let parts = parts_for fold ts in
      Behind (λ found. MatchResult found (reading.IsBundleOf parts sets) (λ f. reading.IsSetFaultOf f parts sets))
      (λ f. Err (Fault.Sets f)) (λ v.
      Behind (λ found. MatchResult found (IsGoodFile v board log) (λ f. log_fault.IsLogRefusalOf f v board log))
      (λ f. Err (Fault.Log f)) (λ n found. found ≡ Ok n)))

  by_steps : (found : Result ℕ Fault) → IsBoundFor fold board sets log files found → BySteps found
  by_steps (Ok n) is =
      after is.is_bundle.tables is.is_bundle.exact (after is.bundle is.is_bundle.makes (after n is.good refl))
  by_steps (Err (Fault.TableOf number refused)) is = stays (number, refused) is
  by_steps (Err (Fault.Sets f)) is = after is.tables is.exact (stays f is.fault)
  by_steps (Err (Fault.Log f)) is =
      after is.is_bundle.tables is.is_bundle.exact (after is.bundle is.is_bundle.makes (stays f is.fault))
  by_steps (Err _) is = absurd is

  -- one thing is found
  pub found_one : IsOne (IsBoundFor fold board sets log files)
  found_one = one_by by_steps (one_behind (AreTablesOf-one files) (λ ts.
      let parts = parts_for fold ts in
      one_behind (one_result (bundle-once parts sets) (fault-once parts sets) (bundle-no_fault parts sets)) (λ v.
      one_behind (one_result (one_bound v board log) (one_fault v board log) (good_or_fault v board log))
      (λ n a b is also. is ∙ sym also))))

  -- no solution has fewer moves than a bound
  pub proved_bounds : (n : ℕ) → IsProvedBound fold board sets log files n → IsBounded board n
  proved_bounds n h =
      let is = h.is_bundle in
      let stands = is_bundle (parts_for fold is.tables) sets h.bundle (all_exact fold is.tables files is.exact) is.makes in
      good_log_bounds h.bundle stands h.good.log log h.good.is_file board n h.good.good

-- ---- over a bundle

module _ (fold : Bool) (files : List Bytes) (sets : Bytes) (board : List ℕ) (log : Bytes) where
  -- a bound over the bundle that files make is proved by them
  pub bound_found : (v : ShownBundle) → IsBundleOfFiles fold files sets v → (n : ℕ) → IsGoodFile v board log n
      → IsFoundFor fold board sets log files (Ok n)
  bound_found v is_bundle n is = record { bundle = v; is_bundle = is_bundle; good = is }

  -- what is wrong with the log over it keeps a bound away
  pub log_found : (v : ShownBundle) → IsBundleOfFiles fold files sets v → (why : LogFault) → log_fault.IsCauseOfLogFault why v board log
      → IsFoundFor fold board sets log files (Err (of_log why))
  log_found v is_bundle (LogFault.Refused r) is = record { bundle = v; is_bundle = is_bundle; fault = is }
  log_found v is_bundle LogFault.Memory is = bundle_taken fold files sets v is_bundle

  refused_found : (refused : Fault) → AreRefused fold files sets refused → IsBoundFor fold board sets log files (Err refused)
  refused_found (Fault.TableOf number refused) is = is
  refused_found (Fault.Sets refused) is = is
  refused_found _ is = absurd is

  -- so does what keeps the bundle away
  pub cause_found : (cause : Fault) → IsCauseForBundle fold files sets cause → IsFoundFor fold board sets log files (Err cause)
  cause_found cause is = cause_by refused_found (λ takes. takes) cause is
