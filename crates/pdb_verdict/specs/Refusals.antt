-- What is found, or the fault that keeps it away.
use Rattle.std.specs.Prelude.{◌≡◌, Result, Ok, Err}
use Rattle.pdb_verdict.specs.declared.verdicts.Fault.{Fault}
use Rattle.pdb_verdict.specs.declared.verdicts.Fault.TheVariants.{Memory}
use Rattle.pdb_verdict.specs.declared.verdicts.Verdict.{Verdict}

-- this holds of the refusal; or memory is wanted, where it is taken
abbrev pub IsCauseBy : (Fault → Type 0) → Type 0 → Fault → Type 0
IsCauseBy IsRefused TakesMemory Memory = TakesMemory
IsCauseBy IsRefused TakesMemory refused = IsRefused refused

module _ {A : Type 0} where
  -- this holds of what is found; or memory is wanted, where it is taken
  abbrev pub IsFoundBy : (Result A Fault → Type 0) → Type 0 → Result A Fault → Type 0
  IsFoundBy IsFound TakesMemory (Ok found) = IsFound (Ok found)
  IsFoundBy IsFound TakesMemory (Err fault) = IsCauseBy (λ refused. IsFound (Err refused)) TakesMemory fault

  -- a yes of what is found
  abbrev pub told_as : (A → Verdict) → Result A Fault → Result Verdict Fault
  told_as verdict_of (Ok found) = Ok (verdict_of found)
  told_as verdict_of (Err fault) = Err fault

  -- the answer tells what is found, and this holds of what is found
  abbrev pub IsTold : (A → Verdict) → (Result A Fault → Type 0) → Result Verdict Fault → Type 0
  IsTold verdict_of IsFound answer = (found : Result A Fault) × IsFound found × (answer ≡ told_as verdict_of found)
