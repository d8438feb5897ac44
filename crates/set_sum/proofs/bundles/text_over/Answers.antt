use Rattle.std.proofs.Common.{◌≡◌, ℕ, List, inl, inr, length, map, take, sym, ◌∙◌}
use Rattle.std.specs.Prelude.{Err, IfErr, IfOk, Ok, Result}
use Rattle.std.specs.List.{AllByRecursion}
use Rattle.std.proofs.lemmas.Bool.{eqb-true}
use Rattle.pat_place.specs.Patterns.{ShownPattern}
use Rattle.set_sum.specs.OverPatterns.{AreSetsOver, IsFaultOver, bundle_with}
use Rattle.set_sum.specs.Parts.{IsExactPart, part_pattern}
use Rattle.set_sum.specs.Reading.{IsBundleOf, IsSetFaultOf}
use Rattle.set_sum.specs.declared.faults.SetFault.{SetFault}
use Rattle.set_sum.specs.declared.members.Member.{Member}
use Rattle.set_sum.specs.declared.parts.Part.{Part}
use Rattle.set_sum.proofs.bundles.text_over.Goals as goal
use Rattle.set_sum.proofs.bundles.text_over.Goals.{then-is_empty-via-then-is_empty, then-is_empty-via-else-is_empty+then-tables-gt-MOST_TABLES}

-- no tables, or more than a bundle may have, are the fault S5
pub returns-then-is_empty-clause-err : goal.returns-then-is_empty-clause-err
returns-then-is_empty-clause-err c = elim c.then-is_empty.branch [
  | then-is_empty-via-then-is_empty w ↦ inl (inl (eqb-true (length c.args.tables.now) 0 (sym c.is_empty.ensures ∙ w.if-is_empty.true)))
  | then-is_empty-via-else-is_empty+then-tables-gt-MOST_TABLES w ↦ inl (inr w.if-tables-gt-MOST_TABLES.true)
]

-- what is read over the patterns of tables is read over these
over : (tables : List Part) (text : List ℕ) (patterns : List ShownPattern) → map part_pattern tables ≡ patterns → AllByRecursion IsExactPart tables
    → (r : Result (List (List Member)) SetFault) → IfOk r (λ sets. AreSetsOver patterns text sets)
    → IfOk r (λ sets. IsBundleOf tables text (bundle_with tables sets) × AllByRecursion IsExactPart tables)
over tables text patterns of_tables exact (Ok sets) ok = (ok tables of_tables, exact)
over tables text patterns of_tables exact (Err fault) ok = tt

refused : (tables : List Part) (text : List ℕ) (patterns : List ShownPattern) → map part_pattern tables ≡ patterns
    → (r : Result (List (List Member)) SetFault) → IfErr r (λ fault. IsFaultOver fault patterns text) → IfErr r (λ fault. IsSetFaultOf fault tables text)
refused tables text patterns of_tables (Ok sets) err = tt
refused tables text patterns of_tables (Err fault) err = err tables of_tables

-- sets over the patterns make a bundle with the tables
pub returns-clause-ok : goal.returns-clause-ok
returns-clause-ok c =
    over c.args.tables.now c.args.text.now (take (length c.args.tables.now) c.patterns_of-patterns.result) (sym c.patterns_of-patterns.ensures.patterns)
    c.patterns_of-patterns.ensures.exact c.read.result c.read.ensures.ok

-- a fault over the patterns is one over the tables
pub returns-clause-err : goal.returns-clause-err
returns-clause-err c =
    refused c.args.tables.now c.args.text.now (take (length c.args.tables.now) c.patterns_of-patterns.result) (sym c.patterns_of-patterns.ensures.patterns)
    c.read.result c.read.ensures.fault
