use Rattle.std.proofs.Common.{◌≡◌, ◌+◌, ◌≤◌, List, [], ◌∷◌, ◌++◌, length, map, Some, inl, inr, refl, sym, ◌∙◌, ap, subst, arith}
use Rattle.std.proofs.lemmas.Bool.{eqb-false, eqb-true}
use Rattle.std.proofs.lemmas.List.{length-map, map-append}
use Rattle.std.specs.Prelude.{option_map}
use Rattle.set_sum.specs.Bundles.{most_sets}
use Rattle.set_sum.specs.ReadLines.{AreReadLines, IsReadAsSet}
use Rattle.set_sum.specs.declared.members.Member.{Member}
use Rattle.set_sum.proofs.LinesReadLemmas.{changed_before, changed_first, read_missing, read_there}
use Rattle.set_sum.proofs.lines.Lines.push.Goals as goal
use Rattle.set_sum.proofs.lines.Lines.push.Goals.{in-Some+then-not-is_full, in-Some+else-not-is_full, in-None+then-is_none, in-None+else-is_none}

-- a line more is counted, and kept where there is room or noted where a table is missing
pub returns : goal.returns
returns c tables lines members are is =
    let old = c.args.self.now in
    let kept : List (List Member) = map (λ kept. kept.items) old.sets.items in
    let size : length kept ≡ length old.sets.items = length-map old.sets.items (λ kept. kept.items) in
    elim c.match-set.branch [
      | in-Some+then-not-is_full w ↦
          let full = eqb-false (length old.sets.items) most_sets (sym w.is_full.ensures.value ∙ w.if-not-is_full.true) in
          let fits : length old.sets.items ≤ most_sets = w.is_full.ensures.fits in
          subst (λ s. AreReadLines tables (lines ++ members ∷ []) (s.count + 1) s.missing (map (λ kept. kept.items) s.sets.items)) (sym w.self-is) (
          read_there tables lines members old.count old.missing kept (map (λ kept. kept.items) w.push.new.self.items) are w.in-Some.set.items
          (subst (IsReadAsSet tables members) (ap (option_map (λ kept. kept.items)) w.in-Some.is) is)
          (inl (omega arith, ap (map (λ kept. kept.items)) w.push.ensures.items ∙ map-append (λ kept. kept.items) old.sets.items (w.in-Some.set ∷ []))))
      | in-Some+else-not-is_full w ↦
          let full = eqb-true (length old.sets.items) most_sets (sym w.is_full.ensures.value ∙ w.if-not-is_full.false) in
          subst (λ s. AreReadLines tables (lines ++ members ∷ []) (s.count + 1) s.missing (map (λ kept. kept.items) s.sets.items)) (sym w.self-is) (
          read_there tables lines members old.count old.missing kept kept are w.in-Some.set.items
          (subst (IsReadAsSet tables members) (ap (option_map (λ kept. kept.items)) w.in-Some.is) is)
          (inr (omega arith, refl)))
      | in-None+then-is_none w ↦
          subst (λ s. AreReadLines tables (lines ++ members ∷ []) (s.count + 1) s.missing (map (λ kept. kept.items) s.sets.items)) (sym w.self-is) (
          read_missing tables lines members old.count old.missing (Some old.count) kept are
          (subst (IsReadAsSet tables members) (ap (option_map (λ kept. kept.items)) w.in-None.is) is)
          (changed_first old.missing (Some old.count) old.count w.is_none.result w.is_none.ensures w.if-is_none.true refl))
      | in-None+else-is_none w ↦
          subst (λ s. AreReadLines tables (lines ++ members ∷ []) (s.count + 1) s.missing (map (λ kept. kept.items) s.sets.items)) (sym w.self-is) (
          read_missing tables lines members old.count old.missing old.missing kept are
          (subst (IsReadAsSet tables members) (ap (option_map (λ kept. kept.items)) w.in-None.is) is)
          (changed_before old.missing old.missing old.count w.is_none.result w.is_none.ensures w.if-is_none.false refl))
    ]
