use Rattle.std.proofs.Common.{◌≡◌, ◌+◌, ◌<◌, ◌≤◌, length, inl, ap, ◌∙◌, arith, w64}
use Rattle.std.specs.Int.{bit_at, trailing_zeros}
use Rattle.std.proofs.lemmas.Nat.Bits.{bit_at-zero}
use Rattle.tab_lanes.proofs.RuleLemmas.{kept_up_to, lowest_inside, none_below, lowest_broken}
use Rattle.tab_lanes.proofs.local_rule.kept_by_lanes.Goals as goal

-- where a vector has a bad lane, the entries before its first bad one keep the rule
pub returns-then-bad-ne0-clause-kept : goal.returns-then-bad-ne0-clause-kept
returns-then-bad-ne0-clause-kept g c =
    let bits = c.bad_lanes-bad.result in
    let some : 0 < bits = let ne = c.if-bad-ne0.true in omega arith in
    let inside = lowest_inside c.args.entries.now c.args.mins.now c.args.kinds.now c.args.from c.lanes.at g.row.N bits c.lanes.invariant.0
    c.bad_lanes-bad.ensures.fits c.bad_lanes-bad.type_inv some in
    kept_up_to c.args.entries.now c.args.mins.now c.args.kinds.now c.args.from c.lanes.at g.row.N bits c.lanes.invariant.0
    c.bad_lanes-bad.ensures.kept (trailing_zeros w64 bits) (omega arith)
    (none_below c.args.entries.now c.args.mins.now c.args.kinds.now c.args.from c.lanes.at g.row.N bits c.lanes.invariant.0
    c.bad_lanes-bad.ensures.fits c.bad_lanes-bad.type_inv some)

-- where a vector has a bad lane, the place of its first bad one is within the column
pub returns-then-bad-ne0-clause-most : goal.returns-then-bad-ne0-clause-most
returns-then-bad-ne0-clause-most g c =
    let bits = c.bad_lanes-bad.result in
    let some : 0 < bits = let ne = c.if-bad-ne0.true in omega arith in
    let room : c.lanes.at + g.row.N ≤ length c.args.entries.now = let l = c.lanes-test.true in omega arith in
    let inside = lowest_inside c.args.entries.now c.args.mins.now c.args.kinds.now c.args.from c.lanes.at g.row.N bits c.lanes.invariant.0
    c.bad_lanes-bad.ensures.fits c.bad_lanes-bad.type_inv some in
    omega arith

-- where a vector has a bad lane, the entry that is answered breaks the rule
pub returns-then-bad-ne0-clause-stopped : goal.returns-then-bad-ne0-clause-stopped
returns-then-bad-ne0-clause-stopped g c =
    let bits = c.bad_lanes-bad.result in
    let some : 0 < bits = let ne = c.if-bad-ne0.true in omega arith in
    let room : c.lanes.at + g.row.N ≤ length c.args.entries.now = let l = c.lanes-test.true in omega arith in
    let inside = lowest_inside c.args.entries.now c.args.mins.now c.args.kinds.now c.args.from c.lanes.at g.row.N bits c.lanes.invariant.0
    c.bad_lanes-bad.ensures.fits c.bad_lanes-bad.type_inv some in
    inl (
      omega arith,
      lowest_broken c.args.entries.now c.args.mins.now c.args.kinds.now c.args.from c.lanes.at g.row.N bits c.lanes.invariant.0
          c.bad_lanes-bad.ensures.fits c.bad_lanes-bad.type_inv some c.bad_lanes-bad.ensures.broken,
    )

-- where a vector has no bad lane, the entries keep the rule as far as its end
pub lanes-preserved : goal.lanes-preserved
lanes-preserved g c =
    let bits = c.bad_lanes-bad.result in
    let none : bits ≡ 0 = let e = c.if-bad-ne0.false in omega arith in
    let room : c.lanes.at + g.row.N ≤ length c.args.entries.now = let l = c.lanes-test.true in omega arith in (
      kept_up_to c.args.entries.now c.args.mins.now c.args.kinds.now c.args.from c.lanes.at g.row.N bits c.lanes.invariant.0
          c.bad_lanes-bad.ensures.kept g.row.N (omega arith) (λ j l. ap (λ m. bit_at m j) none ∙ bit_at-zero j),
      let low = c.lanes.invariant.1 in omega arith,
      room,
    )
