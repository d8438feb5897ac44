use Rattle.std.proofs.Common.{◌≡◌, ◌+◌, ◌-◌, ◌*◌, ◌<◌, ◌≤◌, ltb, length, set, inl, inr, sym, ◌∙◌, ap, ap₂, subst, arith}
use Rattle.std.specs.Int.{from_bool}
use Rattle.std.proofs.lemmas.Bool.{cases_lt, le-ltb, lt-ltb}
use Rattle.std.proofs.Math.Nat.{mul-le-mul_right}
use Rattle.tab_runs.specs.SetRows.{IsColumn, listed_of}
use Rattle.tab_runs.proofs.SetRowLemmas.{column_set, column_skip}
use Rattle.tab_runs.proofs.set_rows.fill_column.Goals as goal
use Rattle.tab_runs.proofs.set_rows.fill_column.Goals.{in-Some, in_default}

-- a cell of some region below the last tile's has a free cell counted, from which one is taken off
pub overflow_sub-index : goal.overflow_sub-index
overflow_sub-index c =
    let x = c.loop-x.x in
    let last = c.args.column.last in
    let e = c.from.ensures in
    elim (cases_lt x last) [
      | inl l ↦
          let one : from_bool (ltb x last) ≡ 1 = ap from_bool (lt-ltb x last l) in
          let some = c.requires.below x (c.in-Some.j, c.in-Some.ensures.low, c.in-Some.ensures.here) l in
          omega arith
      | inr l ↦
          let none : from_bool (ltb x last) ≡ 0 = ap from_bool (le-ltb x last l) in
          omega arith
    ]

-- with one cell's row filled in or left alone, the column is filled for one cell more
pub loop-x-preserved : goal.loop-x-preserved
loop-x-preserved c =
    let x = c.loop-x.x in
    let m = c.args.listed in
    let last = c.args.column.last in
    let free = c.args.column.free in
    let before = c.args.column.first_place in
    let regions = c.args.regions.now in
    let row : (x + 1) * m ≤ c.args.cells * m = mul-le-mul_right m (let l = c.loop-x-test.true in omega arith) in
    elim c.match-find_region.branch [
      | in-Some w ↦
          let at : w.from-in-Some.result * m + w.from-in-Some-2.result ≡ x * m + listed_of last free x =
          ap₂ (λ a b. a * m + b) w.from-in-Some.ensures (w.from-in-Some-2.ensures ∙ ap (λ k. free - k) w.from.ensures) in
          let low = c.requires.within x (w.in-Some.j, w.in-Some.ensures.low, w.in-Some.ensures.here) in
          let inside : x * m + listed_of last free x < length c.loop-x.set_rows = (let s = c.requires.size in let k = c.loop-x.auto.set_rows in omega arith) in
          subst (λ b. IsColumn m last free before regions (x + 1) c.args.set_rows.now b)
          (sym (w.set_rows-is ∙ ap (λ i. set c.loop-x.set_rows i (before + w.in-Some.j)) at))
          (column_set m last free before regions x c.args.set_rows.now c.loop-x.set_rows c.requires.within c.loop-x.invariant inside w.in-Some.j
          w.in-Some.ensures.low w.in-Some.ensures.here)
      | in_default w ↦
          subst (λ b. IsColumn m last free before regions (x + 1) c.args.set_rows.now b) (sym w.set_rows-is)
          (column_skip m last free before regions x c.args.set_rows.now c.loop-x.set_rows c.requires.within c.loop-x.invariant (w.in_default.ensures {u = tt}))
    ]
