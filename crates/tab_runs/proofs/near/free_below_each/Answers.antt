use Rattle.std.proofs.Common.{◌≡◌, ℕ, ◌+◌, ◌<◌, true, false, length, set, sym, ◌∙◌, ap, subst, arith, length-set}
use Rattle.std.proofs.lemmas.Bool.{both_ways, false_from_ne_true}
use Rattle.std.proofs.lemmas.List.{length-replicate}
use Rattle.pat_place.specs.Patterns.{has}
use Rattle.tab_runs.specs.RunPlaces.{AreFreeBelow}
use Rattle.tab_runs.specs.Runs.{free_below}
use Rattle.tab_runs.proofs.ListedLemmas.{below_more}
use Rattle.tab_runs.proofs.RunRanks.{free_below-free, free_below-taken, free_below-zero}
use Rattle.tab_runs.proofs.near.free_below_each.Goals as goal
use Rattle.tab_runs.proofs.near.free_below_each.Goals.{then-not-has_cell, else-not-has_cell}

-- before the first cell no free cell is counted, and nothing is filled in
pub loop-cell-init : goal.loop-cell-init
loop-cell-init c = record {
  size = length-replicate {A = ℕ} 25 0;
  few = omega arith;
  count = sym (free_below-zero c.args.run.now.cells.now);
  filled = λ d l. absurd (omega arith);
}

-- with a cell looked at, the count is right for one cell more, whether or not a tile is in it
pub loop-cell-preserved : goal.loop-cell-preserved
loop-cell-preserved c =
    let p = c.args.run.now.cells.now in
    let below = c.loop-cell.below in
    let cell = c.loop-cell.cell in
    let free = c.loop-cell.free in
    let count : free ≡ free_below p cell = c.loop-cell.invariant.count in
    let low : cell < length below = (let s = c.loop-cell.invariant.size in let l = c.loop-cell-test.true in let k = c.requires.small in omega arith) in
    let long : length (set below c.from.result free) ≡ 25 = length-set below c.from.result free ∙ c.loop-cell.invariant.size in
    let filled : AreFreeBelow p (cell + 1) (set below c.from.result free) =
    subst (λ i. AreFreeBelow p (cell + 1) (set below i free)) (sym c.from.ensures) (below_more p below cell free low count c.loop-cell.invariant.filled) in
    elim c.if-not-has_cell.branch [
      | then-not-has_cell w ↦
          let out : has p cell ≡ false = false_from_ne_true (has p cell)
          (λ t. both_ways c.has_cell.result w.if-not-has_cell.true (c.has_cell.ensures.1 ((c.requires.set cell).1 t))) in
          record {
            size = long;
            few = (let e = w.free-is in let l = c.loop-cell.invariant.few in omega arith);
            count = w.free-is ∙ ap (λ k. k + 1) count ∙ sym (free_below-free p cell out);
            filled = filled;
          }
      | else-not-has_cell w ↦
          let in_run : has p cell ≡ true = (c.requires.set cell).0 (c.has_cell.ensures.0 w.if-not-has_cell.false) in
          record {
            size = long;
            few = (let e = w.free-is in let l = c.loop-cell.invariant.few in omega arith);
            count = w.free-is ∙ count ∙ sym (free_below-taken p cell in_run);
            filled = filled;
          }
    ]

-- each cell has got the number of free cells below it
pub returns : goal.returns
returns c d low = c.loop-cell.invariant.filled d (let l = c.loop-cell-test.false in omega arith)
