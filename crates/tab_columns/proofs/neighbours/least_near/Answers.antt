use Rattle.std.proofs.Common.{◌≡◌, ℕ, ◌+◌, ◌<◌, length, replicate, min, sym, ◌∙◌, ap, subst, arith}
use Rattle.std.proofs.lemmas.List.{get_or-replicate, length-replicate}
use Rattle.std.proofs.lemmas.Simd.{length-zip2}
use lib.Lanes.{zip2}
use Rattle.tab_columns.specs.Columns.{EachSlot}
use Rattle.tab_rule.specs.LocalRule.{IsLeastOf}
use Rattle.tab_columns.specs.Moves.{IsEntryAmong}
use Rattle.tab_columns.proofs.ColumnLemmas.{least_all, least_more, least_none}
use Rattle.tab_columns.proofs.neighbours.least_near.Goals as goal

-- with no tile moved yet, the least entry of each slot is 255
pub loop-index-init : goal.loop-index-init
loop-index-init c = record {
  each = least_none c.args.table.now c.requires.table c.args.placements.now c.requires.placements c.requires.few (replicate {A = ℕ} 2048 255)
      (λ i l. get_or-replicate {A = ℕ} 2048 i 255 0 l);
  len = length-replicate {A = ℕ} 2048 255;
}

-- with the four moves of one tile taken in, the least is right for one tile more
pub loop-index-preserved : goal.loop-index-preserved
loop-index-preserved c =
    let t = c.args.table.now in
    let was = c.loop-index.least in
    let up = c.entries_towards-up.result in
    let down = c.entries_towards-down.result in
    let left = c.entries_towards-left.result in
    let right = c.entries_towards-right.result in
    let size : c.size.result ≡ length t.pattern.tiles = c.size.ensures.size ∙ ap (λ q. length q.tiles) c.pattern.ensures.pattern in
    let low : c.loop-index.index < length t.pattern.tiles = let e = c.from-index-end.ensures in let l = c.loop-index-test.true in omega arith in
    let n1 = c.min_into.ensures in
    let n2 = c.min_into-in-loop-index.ensures ∙ ap (λ xs. zip2 min xs down) n1 in
    let n3 = c.min_into-in-loop-index-2.ensures ∙ ap (λ xs. zip2 min xs left) n2 in
    let n4 = c.min_into-in-loop-index-3.ensures ∙ ap (λ xs. zip2 min xs right) n3 in
    let long_up : length up ≡ 2048 = c.entries_towards-up.ensures.len in
    let long_down : length down ≡ 2048 = c.entries_towards-down.ensures.len in
    let long_left : length left ≡ 2048 = c.entries_towards-left.ensures.len in
    let long_right : length right ≡ 2048 = c.entries_towards-right.ensures.len in
    let long : length was ≡ 2048 = c.loop-index.invariant.len in
    let l1 = length-zip2 min was up (omega arith) in
    let l2 = length-zip2 min (zip2 min was up) down (omega arith) in
    let l3 = length-zip2 min (zip2 min (zip2 min was up) down) left (omega arith) in
    let l4 = length-zip2 min (zip2 min (zip2 min (zip2 min was up) down) left) right (omega arith) in
    record {
      each = subst (λ xs. EachSlot t.pattern c.args.placements.now (λ cells j. IsLeastOf (IsEntryAmong t cells j (c.loop-index.index + 1)))
          (length c.args.placements.now) xs) (sym n4) (
          least_more t c.requires.table c.args.placements.now c.requires.placements c.requires.few c.loop-index.index low was up down left right long
          long_up long_down long_left long_right
          c.loop-index.invariant.each c.entries_towards-up.ensures.each c.entries_towards-down.ensures.each c.entries_towards-left.ensures.each
          c.entries_towards-right.ensures.each);
      len = ap length n4 ∙ l4 ∙ l3 ∙ l2 ∙ l1 ∙ long;
    }

-- the column of the least near entries has its length
pub returns-clause-len : goal.returns-clause-len
returns-clause-len c = c.loop-index.invariant.len

-- with all tiles moved, each slot has its least near entry
pub returns-clause-each : goal.returns-clause-each
returns-clause-each c =
    let t = c.args.table.now in
    let size : c.size.result ≡ length t.pattern.tiles = c.size.ensures.size ∙ ap (λ q. length q.tiles) c.pattern.ensures.pattern in
    least_all t c.requires.table c.args.placements.now c.requires.placements c.requires.few c.loop-index.index c.loop-index.least
    (let e = c.from-index-end.ensures in let l = c.loop-index-test.false in omega arith) c.loop-index.invariant.each
