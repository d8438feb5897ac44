use Rattle.std.proofs.Common.{◌≡◌, ◌*◌, ◌<◌, ◌≤◌, length, sym, ◌∙◌, ap, subst, arith}
use Rattle.std.proofs.Math.Nat.{mul-le-mul_left}
use Rattle.pat_place.specs.Placements.{IsFree}
use Rattle.pat_place.specs.Ranks.{placements}
use Rattle.pat_place.proofs.BoardOf.{no_blank}
use Rattle.pat_place.proofs.PlacementLemmas.{placed}
use Rattle.tab_file.specs.Tables.{placement_count}
use Rattle.tab_rule.proofs.BlockLemmas.{number_fits}
use Rattle.tab_rule.proofs.entries.goal_number.Goals as goal

-- cell 0 is free in the goal's placement, so it has a slot
pub slot_of-slot-requires : goal.slot_of-slot-requires
slot_of-slot-requires c =
    let p = c.args.table.now.pattern in
    let pat = c.pattern-pattern.ensures.table.pattern in
    let goal : c.goal-goal.result ≡ placed p p.tiles = c.goal-goal.ensures.value ∙ ap (λ q. placed q q.tiles) c.pattern-pattern.ensures.pattern in
    subst (λ v. IsFree v.pattern.side v.cells 0) (sym goal) (
      (let wide : p.side * 2 ≤ p.side * p.side = mul-le-mul_left p.side pat.low in let low : 2 ≤ p.side = pat.low in omega arith),
      no_blank p.side p.tiles pat.tiles,
    )

-- the number of entries before the goal's placement fits in 64 bits
pub overflow_mul-result : goal.overflow_mul-result
overflow_mul-result c =
    let p = c.args.table.now.pattern in
    let goal : c.goal-goal.result ≡ placed p p.tiles = c.goal-goal.ensures.value ∙ ap (λ q. placed q q.tiles) c.pattern-pattern.ensures.pattern in
    let below : c.rank.result < placement_count p = subst
    (λ v. c.rank.result < length (placements v.pattern.side (length v.cells))) goal c.rank.ensures.below in
    let small : c.from.result < 256 = let e = c.from.ensures in let l = c.width.type_inv in omega arith in
    let fits = number_fits p c.pattern-pattern.ensures.table.pattern c.rank.result c.from.result 0 below small (omega arith) in
    omega arith

-- the number of the goal's entry fits in 64 bits
pub overflow_add-result : goal.overflow_add-result
overflow_add-result c =
    let p = c.args.table.now.pattern in
    let goal : c.goal-goal.result ≡ placed p p.tiles = c.goal-goal.ensures.value ∙ ap (λ q. placed q q.tiles) c.pattern-pattern.ensures.pattern in
    let below : c.rank.result < placement_count p = subst
    (λ v. c.rank.result < length (placements v.pattern.side (length v.cells))) goal c.rank.ensures.below in
    let small : c.from.result < 256 = let e = c.from.ensures in let l = c.width.type_inv in omega arith in
    let slot : c.from-2.result < 256 = let e = c.from-2.ensures in let l = c.slot_of-slot.type_inv in omega arith in
    let fits = number_fits p c.pattern-pattern.ensures.table.pattern c.rank.result c.from.result c.from-2.result below small slot in
    omega arith
