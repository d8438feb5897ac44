use Rattle.std.proofs.Common.{rules, ◌≡◌, ◌+◌, ◌-◌, ◌*◌, ◌/◌, ◌≤◌, length, ◌∙◌, ap, ap₂, arith}
use Rattle.edge_words.specs.Fills.{AreAllTold}
use Rattle.edge_words.proofs.FillLemmas.{lower, lower_fillable, lower_within, part_fits, part_low, told_join, upper, upper_fillable}
use Rattle.edge_words.proofs.fills.+fill_by+fn-fill_by-join_mut+arg2+fn-fill_by-join_mut+arg3.Goals as goal

-- the words of a span's first part are so few that their count fits
pub overflow_mul-part-2 : goal.overflow_mul-part-2
overflow_mul-part-2 g t c =
    let p = c.args.lookup.now in
    let s = c.args.span in
    let part = (s.high - s.low) / c.from.result * c.from-2.result in
    let threads = c.from.ensures in
    let half = c.from-2.ensures in
    let to : s.low + part ≤ s.high = part_low s.low s.high c.from.result c.from-2.result c.requires.span.order (omega arith) in
    let side = c.side.ensures.side ∙ ap (λ q. q.side) c.pattern.ensures.pattern in
    let cells : c.from-cells.result ≡ p.side * p.side = c.from-cells.ensures ∙ c.cells.ensures.value ∙ ap₂ (λ m n. m * n) side side in
    let within = c.requires.span.within in
    let few = part_fits p c.pattern.ensures.is_pattern c.requires.few part (omega arith) in
    let same : part * c.from-cells.result ≡ part * (p.side * p.side) = ap (λ k. part * k) cells in
    record { fits = omega arith }

-- both threads may begin: each half of the words has the room that its runs need
pub join_mut-requires-after_bounds : goal.join_mut-requires-after_bounds
join_mut-requires-after_bounds g t c κs within =
    let p = c.args.lookup.now in
    let s = c.args.span in
    let part = (s.high - s.low) / c.from.result * c.from-2.result in
    let threads = c.from.ensures in
    let half = c.from-2.ensures in
    let to : s.low + part ≤ s.high = part_low s.low s.high c.from.result c.from-2.result c.requires.span.order (omega arith) in
    let side = c.side.ensures.side ∙ ap (λ q. q.side) c.pattern.ensures.pattern in
    let cells : c.from-cells.result ≡ p.side * p.side = c.from-cells.ensures ∙ c.cells.ensures.value ∙ ap₂ (λ m n. m * n) side side in
    let cut = c.split_at_mut-front in
    let here : part ≡ s.low + part - s.low = omega arith in
    let long : length cut.result.0.now ≡ (s.low + part - s.low) * (p.side * p.side) = cut.ensures.front_len ∙ ap₂ (λ a b. a * b) here cells in
    let low = lower_fillable p s (s.low + part) (omega arith) to c.args.words.now cut.result.0.now c.requires long in
    let high = upper_fillable p s (s.low + part) (omega arith) to c.args.words.now cut.result.0.now cut.result.1.now c.requires cut.ensures.value long in
    search rules

-- where the words of both halves tell of their moves, those of the whole span do
pub returns : goal.returns
returns g t c =
    let p = c.args.lookup.now in
    let s = c.args.span in
    let part = (s.high - s.low) / c.from.result * c.from-2.result in
    let threads = c.from.ensures in
    let half = c.from-2.ensures in
    let to : s.low + part ≤ s.high = part_low s.low s.high c.from.result c.from-2.result c.requires.span.order (omega arith) in
    let first : AreAllTold p (lower p s (s.low + part) (omega arith) to) c.front-1.given.0 = search rules in
    let second : AreAllTold p (upper p s (s.low + part) (omega arith) to) c.back-1.given.0 = search rules in
    told_join p s (s.low + part) (omega arith) to c.front-1.given.0 c.back-1.given.0 first second

-- the words of the first part are no more than the span's, so that they can be split there
pub split_at_mut-front-requires : goal.split_at_mut-front-requires
split_at_mut-front-requires g t c =
    let p = c.args.lookup.now in
    let s = c.args.span in
    let part = (s.high - s.low) / c.from.result * c.from-2.result in
    let threads = c.from.ensures in
    let half = c.from-2.ensures in
    let to : s.low + part ≤ s.high = part_low s.low s.high c.from.result c.from-2.result c.requires.span.order (omega arith) in
    let side = c.side.ensures.side ∙ ap (λ q. q.side) c.pattern.ensures.pattern in
    let cells : c.from-cells.result ≡ p.side * p.side = c.from-cells.ensures ∙ c.cells.ensures.value ∙ ap₂ (λ m n. m * n) side side in
    let within = lower_within p s (s.low + part) (omega arith) to c.args.words.now c.requires in
    let here : part ≡ s.low + part - s.low = omega arith in
    let same : part * c.from-cells.result ≡ (s.low + part - s.low) * (p.side * p.side) = ap₂ (λ a b. a * b) here cells in
    omega arith
