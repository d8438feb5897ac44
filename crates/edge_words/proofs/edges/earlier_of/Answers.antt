use Rattle.std.proofs.Common.{◌≡◌, ℕ, ◌+◌, ◌-◌, ◌*◌, ◌/◌, ◌%◌, ◌^◌, ◌<◌, inl, inr, drop, length, get_or, sym, ◌∙◌, ap, ap₂, arith, length-drop}
use Rattle.std.specs.Prelude.{slice_index}
use Rattle.std.proofs.lemmas.Bool.{cases_eq, false_from_ne_true}
use Rattle.std.proofs.lemmas.List.{get_or-take, length-take-le}
use Rattle.puz_board.specs.Cells.{reverse_of, step_of}
use Rattle.pat_place.specs.Patterns.{has}
use Rattle.pat_place.specs.Placements.{IsFree}
use Rattle.edge_words.specs.Lookups.{but_last}
use Rattle.edge_words.specs.Words.{move_of}
use Rattle.edge_words.proofs.RunMoveLemmas.{down, earlier_bits, front_taken, gap_least}
use Rattle.edge_words.proofs.edges.earlier_of.Goals as goal

-- the words of the earlier run end where the words before the run do, or before that
pub slice_bounds-result-end : goal.slice_bounds-result-end
slice_bounds-result-end c =
    let p = c.args.lookup.now in
    let pat = c.pattern.ensures.is_pattern in
    let cells = but_last p c.args.run.now.cells in
    let number = c.args.number in
    let from = c.in_ok-from.from in
    let run = c.requires.run.run in
    let low : number / 4 < length cells = (let t = c.requires.tile in let size = run.size in omega arith) in
    let even = c.if-number-eq0.false in
    let odd : number % 2 ≡ 1 = omega arith in
    let to : get_or c.args.run.now.cells c.from-tile.result 0 ≡ slice_index cells (number / 4) =
    ap (λ k. get_or c.args.run.now.cells k 0) c.from-tile.ensures
    ∙ sym (get_or-take (length p.tiles - 1) c.args.run.now.cells (number / 4) 0 c.requires.tile) in
    let step = ap (λ k. step_of p.side k (reverse_of (move_of number))) (sym to) ∙ sym c.origin.ensures.origin ∙ c.in_ok-from.was {u = tt} in
    let stride : c.stride.result ≡ (p.side * p.side) ^ (length p.tiles - 1 - number / 4) =
    c.stride.ensures.stride ∙ ap (λ k. (p.side * p.side) ^ (length p.tiles - 1 - k)) c.from-tile.ensures in
    let side = c.side.ensures.side ∙ ap (λ q. q.side) c.pattern.ensures.pattern in
    let count : c.from-cells.result ≡ p.side * p.side = c.from-cells.ensures ∙ c.cells.ensures.value ∙ ap₂ (λ m n. m * n) side side in
    let down_is : c.from.result ≡ down p pat cells run number from odd low step = c.from.ensures ∙ ap (λ k. k - from) to in
    let words : c.from.result * c.stride.result ≡ down p pat cells run number from odd low step * c.stride.result = ap (λ k. k * c.stride.result) down_is in
    let least = gap_least p pat cells run number from odd low step c.stride.result stride in
    let fits = c.if-before-gap.false in
    omega arith

-- the words from there on are those of the run after the move, which tell of the move back
pub returns : goal.returns
returns c =
    let p = c.args.lookup.now in
    let pat = c.pattern.ensures.is_pattern in
    let cells = but_last p c.args.run.now.cells in
    let number = c.args.number in
    let before = c.args.before.now in
    let from = c.in_ok-from.from in
    let run = c.requires.run.run in
    let low : number / 4 < length cells = (let t = c.requires.tile in let size = run.size in omega arith) in
    let even = c.if-number-eq0.false in
    let odd : number % 2 ≡ 1 = omega arith in
    let to : get_or c.args.run.now.cells c.from-tile.result 0 ≡ slice_index cells (number / 4) =
    ap (λ k. get_or c.args.run.now.cells k 0) c.from-tile.ensures
    ∙ sym (get_or-take (length p.tiles - 1) c.args.run.now.cells (number / 4) 0 c.requires.tile) in
    let step = ap (λ k. step_of p.side k (reverse_of (move_of number))) (sym to) ∙ sym c.origin.ensures.origin ∙ c.in_ok-from.was {u = tt} in
    let stride : c.stride.result ≡ (p.side * p.side) ^ (length p.tiles - 1 - number / 4) =
    c.stride.ensures.stride ∙ ap (λ k. (p.side * p.side) ^ (length p.tiles - 1 - k)) c.from-tile.ensures in
    let side = c.side.ensures.side ∙ ap (λ q. q.side) c.pattern.ensures.pattern in
    let count : c.from-cells.result ≡ p.side * p.side = c.from-cells.ensures ∙ c.cells.ensures.value ∙ ap₂ (λ m n. m * n) side side in
    let free : IsFree p.side cells from = (
      c.in_ok-from.ensures.within,
      false_from_ne_true (has cells from) (λ h. let test = c.has_cell.ensures.1 ((c.requires.run.set from).1 h) in let no = c.if-has_cell.false in cc),
    ) in
    let down_is : c.from.result ≡ down p pat cells run number from odd low step = c.from.ensures ∙ ap (λ k. k - from) to in
    let words : c.from.result * c.stride.result ≡ down p pat cells run number from odd low step * c.stride.result = ap (λ k. k * c.stride.result) down_is in
    let least = gap_least p pat cells run number from odd low step c.stride.result stride in
    let fits = c.if-before-gap.false in
    let start : ℕ = length before - c.from.result * c.stride.result in
    let many : ℕ = start + c.from-cells.result - start in
    let all : many ≡ p.side * p.side = omega arith in
    record {
      odd = odd;
      room = length-take-le many (drop start before) (let d = length-drop start before in omega arith) ∙ all;
      bits = λ last there. elim (cases_eq from last) [
        | inl e ↦ front_taken p pat cells run last there (number / 4) (move_of number) low _ from step e
        | inr ne ↦
            earlier_bits p pat cells run number from odd low step c.stride.result stride c.pattern.ensures.entries free before
            c.requires.before (omega arith) start many (omega arith) all last there (λ e. ne (sym e))
      ];
    }
