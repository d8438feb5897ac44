use Rattle.std.proofs.Common.{◌+◌, ◌-◌, ◌≤◌, length, take, drop, Some, ◌∙◌, ap, arith, length-drop}
use Rattle.std.specs.Prelude.{option_map}
use Rattle.std.proofs.lemmas.List.{take_all}
use Rattle.puz_board.specs.PuzzleTexts.{puzzle_parts}
use Rattle.puz_board.proofs.puzzles.split_at_semicolon.Goals as goal

-- the texts before and behind the first semicolon are the two parts of a puzzle text
pub returns : goal.returns
unfolding puzzle_parts
returns c =
    let text = c.args.text.now in
    let place = c.in_ok-place.place in
    let cut = length-drop (place + 1) text in
    let all : length (drop (place + 1) text) ≤ length text - (place + 1) = omega arith in
    ap (λ rest. Some (take place text, rest)) (take_all (length text - (place + 1)) (drop (place + 1) text) all) ∙
    ap (option_map (λ i. (take i text, drop (i + 1) text))) c.in_ok-place.ensures.place
