use Rattle.std.proofs.Common.{◌≡◌, ◌+◌, ◌-◌, ◌++◌, length, take, drop, refl, sym, ◌∙◌, ap, arith, take-append-drop}
use Rattle.std.proofs.lemmas.List.{drop_all}
use Rattle.move_strings.proofs.drafts.ends_with.Goals as goal

-- where all moves of the string were the last ones of the moves, these end with it
pub returns : goal.returns
returns c =
    let moves = c.args.moves.now in
    let string = c.args.string.now in
    let start = length moves - length string in
    let over : drop (start + c.loop-i.i) moves ≡ drop c.loop-i.i string =
    drop_all (start + c.loop-i.i) moves (omega arith) ∙ sym (drop_all c.loop-i.i string c.loop-i-test.false) in (
      λ holds. (take start moves, sym (take-append-drop start moves) ∙ ap (λ t. take start moves ++ t) (c.loop-i.invariant over)),
      λ ends. refl,
    )
