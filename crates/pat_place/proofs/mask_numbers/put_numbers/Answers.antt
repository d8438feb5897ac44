use Rattle.std.proofs.Common.{◌≡◌, ℕ, ◌+◌, ◌<◌, ◌≤◌, List, [], ◌∷◌, ◌++◌, length, sym, ◌∙◌, ap, arith, append_assoc, length-append, lit<, true}
use Rattle.std.proofs.lemmas.List.{append-nil}
use Rattle.puz_board.specs.Masks.{numbers_of}
use Rattle.puz_board.proofs.HasLemmas.{length-has}
use Rattle.pat_place.specs.Patterns.{has}
use Rattle.pat_place.proofs.MaskLemmas.{has-numbers_below, numbers_below-first, numbers_below-zero}
use Rattle.pat_place.proofs.mask_numbers.put_numbers.Goals as goal

-- where a number is left, there is room for it
room : (items : List ℕ) (rest number : ℕ) (numbers : List ℕ) → items ++ numbers_of rest ≡ numbers → has (numbers_of rest) number ≡ true
    → length numbers ≤ 8 → length items < 8
room items rest number numbers whole some few =
    let e : length numbers ≡ length items + length (numbers_of rest) = ap length (sym whole) ∙ length-append items (numbers_of rest) in
    let f = length-has number (numbers_of rest) some in
    omega arith

-- while a number is left of 8 at most, the list has room for it
pub push-requires : goal.push-requires
push-requires c = (
  lit< tt,
  room c.loop-rest.numbers.items c.loop-rest.rest c.first_of-number.result (numbers_of c.args.mask) c.loop-rest.invariant
      (has-numbers_below 32 c.loop-rest.rest c.first_of-number.result c.first_of-number.ensures.within c.first_of-number.ensures.here) c.requires.few,
)

-- the least number that is left goes to the end of the list
pub loop-rest-preserved : goal.loop-rest-preserved
loop-rest-preserved c =
    let number = c.first_of-number.result in
    let first : numbers_of c.loop-rest.rest ≡ number ∷ numbers_of c.without-rest.result =
    numbers_below-first 32 c.loop-rest.rest c.without-rest.result number c.first_of-number.ensures.within c.first_of-number.ensures.here
    c.first_of-number.ensures.lowest c.without-rest.ensures.here c.without-rest.ensures.others in
    ap (λ items. items ++ numbers_of c.without-rest.result) c.push.ensures.items ∙
    append_assoc c.loop-rest.numbers.items (number ∷ []) (numbers_of c.without-rest.result) ∙
    ap (λ xs. c.loop-rest.numbers.items ++ xs) (sym first) ∙
    c.loop-rest.invariant

-- once no number is left, the list has the numbers of the mask
pub returns : goal.returns
returns c =
    sym (append-nil c.loop-rest.numbers.items) ∙
    ap (λ xs. c.loop-rest.numbers.items ++ xs) (sym (ap numbers_of c.loop-rest-test.false ∙ numbers_below-zero 32)) ∙
    c.loop-rest.invariant
