use Rattle.std.proofs.Common.{◌≡◌, ◌∙◌, length, refl, ap, arith, get_or}
use Rattle.std.proofs.lemmas.Option.{slice_get_read}
use Rattle.std.proofs.lemmas.List.Edits.{get_or-remove_below}
use Rattle.test_parts.proofs.books.book_of_two.Goals as goal

-- the two passes that are taken out are the first and the second of a new book
pub returns-clause-passes : goal.returns-clause-passes
returns-clause-passes c =
    let passes = c.in_ok-book.passes.items in
    let dealt = c.in_ok-book.ensures.passes in
    let two : length passes ≡ 2 = dealt.count ∙ c.in_ok-book.ensures.sizes.1 in
    let one = c.remove-first.result in
    let other = c.remove-second.result in
    let read : one ≡ get_or passes 0 one = c.remove-first.ensures.value ∙ ap (λ l. get_or l 0 one) c.remove-second.ensures.items
    ∙ get_or-remove_below passes 1 one 0 (omega arith) (omega arith) in (
      dealt.each 0 one (slice_get_read passes (length passes) 0 one refl (omega arith) read),
      dealt.each 1 other (slice_get_read passes (length passes) 1 other refl (omega arith) c.remove-second.ensures.value),
    )
