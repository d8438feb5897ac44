use Rattle.std.proofs.Common.{◌≡◌, ◌<◌, ◌∷◌, ◌∙◌, Some, sym, ap, subst, arith, slice_get, length}
use Rattle.book_live.specs.Callers.{ShowsEnd}
use Rattle.book_live.proofs.CallerLemmas.{first-and-others, closing-view, HoldsAll-numbered_passes, ShowsEnd-whole, IsOutcome-end, IsLeast-outcome}
use Rattle.book_live.proofs.CallerLemmas.{IsAtMost-outcome, IsEachDrawnOnce-outcome}
use Rattle.book_live.proofs.books.Book.close.Goals as goal

-- the seat that took in all others has all passes of the book, in the order of their numbers
pub finish-least-requires-clause-all : goal.finish-least-requires-clause-all
finish-least-requires-clause-all c =
    let passes = c.args.passes.items in
    let first = c.remove.result in
    let others = c.remove.new.self.items in
    let some : 0 < length passes = omega (arith, c.requires.count, ap (λ b. b.sizes.workers) c.self.view_is, c.self.invariant) in
    let all : passes ≡ first ∷ others = first-and-others passes others first some c.remove.ensures.value c.remove.ensures.items in
    let here : slice_get passes 0 ≡ Some first = ap (λ l. slice_get l 0) all in
    let sizes = ap (λ p. p.book.sizes) c.seat.view_is ∙ ap (λ b. b.sizes) (c.requires.each 0 first here).0 in
    let whole = closing-view c.seat.inside.seat.me c.seat.inside.number c.args.self.sizes passes others first c.join_all.new.seat.me.0
    c.seat.invariant.0 (ap (λ p. p.number) c.seat.view_is) (ap (λ p. p.deeds) c.seat.view_is) sizes all (ap (λ m. m.0) c.join_all.ensures.all) in
    HoldsAll-numbered_passes c.args.self.sizes passes c.join_all.new.seat.me.0 whole c.requires.count (λ k p e. (c.requires.each k p e).1)

-- at the close each job was drawn once, and the place that is answered is the least reported and not above any seen
pub returns : goal.returns
returns c =
    let passes = c.args.passes.items in
    let first = c.remove.result in
    let others = c.remove.new.self.items in
    let some : 0 < length passes = omega (arith, c.requires.count, ap (λ b. b.sizes.workers) c.self.view_is, c.self.invariant) in
    let all : passes ≡ first ∷ others = first-and-others passes others first some c.remove.ensures.value c.remove.ensures.items in
    let here : slice_get passes 0 ≡ Some first = ap (λ l. slice_get l 0) all in
    let sizes = ap (λ p. p.book.sizes) c.seat.view_is ∙ ap (λ b. b.sizes) (c.requires.each 0 first here).0 in
    let whole = closing-view c.seat.inside.seat.me c.seat.inside.number c.args.self.sizes passes others first c.join_all.new.seat.me.0
    c.seat.invariant.0 (ap (λ p. p.number) c.seat.view_is) (ap (λ p. p.deeds) c.seat.view_is) sizes all (ap (λ m. m.0) c.join_all.ensures.all) in
    let end = subst (ShowsEnd c.args.self passes) (sym c.place_in.ensures)
    (ShowsEnd-whole c.args.self passes c.join_all.new.seat.me.0 c.finish-least.result whole c.finish-least.ensures) in
    let out = IsOutcome-end c.args.self passes c.place_in.result end in
    record {
      drawn = IsEachDrawnOnce-outcome c.args.self passes c.place_in.result out 0 first here (c.requires.each 0 first here).2;
      least = IsLeast-outcome c.args.self passes c.place_in.result out;
      seen = IsAtMost-outcome c.args.self passes c.place_in.result out;
      outcome = out;
      shown = end;
    }
