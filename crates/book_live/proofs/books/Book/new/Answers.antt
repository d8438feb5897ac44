use Rattle.std.proofs.Common.{◌≡◌, ◌∙◌, ℕ, suc, ◌+◌, ◌-◌, ◌<◌, [], false, refl, sym, ap, subst, arith, rules}
use Rattle.book_core.specs.Shares.{all_fresh}
use Rattle.book_live.specs.Views.{view, alone}
use Rattle.book_live.specs.StoredPasses.{deeds_of}
use Rattle.book_live.specs.Shown.{IsInLimits}
use Rattle.book_live.proofs.CallerLemmas.{first-seat, other-seats, AreFirstPasses-push, ShowsFirst, ShowsFirst-opened, ShowsFirst-push}
use Rattle.book_live.proofs.books.Book.new.Goals as goal

one-less : (w n : ℕ) → n < w → w - n ≡ suc (w - (n + 1))
one-less w n lt = omega arith

-- before the first pass gets its seat, the one seat has all passes, and the start is shown
pub loop-number-init : goal.loop-number-init
loop-number-init c =
    let book = c.in_ok-book.book in
    let sizes = c.in_ok-book.ensures.sizes in
    let limits : IsInLimits book.sizes = (omega (arith, c.requires.jobs, sizes.0), omega (arith, c.requires.workers.1, sizes.1)) in
    record {
      room = search rules;
      count = search rules;
      table = c.in_ok-book.ensures.seat.0;
      rest = (
          let all : book.sizes.workers ≡ c.args.workers - 0 = omega (arith, sizes.1) in
          c.in_ok-book.ensures.seat.1 ∙ ap (λ n. (view book.sizes (all_fresh 0 n), [])) all
          );
      dealt = rw c.in_ok-passes.ensures.items (λ k p e. cc);
      shown = rw (c.in_ok-passes.ensures.items, c.in_ok-book.ensures.seat.1) (ShowsFirst-opened book limits);
    }

-- the seat that was cut off has the pass of the next number alone, which hasn't ended
pub invariant_of-push_reserved : goal.invariant_of-push_reserved
invariant_of-push_reserved c =
    let i = c.loop-number.invariant in
    let n = c.loop-number.number in
    let own = first-seat _ _ _ n _ _ c.split.ensures.first.1 i.rest (one-less c.args.workers n c.loop-number-test.true) in
    subst (λ m. (m ≡ (alone m.0.sizes n (deeds_of m.0), [])) × ((deeds_of m.0).ended ≡ false)) (sym own) (refl, refl)

-- with one pass more in a seat of its own, the first seat has those behind it, and the start is still shown
pub loop-number-preserved : goal.loop-number-preserved
loop-number-preserved c =
    let i = c.loop-number.invariant in
    let n = c.loop-number.number in
    let left = one-less c.args.workers n c.loop-number-test.true in
    let own = first-seat _ _ _ n _ _ c.split.ensures.first.1 i.rest left in
    record {
      room = search rules;
      count = search rules;
      table = c.split.ensures.others.0 ∙ i.table;
      rest = other-seats _ _ _ n _ _ c.split.ensures.others.1 i.rest left;
      dealt = AreFirstPasses-push c.in_ok-book.book _ _ _ c.push_reserved.ensures.items i.dealt (
        (λ j. record { table = (c.split.ensures.first.0 ∙ i.table) j; sizes = ap (λ m. m.0.sizes) own j }),
        sym i.count,
        ap (λ m. deeds_of m.0) own,
      );
      shown = subst (λ m. ShowsFirst c.in_ok-book.book m.0 c.push_reserved.new.self.items) (sym c.split.ensures.others.1) (
          ShowsFirst-push c.in_ok-book.book c.loop-number.seat.me.0 _ _ _ c.push_reserved.ensures.items (
          ap (λ m. m.0) (sym c.split.ensures.first.1 ∙ own) ∙ ap (λ m. alone c.in_ok-book.book.sizes n (deeds_of m.0)) (sym own)
          ) i.shown
          );
    }
