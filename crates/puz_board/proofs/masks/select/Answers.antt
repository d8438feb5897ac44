use Rattle.std.proofs.Common.{◌≡◌, ℕ, ◌+◌, ◌-◌, ◌*◌, ◌/◌, ◌<◌, Bool, true, false, leb, refl, sym, ◌∙◌, ap, subst, arith}
use Rattle.std.specs.Int.{from_bool}
use Rattle.std.proofs.lemmas.Bool.{leb-true, leb-false}
use Rattle.puz_board.specs.Masks.{ones_below}
use Rattle.puz_board.proofs.OnesLemmas.{Holds, Holds-upper, Holds-lower, Holds-found}
use Rattle.puz_board.proofs.masks.select.Goals as goal

-- the upper half, or the lower one
halved : (mask place number span : ℕ) → Holds mask place number span → 1 < span → (upper : Bool)
    → leb (ones_below mask (number + span / 2)) place ≡ upper → Holds mask place (number + span / 2 * from_bool upper) (span - span / 2)
halved mask place number span h l true e =
    let at : number + span / 2 ≡ number + span / 2 * 1 = omega arith in
    subst (λ x. Holds mask place x (span - span / 2))
    at (Holds-upper mask place number span (span / 2) h (omega arith) (leb-true (ones_below mask (number + span / 2)) place e))
halved mask place number span h l false e =
    let at : number ≡ number + span / 2 * 0 = omega arith in
    subst (λ x. Holds mask place x (span - span / 2))
    at (Holds-lower mask place number span (span / 2) h (omega arith) (omega arith) (leb-false (ones_below mask (number + span / 2)) place e))

-- halving the numbers that are left keeps the one with so many set bits below it among them
pub loop-span-preserved : goal.loop-span-preserved
loop-span-preserved c =
    let mask = c.args.mask in
    let span = c.loop-span.span in
    subst (λ b. Holds mask c.args.place (c.loop-span.number + span / 2 * b) (span - span / 2))
    (sym (c.from.ensures ∙ ap (λ k. from_bool (leb k c.args.place)) c.count_below.ensures.count)) (
    halved mask c.args.place c.loop-span.number span c.loop-span.invariant c.loop-span-test.true
    (leb (ones_below mask (c.loop-span.number + span / 2)) c.args.place) refl)

-- the one number that is left at the end is in the mask
pub returns-clause-here : goal.returns-clause-here
returns-clause-here c = (Holds-found c.args.mask c.args.place c.loop-span.number c.loop-span.span c.loop-span.invariant c.loop-span-test.false).0

-- the one number that is left has as many numbers of the mask below it as were asked for
pub returns-clause-place : goal.returns-clause-place
returns-clause-place c = (Holds-found c.args.mask c.args.place c.loop-span.number c.loop-span.span c.loop-span.invariant c.loop-span-test.false).1
