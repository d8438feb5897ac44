use Rattle.std.proofs.Common.{◌^◌, ℕ, List}
use Rattle.puz_walk.specs.Tallies.{AreLow, AreTallied, AreTold, IsSlideOf}
use Rattle.puz_walk.proofs.ExchangeLemmas.{IsHalf}
use Rattle.puz_walk.proofs.tallies.exchange.Given as goal

-- the sets so far have followed the move
abbrev pub invariant-loop-set : goal.invariant-loop-set
invariant-loop-set l =
    (b next : List ℕ) → IsSlideOf l.bundle b next l.tile → AreTallied l.bundle b l.fn.tally → AreTold l.bundle next l.tile l.fn.told
    → AreLow l.bundle next (2 ^ 8) → IsHalf l.bundle b next l.tile l.set l.tally l.told
