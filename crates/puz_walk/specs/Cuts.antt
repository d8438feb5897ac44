-- Limits below which sums of sets are.
use Rattle.std.specs.Prelude.{ℕ, ◌%◌, ◌<◌, ◌==◌, if◌then◌else◌, List}
use Rattle.tab_rule.specs.declared.tables.Count.{Count}
use Rattle.tab_rule.specs.declared.tables.Count.TheVariants.{Finite}
use Rattle.set_sum.specs.Bounds.{CountReaches}
use Rattle.set_sum.specs.Bundles.{ShownBundle, BundleSays}

-- how far a sum must be below a bound so that its raised sum is below it too: a solution has the blank's parity
abbrev pub margin_of : ℕ → ℕ → ℕ
margin_of bound parity = if bound % 2 == parity then 2 else 1

-- each sum that a set says of the board is below the limit
abbrev pub AreBelow : ShownBundle → List ℕ → ℕ → Type 0
AreBelow v b limit = (set d : ℕ) → BundleSays v set b (Finite d) → d < limit

-- what some set says of the board is never, or at least the limit
abbrev pub GoesBeyond : ShownBundle → List ℕ → ℕ → Type 0
GoesBeyond v b limit = (set : ℕ) × (count : Count) × BundleSays v set b count × CountReaches count limit
