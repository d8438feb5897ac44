-- A board of which the members of a bundle are asked.
use Rattle.std.specs.Prelude.{ℕ, List}
use Rattle.set_sum.specs.Bundles.{ShownBundle}

-- what a contract sees of a position, and of sums: the bundle, and the board of which its members are asked
pub record ShownSums : Type 0 where
  pub bundle : ShownBundle
  pub board : List ℕ
