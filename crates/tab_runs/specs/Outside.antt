-- Numbers that a mask lacks.
use Rattle.std.specs.Prelude.{◌≡◌, ℕ, ◌<◌}
use Rattle.std.specs.Int.{bit_at}

-- the greatest one below `count`
pub record IsLastOutside (mask count number : ℕ) : Type 0 where
  pub low : number < count
  pub outside : bit_at mask number ≡ 0
  pub last : (x : ℕ) → number < x → x < count → bit_at mask x ≡ 1
