-- Parts of one bound.
use Rattle.std.specs.Prelude.{◌≡◌, ℕ, ◌%◌, ◌≤◌, List}
use Rattle.move_strings.specs.BoundParts.{ShownPart}
use Rattle.claim_text.specs.Claims.{ShownClaim, part}

-- a bound may have so many parts
pub record AreParts (count : ℕ) : Type 0 where
  pub odd : count % 2 ≡ 1
  pub few : count ≤ 65535

-- the part with this index of so many
abbrev pub part_at : ℕ → ℕ → ShownPart
part_at count index = record { index = index; count = count }

-- the claim that it holds, of a bound of a board
abbrev pub part_claim : (count bound : ℕ) → List ℕ → ℕ → ShownClaim
part_claim count bound b index = record { board = b; asks = part bound (part_at count index) }
