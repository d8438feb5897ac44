-- How sums are stored: the position, and what is known of members.
use Rattle.set_sum.specs.Known.{IsKnownOf}
use Rattle.set_sum.specs.ShownSums.{ShownSums}
use Rattle.set_sum.specs.declared.sums.Sums.TheInside.{Inside}

-- the bundle and the board
abbrev pub sums_shown : Inside → ShownSums
sums_shown s = s.position

-- what is known of members is known of the board
abbrev pub IsStoredSums : Inside → Type 0
IsStoredSums s = IsKnownOf s.position.bundle s.position.board s.known
