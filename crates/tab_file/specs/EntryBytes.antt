-- What the byte of an entry says.
use Rattle.std.specs.Prelude.{ℕ}

-- the greatest count that an entry has; a count is itself
abbrev pub greatest_count : ℕ
greatest_count = 253

-- the slot has no region
abbrev pub no_region_entry : ℕ
no_region_entry = 254

-- no walk leads home
abbrev pub no_way_home : ℕ
no_way_home = 255
