-- Numbers, as words write them.
use Rattle.std.specs.Prelude.{ℕ, Bool, ◌&&◌, List, Option, Some, None, if◌then◌else◌, nat_le, option_and_then, unwrap_or}
use Rattle.std.specs.Str.Parse.{digits_value, without_leading_plus}
use Rattle.clap.specs.Walk.{Row, Text, one_of}
use Rattle.clap.specs.ValueTests.{is_numeral}

-- the number that digits write, perhaps after a `+`
abbrev pub number_of : Text → ℕ
number_of text = digits_value 10 (without_leading_plus text)

-- the text writes a number from low to high
abbrev pub writes_within : ℕ → ℕ → Text → Bool
writes_within low high text = is_numeral (without_leading_plus text) && (nat_le low (number_of text) && nat_le (number_of text) high)

-- the number that a text writes, where it writes one from low to high
abbrev pub number_written : ℕ → ℕ → Text → Option ℕ
number_written low high text = if writes_within low high text then Some (number_of text) else None

-- the number that the values found of a command have under an id, where they have one from low to high
abbrev pub optional_number_in : ℕ → ℕ → Text → List Row → Option ℕ
optional_number_in low high id rows = option_and_then (number_written low high) (one_of id rows)

-- the same, or another where they have none
abbrev pub number_in : ℕ → ℕ → ℕ → Text → List Row → ℕ
number_in low high other id rows = unwrap_or (optional_number_in low high id rows) other
