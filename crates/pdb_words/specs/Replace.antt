-- The flag `--replace`: what is made may take the place of a file that would otherwise be spared.
use Rattle.std.specs.Prelude.{Bool, List, codes, false}
use Rattle.std.specs.Option.{option_map_or}
use Rattle.std.specs.Str.{bytes_eq}
use Rattle.clap.specs.Walk.{Row, Rule, first_of}
use Rattle.pdb_words.specs.Rows.{flag}

-- the flag, as `clap` sees it
abbrev pub replace_flag : Rule
replace_flag = flag (codes "replace")

-- the values found of a command ask for that
abbrev pub replace_in : List Row → Bool
replace_in rows = option_map_or (λ value. bytes_eq value (codes "true")) (first_of (codes "replace") rows) false
