-- The flag `--fold`: each table is folded once it is checked. Without it the tables stay whole.
use Rattle.std.specs.Prelude.{Bool, List, codes, false}
use Rattle.std.specs.Option.{option_map_or}
use Rattle.std.specs.Str.{bytes_eq}
use Rattle.clap.specs.Walk.{Row, Rule, first_of}
use Rattle.pdb_words.specs.Rows.{flag}

-- the flag, as `clap` sees it
abbrev pub fold_flag : Rule
fold_flag = flag (codes "fold")

-- the values found of a command ask that tables are folded
abbrev pub fold_in : List Row → Bool
fold_in rows = option_map_or (λ value. bytes_eq value (codes "true")) (first_of (codes "fold") rows) false
