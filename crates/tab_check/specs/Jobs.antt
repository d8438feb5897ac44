-- The blocks of a table as jobs.
use Rattle.std.specs.Prelude.{ℕ, min}
use Rattle.pat_place.specs.Patterns.{ShownPattern}
use Rattle.tab_file.specs.Tables.{entry_count}
use Rattle.tab_rule.specs.Blocks.{first_of_block}

-- where a block begins among the entries, and past the last block how many entries there are
abbrev pub block_begin : ShownPattern → ℕ → ℕ
block_begin p block = min (first_of_block p block) (entry_count p)
