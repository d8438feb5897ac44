-- How many entries a table has.
use Rattle.std.specs.Prelude.{◌^◌, ◌<◌}
use Rattle.pat_place.specs.Patterns.{ShownPattern, IsPattern}
use Rattle.pat_place.proofs.CountLemmas.{few_slots}
use Rattle.tab_file.specs.Tables.{entry_count}

-- a table has fewer than 2^32 entries
pub entry_count-lt : (p : ShownPattern) → IsPattern p → entry_count p < 2 ^ 32
entry_count-lt = few_slots
