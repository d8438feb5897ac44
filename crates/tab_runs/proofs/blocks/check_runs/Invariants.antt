use Rattle.std.proofs.Common.{◌≡◌, ◌-◌, ◌*◌, ◌<◌, ◌≤◌}
use Rattle.pat_place.specs.Placements.{IsPlacement}
use Rattle.pat_place.specs.Ranks.{IsRank}
use Rattle.tab_file.specs.Tables.{slot_count}
use Rattle.tab_rule.specs.Blocks.{first_of_block}
use Rattle.tab_runs.specs.Parts.{EntriesKeepRule}
use Rattle.tab_runs.proofs.blocks.check_runs.Given as goal

-- the block keeps the rule up to this rank, and the placement is that of the rank while some are left
abbrev pub invariant-runs : goal.invariant-runs
invariant-runs l = record {
  begun : l.block * 256 ≤ l.from;
  kept : EntriesKeepRule l.table (first_of_block l.table.pattern l.block) (l.from * slot_count l.table.pattern);
  pattern : l.placement.pattern ≡ l.table.pattern;
  placement : IsPlacement l.placement;
  rank : l.from < l.end → IsRank l.table.pattern.side l.placement.cells l.from;
}

-- how many ranks are left to the block's end
abbrev pub decreases-runs : goal.decreases-runs
decreases-runs l = l.end - l.from
