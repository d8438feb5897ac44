use Rattle.std.proofs.Common.{take}
use Rattle.tab_rule.specs.LeastEntries.{IsLeastEntry}
use Rattle.tab_rule.proofs.folded.least_of.Given as goal

-- the least is that of the entries before this one, 254 left out
abbrev pub invariant-loop-entry : goal.invariant-loop-entry
invariant-loop-entry l = IsLeastEntry (take l.entry-index l.entries) l.least
