use Rattle.std.proofs.Common.{◌≡◌, map, take}
use Rattle.move_strings.specs.Drafts.{number_of}
use Rattle.move_strings.proofs.drafts.table_of.Given as goal

-- the table has the numbers of the steps before this one
abbrev pub invariant-loop-step : goal.invariant-loop-step
invariant-loop-step l = l.table.items ≡ map number_of (take l.step-index l.steps)
