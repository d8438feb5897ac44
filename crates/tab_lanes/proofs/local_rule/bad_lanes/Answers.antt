use Rattle.std.proofs.Common.{get_or}
use Rattle.tab_lanes.proofs.FlagLemmas.{bits_fit, bit_is}
use Rattle.tab_lanes.proofs.RuleLemmas.{bad_flags, rule_kept, rule_broken}
use Rattle.tab_lanes.proofs.local_rule.bad_lanes.Goals as goal

-- the bits of bad lanes are, as a number, below 2 to the number of lanes
pub returns-clause-fits : goal.returns-clause-fits
returns-clause-fits g c = bits_fit g.row.N _ _ c.requires.few
    (bad_flags g.row.N c.args.entries c.args.mins c.args.kinds c.fits-entries.0 c.fits-mins.0 c.fits-kinds.0)

-- a lane whose bit isn't set has an entry that keeps the rule
pub returns-clause-kept : goal.returns-clause-kept
returns-clause-kept g c i l =
    rule_kept (get_or c.args.kinds i 0) (get_or c.args.mins i 0) (get_or c.args.entries i 0) _
    (bit_is g.row.N _ _ c.requires.few (bad_flags g.row.N c.args.entries c.args.mins c.args.kinds c.fits-entries.0 c.fits-mins.0 c.fits-kinds.0) i l)

-- a lane whose bit is set has an entry that breaks the rule
pub returns-clause-broken : goal.returns-clause-broken
returns-clause-broken g c i l =
    rule_broken (get_or c.args.kinds i 0) (get_or c.args.mins i 0) (get_or c.args.entries i 0) _
    (bit_is g.row.N _ _ c.requires.few (bad_flags g.row.N c.args.entries c.args.mins c.args.kinds c.fits-entries.0 c.fits-mins.0 c.fits-kinds.0) i l)
