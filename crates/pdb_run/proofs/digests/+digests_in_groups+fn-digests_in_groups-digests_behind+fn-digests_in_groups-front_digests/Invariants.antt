use Rattle.std.proofs.Common.{◌+◌, ◌-◌}
use Rattle.pdb_run.proofs.digests.+digests_in_groups+fn-digests_in_groups-digests_behind+fn-digests_in_groups-front_digests.Given as goal

-- twice the number of groups gets less where files are digested in groups
abbrev pub decreases-digests_in_groups : goal.decreases-digests_in_groups
decreases-digests_in_groups g l = l.groups + l.groups

-- the digests behind have fewer groups than all, so that twice their number gets less
abbrev pub decreases-digests_behind : goal.decreases-digests_behind
decreases-digests_behind g l = l.groups + l.groups - 1

-- the digests in front have fewer groups than all, so that twice their number gets less
abbrev pub decreases-front_digests : goal.decreases-front_digests
decreases-front_digests g l = l.groups + l.groups - 1
