use Rattle.std.proofs.Common.{◌≡◌, ℕ, ◌<◌, ◌≤◌, length, slice_index}
use Rattle.tab_rule.specs.declared.tables.Count.TheVariants.{Finite}
use Rattle.set_sum.specs.Bundles.{BundleSays}
use Rattle.puz_walk.proofs.cuts.sums_of.Given as goal

-- the sets up to this one have their sums
abbrev pub invariant-loop-set : goal.invariant-loop-set
invariant-loop-set l = record {
  room : length l.sums ≡ 16;
  each : (s : ℕ) → s < l.set → BundleSays l.bundle s l.board (Finite (slice_index l.sums s)) × (slice_index l.sums s ≤ l.most);
}
