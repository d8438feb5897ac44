use Rattle.std.proofs.Common.{◌≡◌, ◌≤◌, ◌&&◌, false, filter, length, not, slice_index_or}
use Rattle.std.specs.List.{range_with_len}
use Rattle.pdb_parts.proofs.joining.count_spent.Given as goal

-- so many parts before this one have the second mark, and not the first
abbrev pub invariant-loop-index : goal.invariant-loop-index
invariant-loop-index l = record {
  counted : l.count ≡ length (filter (λ i. not (slice_index_or l.holds i false) && slice_index_or l.spent i false) (range_with_len 0 l.index));
  few : l.count ≤ l.index;
}
