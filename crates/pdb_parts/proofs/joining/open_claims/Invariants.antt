use Rattle.std.proofs.Common.{◌≡◌, false, filter, flat_map, not, slice_index_or, string_bytes}
use Rattle.std.specs.List.{range_with_len}
use Rattle.pdb_parts.specs.Joining.{open_claim}
use Rattle.pdb_parts.specs.Stored.{shown}
use Rattle.pdb_parts.proofs.joining.open_claims.Given as goal

-- the text has the claims of the parts before this one that have no mark
abbrev pub invariant-loop-index : goal.invariant-loop-index
invariant-loop-index l =
    string_bytes l.text ≡ flat_map (open_claim (shown l.asked)) (filter (λ i. not (slice_index_or l.holds i false)) (range_with_len 0 l.index))
