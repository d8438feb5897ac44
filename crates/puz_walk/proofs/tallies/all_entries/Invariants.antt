use Rattle.std.proofs.Common.{◌≡◌, ℕ, ◌<◌, ◌%◌, length, slice_index}
use Rattle.set_sum.specs.Known.{place_of, said_by}
use Rattle.set_sum.specs.Members.{MemberSays}
use Rattle.set_sum.specs.declared.members.Member.{Member}
use Rattle.puz_walk.proofs.tallies.all_entries.Given as goal

-- the places up to this one have their entries
abbrev pub invariant-loop-place : goal.invariant-loop-place
invariant-loop-place l = record {
  room : length l.entries ≡ 512;
  each : (k : ℕ) (m : Member) → k < l.place → m.table < length l.position.bundle.tables → k % 32 ≡ place_of m
      → MemberSays l.position.bundle.tables m l.position.board (said_by (slice_index l.entries k));
}
