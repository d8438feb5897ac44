use Rattle.std.proofs.Common.{◌≡◌, ◌≤◌, ◌+◌, ◌-◌, length, take}
use Rattle.byte_io.specs.Streams.{WritesAll}
use Rattle.byte_io.proofs.streams.put_watched.Given as goal

-- the bytes up to `done` were appended, by at most one write a byte, none of which failed
abbrev pub invariant-loop-done : goal.invariant-loop-done
invariant-loop-done g l =
    (l.done ≤ length l.bytes)
    × WritesAll (g.W.Sink.output l.fn.out.stream.now) (g.W.Sink.output l.out.stream.now) (take l.done l.bytes)
    × (l.out.calls ≤ l.fn.out.calls + l.done)
    × (l.out.has_failed ≡ l.fn.out.has_failed)
    × (l.out.stream.ghost_name ≡ l.fn.out.stream.ghost_name)

-- how many bytes are left to write gets less with each write
abbrev pub decreases-loop-done : goal.decreases-loop-done
decreases-loop-done g l = length l.bytes - l.done
