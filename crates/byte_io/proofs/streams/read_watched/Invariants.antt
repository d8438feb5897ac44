use Rattle.std.proofs.Common.{◌≡◌, ◌+◌, ◌-◌, ◌≤◌, length, take}
use Rattle.std.specs.Io.KnownBytes.{Consumes}
use Rattle.byte_io.proofs.streams.read_watched.Given as goal

-- what was read so far, within the limit, by at most one read a byte, none of which failed
abbrev pub invariant-reads : goal.invariant-reads
invariant-reads g l =
    Consumes (g.R.Source.remaining l.fn.reader.stream.now) (g.R.Source.remaining l.reader.stream.now) (take l.filled l.bytes.items)
    × (l.filled ≤ length l.bytes.items)
    × (l.filled ≤ l.limit)
    × (l.reader.calls ≤ l.fn.reader.calls + l.filled)
    × (g.R.Source.reads l.reader.stream.now ≤ g.R.Source.reads l.fn.reader.stream.now + l.filled)
    × (l.reader.has_failed ≡ l.fn.reader.has_failed)
    × (g.R.Source.may_have_failed l.reader.stream.now ≡ g.R.Source.may_have_failed l.fn.reader.stream.now)
    × (g.R.Source.may_have_ended l.reader.stream.now ≡ g.R.Source.may_have_ended l.fn.reader.stream.now)
    × (l.reader.stream.ghost_name ≡ l.fn.reader.stream.ghost_name)

-- how many more bytes may be read, and one more, gets less with each read
abbrev pub decreases-reads : goal.decreases-reads
decreases-reads g l = (l.limit + 1) - l.filled
