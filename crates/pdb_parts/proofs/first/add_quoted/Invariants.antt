use Rattle.std.proofs.Common.{◌≡◌, ◌++◌, map, string_bytes, take}
use Rattle.pdb_parts.specs.Beside.{quoted_byte}
use Rattle.pdb_parts.proofs.first.add_quoted.Given as goal

-- the text has the bytes so far behind what it had
abbrev pub invariant-loop-byte : goal.invariant-loop-byte
invariant-loop-byte l = string_bytes l.text ≡ string_bytes l.fn.text ++ map quoted_byte (take l.byte-index l.bytes)
