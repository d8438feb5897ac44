use Rattle.std.proofs.Common.{◌≡◌, map, string_bytes, take}
use Rattle.pdb_words.specs.Faults.{plain_byte}
use Rattle.pdb_words.proofs.faults.plain_text.Given as goal

-- the text so far is that of the bytes so far, with a question mark for each that isn't printable
abbrev pub invariant-loop-byte : goal.invariant-loop-byte
invariant-loop-byte l = string_bytes l.plain ≡ map plain_byte (take l.byte-index l.byte-items)
