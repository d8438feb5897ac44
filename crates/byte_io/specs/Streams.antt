-- What a write appends, and what a reading to the end gives; the bytes of a stream may be told or not.
use Rattle.std.specs.Prelude.{◌≡◌, ⊤, ℕ, ◌<◌, ◌≤◌, Bool, true, Option, Result, IfSome, MatchResult, length, take}
use Rattle.std.specs.Io.KnownBytes.{Appends, Consumes, IsAtEnd}
use Rattle.byte_io.specs.Shelf.{Bytes}

-- ---- bytes out

-- a proper front of the bytes was appended, and no more: at least one byte was left to write
abbrev pub AppendsFront : Option Bytes → Option Bytes → Bytes → Type 0
AppendsFront old new bytes = (n : ℕ) × (n < length bytes) × Appends old new (take n bytes)

-- what a writer got, where that is told, and whether a write may have failed: of a writer that tells it, whether one has
pub record Output : Type 0 where
  pub bytes : Option Bytes
  pub failed : Bool

-- the output with these two
abbrev pub output : Option Bytes → Bool → Output
output bytes failed = record { bytes = bytes; failed = failed }

-- all of the bytes were appended, and no write failed
abbrev pub WritesAll : Output → Output → Bytes → Type 0
WritesAll old new bytes = Appends old.bytes new.bytes bytes × (new.failed ≡ old.failed)

-- a write failed, and a proper front of the bytes was appended
abbrev pub WritesFront : Output → Output → Bytes → Type 0
WritesFront old new bytes = AppendsFront old.bytes new.bytes bytes × (new.failed ≡ true)

-- one of the two
abbrev pub Writes : {E : Type 0} → Output → Output → Bytes → Result ⊤ E → Type 0
Writes old new bytes result = MatchResult result (λ _. WritesAll old new bytes) (λ _. WritesFront old new bytes)

-- ---- bytes in

-- these are all the bytes that were left, no more than the limit, and none is left now
pub record IsReadWhole (old new : Option Bytes) (limit : ℕ) (bytes : Bytes) : Type 0 where
  pub whole : IfSome old (λ told. told ≡ bytes)
  pub consumed : Consumes old new bytes
  pub end : IsAtEnd new
  pub fits : length bytes ≤ limit

-- more bytes than the limit were left
abbrev pub HasMore : Option Bytes → ℕ → Type 0
HasMore old limit = IfSome old (λ told. limit < length told)
