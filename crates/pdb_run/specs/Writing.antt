-- The lines that a run of any command writes.
use Rattle.std.specs.Prelude.{ℕ, ◌==◌, ◌||◌, nat_lt, if◌then◌else◌, List, [], ◌∷◌, ◌++◌, Option, Some, None, Vec, codes, flat_map, map, option_map}
use Rattle.std.specs.Borrow.{Bor}
use Rattle.hex.specs.Hex.{encode_lower}
use Rattle.sha2.specs.Sha256.{sha256}
use Rattle.byte_io.specs.Shelf.{Bytes}
use Rattle.pdb_run.specs.Commands.{Reply}

-- pieces of text, one after the other
abbrev pub joined : List (Bor Bytes) → Bytes
joined = flat_map (λ piece. piece.now)

-- ---- digests

-- the SHA-256 of a file (FIPS 180-4), in 64 hexadecimal digits
abbrev pub digest_line : Bytes → Bytes
digest_line file = codes "sha256 " ++ (encode_lower (sha256 file) ++ codes "\n")

-- the digest line of each file
abbrev pub digests_of : List Bytes → Bytes
digests_of = flat_map digest_line

-- the file that is there, or no file
abbrev pub list_of : Option Bytes → List Bytes
list_of None = []
list_of (Some file) = file ∷ []

-- the bytes of each vector
abbrev pub all_bytes : {A : Type 0} → List (Vec ℕ A) → List Bytes
all_bytes = map (λ v. v.items)

-- the files of several vectors and a last file behind them, where there is one
abbrev pub all_files : {A : Type 0} → List (Vec ℕ A) → Option (Bor Bytes) → List Bytes
all_files files last = all_bytes files ++ list_of (option_map (λ f. f.now) last)

-- all that is written of a reply
abbrev pub reply_text : Reply → Bytes
reply_text reply = digests_of reply.digested ++ (digests_of (list_of reply.made) ++ reply.lines)

-- ---- faults

-- want of memory
abbrev pub memory_line : Bytes
memory_line = codes "no memory\n"

-- what a maker made is wrong
abbrev pub maker_line : Bytes
maker_line = codes "fault maker\n"

-- a byte of a name in a line: `?`, which is 63, for the control characters, which are below 32 or 127; so no name ends its line
abbrev pub shown_byte : ℕ → ℕ
shown_byte byte = if nat_lt byte 32 || (byte == 127) then 63 else byte

-- an input's name in a line: `-` for the reader
abbrev pub shown : Option Bytes → Bytes
shown None = codes "-"
shown (Some name) = map shown_byte name

-- a text, a name as it is shown, and the line's end
abbrev pub named_line : Bytes → Bytes → Bytes
named_line text name = text ++ (name ++ codes "\n")
