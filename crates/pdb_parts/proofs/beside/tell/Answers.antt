use Rattle.std.proofs.Common.{◌⊎◌, inl, inr, Ok, Err, Result, true}
use Rattle.std.specs.Io.KnownBytes.{Appends}
use Rattle.byte_io.specs.Shelf.{Bytes}
use Rattle.byte_io.specs.Streams.{AppendsFront, Output, Writes, output}
use Rattle.pdb_parts.proofs.beside.tell.Goals as goal

-- a text that was written, or a proper front of it
whole_or_front : {E : Type 0} (old new : Output) (text : Bytes) (r : Result (Unit {0}) E) → Writes old new text r
    → Appends old.bytes new.bytes text ⊎ AppendsFront old.bytes new.bytes text
whole_or_front old new text (Ok v) is = inl is.0
whole_or_front old new text (Err e) is = inr is.0

-- the errors get the text, or a front of it
pub returns : goal.returns
returns g c =
    let old = g.E.Write.contents c.args.err.now in
    let new = g.E.Write.contents c.put_text.new.out in
    whole_or_front (output old true) (output new true) c.args.text.now c.put_text.result c.put_text.ensures
