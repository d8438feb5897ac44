-- Text that is gathered on a page before it is written.
use Rattle.std.specs.Prelude.{◌≡◌, ⊤, ◌++◌, Result, MatchResult}
use Rattle.byte_io.specs.Shelf.{Bytes}
use Rattle.byte_io.specs.Streams.{Output, Writes, WritesAll, WritesFront}
use Rattle.byte_io.specs.declared.streams.WriteFault.{WriteFault}
use Rattle.pdb_run.specs.declared.pages.Page.{Page}

-- a page has gathered this text since its output was so: a front of it was written, and the rest stands on the page
pub record Gathered {W : Type 0} (output_of : W → Output) (start : Output) (page : Page W) (text : Bytes) : Type 0 where
  pub front : Bytes
  pub written : WritesAll start (output_of page.out.now) front
  pub whole : front ++ page.text.items ≡ text

-- a page has gathered this text, or where a write failed a proper front of it was written
abbrev pub Gathers : {W : Type 0} → (W → Output) → Output → Page W → Bytes → Result ⊤ WriteFault → Type 0
Gathers output_of start page text result =
    MatchResult result (λ _. Gathered output_of start page text) (λ _. WritesFront start (output_of page.out.now) text)

-- behind whatever a page had gathered, it gathers these bytes
pub record Adds {W : Type 0} (output_of : W → Output) (old new : Page W) (bytes : Bytes) (result : Result ⊤ WriteFault) : Type 0 where
  pub gathers : (start : Output) (text : Bytes) → Gathered output_of start old text → Gathers output_of start new (text ++ bytes) result

-- whatever a page had gathered, that was written, or where a write failed a proper front of it
abbrev pub Finishes : {W : Type 0} → (W → Output) → Page W → Page W → Result ⊤ WriteFault → Type 0
Finishes output_of old new result =
    (start : Output) (text : Bytes) → Gathered output_of start old text → Writes start (output_of new.out.now) text result
