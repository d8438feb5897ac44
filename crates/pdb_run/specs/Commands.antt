-- What a command does, as far as the outside sees it.
use Rattle.std.specs.Prelude.{ℕ, Bool, List, Option, None}
use Rattle.byte_io.specs.Shelf.{Bytes}

-- an input: its name, or none for the reader, and the most bytes that it may have
pub record Wanted : Type 0 where
  pub name : Option Bytes
  pub limit : ℕ

-- an answer on inputs
pub record Reply : Type 0 where
  -- the files whose digests come first
  pub digested : List Bytes
  -- a file that was made: its digest comes next, and after a yes it is kept, where the plan has a name for it
  pub made : Option Bytes
  -- the lines behind the digests
  pub lines : Bytes
  pub is_yes : Bool

-- what is read, in this order; the name under which a file that was made is kept, if any is; how the files begin whose place it may
-- take, if not that of any; which files are spared all the same, by the bytes that were read; which replies are right for these; for
-- which the check takes memory; and for which a maker makes something, which may be wrong
pub record Plan : Type 1 where
  pub inputs : List Wanted
  pub keeps_under : Option Bytes
  pub replaces : Option (List Bytes)
  pub Spares : List Bytes → Bytes → Type 0
  pub MayReply : List Bytes → Reply → Type 0
  pub TakesMemory : List Bytes → Type 0
  pub Makes : List Bytes → Type 0

-- the plan with these seven
abbrev pub plan_under : Option Bytes → Option (List Bytes) → (List Bytes → Bytes → Type 0) → List Wanted → (List Bytes → Reply → Type 0)
    → (TakesMemory Makes : List Bytes → Type 0) → Plan
plan_under name replaces Spares inputs MayReply TakesMemory Makes = record {
  inputs = inputs;
  keeps_under = name;
  replaces = replaces;
  Spares = Spares;
  MayReply = MayReply;
  TakesMemory = TakesMemory;
  Makes = Makes;
}

-- the plan of a command that makes and keeps nothing
abbrev pub plan : List Wanted → (List Bytes → Reply → Type 0) → (List Bytes → Type 0) → Plan
plan inputs MayReply TakesMemory = plan_under None None (λ inputs file. ⊥) inputs MayReply TakesMemory (λ inputs. ⊥)
