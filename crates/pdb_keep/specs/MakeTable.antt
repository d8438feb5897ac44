-- `make-table SIDE MASK OUT`: a table is built, and kept where it is that of the pattern which the words name.
--
-- The maker is free: it may build any bytes, or give up. What is told of them, whether they are kept, and why it may give up, is not
-- free.
use Rattle.std.specs.Prelude.{◌≡◌, ℕ, [], ◌∷◌, Some, Ok, Err, true}
use Rattle.puz_board.specs.Masks.{numbers_of}
use Rattle.pat_place.specs.Patterns.{IsPattern}
use Rattle.tab_rule.specs.Limits.{HasBoardOfCost}
use Rattle.byte_io.specs.Shelf.{Bytes}
use Rattle.pdb_request.specs.Asked.{MakeTableArguments}
use Rattle.pdb_run.specs.Commands.{Plan, Reply, plan_under}
use Rattle.pdb_verdict.specs.Lines.{line_of, reply_on}
use Rattle.pdb_verdict.specs.Table.{IsTableTold}
use Rattle.pdb_verdict.specs.declared.verdicts.Fault.{Fault}
use Rattle.pdb_verdict.specs.declared.verdicts.Fault.TheVariants.{K3, K4}
use Rattle.pdb_verdict.specs.declared.verdicts.Verdict.{Verdict}
use Rattle.pdb_verdict.specs.declared.verdicts.Verdict.TheVariants as verdict
use Rattle.pdb_keep.specs.Spared.{replaced_unless, table_front}

-- the tiles of the mask are a pattern on boards of the side
abbrev pub ArePattern : ℕ → ℕ → Type 0
ArePattern side mask = IsPattern (record { side = side; tiles = numbers_of mask })

-- ---- what is built

-- a verdict on a table speaks of this side and this mask
abbrev pub SpeaksOf : ℕ → ℕ → Verdict → Type 0
SpeaksOf side mask (verdict.Exact of_side of_mask census) = (of_side ≡ side) × (of_mask ≡ mask)
SpeaksOf side mask other = ⊥

-- they are a pattern, and a verdict on the file that was built for it speaks of them
pub record IsBuilt (side mask : ℕ) (file : Bytes) (said : Verdict) : Type 0 where
  pub pattern : ArePattern side mask
  pub is_result : IsTableTold file (Ok said)
  pub own : SpeaksOf side mask said

-- they are a pattern, and some board of its side has 254 as the least cost of the tiles: no table of the pattern is exact
pub record IsBeyondTables (side mask : ℕ) : Type 0 where
  pub pattern : ArePattern side mask
  pub board : HasBoardOfCost (record { side = side; tiles = numbers_of mask }) 254

-- why no file is told of: K4 where they are no pattern; K3 where they are one of which no table can say all counts
abbrev pub IsUnbuilt : ℕ → ℕ → Fault → Type 0
IsUnbuilt side mask K4 = ¬ ArePattern side mask
IsUnbuilt side mask K3 = IsBeyondTables side mask
IsUnbuilt side mask _ = ⊥

-- ---- what is told of it

-- what comes of the maker: a refusal, or a file, and the verdict on it
pub data Build : Type 0 where
  unbuilt : Fault → Build
  built : Bytes → Verdict → Build

-- for this side and this mask
abbrev pub IsBuildFor : ℕ → ℕ → Build → Type 0
IsBuildFor side mask (unbuilt refused) = IsUnbuilt side mask refused
IsBuildFor side mask (built file said) = IsBuilt side mask file said

-- a refusal stands alone; of a file its digest is told, and then the line of the verdict
abbrev pub reply_to_build : Build → Reply
reply_to_build (unbuilt refused) = reply_on [] (Err refused)
reply_to_build (built file said) = record { digested = []; made = Some file; lines = line_of (Ok said); is_yes = true }

-- a reply tells what comes of the maker for a side and a mask
pub record TellsBuild (side mask : ℕ) (reply : Reply) : Type 0 where
  pub build : Build
  pub is_build : IsBuildFor side mask build
  pub told : reply ≡ reply_to_build build

-- ---- the command

-- it reads nothing, and spares all but tables of this side and this mask, unless it is asked to replace any file; it takes memory and
-- makes a table once the side and the mask are a pattern; for any number of workers
abbrev pub make_table_plan : MakeTableArguments → Plan
make_table_plan arguments =
    plan_under (Some arguments.out) (replaced_unless arguments.replace (table_front arguments.side arguments.mask ∷ [])) (λ inputs file. ⊥) []
    (λ inputs. TellsBuild arguments.side arguments.mask) (λ inputs. ArePattern arguments.side arguments.mask)
    (λ inputs. ArePattern arguments.side arguments.mask)
