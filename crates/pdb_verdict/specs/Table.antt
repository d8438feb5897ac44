-- `table FILE`: whether the table of a table file is exact.
use Rattle.std.specs.Prelude.{◌≡◌, ℕ, ◌<◌, ◌^◌, Result, Ok, Err}
use Rattle.puz_board.specs.Masks.{numbers_of}
use Rattle.tab_file.specs.TableFiles.{IsTableFile}
use Rattle.tab_file.specs.Tables.{Table}
use Rattle.tab_rule.specs.Counts.{IsCensusOf}
use Rattle.tab_rule.specs.ExactTables.{IsExactFile}
use Rattle.tab_rule.specs.TableFaults.{IsTableFaultOf}
use Rattle.tab_rule.specs.declared.census.Census.{Census}
use Rattle.byte_io.specs.Shelf.{Bytes}
use Rattle.pdb_verdict.specs.Refusals.{IsTold}
use Rattle.pdb_verdict.specs.declared.verdicts.Fault.{Fault}
use Rattle.pdb_verdict.specs.declared.verdicts.Fault.TheVariants as fault
use Rattle.pdb_verdict.specs.declared.verdicts.Verdict.{Verdict}
use Rattle.pdb_verdict.specs.declared.verdicts.Verdict.TheVariants as verdict

-- ---- what a yes means

-- the file of an exact table with this census, for the pattern of this side and mask
pub record IsExactFor (file : Bytes) (side mask : ℕ) (census : Census) : Type 0 where
  pub table : Table
  pub exact : IsExactFile table file
  pub is_side : side ≡ table.pattern.side
  pub is_mask : numbers_of mask ≡ table.pattern.tiles
  pub mask_low : mask < 2 ^ 32
  pub counted : IsCensusOf table.entries census

-- ---- the result

-- the result on the table file: a side, a mask and a census, or why it is refused
abbrev pub IsTableResult : Bytes → Result (ℕ × ℕ × Census) Fault → Type 0
IsTableResult file (Ok exact) = IsExactFor file exact.0 exact.1 exact.2
IsTableResult file (Err (fault.Table refused)) = IsTableFaultOf refused file
IsTableResult file (Err _) = ⊥

-- the three, as a verdict
abbrev pub exact_verdict : ℕ × ℕ × Census → Verdict
exact_verdict found = verdict.Exact found.0 found.1 found.2

-- the answer tells it
abbrev pub IsTableTold : Bytes → Result Verdict Fault → Type 0
IsTableTold file answer = IsTold exact_verdict (IsTableResult file) answer

-- it takes memory to check a table file, and none where the header is refused
abbrev pub TakesMemoryForTable : Bytes → Type 0
TakesMemoryForTable file = (t : Table) × IsTableFile t file
