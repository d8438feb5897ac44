-- Claims, and which answers to them are true.
use Rattle.std.specs.Prelude.{⊤, ◌≡◌, ℕ, ◌<◌, false, List, length, map, slice_index_or}
use Rattle.puz_board.specs.BoardTexts.{Spells}
use Rattle.puz_board.specs.MovesTexts.{Solves}
use Rattle.tab_file.specs.Tables.{Table}
use Rattle.tab_rule.specs.ExactTables.{IsExactFile}
use Rattle.set_sum.specs.Bounds.{IsBounded}
use Rattle.puz_search.specs.Answers.{IsShorter}
use Rattle.pdb_verdict.specs.FileBundles.{AreRefusedSets}
use Rattle.pdb_verdict.specs.declared.verdicts.Fault.{Fault}
use Rattle.pdb_verdict.specs.declared.verdicts.Fault.TheVariants as fault
use Rattle.pdb_checker.specs.Answers.{moves_in}
use Rattle.pdb_checker.specs.declared.answers.Answer.{Answer}
use Rattle.pdb_checker.specs.declared.bundles.TableFile.{TableFile}
use Rattle.pdb_checker.specs.declared.claims.Claim.{Claim}

-- the bytes are the file of an exact table
abbrev pub IsExact : List ℕ → Type 0
IsExact file = (table : Table) × IsExactFile table file

-- the bytes of files
abbrev pub files_of : List TableFile → List (List ℕ)
files_of tables = map (λ table. table.file.now) tables

-- the tables of these files and the set text make no bundle, and this is why, or memory is wanting
abbrev pub IsCauseOver : List (List ℕ) → List ℕ → Fault → Type 0
IsCauseOver files sets (fault.Sets refused) = AreRefusedSets false files sets refused
IsCauseOver files sets fault.Memory = ⊤
IsCauseOver files sets _ = ⊥

-- both moves texts solve the board, and the second has fewer moves
pub record IsShorterThan (b moves letters : List ℕ) : Type 0 where
  pub n : ℕ
  pub m : ℕ
  pub solved : Solves b moves n
  pub fewer : m < n
  pub shorter : Solves b letters m

-- what the answer says of the claim is true of the board b, by its status: 0 for a yes, 1 for a shorter solution
pub record IsTrueOf (b : List ℕ) (claim : Claim) (answer : Answer) : Type 0 where
  pub bound : claim.asks ≡ 0 → answer.status ≡ 0 → IsBounded b claim.bound
  pub no_bound : claim.asks ≡ 0 → answer.status ≡ 1 → IsShorter b claim.bound (moves_in answer)
  pub optimal : claim.asks ≡ 1 → answer.status ≡ 0 → Solves b claim.moves.now answer.count × IsBounded b answer.count
  pub not_optimal : claim.asks ≡ 1 → answer.status ≡ 1 → IsShorterThan b claim.moves.now (moves_in answer)
  pub shortest : claim.asks ≡ 2 → answer.status ≡ 0 → Solves b (moves_in answer) answer.count × IsBounded b answer.count

-- the answer's status is 0 or 1 only where its claim has a board, and then what it says of the claim is true
abbrev pub IsAnswered : Claim → Answer → Type 0
IsAnswered claim answer = answer.status < 2 → (b : List ℕ) × Spells claim.board.now b × IsTrueOf b claim answer

-- the answers in their places are those to the claims
abbrev pub AreAnswered : List Claim → List Answer → Type 0
AreAnswered claims answers =
    (number : ℕ) (claim : Claim) (answer : Answer) → number < length claims → IsAnswered (slice_index_or claims number claim) (slice_index_or answers number answer)
