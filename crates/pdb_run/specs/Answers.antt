-- An answer as the code has it.
use Rattle.std.specs.Prelude.{◌≡◌, ◌++◌, Option, Result, MatchResult, option_map}
use Rattle.std.specs.declared.alloc.AllocError.{AllocError}
use Rattle.byte_io.specs.Shelf.{Bytes}
use Rattle.pdb_run.specs.Writing.{all_files, digests_of, list_of}
pub use Rattle.pdb_run.specs.Writing.{all_bytes}
use Rattle.pdb_run.specs.Commands.{Reply}
use Rattle.pdb_run.specs.declared.answers.CommandAnswer.{CommandAnswer}
use Rattle.pdb_run.specs.declared.answers.Digested.{Digested}
use Rattle.pdb_run.specs.declared.answers.Digested.TheVariants as digested
use Rattle.pdb_run.specs.declared.answers.Unanswered.{Unanswered}
use Rattle.pdb_run.specs.declared.answers.Unanswered.TheVariants.{Memory, Wrong}

-- the digest lines of files and of a last one, or lines that are made already
abbrev pub digest_lines : Digested → Bytes
digest_lines (digested.Files files last) = digests_of (all_files files.now last)
digest_lines (digested.Lines lines) = lines.items

-- the file that was made, or no file
abbrev pub made_file : CommandAnswer → Option Bytes
made_file answer = option_map (λ v. v.items) answer.made

-- all that is written of an answer
abbrev pub answer_text : CommandAnswer → Bytes
answer_text answer = digest_lines answer.digested ++ (digests_of (list_of (made_file answer)) ++ answer.lines.bytes)

-- the answer says this reply: the digest lines are those of the reply's files
pub record IsReplyOf (answer : CommandAnswer) (reply : Reply) : Type 0 where
  pub digested : digest_lines answer.digested ≡ digests_of reply.digested
  pub made : made_file answer ≡ reply.made
  pub lines : answer.lines.bytes ≡ reply.lines
  pub is_yes : answer.is_yes ≡ reply.is_yes

-- the answer says a reply of which this holds
abbrev pub SaysRight : (Reply → Type 0) → CommandAnswer → Type 0
SaysRight Holds answer = (reply : Reply) × Holds reply × IsReplyOf answer reply

-- an answer says a reply of which the one holds, or the other holds, and memory was wanted
abbrev pub IsAnswerBy : (Reply → Type 0) → Type 0 → Result CommandAnswer AllocError → Type 0
IsAnswerBy MayReply TakesMemory answer = MatchResult answer (SaysRight MayReply) (λ _. TakesMemory)

-- why a maker has no answer: memory was wanted, where some is taken; or what it made is wrong, where it makes something
abbrev pub IsUnanswered : (TakesMemory Makes : Type 0) → Unanswered → Type 0
IsUnanswered TakesMemory Makes Memory = TakesMemory
IsUnanswered TakesMemory Makes Wrong = Makes

-- an answer of a maker says a reply of which this holds, or there is none, and this is why
abbrev pub IsMadeBy : (Reply → Type 0) → (TakesMemory Makes : Type 0) → Result CommandAnswer Unanswered → Type 0
IsMadeBy MayReply TakesMemory Makes answer = MatchResult answer (SaysRight MayReply) (IsUnanswered TakesMemory Makes)
