-- Table files that are checked one after the other: one file more, and its digest line.
use Rattle.std.proofs.Common.{◌≡◌, ◌∙◌, ℕ, Bool, true, List, [], ◌∷◌, ◌++◌, MatchResult, Vec, Result, Ok, Err, ap₂, length, refl, sym}
use Rattle.std.proofs.lemmas.List.{flat_map_more, length-map, map-append}
use Rattle.tab_file.specs.Tables.{Table}
use Rattle.tab_rule.specs.ExactTables.{IsExactFile}
use Rattle.set_sum.specs.declared.parts.Part.{Part}
use Rattle.byte_io.specs.Shelf.{Bytes}
use Rattle.pdb_run.specs.Answers.{all_bytes}
use Rattle.pdb_run.specs.Writing.{digest_line, digests_of}
use Rattle.pdb_verdict.specs.FileBundles.{AreExactFiles, IsCauseForBundle, part_for}
use Rattle.pdb_verdict.specs.Steps.{AreNextParts, ArePartsOf, IsCauseAt, IsCauseForTables}
use Rattle.pdb_verdict.specs.declared.verdicts.Fault.{Fault}

-- the digest line of one file more
pub digests_of_snoc : (files : List Bytes) (file : Bytes) → digests_of (files ++ file ∷ []) ≡ digests_of files ++ digest_line file
digests_of_snoc files file = sym (flat_map_more digest_line [] files file)

next_exact : (ts : List Table) (before : List Bytes) (t : Table) (file : Bytes) → AreExactFiles ts before → IsExactFile t file
    → AreExactFiles (ts ++ t ∷ []) (before ++ file ∷ [])
next_exact [] [] t file are is = (is, tt)
next_exact (u ∷ ts) (f ∷ before) t file are is = (are.0, next_exact ts before t file are.1 is)
next_exact _ _ t file are is = absurd are

cause_behind : (ts : List Table) (before rest : List Bytes) (file : Bytes) (cause : Fault)
    → AreExactFiles ts before → IsCauseAt (length ts) file cause → IsCauseForTables (before ++ file ∷ rest) cause
cause_behind [] [] rest file (Fault.TableOf i r) are is = rw is.0 is.1
cause_behind [] [] rest file Fault.Memory are is = is
cause_behind (t ∷ ts) (f ∷ before) rest file (Fault.TableOf i r) are is =
    rw is.0 (t, are.0, cause_behind ts before rest file (Fault.TableOf (length ts) r) are.1 (refl, is.1))
cause_behind (t ∷ ts) (f ∷ before) rest file Fault.Memory are is = (t, are.0.is_file)
cause_behind _ _ rest file cause are is = search

module _ {Z : Type 0} (fold : Bool) (before rest files : List (Vec ℕ Z)) (file : Vec ℕ Z) (now : Bytes)
    (same : now ≡ file.items) (whole : before ++ file ∷ rest ≡ files) (parts : List Part)
    (so_far : ArePartsOf fold (all_bytes before) parts) where
  -- the parts of one file more, or why there aren't those of all
  pub next_parts : {Y : Type 0} (after : Result (Vec Part Y) Fault) → AreNextParts fold parts now after
      → MatchResult after (λ ps. ArePartsOf fold (all_bytes (before ++ file ∷ [])) ps.items) (IsCauseForTables (all_bytes files))
  next_parts (Ok more) (part, is, one_more) = record {
    tables = so_far.tables ++ is.0 ∷ [];
    exact = rw (map-append, ← same) (next_exact so_far.tables (all_bytes before) is.0 now so_far.exact is.1);
    are = one_more ∙ ap₂ (λ (xs : List Part) (x : Part). xs ++ x ∷ []) so_far.are is.2
        ∙ sym (map-append (part_for fold) so_far.tables (is.0 ∷ []));
  }
  next_parts (Err cause) is =
      rw (← whole, map-append, ← same) (cause_behind so_far.tables (all_bytes before) (all_bytes rest) now cause
      so_far.exact (rw (so_far.are, length-map) at is))

-- what keeps the tables away keeps a bundle away
pub bundle_cause : (fold : Bool) (files : List Bytes) (sets : Bytes) (cause : Fault) → IsCauseForTables files cause → IsCauseForBundle fold files sets cause
bundle_cause fold files sets (Fault.TableOf number refused) is = is
bundle_cause fold files sets Fault.Memory is = is
bundle_cause fold files sets _ is = absurd is

-- the same of parts that are there or not, where those that aren't there don't come back
pub fold_step : {Z Y : Type 0} (before rest files : List (Vec ℕ Z)) (file : Vec ℕ Z) (now : Bytes) → now ≡ file.items
    → before ++ file ∷ rest ≡ files → (parts after : Result (Vec Part Y) Fault)
    → MatchResult parts (λ ps. ArePartsOf true (all_bytes before) ps.items) (IsCauseForTables (all_bytes files))
    → MatchResult parts (λ ps. AreNextParts true ps.items now after) (λ refused. after ≡ Err refused)
    → MatchResult after (λ ps. ArePartsOf true (all_bytes (before ++ file ∷ [])) ps.items) (IsCauseForTables (all_bytes files))
fold_step before rest files file now same whole (Ok ps) after are is = next_parts true before rest files file now same whole ps.items are after is
fold_step before rest files file now same whole (Err refused) after are is = rw is are
