-- Inputs in a row.
use Rattle.std.proofs.Common.{◌≡◌, ◌∙◌, ◌<◌, ℕ, List, [], ◌∷◌, ◌++◌, Option, None, Some, ap, arith, drop, get_or, length, map, refl, subst, suc, sym, take, ◌+◌}
use Rattle.std.proofs.lemmas.Grind.{common_steps}
use Rattle.std.proofs.lemmas.List.{at_drop_more, map-append, take-append-drop, take_more}
use Rattle.byte_io.specs.Shelf.{Bytes, Files}
use Rattle.byte_io.specs.declared.streams.ReadFault.{ReadFault}
use Rattle.pdb_run.specs.Calls.{Calls, with_input, with_inputs}
use Rattle.pdb_run.specs.Commands.{Wanted}
use Rattle.pdb_run.specs.Inputs.{AreRead, IsRead, left, left_by_all, wanted_of}
use Rattle.pdb_run.specs.Io.{HasRead, HasStopped, IsLoaded, IsNotLoaded}
use Rattle.pdb_run.specs.Runs.{World}
use Rattle.pdb_run.specs.Steps.{IsNext}
use Rattle.pdb_run.specs.declared.commands.Input.{Input}

-- inputs that were read, and one more behind them
read_more : (files : Option Files) (reader : Option Bytes) (before : List Wanted)
    (bytes : List Bytes) (wanted : Wanted) (next : Bytes) → AreRead files reader before bytes
    → IsRead files (left_by_all reader before) wanted next
    → AreRead files reader (before ++ wanted ∷ []) (bytes ++ next ∷ [])
    × (left_by_all reader (before ++ wanted ∷ []) ≡ left (left_by_all reader before) wanted.name)
read_more files reader [] [] wanted next are is = ((is, tt), refl)
read_more files reader (first ∷ before) (b ∷ bytes) wanted next are is =
    let rest = read_more files (left reader first.name) before bytes wanted next are.1 is in
    ((are.0, rest.0), rest.1)
read_more files reader _ _ wanted next are is = absurd are

-- the calls of inputs that were read, and of one more
calls_more : (calls : Calls) (before : List Wanted) (wanted : Wanted)
    → with_inputs calls (before ++ wanted ∷ []) ≡ with_input (with_inputs calls before) wanted.name None
calls_more calls [] wanted = refl
calls_more calls (first ∷ before) wanted = calls_more (with_input calls first.name None) before wanted

-- there are as many bytes as inputs
pub AreRead-length : (files : Option Files) (reader : Option Bytes) (wanted : List Wanted)
    (bytes : List Bytes) → AreRead files reader wanted bytes → length bytes ≡ length wanted
AreRead-length files reader [] [] are = refl
AreRead-length files reader (first ∷ more) (b ∷ bytes) are =
    ap suc (AreRead-length files (left reader first.name) more bytes are.1)
AreRead-length files reader _ _ are = absurd are

-- ---- one input behind those before it

module _ {old now new : World} {before : List Wanted} {bytes : List Bytes} (so_far : HasRead before old now bytes) (wanted : Wanted) where
  -- it was read
  pub read_behind : {next : Bytes} → IsLoaded wanted now new next → HasRead (before ++ wanted ∷ []) old new (bytes ++ next ∷ [])
  read_behind {next} loaded =
      let read : IsRead old.files (left_by_all old.reader before) wanted next = grind arith in
      let more = read_more old.files old.reader before bytes wanted next so_far.read read in
      let calls = calls_more old.calls before wanted in
      grind (arith, common_steps)

  -- it was not
  pub stopped_behind : {why : ReadFault} → IsNotLoaded wanted now new why → (behind : List Wanted)
      → HasStopped (before ++ wanted ∷ behind) old new wanted why
  stopped_behind {why} failed behind = record {
    first = record { before = before; behind = behind; order = refl; bytes = bytes; read = so_far.read; cause = grind arith };
    calls = failed.calls ∙ ap (λ calls. with_input calls wanted.name (Some why)) so_far.calls;
    files = failed.files ∙ so_far.files;
    written = failed.written ∙ so_far.written;
  }

-- the same of an input among all
module _ (wanted : List Input) (i : ℕ) (d : Input) {old now new : World} {bytes : List Bytes}
    (so_far : HasRead (map wanted_of (take i wanted)) old now bytes) (within : i < length wanted) where
  pub read_next : {after : List Bytes} → IsNext (wanted_of (get_or wanted i d)) now new bytes after
      → HasRead (map wanted_of (take (i + 1) wanted)) old new after
  read_next next =
      subst (λ (t : List Wanted × List Bytes). HasRead t.0 old new t.1)
      (λ k. (sym (ap (map wanted_of) (take_more wanted i d within) ∙ map-append wanted_of (take i wanted) (get_or wanted i d ∷ [])) k, sym next.added k))
      (read_behind so_far (wanted_of (get_or wanted i d)) next.loaded)

  pub stopped : {why : ReadFault} → IsNotLoaded (wanted_of (get_or wanted i d)) now new why
      → HasStopped (map wanted_of wanted) old new (wanted_of (get_or wanted i d)) why
  stopped {why} failed =
      subst (λ all. HasStopped all old new (wanted_of (get_or wanted i d)) why)
      (sym (ap (map wanted_of) (sym (take-append-drop i wanted)) ∙ map-append wanted_of _ _
      ∙ at_drop_more (λ rest. map wanted_of (take i wanted) ++ map wanted_of rest) wanted i d within))
      (stopped_behind so_far (wanted_of (get_or wanted i d)) failed (map wanted_of (drop (i + 1) wanted)))
