-- The inputs of `parts`, read and noted one after the other.
use Rattle.std.proofs.Common.{◌≡◌, ◌∙◌, ◌+◌, ◌<◌, ◌∷◌, ◌++◌, [], ℕ, Bor, List, None, Option, Result, Some, ap, drop, get_or, length, map, refl, subst, sym, take}
use Rattle.std.proofs.lemmas.List.{at_drop_more, map-append, take-append-drop, take_more}
use Rattle.byte_io.specs.Shelf.{Bytes}
use Rattle.byte_io.specs.declared.streams.ReadFault.{ReadFault}
use Rattle.pdb_request.specs.Asked.{PartsArguments, file_names}
use Rattle.pdb_run.specs.Commands.{Wanted}
use Rattle.pdb_run.specs.Inputs.{IsAsTold}
use Rattle.pdb_run.specs.Io.{HasRead, HasStopped, IsLoaded, IsNotLoaded}
use Rattle.pdb_run.specs.Runs.{World}
use Rattle.pdb_run.proofs.ReadingLemmas.{read_behind, stopped_behind}
use Rattle.pdb_verdict.specs.Limits.{a_text}
use Rattle.pdb_parts.specs.Parts.{an_answers_text, parts_inputs}
use Rattle.pdb_parts.specs.Steps.{HasReadParts, IsNoted}
use Rattle.pdb_parts.specs.declared.noting.Joining.{Joining}
use Rattle.pdb_parts.specs.declared.noting.Unjoined.{Unjoined}

same_reader : (reader : Option Bytes) → IsAsTold reader reader
same_reader None = tt
same_reader (Some bytes) = refl

none_read : (old : World) → HasRead [] old old []
none_read old = record { read = tt; behind = same_reader old.reader; calls = refl; files = refl; failed = refl; written = refl }

module _ (arguments : PartsArguments) {old new : World} (wanted : Wanted) (is : wanted ≡ a_text arguments.board) where
  -- the board text is read first
  pub text_read : {text : Bytes} {noted : Result Joining Unjoined} → IsLoaded wanted old new text → IsNoted arguments text [] [] noted
      → HasReadParts arguments old new [] noted
  text_read {text} loaded noted = record {
    text = text;
    answers = [];
    read = subst (λ w. HasRead (w ∷ []) old new (text ∷ [])) is (read_behind (none_read old) wanted loaded);
    is = noted;
  }

  -- or it isn't
  pub text_unread : {why : ReadFault} → IsNotLoaded wanted old new why → HasStopped (parts_inputs arguments) old new wanted why
  text_unread {why} failed =
      subst (λ w. HasStopped (w ∷ map an_answers_text arguments.answers) old new wanted why) is
      (stopped_behind (none_read old) wanted failed (map an_answers_text arguments.answers))

-- the names before one, and it; and all of them
files_more : (names : List (Bor Bytes)) (i : ℕ) (d : Bor Bytes) → i < length names
    → file_names (take (i + 1) names) ≡ file_names (take i names) ++ (get_or names i d).now ∷ []
files_more names i d within = ap file_names (take_more names i d within) ∙ map-append (λ name. name.now) (take i names) (get_or names i d ∷ [])

files_all : (names : List (Bor Bytes)) (i : ℕ) (d : Bor Bytes) → i < length names
    → file_names names ≡ file_names (take i names) ++ (get_or names i d).now ∷ file_names (drop (i + 1) names)
files_all names i d within =
    ap file_names (sym (take-append-drop i names)) ∙ map-append (λ name. name.now) (take i names) (drop i names)
    ∙ at_drop_more (λ rest. file_names (take i names) ++ file_names rest) names i d within

module _ (arguments : PartsArguments) (names : List (Bor Bytes)) (i : ℕ) (d : Bor Bytes) {old now new : World} {noted : Result Joining Unjoined}
    (so_far : HasReadParts arguments old now (file_names (take i names)) noted) (within : i < length names) (wanted : Wanted)
    (is : wanted ≡ an_answers_text (get_or names i d).now) where
  -- a file more is read, and noted
  pub file_read : {bytes : Bytes} {next : Result Joining Unjoined} → IsLoaded wanted now new bytes
      → IsNoted arguments so_far.text (file_names (take i names) ++ (get_or names i d).now ∷ []) (so_far.answers ++ bytes ∷ []) next
      → HasReadParts arguments old new (file_names (take (i + 1) names)) next
  file_read {bytes} {next} loaded is_noted =
      let before = file_names (take i names) in
      let more = files_more names i d within in
      record {
        text = so_far.text;
        answers = so_far.answers ++ bytes ∷ [];
        read = subst (λ (ws : List Wanted). HasRead (a_text arguments.board ∷ ws) old new (so_far.text ∷ (so_far.answers ++ bytes ∷ [])))
            (ap (λ w. map an_answers_text before ++ w ∷ []) is
            ∙ sym (ap (map an_answers_text) more ∙ map-append an_answers_text before ((get_or names i d).now ∷ [])))
            (read_behind so_far.read wanted loaded);
        is = subst (λ (files : List Bytes). IsNoted arguments so_far.text files (so_far.answers ++ bytes ∷ []) next) (sym more) is_noted;
      }

  -- or it isn't read
  pub file_unread : {why : ReadFault} → IsNotLoaded wanted now new why
      → HasStopped (a_text arguments.board ∷ map an_answers_text (file_names names)) old new wanted why
  file_unread {why} failed =
      let before = file_names (take i names) in
      let behind = file_names (drop (i + 1) names) in
      subst (λ (ws : List Wanted). HasStopped (a_text arguments.board ∷ ws) old new wanted why)
      (ap (λ w. map an_answers_text before ++ w ∷ map an_answers_text behind) is
      ∙ sym (ap (map an_answers_text) (files_all names i d within) ∙ map-append an_answers_text before ((get_or names i d).now ∷ behind)))
      (stopped_behind so_far.read wanted failed (map an_answers_text behind))
