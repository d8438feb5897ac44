use Rattle.std.proofs.Common.{◌∙◌, ◌+◌, ◌∷◌, Bor, List, subst, sym, take}
use Rattle.byte_io.specs.Shelf.{Bytes}
use Rattle.pdb_request.specs.Asked.{file_names, parts_shown}
use Rattle.pdb_parts.specs.Steps.{HasReadParts}
use Rattle.pdb_run.specs.Io.{HasStopped}
use Rattle.pdb_run.specs.Inputs.{wanted_of}
use Rattle.std.specs.Prelude.{map}
use Rattle.pdb_verdict.specs.Limits.{a_text}
use Rattle.pdb_parts.specs.Parts.{an_answers_text}
use Rattle.pdb_parts.proofs.ReadLemmas.{file_read, file_unread, text_unread}
use Rattle.pdb_parts.proofs.runs.read_parts.Goals as goal

-- the board text isn't read
pub returns-in-Err-clause-unread : goal.returns-in-Err-clause-unread
returns-in-Err-clause-unread g c = text_unread (parts_shown c.args.asked.now) _ c.a_text-board.ensures c.in-Err.ensures.unread

-- or a file isn't
pub returns-in-Err-load-clause-unread : goal.returns-in-Err-load-clause-unread
returns-in-Err-load-clause-unread g c =
    let arguments = parts_shown c.args.asked.now in
    let value = c.as_slice-name-items.ensures.value in
    let so_far = subst (λ (names : List (Bor Bytes)). HasReadParts arguments (g.I.Io.world c.args.io.now) (g.I.Io.world c.loop-name.io) (file_names (take c.loop-name.name-index names)) c.loop-name.noted)
    (sym value) c.loop-name.invariant.0 in
    subst (λ (names : List (Bor Bytes)). HasStopped (a_text arguments.board ∷ map an_answers_text (file_names names)) (g.I.Io.world c.args.io.now)
    (g.I.Io.world c.load-in-loop-name.new.self) (wanted_of c.an_answers_text-input.result) c.in-Err-load.why) value
    (file_unread arguments c.as_slice-name-items.result.now c.loop-name.name-index _ so_far c.loop-name-test.true _ c.an_answers_text-input.ensures
    c.in-Err-load.ensures.unread)

-- a file more is read and noted
pub loop-name-preserved : goal.loop-name-preserved
loop-name-preserved g c =
    let arguments = parts_shown c.args.asked.now in
    let value = c.as_slice-name-items.ensures.value in
    let so_far = subst (λ (names : List (Bor Bytes)). HasReadParts arguments (g.I.Io.world c.args.io.now) (g.I.Io.world c.loop-name.io) (file_names (take c.loop-name.name-index names)) c.loop-name.noted)
    (sym value) c.loop-name.invariant.0 in
    let before = file_names (take c.loop-name.name-index c.as_slice-name-items.result.now) in
    let noted = rw c.as_slice-in-loop-name.ensures.value at (c.note-noted.ensures arguments so_far.text before so_far.answers so_far.is) in (
      subst (λ (names : List (Bor Bytes)). HasReadParts arguments (g.I.Io.world c.args.io.now) (g.I.Io.world c.load-in-loop-name.new.self)
          (file_names (take (c.loop-name.name-index + 1) names)) c.note-noted.result) value
          (file_read arguments c.as_slice-name-items.result.now c.loop-name.name-index _ so_far c.loop-name-test.true _ c.an_answers_text-input.ensures
          c.in-Ok-load.ensures.read noted),
      c.load-in-loop-name.ensures.same_streams ∙ c.loop-name.invariant.1,
    )
