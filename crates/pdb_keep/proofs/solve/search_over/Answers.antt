use Rattle.std.proofs.Common.{sym}
use Rattle.pdb_verdict.specs.Inputs.{log_files}
use Rattle.pdb_verdict.specs.Optimal.{IsOptimumResult, TakesMemoryForOptimum}
use Rattle.pdb_verdict.specs.Replay.{puzzle_of}
use Rattle.pdb_verdict.proofs.RefusalLemmas.{found_settled}
use Rattle.pdb_keep.proofs.solve.search_over.Goals as goal

-- moves and a log that pass the check prove an optimum of the board that the text spells
pub returns-clause-made : goal.returns-clause-made
returns-clause-made g c = λ fold text sets tables spelt is_bundle.
    let puzzle = puzzle_of text c.as_slice-moves.result.now in
    let is_found = IsOptimumResult (log_files c.args.goal fold puzzle sets c.as_slice-log.result.now tables) in
    let settled = c.in_ok-count.ensures.ok in
    let found = rw (sym settled.0) at (c.beside-digest.ensures.answer fold text sets tables spelt is_bundle) in
    let is = found_settled is_found (TakesMemoryForOptimum c.args.goal puzzle tables) c.in_ok-count.field-0 settled.1 found in
    rw (c.as_slice-moves.ensures.value, c.as_slice-log.ensures.value) at (rw c.in-Ok.is at is)
