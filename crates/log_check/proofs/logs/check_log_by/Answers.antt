use Rattle.log_check.proofs.GoodLemmas.{good_log_bounds}
use Rattle.log_check.proofs.logs.check_log_by.Goals as goal

-- where all lemmas are good, no solution of the board has fewer moves than the last one's bound
pub returns-in-Ok-None-clause-bounds : goal.returns-in-Ok-None-clause-bounds
returns-in-Ok-None-clause-bounds g c =
    let last = c.in-Ok-claimed_bound.ensures.ok in
    good_log_bounds c.args.bundle.now c.claimed_bound.ensures.bundle c.in-Ok.log c.args.file.now c.in-Ok.ensures.ok c.args.board.now c.in-Ok-claimed_bound.bound
    (record { last = last.0; is_for = last.1; bound_is = last.2; good = rw c.in-Ok-None.field-0-is at c.in-Ok-None.ensures })
