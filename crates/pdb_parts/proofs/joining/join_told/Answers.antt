use Rattle.std.proofs.Common.{Some, refl}
use Rattle.pdb_parts.proofs.joining.join_told.Goals as goal

-- where lines show moves, these are said
pub returns-in-Against : goal.returns-in-Against
returns-in-Against c = λ names answers is.
    let says = rw c.in-Against.is at is in
    record { moves = Some says.moves; first = says.first; text = says.is; is_yes = refl; beside = c.new.ensures.bytes }
