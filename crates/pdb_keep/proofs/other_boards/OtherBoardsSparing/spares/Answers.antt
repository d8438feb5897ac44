use Rattle.std.proofs.Common.{◌≡◌, false, true}
use Rattle.pdb_keep.proofs.other_boards.OtherBoardsSparing.spares.Goals as goal

-- where no board is searched, no file is spared
pub returns-in-None : goal.returns-in-None
returns-in-None c = (λ no. let clash : false ≡ true = no in absurd cc, λ is. absurd (c.in-None.ensures.none is.0 is.1))
