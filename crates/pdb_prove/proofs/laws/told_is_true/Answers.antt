use Rattle.pdb_prove.proofs.TruthLemmas.{claims_boards, each_true}
use Rattle.pdb_prove.proofs.laws.told_is_true.Goals as goal

-- of claims that are answered, each line of a yes is true of its board
pub returns : goal.returns
returns c home fold budget files told is =
    each_true home is.bundle budget is.claims told (claims_boards _ is.claims is.ready.are_claims.lines) is.each
