use Rattle.pat_place.proofs.RankLemmas.{IsRank-some, IsRank-one}
use Rattle.pat_place.proofs.laws.each_placement_has_one_rank.Goals as goal

-- each placement has one rank, and no two
pub returns : goal.returns
returns c p is =
    let some = IsRank-some p.pattern.side p.cells is.inside is.apart in
    (some.0, some.1, λ s other. IsRank-one p.pattern.side p.cells s some.0 other some.1)
