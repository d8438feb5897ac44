use Rattle.std.proofs.Common.{arith, subst, sym}
use Rattle.puz_search.specs.declared.searches.Search.{Search}
use Rattle.puz_search.proofs.AnswerLemmas.{claim_answer, claim_within}
use Rattle.puz_search.proofs.refuting.refute_alone.Goals as goal

-- what one thread answers is right for the claim, the board and the budget
pub returns-clause-answer : goal.returns-clause-answer
returns-clause-answer c =
    let s : Search = record {
      guide = c.args.guide;
      start = c.args.start;
      bound = c.args.claim.now.bound;
      first_state = c.side-side.ensures.guide.automaton.first;
      one_side = c.requires.board;
      small = c.bound-bound.ensures.small;
      prefix = c.prefix.result;
    } in
    claim_answer s c.side-side.ensures.guide c.args.budget c.args.claim.now.part c.prefix.ensures c.refute_first.result c.refute_first.ensures

-- where the search of the claim fails within the budget, one thread answers that it is refuted
pub returns-clause-within : goal.returns-clause-within
returns-clause-within c boards fails few =
    let s : Search = record {
      guide = c.args.guide;
      start = c.args.start;
      bound = c.args.claim.now.bound;
      first_state = c.side-side.ensures.guide.automaton.first;
      one_side = c.requires.board;
      small = c.bound-bound.ensures.small;
      prefix = c.prefix.result;
    } in
    claim_within s c.side-side.ensures.guide c.args.budget c.args.claim.now.part c.prefix.ensures boards fails few c.refute_first.result c.refute_first.ensures
