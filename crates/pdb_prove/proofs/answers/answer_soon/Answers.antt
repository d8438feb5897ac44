use Rattle.std.proofs.Common.{◌∙◌, arith, sym}
use Rattle.claim_text.specs.Shown.{asks_shown}
use Rattle.pdb_prove.specs.Answers.{asks_for}
use Rattle.pdb_prove.proofs.SoonLemmas.{soon_enough}
use Rattle.pdb_prove.proofs.answers.answer_soon.Goals as goal

-- what one thread finds over few boards, without spending them, is right for a greater budget too
pub returns-else-is_spent : goal.returns-else-is_spent
returns-else-is_spent c =
    let more = c.if-posed-le-FEW_BOARDS.false in
    soon_enough _ 65536 c.args.posed.budget (omega (arith, more)) _ (asks_for c.args.posed.goal (asks_shown c.args.posed.claim.now.asks)) c.answer_alone-found.result
    (sym c.is_spent.ensures ∙ c.if-is_spent.false) c.answer_alone-found.ensures
