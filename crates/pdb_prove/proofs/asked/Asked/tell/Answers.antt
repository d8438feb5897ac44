use Rattle.std.proofs.Common.{◌∙◌, arith}
use Rattle.pdb_prove.proofs.TellingLemmas.{cut_told, few_at, next_cut, next_told}
use Rattle.pdb_prove.proofs.asked.Asked.tell.Goals as goal

-- the next claim has few letters, as all claims do
pub line_on-requires : goal.line_on-requires
line_on-requires g c = record { few = few_at _ _ c.index-claim.result.now c.requires.next c.index-claim.ensures c.requires.few }

-- where its line is written, one claim more is told
pub returns-clause-told : goal.returns-clause-told
returns-clause-told g c = λ v begun found told.
    let written = rw (c.as_str.ensures.value ∙ c.line_on.ensures, c.in_ok-write_text.was) at c.write_text.ensures.written in
    let few = c.requires.next in
    record {
      few = omega (arith, few);
      all = rw c.is_yes.ensures (next_told v c.args.self.now c.args.found.now c.index-claim.result.now c.requires.next c.index-claim.ensures found told written);
    }

-- where it isn't all written, the answers are cut short with it
pub returns-in_err-write_text-clause-told : goal.returns-in_err-write_text-clause-told
returns-in_err-write_text-clause-told g c = λ v begun found told.
    let written = rw (c.as_str.ensures.value ∙ c.line_on.ensures, c.in_err-write_text.was) at c.write_text.ensures.written in
    cut_told _ _ c.from_residual.result c.from_residual.ensures.0
    (next_cut v c.args.self.now c.args.found.now c.index-claim.result.now c.requires.next c.index-claim.ensures found told written)
