use Rattle.std.proofs.Common.{◌∙◌}
use Rattle.pdb_words.proofs.MaskLemmas.{decimal_read}
use Rattle.pdb_words.proofs.masks.decimal_mask.Goals as goal

-- the decimal mask that a text writes is what the parser reads of it
pub returns : goal.returns
returns c = c.ok.ensures.value ∙ decimal_read c.args.text.now c.parse.result c.parse.ensures.value.0
