use Rattle.std.proofs.Common.{◌∙◌, arith}
use Rattle.pdb_words.proofs.MaskLemmas.{hexadecimal_read}
use Rattle.pdb_words.proofs.masks.hexadecimal_mask.Goals as goal

-- the hexadecimal mask that digits without a sign write is what the parser reads of them
pub returns : goal.returns
returns c = c.ok.ensures.value ∙ hexadecimal_read c.args.digits.now c.from_str_radix.result
    (grind (arith, c.if-starts_with.ensures.byte)) c.from_str_radix.ensures.value
