use Rattle.std.proofs.Common.{refl}
use Rattle.pdb_words.proofs.faults.unreadable_word.Goals as goal

-- what is said of a word that is no text has its number and how the program is used
pub returns : goal.returns
returns c = rw (c.push_str-3.ensures.bytes, c.push_str-2.ensures.bytes, c.push_str.ensures.bytes, c.new-text.ensures, c.format.ensures.text) refl
