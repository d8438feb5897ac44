-- What the words of `make-table` ask for.
use Rattle.std.specs.Prelude.{◌≡◌, ℕ, List, [], ◌∷◌, true, unwrap_or, false}
use Rattle.clap.specs.Walk.{Text}
use Rattle.pdb_request.specs.Asked.{Asked, make_table}
use Rattle.pdb_words.specs.Commands.{IsPlain}
use Rattle.pdb_words.specs.Masks.{mask_written}
use Rattle.pdb_words.specs.Numbers.{number_of}
use Rattle.word_laws.specs.NumberTexts.{writes_mask, writes_side}

-- texts for a side and a tile mask, and a name
pub record PatternWords : Type 0 where
  pub side : Text
  pub mask : Text
  pub out : Text
  pub plain_side : IsPlain side
  pub plain_mask : IsPlain mask
  pub plain_out : IsPlain out

-- the three of them
abbrev pub pattern_words : PatternWords → List Text
pattern_words words = words.side ∷ words.mask ∷ words.out ∷ []

-- the texts write a number that may be meant for a side, and a mask
abbrev pub WritesPattern : PatternWords → Type 0
WritesPattern words = (writes_side words.side ≡ true) × (writes_mask words.mask ≡ true)

-- what they ask for, of so many workers
abbrev pub asks_for_table : PatternWords → ℕ → Asked
asks_for_table words workers = make_table (record {
  side = number_of words.side;
  mask = unwrap_or (mask_written words.mask) 0;
  out = words.out;
  replace = false;
  workers = workers;
})
