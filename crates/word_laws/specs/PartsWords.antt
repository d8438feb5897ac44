-- What the words of `parts` ask for.
use Rattle.std.specs.Prelude.{◌≡◌, ◌%◌, List, ◌∷◌, true}
use Rattle.clap.specs.Walk.{Text}
use Rattle.pdb_request.specs.Asked.{Asked, parts}
use Rattle.puz_goal.specs.declared.goals.Goal.TheVariants.{First}
use Rattle.pdb_words.specs.Commands.{IsPlain}
use Rattle.pdb_words.specs.Numbers.{number_of}
use Rattle.word_laws.specs.Asking.{AreNames, TextFrom, text_file, text_word}
use Rattle.word_laws.specs.NumberTexts.{writes_bound, writes_count}

-- where the board text comes from, texts for a bound and a count of parts, and the names of one file of answers or more
pub record PartsWords : Type 0 where
  pub board : TextFrom
  pub bound : Text
  pub count : Text
  pub answers : Text
  pub more_answers : List Text
  pub plain_bound : IsPlain bound
  pub plain_count : IsPlain count
  pub are_names : AreNames (answers ∷ more_answers)

-- all of them
abbrev pub parts_words : PartsWords → List Text
parts_words words = text_word words.board ∷ words.bound ∷ words.count ∷ words.answers ∷ words.more_answers

-- the texts write a bound, and an odd count of parts
abbrev pub WritesParts : PartsWords → Type 0
WritesParts words = (writes_bound words.bound ≡ true) × (writes_count words.count ≡ true) × (number_of words.count % 2 ≡ 1)

-- what they ask for
abbrev pub asks_for_parts : PartsWords → Asked
asks_for_parts words = parts (record {
  board = text_file words.board;
  bound = number_of words.bound;
  count = number_of words.count;
  answers = words.answers ∷ words.more_answers;
  goal = First;
})
