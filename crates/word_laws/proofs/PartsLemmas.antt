-- What the words of `parts` ask for, and what is wrong with them.
use Rattle.std.proofs.Common.{◌≡◌, ◌∙◌, ◌%◌, ◌==◌, ap, inl, inr, refl, ℕ, Bool, false, true, List, [], ◌∷◌, ◌++◌, Option, append-nil, codes}
use Rattle.std.specs.Prelude.{if◌then◌else◌}
use Rattle.std.specs.List.{AllByRecursion}
use Rattle.std.proofs.lemmas.List.Elements.{recursion_from_All}
use Rattle.clap.specs.Kinds.{Kinds, or_else}
use Rattle.clap.specs.Walk.{Text}
use Rattle.clap.specs.declared.error.kind.ErrorKind.TheVariants as kind
use Rattle.clap.proofs.OnLiterals.{clap_on_literals}
use Rattle.pdb_request.specs.Asked.{Asked, parts}
use Rattle.puz_goal.specs.declared.goals.Goal.TheVariants.{First}
use Rattle.pdb_words.specs.CommandLine.{faults_of}
use Rattle.pdb_words.specs.Commands.{IsCommand, IsPlain}
use Rattle.pdb_words.specs.Faults.{IsMistaken}
use Rattle.pdb_words.specs.Numbers.{number_of}
use Rattle.pdb_words.specs.Prove.{file_or_input}
use Rattle.pdb_words.proofs.CommandLemmas.{mistaken}
use Rattle.word_laws.proofs.TextLemmas.{by_source, file_is, word_for, word_is}
use Rattle.word_laws.proofs.WalkLemmas.{Comes, FitsFiles, Word, bounds, counts, files_come, flag, missing, plain, unless}
use Rattle.word_laws.specs.Asking.{AsksFor, TextFrom, text_word}
use Rattle.word_laws.specs.NumberTexts.{writes_bound, writes_count}
use Rattle.word_laws.specs.PartsWords.{PartsWords, WritesParts, asks_for_parts, parts_words}

is_command : IsCommand (codes "parts")
is_command = inr (inr (inr (inr (inr (inr (inr (inl refl)))))))

-- what is wrong with a count of parts that may be even, and besides
abbrev counted : Bool → Kinds → Kinds
counted is_odd rest = (if is_odd then [] else kind.ValueValidation ∷ []) ++ rest

-- what is wrong with a bound, a count and files, by which are taken and whether the count is odd
abbrev wrong : Bool → Bool → Bool → Kinds → Kinds
wrong is_odd bound count files = counted is_odd (or_else (or_else (unless bound (unless count [])) []) (or_else files []))

-- words of which something is wrong with a number
some_wrong : (words : List Text) (kinds : Kinds) → faults_of words ≡ kind.ValueValidation ∷ kinds → IsMistaken words
some_wrong words kinds is = mistaken words kind.ValueValidation kinds is (λ e. cc) (λ e. cc)

-- whether a count is odd or not
either_wrong : (words : List Text) (is_odd : Bool) → faults_of words ≡ counted is_odd (kind.ValueValidation ∷ []) → IsMistaken words
either_wrong words true is = some_wrong words [] is
either_wrong words false is = some_wrong words (kind.ValueValidation ∷ []) is

-- a count that isn't taken is wrong whether the bound is or not
later_wrong : (bound : Bool) → or_else (or_else (unless bound (unless false [])) []) (or_else [] []) ≡ kind.ValueValidation ∷ []
later_wrong true = refl
later_wrong false = refl

module _ (words : PartsWords) where
  all_plain : AllByRecursion IsPlain (words.answers ∷ words.more_answers)
  all_plain = recursion_from_All IsPlain (words.answers ∷ words.more_answers) words.are_names.0

  -- the words as far as the first file
  abbrev leading : TextFrom → List Word
  leading board = word_for board ∷ plain words.bound words.plain_bound ∷ plain words.count words.plain_count ∷ plain words.answers all_plain.0 ∷ []

  -- what is asked for, as it is read of the words
  abbrev read_as : TextFrom → ℕ → ℕ → Asked
  read_as board bound count = parts (record {
    board = file_or_input (text_word board);
    bound = bound;
    count = count;
    answers = words.answers ∷ words.more_answers;
    goal = First;
  })

  abbrev kinds : Kinds → Kinds
  kinds files = wrong (counts.reads words.count % 2 == 1) (bounds.takes words.bound) (counts.takes words.count) files

  abbrev Fits : TextFrom → Type 0
  Fits board = FitsFiles (codes "ANSWERS") (codes "parts") 4 (leading board) words.answers words.more_answers [] [] kinds
      (read_as board (bounds.reads words.bound) (counts.reads words.count))

  fits : Fits words.board
  unfolding clap_on_literals
  fits = by_source Fits (λ name is. assumption, assumption) words.board

  all_come : Comes (codes "parts") (parts_words words) (kinds []) (read_as words.board (bounds.reads words.bound) (counts.reads words.count))
  all_come =
      let come = files_come (codes "ANSWERS") is_command 4 (leading words.board) words.answers words.more_answers all_plain.1 words.are_names.1 [] [] kinds
      (read_as words.board (bounds.reads words.bound) (counts.reads words.count)) fits in
      rw (append-nil, word_is words.board) at come

  -- an odd count is read so
  odd_read : writes_count words.count ≡ true → number_of words.count % 2 ≡ 1 → (counts.reads words.count % 2 == 1) ≡ true
  odd_read writes is_odd =
      ap (λ (n : ℕ). n % 2 == 1) (counts.read words.count words.plain_count writes) ∙ ap (λ (r : ℕ). r == 1) is_odd

  even_read : writes_count words.count ≡ true → number_of words.count % 2 ≡ 0 → (counts.reads words.count % 2 == 1) ≡ false
  even_read writes is_even =
      ap (λ (n : ℕ). n % 2 == 1) (counts.read words.count words.plain_count writes) ∙ ap (λ (r : ℕ). r == 1) is_even

  -- the words ask for this
  pub parts_asked : WritesParts words → AsksFor (codes "parts" ∷ parts_words words) (asks_for_parts words)
  parts_asked writes =
      let bound = bounds.taken words.bound words.plain_bound ∙ writes.0 in
      let count = counts.taken words.count words.plain_count ∙ writes.1 in
      let come = all_come in (
        come.0 ∙ (λ i. wrong (odd_read writes.1 writes.2 i) (bound i) (count i) []),
        come.1 ∙ (λ i. read_as words.board (bounds.read words.bound words.plain_bound writes.0 i) (counts.read words.count words.plain_count writes.1 i))
            ∙ ap (λ (board : Option Text). parts (record {
              board = board;
              bound = number_of words.bound;
              count = number_of words.count;
              answers = words.answers ∷ words.more_answers;
              goal = First;
            })) (file_is words.board),
      )

  -- unless the bound is none
  pub bound_mistaken : writes_bound words.bound ≡ false → IsMistaken (codes "parts" ∷ parts_words words)
  bound_mistaken is =
      either_wrong _ (counts.reads words.count % 2 == 1)
      (all_come.0 ∙ ap (λ (b : Bool). wrong (counts.reads words.count % 2 == 1) b (counts.takes words.count) [])
      (bounds.taken words.bound words.plain_bound ∙ is))

  -- or the count of parts
  pub count_mistaken : writes_count words.count ≡ false → IsMistaken (codes "parts" ∷ parts_words words)
  count_mistaken is =
      either_wrong _ (counts.reads words.count % 2 == 1)
      (all_come.0 ∙ ap (λ (b : Bool). wrong (counts.reads words.count % 2 == 1) (bounds.takes words.bound) b [])
      (counts.taken words.count words.plain_count ∙ is)
      ∙ ap (counted (counts.reads words.count % 2 == 1)) (later_wrong (bounds.takes words.bound)))

  -- or it is even
  pub even_mistaken : writes_count words.count ≡ true → number_of words.count % 2 ≡ 0 → IsMistaken (codes "parts" ∷ parts_words words)
  even_mistaken writes is =
      some_wrong _ _ (all_come.0 ∙ ap (λ (b : Bool). wrong b (bounds.takes words.bound) (counts.takes words.count) []) (even_read writes is))

-- no answers
pub answerless : (board : TextFrom) (bound count : Text) → IsPlain bound → IsPlain count → writes_bound bound ≡ true → writes_count count ≡ true
    → IsMistaken (codes "parts" ∷ text_word board ∷ bound ∷ count ∷ [])
unfolding clap_on_literals
answerless board bound count b c is_bound is_count =
    let lacking : Kinds = kind.MissingRequiredArgument ∷ [] in
    let lacks : or_else (unless (bounds.takes bound) []) (unless (counts.takes count) lacking) ≡ lacking =
    λ i. or_else (unless ((bounds.taken bound b ∙ is_bound) i) []) (unless ((counts.taken count c ∙ is_count) i) lacking) in
    by_source (λ from. IsMistaken (codes "parts" ∷ text_word from ∷ bound ∷ count ∷ [])) (
      λ name is. missing is_command (plain name is ∷ plain bound b ∷ plain count c ∷ []) lacks,
      missing is_command (flag (codes "-") ∷ plain bound b ∷ plain count c ∷ []) lacks,
    ) board
