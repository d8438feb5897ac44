-- What the words behind a command come to, word by word, and the numbers among them: a word that doesn't begin with `-` is no flag.
use Rattle.std.proofs.Common.{◌≡◌, ◌∙◌, ◌≤◌, arith, refl, ap, Bool, false, List, [], ◌∷◌, ◌++◌, Option, Some, None, append-nil, append_assoc, codes}
use Rattle.std.proofs.Common.{length, map, ◌<◌, ◌^◌, ℕ, true, ne_eqb}
use Rattle.std.specs.List.{AllByRecursion, fold}
use Rattle.std.specs.Prelude.{if◌then◌else◌, pos, unwrap_or}
use Rattle.std.proofs.lemmas.Bool.Decides.{nat_tests}
use Rattle.std.proofs.lemmas.List.{map-append}
use Rattle.std.proofs.lemmas.Slice.Eq.{bytes_eq-Decides}
use Rattle.std.specs.Str.{bytes_eq}
use Rattle.clap.specs.Faults.{check_fault, defaults_fault, settle_fault, step_fault, turn_fault, use_fault, values_fault, walk_fault}
use Rattle.clap.specs.Kinds.{Kinds, or_else}
use Rattle.clap.specs.Lexer.{usize_max, without_minus}
use Rattle.clap.specs.Simple.{Shape, filled, with_index}
use Rattle.clap.specs.ValueTests.{accepts}
use Rattle.clap.specs.Walk.{Held, Row, Rule, Text, Walk, after_step, arg_by_index, finished, plain_word, positional, settled, walked}
use Rattle.clap.specs.declared.builder.value_parser.ValueParser.TheVariants as parser
use Rattle.clap.specs.declared.error.kind.ErrorKind.TheVariants as kind
use Rattle.book_core.specs.Books.{most_workers}
use Rattle.pdb_request.specs.Asked.{Asked, most_budget, most_parts}
use Rattle.pdb_words.specs.Budget.{usual_budget}
use Rattle.pdb_words.specs.CommandLine.{asked_by, asked_of, faults_of, value_faults_by, parse_faults}
use Rattle.pdb_words.specs.Commands.{IsCommand, IsPlain}
use Rattle.pdb_words.specs.Faults.{IsMistaken}
use Rattle.pdb_words.specs.Rows.{needed_file}
use Rattle.pdb_words.specs.MakeTable.{most_side}
use Rattle.pdb_words.specs.Numbers.{number_of, number_written, writes_within}
use Rattle.pdb_words.proofs.CommandLemmas.{asked_behind, faults_behind, leaf, mistaken, mistaken_parse, parse_faults_behind, start}
use Rattle.pdb_words.proofs.TextLemmas.{not_dashes, strip_dash}
use Rattle.word_laws.specs.Asking.{AsksFor}
use Rattle.word_laws.specs.NumberTexts.{writes_budget}

-- nothing wrong behind what is wrong
or_nothing : (kinds : Kinds) → or_else kinds [] ≡ kinds
or_nothing kinds = grind arith

-- three places in a row
or_assoc : (a b c : Kinds) → or_else (or_else a b) c ≡ or_else a (or_else b c)
or_assoc a b c = grind arith

-- a word: a flag that is written out, or any that doesn't begin with `-`
pub data Word : Type 0 where
  flag : Text → Word
  plain : (word : Text) → IsPlain word → Word

-- its text
abbrev pub text_of : Word → Text
text_of (flag word) = word
text_of (plain word is) = word

-- words that don't begin with `-`
abbrev pub plains : (words : List Text) → AllByRecursion IsPlain words → List Word
plains [] all = []
plains (word ∷ rest) all = plain word all.0 ∷ plains rest all.1

-- their texts are the words
pub map-plains : (words : List Text) (all : AllByRecursion IsPlain words) → map text_of (plains words all) ≡ words
map-plains [] all = refl
map-plains (word ∷ rest) all = ap (λ (ws : List Text). word ∷ ws) (map-plains rest all.1)

-- the walk behind a word, and what is wrong there
abbrev turn_at : Shape → Walk → Text → Walk × Kinds
turn_at s w word = (walked s.rules [] w word, turn_fault s [] w word)

-- the same of a plain word, which is none of `clap`'s flags
abbrev plain_turn : Shape → Bool → Option (Text × List Text) → Walk → Text → Walk × Kinds
plain_turn s false None w word =
    let met = plain_word s.rules w.waiting word w.held in
    (after_step s.rules word w met.0 met.1, step_fault s w.position met.0 met.1)
plain_turn s trailing stopped w word = turn_at s w word

-- the same of a word
abbrev pub turn_of : Shape → Walk → Word → Walk × Kinds
turn_of s w (flag word) = turn_at s w word
turn_of s w (plain word is) = plain_turn s w.is_trailing w.stopped w word

turn_is : (s : Shape) (w : Walk) (word : Word) → turn_at s w (text_of word) ≡ turn_of s w word
unfolding walked
turn_is s w word = grind (arith, strip_dash, not_dashes)

-- ---- words in a row

-- the walk behind words, and what is wrong up to there
abbrev pub turns : Shape → Walk → List Word → Walk × Kinds
turns s w [] = (w, [])
turns s w (word ∷ rest) =
    let here = turn_of s w word in
    let later = turns s here.0 rest in
    (later.0, or_else here.1 later.1)

words_read : (s : Shape) (w : Walk) (words : List Word)
    → (fold (walked s.rules []) w (map text_of words), walk_fault s [] w (map text_of words)) ≡ turns s w words
unfolding walk_fault
words_read s w [] = refl
words_read s w (word ∷ rest) = grind (arith, turn_is s w word, words_read s (turn_of s w word).0 rest)

-- words behind words
pub turns-append : (s : Shape) (w : Walk) (xs ys : List Word)
    → turns s w (xs ++ ys) ≡ ((turns s (turns s w xs).0 ys).0, or_else (turns s w xs).1 (turns s (turns s w xs).0 ys).1)
turns-append s w [] ys = refl
turns-append s w (x ∷ xs) ys = grind (arith, or_assoc, turns-append s (turn_of s w x).0 xs ys)

-- ---- one file or more, as the last names of a command

-- files under this id, one or more
abbrev files_of : Text → Rule
files_of id = record (needed_file id) { range = Some (record { start_inclusive = 1; end_inclusive = usize_max }) }

module _ (id : Text) (place : ℕ) where
  -- the files, as they are built: in this place
  abbrev pub files_rule : Rule
  files_rule = with_index place (filled (files_of id))

  -- the walk behind some files, where these rows were found before them
  abbrev pub gathering : List Row → List Text → Walk
  gathering rows files = record {
    held = record { rows = rows; pending = Some (id, files); skip = 0 };
    waiting = positional;
    position = place;
    is_trailing = false;
    stopped = None;
  }

  same_id : bytes_eq id id ≡ true
  same_id = (bytes_eq-Decides id id).1 refl

  -- more files
  turns-plains : (s : Shape) → arg_by_index s.rules place ≡ Some files_rule
      → (rows : List Row) (files more : List Text) (all : AllByRecursion IsPlain more) (behind : List Word)
      → turns s (gathering rows files) (plains more all ++ behind) ≡ turns s (gathering rows (files ++ more)) behind
  turns-plains s met rows files [] all behind = rw append-nil refl
  turns-plains s met rows files (word ∷ more) all behind = grind (arith, same_id, append_assoc, turns-plains s met rows (files ++ word ∷ []) more all.1 behind)

  texts_pass : (texts : List Text) → values_fault files_rule texts ≡ []
  texts_pass [] = refl
  texts_pass (text ∷ texts) = texts_pass texts

  -- what is wrong with the files at the end
  abbrev pub files_fault : List Text → Kinds
  files_fault files = use_fault false files_rule files []

  -- as many files as a machine can name pass
  files_pass : (first : Text) (files : List Text) → length (first ∷ files) ≤ usize_max → files_fault (first ∷ files) ≡ []
  files_pass first files many = grind (arith, nat_tests, texts_pass files)

-- ---- all words

-- what the end of a command's words has wrong
abbrev pub last_fault : Shape → Held → Kinds
last_fault s h = or_else (settle_fault s.rules s.args_override_self h)
    (or_else (defaults_fault (settled s.rules h).rows s.rules) (check_fault s (finished s.rules h) false))

-- what is wrong with a command's words, and what they ask for
abbrev pub Comes : Text → List Text → Kinds → Asked → Type 0
Comes name words kinds asked = (faults_of (name ∷ words) ≡ kinds) × (asked_of (name ∷ words) ≡ asked)

-- what `clap` finds wrong with them stands at the end of the walk
parse_comes : {name : Text} (is : IsCommand name) (words : List Word)
    → (let end = turns (leaf name) start words in parse_faults (name ∷ map text_of words) ≡ or_else end.1 (last_fault (leaf name) end.0.held))
unfolding walk_fault
parse_comes {name = name} is words =
    let read = words_read (leaf name) start words in
    parse_faults_behind name is (map text_of words) ∙ or_nothing _ ∙ (λ i. or_else (read i).1 (last_fault (leaf name) (read i).0.held))

-- they come to what stands at the end of the walk
pub comes : {name : Text} → IsCommand name → (words : List Word) {end : Walk × Kinds} {kinds : Kinds} {asked : Asked} → turns (leaf name) start words ≡ end
    → value_faults_by name (finished (leaf name).rules end.0.held) ++ or_else end.1 (last_fault (leaf name) end.0.held) ≡ kinds
    → asked_by name (finished (leaf name).rules end.0.held) ≡ asked
    → Comes name (map text_of words) kinds asked
unfolding walk_fault
comes {name = name} is words run ends found =
    let read = words_read (leaf name) start words ∙ run in (
      faults_behind name is (map text_of words) ∙ (λ i. value_faults_by name (finished (leaf name).rules (read i).0.held) ++ or_nothing
          (or_else (read i).1 (last_fault (leaf name) (read i).0.held)) i) ∙ ends,
      asked_behind name is (map text_of words) ∙ (λ i. asked_by name (finished (leaf name).rules (read i).0.held)) ∙ found,
    )

-- the walk of a command over flags, the names as far as the first of its files, all of these, and the flags behind them has this
-- wrong, by what is with the files, and asks for this
abbrev pub FitsFiles : (id name : Text) (place : ℕ) (leading : List Word) (file : Text) (more : List Text) (before behind : List Word)
    → (Kinds → Kinds) → Asked → Type 0
FitsFiles id name place leading file more before behind kinds asked =
    let s = leaf name in
    let first = turns s start (before ++ leading) in
    let end = turns s (gathering id place first.0.held.rows (file ∷ more)) behind in
    ◌≡◌ {A = Option Rule × Walk × Kinds × Asked} (
      arg_by_index s.rules place,
      first.0,
      value_faults_by name (finished s.rules end.0.held) ++ or_else (or_else first.1 end.1)
          (last_fault s end.0.held),
      asked_by name (finished s.rules end.0.held),
    )
    (Some (files_rule id place), gathering id place first.0.held.rows (file ∷ []), kinds (files_fault id place (file ∷ more)), asked)

-- so the words come to this
pub files_come : (id : Text) {name : Text} → IsCommand name
    → (place : ℕ) (leading : List Word) (file : Text) (more : List Text) (all : AllByRecursion IsPlain more) → length (file ∷ more) ≤ usize_max
    → (before behind : List Word) (kinds : Kinds → Kinds) (asked : Asked) → FitsFiles id name place leading file more before behind kinds asked
    → Comes name (map text_of before ++ (map text_of leading ++ (more ++ map text_of behind))) (kinds []) asked
files_come id {name = name} is place leading file more all many before behind kinds asked fits =
    let s = leaf name in
    let first = turns s start (before ++ leading) in
    let rest = ap (λ (w : Walk). turns s w (plains more all ++ behind)) (λ i. (fits i).1)
    ∙ turns-plains id place s (λ i. (fits i).0) first.0.held.rows (file ∷ []) more all behind in
    let come = comes is ((before ++ leading) ++ (plains more all ++ behind))
    (turns-append s start (before ++ leading) (plains more all ++ behind) ∙ ap (λ (t : Walk × Kinds). (t.0, or_else first.1 t.1)) rest)
    ((λ i. (fits i).2) ∙ ap kinds (files_pass id place file more many)) (λ i. (fits i).3) in
    simp (map-append, map-plains, append_assoc) at come

-- the same of tables
abbrev pub FitsTables : (name : Text) (place : ℕ) (leading : List Word) (table : Text) (more : List Text) (before behind : List Word)
    → (Kinds → Kinds) → Asked → Type 0
FitsTables = FitsFiles (codes "TABLES")

-- a command's words, with one table or more behind its other names, come to what the walk over them does
pub tables_come : {name : Text} → IsCommand name → (place : ℕ) (leading : List Word) (table : Text) (more : List Text)
    (all : AllByRecursion IsPlain more) → length (table ∷ more) ≤ usize_max
    → (before behind : List Word) (kinds : Kinds → Kinds) (asked : Asked) → FitsTables name place leading table more before behind kinds asked
    → Comes name (map text_of before ++ (map text_of leading ++ (more ++ map text_of behind))) (kinds []) asked
tables_come is place leading table more all many before behind kinds asked fits =
    files_come (codes "TABLES") is place leading table more all many before behind kinds asked fits

-- words that lack what has to be there are mistaken
pub missing : {name : Text} → IsCommand name → (words : List Word)
    → (let end = turns (leaf name) start words in or_else end.1 (last_fault (leaf name) end.0.held) ≡ kind.MissingRequiredArgument ∷ [])
    → IsMistaken (name ∷ map text_of words)
missing {name = name} is words ends = mistaken_parse _ kind.MissingRequiredArgument [] (parse_comes {name = name} is words ∙ ends) (λ e. cc) (λ e. cc)

-- ---- numbers in words

-- the number that a text writes, or another where it writes none from low to high
abbrev pub number_within : ℕ → ℕ → ℕ → Text → ℕ
number_within low high other text = unwrap_or (number_written low high text) other

-- which texts without `-` `clap` takes as such numbers, which write one, and what is read of them
pub record Numbers : Type 0 where
  pub takes : Text → Bool
  pub writes : Text → Bool
  pub reads : Text → ℕ
  pub taken : (number : Text) → IsPlain number → takes number ≡ writes number
  pub read : (number : Text) → IsPlain number → writes number ≡ true → reads number ≡ number_of number

-- `clap` takes a text without `-` as a number from low to high exactly if it writes one
pub signed_taken : (low high : ℕ) → high < 2 ^ 63 → (number : Text) → IsPlain number
    → accepts false (parser.Signed (pos low) (pos high)) number ≡ writes_within low high number
signed_taken low high fits [] no_dash = refl
signed_taken low high fits (d ∷ number) no_dash = rw (ne_eqb d 45 no_dash) (grind (arith, nat_tests))

-- numbers from low to high, of a type that has negative ones, and otherwise another
abbrev pub signed : (low high other : ℕ) → high < 2 ^ 63 → Numbers
signed low high other fits = record {
  takes = accepts false (parser.Signed (pos low) (pos high));
  writes = writes_within low high;
  reads = λ text. number_within low high other (without_minus text);
  taken = signed_taken low high fits;
  read = λ number no_dash writes. rw (strip_dash number no_dash, writes);
}

-- numbers of workers
abbrev pub workers : Numbers
workers = signed 1 most_workers 1 (omega arith)

-- numbers that may be meant for a side
abbrev pub sides : Numbers
sides = signed 0 most_side 0 (omega arith)

-- bounds
abbrev pub bounds : Numbers
bounds = signed 0 255 0 (omega arith)

-- counts of parts
abbrev pub counts : Numbers
counts = signed 1 most_parts 1 (omega arith)

-- budgets
abbrev pub budgets : Numbers
budgets = record {
  takes = accepts false (parser.Unsigned 1 most_budget);
  writes = writes_budget;
  reads = number_within 1 most_budget usual_budget;
  taken = λ number no_dash. grind (arith, nat_tests);
  read = λ number no_dash writes. rw writes;
}

-- ---- words with a number

-- a flag with a number
abbrev pub numbered : Text → (number : Text) → IsPlain number → List Word
numbered name number is = flag name ∷ plain number is ∷ []

-- nothing is wrong with a number that is taken, behind it comes what else is
abbrev pub unless : Bool → Kinds → Kinds
unless is rest = or_else (or_else (if is then [] else kind.ValueValidation ∷ []) []) rest

-- words that are wrong for a number alone are mistaken
pub number_mistaken : (words : List Text) → faults_of words ≡ kind.ValueValidation ∷ [] → IsMistaken words
number_mistaken words is = mistaken words kind.ValueValidation [] is (λ e. cc) (λ e. cc)

-- the words ask for this if the test passes, and are mistaken if it doesn't
abbrev pub AsksIf : Bool → List Text → Asked → Type 0
AsksIf test words asked = (test ≡ true → AsksFor words asked) × (test ≡ false → IsMistaken words)

-- so do words whose faults, and what they ask for, hang on a text that is taken
pub asks_when : {A : Type 0} {name : Text} {words : List Text} (takes writes : Bool) (read meant : A) → takes ≡ writes
    → (writes ≡ true → read ≡ meant) → (kinds : Bool → Kinds) (asks : A → Asked)
    → Comes name words (kinds takes) (asks read) → kinds true ≡ [] → kinds false ≡ kind.ValueValidation ∷ [] → AsksIf writes (name ∷ words) (asks meant)
asks_when takes writes read meant taken is_read kinds asks come right wrong = (
  λ is. (come.0 ∙ ap kinds (taken ∙ is) ∙ right, come.1 ∙ ap asks (is_read is)),
  λ is. number_mistaken _ (come.0 ∙ ap kinds (taken ∙ is) ∙ wrong),
)

-- so do words whose faults, and what they ask for, hang on a number
pub asks_if : {name : Text} {words : List Text} (numbers : Numbers) (number : Text) → IsPlain number → (kinds : Bool → Kinds) (asks : ℕ → Asked)
    → Comes name words (kinds (numbers.takes number)) (asks (numbers.reads number)) → kinds true ≡ [] → kinds false ≡ kind.ValueValidation ∷ []
    → AsksIf (numbers.writes number) (name ∷ words) (asks (number_of number))
asks_if numbers number no_dash kinds asks come right wrong =
    asks_when (numbers.takes number) (numbers.writes number) (numbers.reads number) (number_of number) (numbers.taken number no_dash)
    (numbers.read number no_dash) kinds asks come right wrong
