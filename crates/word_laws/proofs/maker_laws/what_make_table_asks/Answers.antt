use Rattle.std.proofs.Common.{◌≡◌, ◌∙◌, ap, inl, inr, refl, ℕ, Bool, true, false, List, [], ◌∷◌, ◌++◌, codes}
use Rattle.std.specs.Prelude.{if◌then◌else◌, unwrap_or}
use Rattle.clap.proofs.OnLiterals.{clap_on_literals}
use Rattle.clap.specs.Kinds.{Kinds, or_else}
use Rattle.clap.specs.Walk.{Text}
use Rattle.clap.specs.declared.error.kind.ErrorKind.TheVariants as kind
use Rattle.pdb_request.specs.Asked.{Asked, make_table}
use Rattle.pdb_words.specs.CommandLine.{faults_of}
use Rattle.pdb_words.specs.Commands.{IsCommand}
use Rattle.pdb_words.specs.Faults.{IsMistaken}
use Rattle.pdb_words.specs.Commands.{IsPlain}
use Rattle.pdb_words.specs.Masks.{mask_written}
use Rattle.pdb_words.proofs.CommandLemmas.{mistaken}
use Rattle.word_laws.proofs.WalkLemmas.{Comes, Word, comes, flag, plain, sides, unless, workers}
use Rattle.word_laws.proofs.maker_laws.what_make_table_asks.Goals as goal
use Rattle.word_laws.specs.Asking.{AsksFor}
use Rattle.word_laws.specs.MakeTableWords.{PatternWords, WritesPattern, asks_for_table, pattern_words}
use Rattle.word_laws.specs.NumberTexts.{writes_mask}

is_command : IsCommand (codes "make-table")
is_command = inr (inr (inr (inr (inl refl))))

-- what is wrong with a word for a mask, and besides
abbrev masked : Bool → Kinds → Kinds
masked writes rest = (if writes then [] else kind.ValueValidation ∷ []) ++ rest

-- what is wrong with a number of workers, a side and a mask, by which are taken, where the workers come first or last
abbrev workers_first : Bool → Bool → Bool → Kinds
workers_first workers side mask = masked mask (or_else (unless workers (unless side [])) [])

abbrev workers_last : Bool → Bool → Bool → Kinds
workers_last workers side mask = masked mask (or_else (unless side []) (unless workers []))

-- words of which something is wrong with a number or the mask
some_wrong : (words : List Text) (kinds : Kinds) → faults_of words ≡ kind.ValueValidation ∷ kinds → IsMistaken words
some_wrong words kinds is = mistaken words kind.ValueValidation kinds is (λ e. cc) (λ e. cc)

-- where a side or the workers aren't taken, something is wrong whatever the mask
either_wrong : (words : List Text) (mask : Bool) → faults_of words ≡ masked mask (kind.ValueValidation ∷ []) → IsMistaken words
either_wrong words true is = some_wrong words [] is
either_wrong words false is = some_wrong words (kind.ValueValidation ∷ []) is

-- of a side, a mask and no name, what isn't taken first is the mistake
nameless : (words : List Text) (side mask : Bool) → faults_of words ≡ masked mask (or_else (unless side []) (kind.MissingRequiredArgument ∷ []))
    → IsMistaken words
nameless words true true e = mistaken words kind.MissingRequiredArgument [] e (λ e. cc) (λ e. cc)
nameless words false true e = some_wrong words [] e
nameless words side false e = some_wrong words _ e

module _ (words : PatternWords) where
  abbrev whole : List Word
  whole = plain words.side words.plain_side ∷ plain words.mask words.plain_mask ∷ plain words.out words.plain_out ∷ []

  abbrev side : Bool
  side = sides.takes words.side

  abbrev mask : Bool
  mask = writes_mask words.mask

  abbrev made : ℕ → ℕ → Asked
  made side workers = make_table (record { side = side; mask = unwrap_or (mask_written words.mask) 0; out = words.out; replace = false; workers = workers })

  abbrev ComesTo : List Text → Kinds → ℕ → Type 0
  ComesTo ws kinds workers = Comes (codes "make-table") ws kinds (made (sides.reads words.side) workers)

  alone : ComesTo (pattern_words words) (workers_last true side mask) 1
  unfolding clap_on_literals
  alone = comes is_command whole refl refl refl

  first : (number : Text) → IsPlain number → ComesTo (codes "--workers" ∷ number ∷ pattern_words words)
      (workers_first (workers.takes number) side mask) (workers.reads number)
  unfolding clap_on_literals
  first number n = comes is_command (flag (codes "--workers") ∷ plain number n ∷ whole) refl refl refl

  last : (number : Text) → IsPlain number → ComesTo (pattern_words words ++ codes "--workers" ∷ number ∷ [])
      (workers_last (workers.takes number) side mask) (workers.reads number)
  unfolding clap_on_literals
  last number n = comes is_command (whole ++ flag (codes "--workers") ∷ plain number n ∷ []) refl refl refl

  asked : (ws : List Text) {taken : Bool} {read workers : ℕ} (kinds : Bool → Bool → Bool → Kinds) → ComesTo ws (kinds taken side mask) read
      → kinds true true true ≡ []
      → WritesPattern words → taken ≡ true → read ≡ workers → AsksFor (codes "make-table" ∷ ws) (asks_for_table words workers)
  asked ws kinds come right writes taken read = (
    come.0 ∙ (λ i. kinds (taken i) ((sides.taken words.side words.plain_side ∙ writes.0) i) (writes.1 i)) ∙ right,
    come.1 ∙ (λ i. made (sides.read words.side words.plain_side writes.0 i) (read i)),
  )

later_wrong : (side : Bool) → or_else (unless side []) (unless false []) ≡ kind.ValueValidation ∷ []
later_wrong true = refl
later_wrong false = refl

-- make-table with a side, a mask and a name asks for the table of this pattern under the name
pub returns : goal.returns
unfolding clap_on_literals
returns c = record {
  numbers = λ words writes. asked words (pattern_words words) workers_last (alone words) refl writes refl refl;
  other_side = λ words is. either_wrong _ (mask words)
      ((alone words).0 ∙ ap (λ (s : Bool). workers_last true s (mask words)) (sides.taken words.side words.plain_side ∙ is));
  other_mask = λ words is. some_wrong _ _ ((alone words).0 ∙ ap (workers_last true (side words)) is);
  no_name = λ side mask s m. nameless _ (sides.takes side) (writes_mask mask) (comes is_command (plain side s ∷ plain mask m ∷ []) refl refl refl).0;
  workers = λ words number n is writes. asked words (codes "--workers" ∷ number ∷ pattern_words words) workers_first
      (first words number n) refl writes (workers.taken number n ∙ is) (workers.read number n is);
  other_workers = λ words number n is. either_wrong _ (mask words)
      ((first words number n).0 ∙ ap (λ (t : Bool). workers_first t (side words) (mask words)) (workers.taken number n ∙ is));
  workers_last = λ words number n is writes. asked words (pattern_words words ++ codes "--workers" ∷ number ∷ []) workers_last
      (last words number n) refl writes (workers.taken number n ∙ is) (workers.read number n is);
  other_workers_last = λ words number n is. either_wrong _ (mask words)
      ((last words number n).0 ∙ ap (λ (t : Bool). workers_last t (side words) (mask words)) (workers.taken number n ∙ is)
      ∙ ap (masked (mask words)) (later_wrong (side words)));
}
