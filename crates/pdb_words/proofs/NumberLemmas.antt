-- What is read of a text that writes a number.
use Rattle.std.proofs.Common.{◌≡◌, ◌<◌, ◌^◌, ◌&&◌, arith, ℕ, List, [], ◌∷◌, nat_le, nat_lt}
use Rattle.std.specs.Bool.{Decides}
use Rattle.std.specs.Char.{digit_value}
use Rattle.std.specs.List.{list_all}
use Rattle.std.specs.Prelude.{Option, Some, None, Result, if◌then◌else◌, option_and_then}
use Rattle.std.specs.Str.Parse.{AllDigits, ExplainsUnsignedError, HasUnsignedDigitsIfOk, ParsesUnsigned, without_leading_plus}
use Rattle.std.specs.declared.num.ParseIntError.{ParseIntError}
use Rattle.std.proofs.lemmas.Bool.Decides.{nat_tests}
use Rattle.clap.proofs.WalkLemmas.{one_text-rows}
use Rattle.clap.specs.Walk.{Text}
use Rattle.clap.specs.Words.{ReadsOne, found_of, one_text, rows_of}
use Rattle.clap.specs.declared.ArgMatches.{ArgMatches}
use Rattle.pdb_words.specs.Numbers.{number_written, optional_number_in}

-- digits in a radix, as a test
pub digits_tested : (radix : ℕ) (ds : List ℕ) → Decides (list_all (λ d. nat_lt (digit_value d) radix) ds) (AllDigits radix ds)
digits_tested radix [] = grind arith
digits_tested radix (d ∷ ds) = grind (arith, nat_tests, digits_tested radix ds)

-- what `u64` makes of a text
abbrev pub Gives : Text → Result ℕ ParseIntError → Type 0
Gives text r = ParsesUnsigned 64 10 text r × ExplainsUnsignedError 10 text r × HasUnsignedDigitsIfOk text r

module _ (low high : ℕ) (fits : high < 2 ^ 64) where
  -- a number from low to high, and none otherwise
  abbrev pub if_within : ℕ → Option ℕ
  if_within n = if nat_le low n && nat_le n high then Some n else None

  text_read : (text : Text) (read : Option ℕ) → ReadsOne Gives text read → option_and_then if_within read ≡ number_written low high text
  text_read text read reads = grind (arith, nat_tests, digits_tested 10 (without_leading_plus text))

  -- what `get_one` read of a text that may be missing: the number where it is one from low to high
  pub number_read : (m : ArgMatches) (id : Text) (read : Option ℕ) → (one_text (found_of m) id ≡ None → read ≡ None)
      → ((text : Text) → one_text (found_of m) id ≡ Some text → ReadsOne Gives text read)
      → option_and_then if_within read ≡ optional_number_in low high id (rows_of (found_of m))
  number_read m id read none value = grind (arith, text_read, one_text-rows (found_of m) id)
