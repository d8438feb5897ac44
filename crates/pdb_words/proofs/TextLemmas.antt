-- Texts: which are the same, which are among others, and which don't begin with `-`.
use Rattle.std.proofs.Common.{◌≡◌, ◌⊎◌, arith, inl, inr, refl, sym, subst, false, true, ℕ, List, [], ◌∷◌, None}
use Rattle.std.specs.List.{AllByRecursion, find, list_all}
use Rattle.std.specs.Prelude.{map}
use Rattle.std.specs.Str.{bytes_eq}
use Rattle.std.proofs.lemmas.Bool.Decides.{nat_tests}
use Rattle.std.proofs.lemmas.Slice.Eq.{bytes_eq-Decides}
use Rattle.clap.specs.Lexer.{strip_byte}
use Rattle.clap.specs.Walk.{Text, answers_to}
use Rattle.pdb_words.specs.Commands.{IsOneOf, IsPlain}
use Rattle.pdb_words.specs.Faults.{is_plain_byte, plain_byte}

-- texts with the same bytes are the same
pub same_text : (a b : Text) → bytes_eq a b ≡ true → a ≡ b
same_text a b = (bytes_eq-Decides a b).0

-- what holds of each text holds of one of them
pub each_holds : (P : Text → Type 0) (texts : List Text) → AllByRecursion P texts → (text : Text) → IsOneOf texts text → P text
each_holds P [] all text is = absurd is
each_holds P (first ∷ rest) all text (inl same) = subst P (sym same) all.0
each_holds P (first ∷ rest) all text (inr later) = each_holds P rest all.1 text later

-- a word is one of the names, which are without aliases, or answers to none
pub named : (word : Text) (names : List Text) → IsOneOf names word ⊎ (find (answers_to word) (map (λ name. (name, [])) names) ≡ None)
named word [] = inr refl
named word (name ∷ rest) = grind (arith, same_text name word, named word rest)

-- a text that doesn't begin with `-` is no flag
pub strip_dash : (text : Text) → IsPlain text → strip_byte 45 text ≡ None
strip_dash text plain = grind (arith, nat_tests)

-- a text that doesn't begin with `-` is not `--`
pub not_dashes : (text : Text) → IsPlain text → bytes_eq text (45 ∷ 45 ∷ []) ≡ false
not_dashes text plain = grind (arith, nat_tests)

-- what is shown for bytes is plain
pub all_plain : (bytes : List ℕ) → list_all is_plain_byte (map plain_byte bytes) ≡ true
all_plain [] = refl
all_plain (byte ∷ bytes) = grind (arith, nat_tests, all_plain bytes)

-- both, for a text that doesn't begin with `-`
pub ruleset dashless = (strip_dash, not_dashes)
