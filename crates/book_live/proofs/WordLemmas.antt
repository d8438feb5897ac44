-- The word that stands for the least place, or for none.
use Rattle.std.proofs.Common.{◌≡◌, ℕ, ◌<◌, ◌^◌, cond, min, Option, Some, None, refl, ap, arith}
use Rattle.std.proofs.lemmas.Bool.{lt-ltb}
use Rattle.book_core.specs.Books.{Book}
use Rattle.book_core.specs.Places.{lesser, IsLeast}
use Rattle.book_core.specs.Laws.{BookLaw}
use Rattle.book_live.specs.Shown.{word_of, place_in_word}

-- the word of the lesser of the least place and another is the smaller of the least one's word and that place
pub word_of-lesser : (o : Option ℕ) (place : ℕ) → place < 2 ^ 32 → word_of (Some (lesser o place)) ≡ min (word_of o) place
word_of-lesser None place small = omega arith
word_of-lesser (Some least) place small = refl

-- a place is told from its word, since places are small
pub place_of-word_of : (b : Book) → BookLaw b → place_in_word (word_of b.least) ≡ b.least
place_of-word_of b law = go b.least law.least
  where
    go : (o : Option ℕ) → IsLeast o b.passes → place_in_word (word_of o) ≡ o
    go None l = refl
    go (Some place) l = ap (λ t. cond {A = Option ℕ} t (Some place) None) (lt-ltb place (2 ^ 32) (law.small place l.0))
