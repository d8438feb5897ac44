-- Words of tables, one after the other.
use Rattle.std.proofs.Common.{◌≡◌, ◌∙◌, ◌⊎◌, ℕ, zero, suc, List, [], ◌∷◌, ◌++◌, Some, None, inl, inr, ap, length, refl, slice_get, sym}
use Rattle.edge_words.specs.Words.{ShownWords}
use Rattle.set_sum.specs.Bundles.{ShownBundle}
use Rattle.puz_walk.specs.WordBundles.{pattern_at}

-- an element of a list with one more is one of the list, or that one
get_push : {X : Type 0} (xs : List X) (y x : X) (t : ℕ) → slice_get (xs ++ y ∷ []) t ≡ Some x
    → (slice_get xs t ≡ Some x) ⊎ ((t ≡ length xs) × (x ≡ y))
get_push [] y x zero is = inr (refl, (let s : Some y ≡ Some x = is in cc))
get_push [] y x (suc t) is = absurd (let s : None ≡ Some x = is in cc)
get_push (z ∷ xs) y x zero is = inl is
get_push (z ∷ xs) y x (suc t) is = elim (get_push xs y x t is) [
  | inl there ↦ inl there
  | inr last ↦ inr (ap suc last.0, last.1)
]

-- the words of one table more
pub more_words : (v : ShownBundle) (all : List ShownWords) (words : ShownWords)
    → ((t : ℕ) (w : ShownWords) → slice_get all t ≡ Some w → w.pattern ≡ pattern_at v t) → words.pattern ≡ pattern_at v (length all)
    → (t : ℕ) (w : ShownWords) → slice_get (all ++ words ∷ []) t ≡ Some w → w.pattern ≡ pattern_at v t
more_words v all words each here t w is = elim (get_push all words w t is) [
  | inl there ↦ each t w there
  | inr last ↦ ap (λ x. x.pattern) last.1 ∙ here ∙ ap (pattern_at v) (sym last.0)
]
