-- The shares of all seats, by their views.
use Rattle.std.proofs.Common.{◌≡◌, ℕ, zero, suc, List, [], ◌∷◌, ◌++◌, set, Some, refl, sym, ap, slice_get}
use mathlib.Core.Option.{some, some-injective, some-ne-none}
use lib.ListN.{get_elem?}
use Rattle.book_live.specs.declared.views.View.{View}
use Rattle.book_live.specs.Views.{shares}

-- the share of the view with a number is the share with that number
pub share-at : (views : List View) (i : ℕ) (v : View) → get_elem? views i ≡ some v → slice_get (shares views) i ≡ Some v.held
share-at [] i v e = absurd (some-ne-none v (sym e))
share-at (x ∷ views) zero v e = ap (λ (y : View). Some y.held) (some-injective _ _ e)
share-at (x ∷ views) (suc i) v e = share-at views i v e

-- where one view is replaced, its share is replaced in the list of shares
pub shares-set : (views : List View) (i : ℕ) (v : View) → shares (set views i v) ≡ set (shares views) i v.held
shares-set [] i v = refl
shares-set (x ∷ views) zero v = refl
shares-set (x ∷ views) (suc i) v = ap (λ l. x.held ∷ l) (shares-set views i v)

-- where one view comes to the end, its share comes to the end of the list of shares
pub shares-push : (views : List View) (v : View) → shares (views ++ v ∷ []) ≡ shares views ++ v.held ∷ []
shares-push [] v = refl
shares-push (x ∷ views) v = ap (λ l. x.held ∷ l) (shares-push views v)
