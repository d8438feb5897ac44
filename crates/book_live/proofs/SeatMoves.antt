-- Making and joining seats changes no word, and the passes stay shared out.
use Rattle.std.proofs.Common.{◌≡◌, ◌≢◌, ℕ, List, [], ◌∷◌, ◌++◌, set, zero, suc, refl, sym, ap, ◌∙◌, subst, slice_index}
use mathlib.Core.Option.{some, some-injective, some-ne-none}
use lib.ListN.{get_elem?}
use Rattle.atomic_table.specs.Table.{State, Splits, Joins, Seen}
use Rattle.atomic_table.proofs.Lists.{set_else}
use Rattle.book_core.specs.Books.{Book, start}
use Rattle.book_core.specs.Shares.{IsDealt, first, others}
use Rattle.book_core.proofs.ShareLemmas.{IsDealt-start, IsDealt-cut, IsDealt-join, IsDealt-whole}
use Rattle.book_live.specs.declared.views.Sizes.{Sizes}
use Rattle.book_live.specs.declared.views.View.{View}
use Rattle.book_live.specs.Views.{shares, first_alone, without_first, together, spent}
use Rattle.book_live.specs.Shown.{IsInLimits, Shows, Shown}
use Rattle.book_live.specs.Steps.{opened, made, taken_in}
use Rattle.book_live.specs.Closing.{HoldsAll, IsWhole}
use Rattle.book_live.proofs.ViewLemmas.{share-at, shares-set, shares-push}
use Rattle.book_live.proofs.ReachLemmas.{IsReached-start, passes-reached}

-- the words and the one seat of a book that was just opened show the start of the machine
pub Shows-opened : {S : Type 0} (z : Sizes) → IsInLimits z → Shows {S = S} z (start z.jobs z.workers) (opened z)
Shows-opened z limits = record {
  limits = limits;
  words = refl;
  next = refl;
  least = refl;
  dealt = IsDealt-start z.jobs z.workers;
}

module _ {S : Type 0} (z : Sizes) (b : Book) (s : State S View) (shows : Shows z b s) (id : ℕ) (v : View) (at : get_elem? s.views id ≡ some v) where
  -- where the first pass of a seat gets a new seat, the words and the views show the same book
  pub Shows-made : Shows z b (made s id v)
  Shows-made =
      let is : shares (set s.views id (without_first v) ++ first_alone v ∷ []) ≡ set (shares s.views) id (others v.held) ++ first v.held ∷ [] =
      shares-push (set s.views id (without_first v)) (first_alone v) ∙ ap (λ l. l ++ first v.held ∷ []) (shares-set s.views id (without_first v)) in
      record {
        limits = shows.limits;
        words = shows.words;
        next = shows.next;
        least = shows.least;
        dealt = subst (IsDealt b) (sym is) (IsDealt-cut b (shares s.views) shows.dealt id v.held (share-at s.views id v at));
      }

  -- where a seat takes in the passes of another one, the words and the views show the same book
  pub Shows-joined : (other : ℕ) (u : View) → other ≢ id → get_elem? s.views other ≡ some u → Shows z b (taken_in s id v other u)
  Shows-joined other u apart there =
      let w = together v u in
      let vs = set s.views id w in
      let is : shares (set vs other spent) ≡ set (set (shares s.views) id w.held) other [] =
      shares-set vs other spent ∙ ap (λ l. set l other []) (shares-set s.views id w) in
      record {
        limits = shows.limits;
        words = shows.words;
        next = shows.next;
        least = shows.least;
        dealt = subst (IsDealt b) (sym is) (IsDealt-join b (shares s.views) shows.dealt id other v.held u.held apart (share-at s.views id v at)
            (share-at s.views other u there));
      }

-- what is shown of a book that was just opened is one that the machine reaches
pub Shown-opening : {S : Type 0} (z : Sizes) → IsInLimits z → Shown {S = S} z (opened z)
Shown-opening z limits = (start z.jobs z.workers, IsReached-start z, Shows-opened z limits)

-- a seat may be cut into its first pass and the others: a book that the machine reaches stays shown
pub splits-first : {S : Type 0} (z : Sizes) (id : ℕ) (v : View) → Splits {S = S} (Shown z) id v (without_first v) (first_alone v)
splits-first z id v s h at = (h.0, h.1, Shows-made z h.0 s h.2 id v at)

-- a seat may take in the passes of another behind its own: a book that the machine reaches stays shown
pub joins-behind : {S : Type 0} (z : Sizes) (id other : ℕ) (v u : View) → Joins {S = S} (Shown z) id v other u (together v u) spent
joins-behind z id other v u s h at apart there =
    (h.0, h.1, Shows-joined z h.0 s h.2 id v at other u apart (sym (set_else s.views id other (together v u) apart) ∙ there))

-- where a seat with all passes was seen in a state, the machine reaches what it shows, with the least of its second word
pub IsWhole-seen : (z : Sizes) (id : ℕ) (v : View) (s : State (Unit {0}) View) → HoldsAll z v → Seen (Shown z) id v s → IsWhole z v (slice_index s.words 1)
IsWhole-seen z id v s all h =
    let b = h.0.0 in
    let reached = h.0.1 in
    let shows = h.0.2 in
    record {
      state = s;
      book = b;
      reached = reached;
      shows = shows;
      seat = id;
      own = h.1;
      done = IsDealt-whole b (shares s.views) shows.dealt id v.held (share-at s.views id v h.1) (all.0 ∙ sym (passes-reached z b reached)) all.1;
      least = sym shows.least;
    }

-- the word that is found at a number in a list of words is the one read there
pub slice_index-at : (ws : List ℕ) (i n : ℕ) → get_elem? ws i ≡ some n → slice_index ws i ≡ n
slice_index-at [] i n e = absurd (some-ne-none n (sym e))
slice_index-at (x ∷ ws) zero n e = some-injective _ _ e
slice_index-at (x ∷ ws) (suc i) n e = slice_index-at ws i n e
