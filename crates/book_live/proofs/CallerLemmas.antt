-- What callers of a book conclude from the steps of its seats.
use Rattle.std.proofs.Common.{◌≡◌, ℕ, zero, suc, ◌+◌, ◌<◌, List, [], ◌∷◌, ◌++◌, length, length-append, map, set, drop, get_or, true, Option, Some}
use Rattle.std.proofs.Common.{inl, inr, refl, sym, ap, ◌∙◌, subst, arith, slice_get}
use Rattle.std.proofs.lemmas.List.{length-set}
use mathlib.Core.Option.{some}
use lib.ListN.{get_elem?}
use Rattle.atomic_table.specs.Table.{State, Me}
use Rattle.atomic_table.proofs.Lists.{set_here, set_else, at_longer, at_last}
use Rattle.book_core.specs.Passes.{fresh}
use Rattle.book_core.specs.Books.{Book, start}
use Rattle.book_core.specs.Places.{IsLeast, IsAtMost}
use Rattle.book_core.specs.Shares.{NumberedPass, numbered_pass, all_fresh, IsCounted}
use Rattle.book_core.proofs.ListLemmas.{slice_get-push_cases}
use Rattle.book_core.proofs.LawLemmas.{BookLaw-all_drawn}
use Rattle.book_live.specs.declared.views.Sizes.{Sizes}
use Rattle.book_live.specs.declared.views.View.{View}
use Rattle.book_live.specs.Views.{view, alone, opening, first_alone, without_first}
use Rattle.book_live.specs.StoredPasses.{deeds_of}
use Rattle.book_live.specs.Shown.{IsInLimits, IsReachedBook, Shows, place_in_word}
use Rattle.book_live.specs.Steps.{opened, made}
use Rattle.book_live.specs.Callers.{BookId, PassState, all_deeds, IsEachDrawnOnce, IsOutcome, numbered_passes, ShowsEnd}
use Rattle.book_live.specs.Closing.{IsNewPass, HoldsAll, IsWhole}
use Rattle.book_live.proofs.ReachLemmas.{BookLaw-reached, jobs-reached}
use Rattle.book_live.proofs.SeatMoves.{Shows-opened, Shows-made}
use Rattle.book_live.proofs.WordLemmas.{place_of-word_of}

-- the seat of a pass of a book of these sizes
pub seat-alone : {S : Type 0} (me : Me S View) (number : ℕ) (z : Sizes) → me ≡ (alone me.0.sizes number (deeds_of me.0), []) → me.0.sizes ≡ z
    → me.0 ≡ alone z number (deeds_of me.0)
seat-alone me number z own sizes = ap (λ m. m.0) own ∙ ap (λ y. alone y number (deeds_of me.0)) sizes

-- ---- making the passes

-- the passes are the book's first ones, in the order of their numbers, and have done nothing yet
abbrev pub AreFirstPasses : BookId → List PassState → Type 0
AreFirstPasses b passes = (k : ℕ) (p : PassState) → slice_get passes k ≡ Some p → IsNewPass b k p

-- with a new pass of the next number at the end, the passes are the book's first ones again
pub AreFirstPasses-push : (b : BookId) (passes more : List PassState) (x : PassState) → more ≡ passes ++ x ∷ [] → AreFirstPasses b passes
    → IsNewPass b (length passes) x → AreFirstPasses b more
AreFirstPasses-push b passes more x is each one k p e = elim (slice_get-push_cases passes k x p (ap (λ l. slice_get l k) (sym is) ∙ e)) [
  | inl old ↦ each k p old
  | inr new ↦ subst (IsNewPass b k) new.1 (subst (λ n. IsNewPass b n x) (sym new.0) one)
]

-- the start is shown, with these passes in seats of their own and the rest in the seat 0
abbrev pub ShowsFirst : BookId → View → List PassState → Type 0
ShowsFirst b rest passes =
    (s : State (Unit {0}) View)
    × Shows b.sizes (start b.sizes.jobs b.sizes.workers) s
    × (get_elem? s.views 0 ≡ some rest)
    × (length s.views ≡ length passes + 1)
    × ((k : ℕ) (p : PassState) → slice_get passes k ≡ Some p → get_elem? s.views (k + 1) ≡ some (alone b.sizes p.number p.deeds))

-- a book that was just opened shows the start, with all passes in the seat 0 and none in a seat of its own
pub ShowsFirst-opened : (b : BookId) → IsInLimits b.sizes → ShowsFirst b (opening b.sizes) []
ShowsFirst-opened b limits = (opened b.sizes, Shows-opened b.sizes limits, refl, refl, λ k p e. cc)

-- where the first pass of the rest gets a seat of its own, the start is shown with one pass more
pub ShowsFirst-push : (b : BookId) (rest : View) (passes more : List PassState) (x : PassState) → more ≡ passes ++ x ∷ []
    → first_alone rest ≡ alone b.sizes x.number x.deeds → ShowsFirst b rest passes → ShowsFirst b (without_first rest) more
ShowsFirst-push b rest passes more x is one h =
    let s = h.0 in
    let views = s.views in
    let cut = set views 0 (without_first rest) in
    let long : length cut ≡ length passes + 1 = length-set views 0 (without_first rest) ∙ h.3 in (
      made s 0 rest,
      Shows-made b.sizes (start b.sizes.jobs b.sizes.workers) s h.1 0 rest h.2,
      at_longer cut (first_alone rest ∷ []) 0 (without_first rest) (set_here views 0 (without_first rest) (omega (arith, h.3))),
      omega (arith, long, length-append cut (first_alone rest ∷ []), length-append passes (x ∷ []), ap length is),
      λ k p e. elim (slice_get-push_cases passes k x p (ap (λ l. slice_get l k) (sym is) ∙ e)) [
        | inl old ↦ at_longer cut (first_alone rest ∷ []) (k + 1) (alone b.sizes p.number p.deeds)
            (set_else views 0 (k + 1) (without_first rest) (λ z. absurd (omega (arith, z))) ∙ h.4 k p old)
        | inr new ↦
            let last : get_elem? (cut ++ first_alone rest ∷ []) (k + 1) ≡ some (alone b.sizes x.number x.deeds) =
            at_last cut (first_alone rest) (k + 1) (omega (arith, long, new.0)) ∙ ap some one in
            subst (λ (y : PassState). get_elem? (cut ++ first_alone rest ∷ []) (k + 1) ≡ some (alone b.sizes y.number y.deeds)) new.1 last
      ],
    )

-- the seat that is cut off stands for the first of the passes that are left
pub first-seat : {S : Type 0} (new me : Me S View) (z : Sizes) (k n m : ℕ) → new ≡ (first_alone me.0, []) → me ≡ (view z (all_fresh k n), [])
    → n ≡ suc m → new ≡ (alone z k fresh, [])
first-seat new me z k n m is was e = is ∙ ap (λ (x : Me _ View). (first_alone x.0, [])) was ∙ ap (λ j. (first_alone (view z (all_fresh k j)), [])) e

-- and the others stay
pub other-seats : {S : Type 0} (new me : Me S View) (z : Sizes) (k n m : ℕ) → new ≡ (without_first me.0, me.1) → me ≡ (view z (all_fresh k n), [])
    → n ≡ suc m → new ≡ (view z (all_fresh (k + 1) m), [])
other-seats new me z k n m is was e =
    let up : suc k ≡ k + 1 = omega arith in
    is ∙ ap (λ (x : Me _ View). (without_first x.0, x.1)) was ∙ ap (λ j. (without_first (view z (all_fresh k j)), [])) e
    ∙ ap (λ j. (view z (all_fresh j m), [])) up

-- ---- closing the book

-- the first pass and the others behind it
pub first-and-others : (passes others : List PassState) (first : PassState) → 0 < length passes → first ≡ get_or passes 0 first
    → others ≡ drop 1 passes → passes ≡ first ∷ others
first-and-others [] others first any read is = absurd (omega arith)
first-and-others (p ∷ passes) others first any read is = λ i. sym read i ∷ sym is i

-- the closing seat, which was that of the first pass and took in the others, stands for all passes
pub closing-view : {S : Type 0} (me : Me S View) (number : ℕ) (z : Sizes) (passes others : List PassState) (first : PassState) (v : View)
    → me ≡ (alone me.0.sizes number (deeds_of me.0), []) → number ≡ first.number → deeds_of me.0 ≡ first.deeds
    → me.0.sizes ≡ z → passes ≡ first ∷ others → v ≡ view me.0.sizes (me.0.held ++ numbered_passes others) → v ≡ view z (numbered_passes passes)
closing-view me number z passes others first v own n d sizes all is =
    is ∙ ap (λ (m : Me _ View). view me.0.sizes (m.0.held ++ numbered_passes others)) own
    ∙ (λ i. view (sizes i) (numbered_pass (n i) (d i) ∷ numbered_passes others)) ∙ ap (λ ps. view z (numbered_passes ps)) (sym all)

length-numbered_passes : (passes : List PassState) → length (numbered_passes passes) ≡ length passes
length-numbered_passes [] = refl
length-numbered_passes (p ∷ passes) = omega (arith, length-numbered_passes passes)

map-numbered_passes : (passes : List PassState) → map (λ (h : NumberedPass). h.deeds) (numbered_passes passes) ≡ all_deeds passes
map-numbered_passes [] = refl
map-numbered_passes (p ∷ passes) = λ i. p.deeds ∷ map-numbered_passes passes i

IsCounted-numbered_passes : (n : ℕ) (passes : List PassState) → ((k : ℕ) (p : PassState) → slice_get passes k ≡ Some p → p.number ≡ n + k)
    → IsCounted n (numbered_passes passes)
IsCounted-numbered_passes n [] each = tt
IsCounted-numbered_passes n (p ∷ passes) each = (
  omega (arith, each 0 p refl),
  IsCounted-numbered_passes (suc n) passes (λ k q e. omega (arith, each (suc k) q e)),
)

-- a seat with as many passes as workers, each with its place as number, has all passes of the book
pub HoldsAll-numbered_passes : (z : Sizes) (passes : List PassState) (v : View) → v ≡ view z (numbered_passes passes) → length passes ≡ z.workers
    → ((k : ℕ) (p : PassState) → slice_get passes k ≡ Some p → p.number ≡ k) → HoldsAll z v
HoldsAll-numbered_passes z passes v is count each = (
  ap (λ (u : View). length u.held) is ∙ length-numbered_passes passes
      ∙ count,
  subst (λ (u : View). IsCounted 0 u.held) (sym is) (IsCounted-numbered_passes 0 passes (λ k p e. omega (arith, each k p e))),
)

-- where the whole book is in one seat, its words and views show the end with these passes and the word's place
pub ShowsEnd-whole : (b : BookId) (passes : List PassState) (v : View) (word : ℕ) → v ≡ view b.sizes (numbered_passes passes)
    → IsWhole b.sizes v word → ShowsEnd b passes (place_in_word word)
ShowsEnd-whole b passes v word is whole = record {
  state = whole.state;
  book = whole.book;
  reached = whole.reached;
  shows = whole.shows;
  seat = whole.seat;
  own = whole.own ∙ ap some is;
  done = whole.done ∙ ap (λ (u : View). map (λ (h : NumberedPass). h.deeds) u.held) is ∙ map-numbered_passes passes;
  least = sym (place_of-word_of whole.book (BookLaw-reached b.sizes whole.book whole.reached)) ∙ ap place_in_word whole.least;
}

-- where the end of a book is shown, some events lead the machine to what its passes have done
pub IsOutcome-end : (b : BookId) (passes : List PassState) (least : Option ℕ) → ShowsEnd b passes least → IsOutcome b passes least
IsOutcome-end b passes least end =
    let c = end.book in
    let jobs = jobs-reached b.sizes c end.reached in
    let same : c ≡ record { jobs = b.sizes.jobs; next = c.next; least = least; passes = all_deeds passes } =
    λ i. record { jobs = jobs i; next = c.next; least = end.least i; passes = end.done i } in
    (c.next, subst (IsReachedBook b.sizes) same end.reached)

-- what the k-th pass has done is the k-th of what all passes have done
pub slice_get-all_deeds : (passes : List PassState) (k : ℕ) (p : PassState) → slice_get passes k ≡ Some p → slice_get (all_deeds passes) k ≡ Some p.deeds
slice_get-all_deeds [] k p e = cc
slice_get-all_deeds (q ∷ passes) zero p e = let is : q ≡ p = cc in ap (λ (x : PassState). Some x.deeds) is
slice_get-all_deeds (q ∷ passes) (suc k) p e = slice_get-all_deeds passes k p e

module _ (b : BookId) (passes : List PassState) (least : Option ℕ) (out : IsOutcome b passes least) where
  outcome : Book
  outcome = record { jobs = b.sizes.jobs; next = out.0; least = least; passes = all_deeds passes }

  -- in an outcome, the least place is the least of those that the passes have reported
  pub IsLeast-outcome : IsLeast least (all_deeds passes)
  unfolding outcome
  IsLeast-outcome = (BookLaw-reached b.sizes outcome out.1).least

  -- in an outcome, the least place isn't above what any of the passes has seen
  pub IsAtMost-outcome : (k : ℕ) (d : PassState) → k < length passes → IsAtMost least (get_or passes k d).deeds.seen
  unfolding outcome
  IsAtMost-outcome k d within =
      let p = get_or passes k d in
      (BookLaw-reached b.sizes outcome out.1).seen k p.deeds (slice_get-all_deeds passes k p (get_or-slice_get passes k d within))
    where
      get_or-slice_get : (ps : List PassState) (k : ℕ) (d : PassState) → k < length ps → slice_get ps k ≡ Some (get_or ps k d)
      get_or-slice_get [] k d within = absurd (omega arith)
      get_or-slice_get (p ∷ ps) zero d within = refl
      get_or-slice_get (p ∷ ps) (suc k) d within = get_or-slice_get ps k d (omega arith)

  -- once some pass has ended, each job was drawn
  pub IsEachDrawnOnce-outcome : (k : ℕ) (p : PassState) → slice_get passes k ≡ Some p → p.deeds.ended ≡ true → IsEachDrawnOnce b passes
  unfolding outcome
  IsEachDrawnOnce-outcome k p at done = BookLaw-all_drawn outcome (BookLaw-reached b.sizes outcome out.1) k p.deeds (slice_get-all_deeds passes k p at) done
