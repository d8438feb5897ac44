-- Each step of a pass is its one event: the words and the views then show the book after it.
use Rattle.std.proofs.Common.{◌≡◌, ℕ, ◌+◌, ◌%◌, ◌^◌, ◌<◌, ◌≤◌, cond, List, length, set, min, false, Some, Ok, refl, sym, ap, ◌∙◌, subst, inl, inr}
use Rattle.std.proofs.Common.{arith, slice_get, slice_index}
use Rattle.std.proofs.lemmas.List.{get_or-set_same, get_or-set_other, length-set, set-get_or}
use Rattle.std.proofs.lemmas.Bool.{cases_lt, lt-ltb, le-ltb}
use Rattle.std.proofs.Math.Nat.{mod-eq_of_lt}
use mathlib.Core.Option.{some}
use lib.ListN.{get_elem?}
use Rattle.atomic_table.specs.Table.{State, Allows, Act.keeps}
use Rattle.book_core.specs.declared.events.Event.{Event}
use Rattle.book_core.specs.declared.events.Event.TheVariants.{Claim, Report, Look}
use Rattle.book_core.specs.declared.events.Answer.{Answer}
use Rattle.book_core.specs.declared.events.Answer.TheVariants.{Drawn, Ended, Reported, Least}
use Rattle.book_core.specs.Passes.{Deeds, with_drawn, with_end, with_report, with_seen}
use Rattle.book_core.specs.Books.{Book}
use Rattle.book_core.specs.Steps.{step, pass_of, drawn_by, ended_by, reported_by, looked_by}
use Rattle.book_core.specs.Places.{IsAtMost}
use Rattle.book_core.specs.Shares.{IsDealt}
use Rattle.book_core.proofs.LawLemmas.{BookLaw-drawn_le, BookLaw-reported}
use Rattle.book_core.proofs.ShareLemmas.{IsDealt-alone, IsDealt-step}
use Rattle.book_core.proofs.StepLemmas.{step-drawn, step-ended, step-reported, step-looked}
use Rattle.book_live.specs.declared.views.Sizes.{Sizes}
use Rattle.book_live.specs.declared.views.View.{View}
use Rattle.book_live.specs.Views.{shares, alone}
use Rattle.book_live.specs.Shown.{IsReachedBook, word_of, place_in_word, Shows, Shown}
use Rattle.book_live.specs.Steps.{MayTake, answer_to, deeds_after, found_by, state_after, Moves, ShowsEvent, IsOneStep}
use Rattle.book_live.specs.SeatSteps.{Claimed, Placed, Looked}
use Rattle.book_live.proofs.ViewLemmas.{share-at, shares-set}
use Rattle.book_live.proofs.ReachLemmas.{IsReached-step, BookLaw-reached, jobs-reached, next-le}
use Rattle.book_live.proofs.WordLemmas.{word_of-lesser, place_of-word_of}

abbrev next : {S : Type 0} → State S View → ℕ
next s = slice_index s.words 0

abbrev least : {S : Type 0} → State S View → ℕ
least s = slice_index s.words 1

-- ---- the seat of one pass and one word change

module _ {S : Type 0} (z : Sizes) (b : Book) (s : State S View) (reached : IsReachedBook z b) (shows : Shows z b s) (id w : ℕ) (p : Deeds)
    (at : get_elem? s.views id ≡ some (alone z w p)) where
  pass-shown : slice_get b.passes w ≡ Some p
  pass-shown = IsDealt-alone b (shares s.views) shows.dealt id w p (share-at s.views id (alone z w p) at)

  -- the book that is shown after the pass has come to q
  Shows-after : (q : Deeds) (c : Book) (word n : ℕ) → c.passes ≡ set b.passes w q
      → slice_index (set s.words word n) 0 ≡ c.next → slice_index (set s.words word n) 1 ≡ word_of c.least
      → Shows z c record { words = set s.words word n; homes = s.homes; views = set s.views id (alone z w q) }
  Shows-after q c word n passes next-is least-is = record {
    limits = shows.limits;
    words = length-set s.words word n ∙ shows.words;
    next = next-is;
    least = least-is;
    dealt = subst (IsDealt c) (sym (shares-set s.views id (alone z w q)))
        (IsDealt-step b (shares s.views) shows.dealt id w p (share-at s.views id (alone z w p) at) q c passes);
  }

  -- an answer and deeds under other names
  Moves-as : (e : Event) (a told : Answer) (q done : Deeds) → told ≡ a → done ≡ q → Moves z b s id e a q → Moves z b s id e told done
  Moves-as e a told q done same-a same-q m = subst (λ (x : Answer × Deeds). Moves z b s id e x.0 x.1) (λ i. (sym same-a i, sym same-q i)) m

  word0-claimed : slice_index (set s.words 0 (next s + 1)) 0 ≡ next s + 1
  word0-claimed = get_or-set_same s.words 0 (next s + 1) 0 (omega (arith, shows.words))

  word1-claimed : slice_index (set s.words 0 (next s + 1)) 1 ≡ least s
  word1-claimed = get_or-set_other s.words 0 1 (next s + 1) 0 (λ e. absurd (omega (arith, e)))

  -- a claim that draws
  step-draws : p.ended ≡ false → next s < z.jobs → step b (Claim w) ≡ Ok (drawn_by b w p, Drawn b.next)
  step-draws going room = step-drawn b w p pass-shown going (omega (arith, shows.next, jobs-reached z b reached))

  Shows-drawn : Shows z (drawn_by b w p) (state_after (Claim w) s id (alone z w (with_drawn p b.next)))
  Shows-drawn = Shows-after (with_drawn p b.next) (drawn_by b w p) 0 (next s + 1) refl (word0-claimed ∙ omega (arith, shows.next)) (word1-claimed ∙ shows.least)

  -- a claim that ends the pass
  step-ends : p.ended ≡ false → z.jobs ≤ next s → step b (Claim w) ≡ Ok (ended_by b w p, Ended)
  step-ends going over = step-ended b w p pass-shown going (omega (arith, shows.next, jobs-reached z b reached))

  Shows-ended : Shows z (ended_by b w p) (state_after (Claim w) s id (alone z w (with_end p)))
  Shows-ended = Shows-after (with_end p) (ended_by b w p) 0 (next s + 1) refl (word0-claimed ∙ omega (arith, shows.next)) (word1-claimed ∙ shows.least)

  -- what the number in the first word says of a claim
  ShowsEvent-claim : p.ended ≡ false → ShowsEvent z b s id (Claim w) p
  ShowsEvent-claim going = elim (cases_lt (next s) z.jobs) [
    | inl room ↦
        let told : answer_to z (Claim w) (next s) ≡ Drawn b.next = ap (λ t. cond {A = Answer} t (Drawn (next s)) Ended) (lt-ltb (next s) z.jobs room)
        ∙ ap Drawn shows.next in
        let done : deeds_after z (Claim w) (next s) p ≡ with_drawn p b.next =
        ap (λ t. cond {A = Deeds} t (with_drawn p (next s)) (with_end p)) (lt-ltb (next s) z.jobs room) ∙ ap (with_drawn p) shows.next in
        Moves-as (Claim w) (Drawn b.next) (answer_to z (Claim w) (next s)) (with_drawn p b.next) (deeds_after z (Claim w) (next s) p) told done
        (drawn_by b w p, step-draws going room, Shows-drawn)
    | inr over ↦
        let told : answer_to z (Claim w) (next s) ≡ Ended = ap (λ t. cond {A = Answer} t (Drawn (next s)) Ended) (le-ltb (next s) z.jobs over) in
        let done : deeds_after z (Claim w) (next s) p ≡ with_end p =
        ap (λ t. cond {A = Deeds} t (with_drawn p (next s)) (with_end p)) (le-ltb (next s) z.jobs over) in
        Moves-as (Claim w) Ended (answer_to z (Claim w) (next s)) (with_end p) (deeds_after z (Claim w) (next s) p) told done
        (ended_by b w p, step-ends going over, Shows-ended)
  ]

  Shows-reported : (place : ℕ) → place < 2 ^ 32 → Shows z (reported_by b w place p) (state_after (Report w place) s id (alone z w (with_report p place)))
  Shows-reported place small =
      let m = min (least s) place in
      let word1 : slice_index (set s.words 1 m) 1 ≡ m = get_or-set_same s.words 1 m 0 (omega (arith, shows.words)) in
      let word0 : slice_index (set s.words 1 m) 0 ≡ next s = get_or-set_other s.words 1 0 m 0 (λ e. absurd (omega (arith, e))) in
      Shows-after (with_report p place) (reported_by b w place p) 1 m refl (word0 ∙ shows.next)
      (word1 ∙ ap (λ k. min k place) shows.least ∙ sym (word_of-lesser b.least place small))

  ShowsEvent-report : (place : ℕ) → place < 2 ^ 32 → ShowsEvent z b s id (Report w place) p
  ShowsEvent-report place small = (reported_by b w place p, step-reported b w p pass-shown place small, Shows-reported place small)

  Shows-looked : Shows z (looked_by b w p) (state_after (Look w) s id (alone z w (with_seen p b.least)))
  Shows-looked =
      let same : set s.words 1 (least s) ≡ s.words = set-get_or s.words 1 0 in
      let word1 : slice_index (set s.words 1 (least s)) 1 ≡ least s = ap (λ ws. slice_index ws 1) same in
      let word0 : slice_index (set s.words 1 (least s)) 0 ≡ next s = ap (λ ws. slice_index ws 0) same in
      Shows-after (with_seen p b.least) (looked_by b w p) 1 (least s) refl (word0 ∙ shows.next) (word1 ∙ shows.least)

  place-shown : place_in_word (least s) ≡ b.least
  place-shown = ap place_in_word shows.least ∙ place_of-word_of b (BookLaw-reached z b reached)

  ShowsEvent-look : ShowsEvent z b s id (Look w) p
  ShowsEvent-look =
      Moves-as (Look w) (Least b.least) (answer_to z (Look w) (least s)) (with_seen p b.least) (deeds_after z (Look w) (least s) p)
      (ap Least place-shown) (ap (with_seen p) place-shown) (looked_by b w p, step-looked b w p pass-shown, Shows-looked)

-- ---- the three events

module _ {S : Type 0} (z : Sizes) (b : Book) (s : State S View) (reached : IsReachedBook z b) (shows : Shows z b s) (id : ℕ) (p : Deeds) where
  -- each event that the pass of a seat may take moves what is shown
  pub ShowsEvent-taken : (e : Event) → get_elem? s.views id ≡ some (alone z (pass_of e) p) → MayTake p e → ShowsEvent z b s id e p
  ShowsEvent-taken (Claim w) at going = ShowsEvent-claim z b s reached shows id w p at going
  ShowsEvent-taken (Report w place) at small = ShowsEvent-report z b s reached shows id w p at place small
  ShowsEvent-taken (Look w) at may = ShowsEvent-look z b s reached shows id w p at

IsOneStep-taken : (z : Sizes) (b : Book) (s : State (Unit {0}) View) (reached : IsReachedBook z b) (shows : Shows z b s) (id : ℕ) (p : Deeds) (e : Event)
    → get_elem? s.views id ≡ some (alone z (pass_of e) p) → MayTake p e → IsOneStep z e p (answer_to z e (found_by e s)) (deeds_after z e (found_by e s) p)
IsOneStep-taken z b s reached shows id p e at may = record {
  state = s;
  book = b;
  reached = reached;
  shows = shows;
  seat = id;
  own = at;
  moves = ShowsEvent-taken z b s reached shows id p e at may;
}

-- a claim of a pass that hasn't ended may add one to the first word, and draws the number found or ends the pass
pub allows-claim : (z : Sizes) (slots id w : ℕ) (p : Deeds) (c : List (ℕ × Unit {0})) → p.ended ≡ false
    → Allows (Shown z) slots id (alone z w p, c) 0 (λ n. (n + 1) % 2 ^ 64) (λ n u. Claimed (alone z w p) n u.0 × (u.1 ≡ c))
allows-claim z slots id w p c going s h _ at fits =
    let b = h.0 in
    let shows = h.2 in
    let n = next s in
    let here = pass-shown z b s h.1 shows id w p at in
    let is : n ≡ b.next = shows.next in
    let small : (n + 1) % 2 ^ 64 ≡ n + 1 = mod-eq_of_lt (omega (arith, next-le z b h.1, shows.limits.0, shows.limits.1)) in
    let few : length p.drawn ≤ n = omega (arith, BookLaw-drawn_le b (BookLaw-reached z b h.1) w p here) in
    let m = ShowsEvent-taken z b s h.1 shows id p (Claim w) at going in
    rw small (
      alone z w (deeds_after z (Claim w) n p),
      keeps,
      tt,
      (m.0, IsReached-step z b m.0 (Claim w) (answer_to z (Claim w) n) h.1 m.1, m.2),
      (
        record {
          drawn = λ lt. ap (λ t. alone z w (cond {A = Deeds} t (with_drawn p n) (with_end p))) (lt-ltb n z.jobs lt);
          ended = λ le. ap (λ t. alone z w (cond {A = Deeds} t (with_drawn p n) (with_end p))) (le-ltb n z.jobs le);
          few = few;
          event = IsOneStep-taken z b s h.1 shows id p (Claim w) at going;
        },
        refl,
      ),
    )

-- a report may lower the second word to a place below 2^32, and adds the place to those of the pass
pub allows-report : (z : Sizes) (slots id w place : ℕ) (p : Deeds) (c : List (ℕ × Unit {0})) → place < 2 ^ 32
    → Allows (Shown z) slots id (alone z w p, c) 1 (λ n. min n place) (λ n u. Placed (alone z w p) place u.0 × (u.1 ≡ c))
allows-report z slots id w place p c small s h _ at fits =
    let m = ShowsEvent-taken z h.0 s h.1 h.2 id p (Report w place) at small in (
      alone z w (with_report p place),
      keeps,
      tt,
      (m.0, IsReached-step z h.0 m.0 (Report w place) Reported h.1 m.1, m.2),
      (record { added = refl; event = IsOneStep-taken z h.0 s h.1 h.2 id p (Report w place) at small }, refl),
    )

-- a look may leave the second word as it is, and keeps its place as the one that the pass has seen
pub allows-look : (z : Sizes) (slots id w : ℕ) (p : Deeds) (c : List (ℕ × Unit {0}))
    → Allows (Shown z) slots id (alone z w p, c) 1 (λ n. n) (λ n u. Looked (alone z w p) n u.0 × (u.1 ≡ c))
allows-look z slots id w p c s h _ at fits =
    let b = h.0 in
    let shows = h.2 in
    let law = BookLaw-reached z b h.1 in
    let here = pass-shown z b s h.1 shows id w p at in
    let told : place_in_word (least s) ≡ b.least = place-shown z b s h.1 shows id w p at in
    let m = ShowsEvent-taken z b s h.1 shows id p (Look w) at tt in (
      alone z w (with_seen p (place_in_word (least s))),
      keeps,
      tt,
      (m.0, IsReached-step z b m.0 (Look w) (answer_to z (Look w) (least s)) h.1 m.1, m.2),
      (
        record {
          recorded = refl;
          own = λ place has. subst (λ o. IsAtMost o (Some place)) (sym told) (BookLaw-reported b law w p here place has);
          falls = subst (λ o. IsAtMost o p.seen) (sym told) (law.seen w p here);
          event = IsOneStep-taken z b s h.1 shows id p (Look w) at tt;
        },
        refl,
      ),
    )
