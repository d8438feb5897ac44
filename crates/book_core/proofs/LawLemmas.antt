-- The law of a book holds at the start, and each step keeps it.
use Rattle.std.proofs.Common.{◌≡◌, ℕ, zero, suc, ◌+◌, ◌*◌, ◌<◌, ◌≤◌, ◌^◌, Bool, true, false, cond, eqb, ltb, ◌⊎◌, List, [], ◌∷◌, length, set, min}
use Rattle.std.proofs.Common.{replicate, Option, Some, None, Ok, Err, inl, inr, refl, sym, ◌∙◌, ap, subst, arith, slice_get, length-append}
use Rattle.std.specs.List.{sum_by, count_by, Contains}
use Rattle.std.proofs.lemmas.Bool.{cases_eq, cases_lt, cond-false, le-ltb, ltb-true, ltb-false, true≢false}
use Rattle.std.proofs.lemmas.Bool.Decides.{nat_tests}
use Rattle.std.proofs.Math.Nat.{min-eq_left, min-eq_right}
use Rattle.std.proofs.lemmas.List.Sums.{sum_by_push, count_by-le-length}
use Rattle.std.proofs.lemmas.List.Folds.{sum_by-replicate}
use Rattle.std.proofs.lemmas.List.Elements.{Contains-push, Contains-push_cases, Contains-append_left}
use Rattle.book_core.specs.declared.events.Event.{Event}
use Rattle.book_core.specs.declared.events.Event.TheVariants.{Claim, Report, Look}
use Rattle.book_core.specs.declared.events.Answer.{Answer}
use Rattle.book_core.specs.Passes.{Deeds, fresh, with_drawn, with_end, with_report, with_seen}
use Rattle.book_core.specs.Books.{Book, start}
use Rattle.book_core.specs.Steps.{drawn_by, ended_by, reported_by, looked_by, StepOutcome, claims, reports, by_pass, step}
use Rattle.book_core.specs.Laws.{BookLaw, IsAllDrawn}
use Rattle.book_core.specs.Jobs.{times, once_below}
use Rattle.book_core.specs.Places.{lesser, IsReported, IsLeast, IsAtMost}
use Rattle.book_core.proofs.StepLemmas.{claimed, placed}
use Rattle.book_core.proofs.ListLemmas.{sum_by-changed, le-sum_by, slice_get-set_cases, slice_get-set_same, slice_get-set_other}

-- ---- places, and none above them all

IsAtMost-refl : (o : Option ℕ) → IsAtMost o o
IsAtMost-refl None = tt
IsAtMost-refl (Some x) = omega arith

-- a further report leaves the least at or below what it was
IsAtMost-lesser : (o seen : Option ℕ) (place : ℕ) → IsAtMost o seen → IsAtMost (Some (lesser o place)) seen
IsAtMost-lesser o None place le = tt
IsAtMost-lesser None (Some x) place le = absurd le
IsAtMost-lesser (Some y) (Some x) place le = omega arith

-- ---- the drawn jobs

once_below-next : (x n jobs : ℕ) → n < jobs → once_below x (min (n + 1) jobs) ≡ once_below x (min n jobs) + cond (eqb n x) 1 0
once_below-next x n jobs lt =
    rw (let e : min (n + 1) jobs ≡ n + 1 = min-eq_left (omega arith) in e)
    (rw (let e : min n jobs ≡ n = min-eq_left (omega arith) in e)
    (grind (arith, nat_tests)))

-- ---- the reported places, where one pass changes

module _ (ps : List Deeds) (w : ℕ) (p q : Deeds) (at : slice_get ps w ≡ Some p) where
  -- a place of the new pass, or of the passes before
  reported-cases : (x : ℕ) → IsReported (set ps w q) x → Contains q.reported x ⊎ IsReported ps x
  reported-cases x r = elim (slice_get-set_cases ps w r.0 q r.1 r.2) [
    | inl h ↦ inl (subst (λ (d : Deeds). Contains d.reported x) (sym h.1) r.3)
    | inr h ↦ inr (r.0, r.1, h.1, r.3)
  ]

  reported-here : (x : ℕ) → Contains q.reported x → IsReported (set ps w q) x
  reported-here x has = (w, q, slice_get-set_same ps w p q at, has)

  -- what was reported stays, where the pass keeps its places
  reported-still : ((x : ℕ) → Contains p.reported x → Contains q.reported x) → (x : ℕ) → IsReported ps x → IsReported (set ps w q) x
  reported-still more x r = elim (cases_eq r.0 w) [
    | inl e ↦ reported-here x (more x (let s : slice_get ps r.0 ≡ slice_get ps w = ap (slice_get ps) e in let f = r.2 in let same : r.1 ≡ p = cc in
        subst (λ (d : Deeds). Contains d.reported x) same r.3))
    | inr ne ↦ (r.0, r.1, slice_get-set_other ps w r.0 q ne ∙ r.2, r.3)
  ]

  -- nothing more is reported, where the places are the same
  reported-same : q.reported ≡ p.reported → (x : ℕ) → IsReported (set ps w q) x → IsReported ps x
  reported-same same x r = elim (reported-cases x r) [ inl has ↦ (w, p, at, subst (λ l. Contains l x) same has) | inr old ↦ old ]

least-same : (o : Option ℕ) (ps qs : List Deeds) → ((x : ℕ) → IsReported ps x → IsReported qs x) → ((x : ℕ) → IsReported qs x → IsReported ps x)
    → IsLeast o ps → IsLeast o qs
least-same None ps qs to from l = λ x r. l x (from x r)
least-same (Some z) ps qs to from l = (to z l.0, λ y r. l.1 y (from y r))

-- ---- one report

module _ (ps : List Deeds) (w place : ℕ) (p : Deeds) (at : slice_get ps w ≡ Some p) where
  report-cases : (y : ℕ) → IsReported (set ps w (with_report p place)) y → IsReported ps y ⊎ (place ≡ y)
  report-cases y r = elim (reported-cases ps w p (with_report p place) at y r) [
    | inl has ↦ elim (Contains-push_cases p.reported place y has) [ inl c ↦ inl (w, p, at, c) | inr e ↦ inr e ]
    | inr old ↦ inl old
  ]

  report-new : IsReported (set ps w (with_report p place)) place
  report-new = reported-here ps w p (with_report p place) at place (Contains-push p.reported place)

  report-old : (y : ℕ) → IsReported ps y → IsReported (set ps w (with_report p place)) y
  report-old = reported-still ps w p (with_report p place) at (λ y c. Contains-append_left p.reported (place ∷ []) y c)

  report-least : (o : Option ℕ) → IsLeast o ps → IsLeast (Some (lesser o place)) (set ps w (with_report p place))
  report-least None l = (report-new, λ y r. elim (report-cases y r) [ inl old ↦ absurd (l y old) | inr e ↦ omega arith ])
  report-least (Some z) l =
      let qs = set ps w (with_report p place) in
      let above : (y : ℕ) → IsReported qs y → min z place ≤ y =
      λ y r. elim (report-cases y r) [ inl old ↦ (let le : z ≤ y = l.1 y old in omega arith) | inr e ↦ omega arith ] in (
        elim (cases_lt z place) [
          | inl lt ↦ subst (IsReported qs) (sym (let e : min z place ≡ z = min-eq_left (omega arith) in e)) (report-old z l.0)
          | inr ge ↦ subst (IsReported qs) (sym (let e : min z place ≡ place = min-eq_right ge in e)) report-new
        ],
        above,
      )

-- ---- the steps

module _ (b : Book) (law : BookLaw b) (w : ℕ) (p : Deeds) (at : slice_get b.passes w ≡ Some p) where
  -- a change of the pass that keeps its places keeps the least
  least-kept : (q : Deeds) → q.reported ≡ p.reported → IsLeast b.least (set b.passes w q)
  least-kept q same =
      least-same b.least b.passes (set b.passes w q)
      (reported-still b.passes w p q at (λ x c. subst (λ l. Contains l x) (sym same) c))
      (reported-same b.passes w p q at same) law.least

  small-kept : (q : Deeds) → q.reported ≡ p.reported → (x : ℕ) → IsReported (set b.passes w q) x → x < 2 ^ 32
  small-kept q same x r = law.small x (reported-same b.passes w p q at same x r)

  seen-kept : (q : Deeds) (least : Option ℕ) → IsAtMost least q.seen → ((o : Option ℕ) → IsAtMost b.least o → IsAtMost least o)
      → (v : ℕ) (r : Deeds) → slice_get (set b.passes w q) v ≡ Some r → IsAtMost least r.seen
  seen-kept q least here falls v r e = elim (slice_get-set_cases b.passes w v q r e) [
    | inl h ↦ subst (λ (d : Deeds). IsAtMost least d.seen) h.1 here
    | inr h ↦ falls r.seen (law.seen v r h.1)
  ]

  past-kept : (q : Deeds) → q.ended ≡ p.ended → (v : ℕ) (r : Deeds) → slice_get (set b.passes w q) v ≡ Some r → r.ended ≡ true → b.jobs < b.next
  past-kept q same v r e done = elim (slice_get-set_cases b.passes w v q r e) [
    | inl h ↦ law.past w p at (sym same ∙ ap (λ (d : Deeds). d.ended) h.1 ∙ done)
    | inr h ↦ law.past v r h.1 done
  ]

  BookLaw-drawn_by : p.ended ≡ false → b.next < b.jobs → BookLaw (drawn_by b w p)
  BookLaw-drawn_by going room =
      let q = with_drawn p b.next in
      let lens = sum_by-changed (λ d. length d.drawn) b.passes w p q at in
      let ends = sum_by-changed (λ d. cond d.ended 1 0) b.passes w p q at in
      let grown : length q.drawn ≡ length p.drawn + 1 = length-append p.drawn (b.next ∷ []) in
      record {
        once = λ j. omega (
          arith,
          sum_by-changed (λ d. times j d.drawn) b.passes w p q at,
          law.once j,
          once_below-next j b.next b.jobs room,
          sum_by_push (λ y. cond (eqb y j) 1 0) p.drawn b.next,
        );
        drawn = (let d = law.drawn in omega arith);
        total = (let t = law.total in omega arith);
        least = least-kept q refl;
        small = small-kept q refl;
        seen = seen-kept q b.least (law.seen w p at) (λ o le. le);
        past = λ v r e done. (let l : b.jobs < b.next = past-kept q refl v r e done in omega arith);
      }

  BookLaw-ended_by : p.ended ≡ false → b.jobs ≤ b.next → BookLaw (ended_by b w p)
  BookLaw-ended_by going over =
      let q = with_end p in
      let lens = sum_by-changed (λ d. length d.drawn) b.passes w p q at in
      let ends = sum_by-changed (λ d. cond d.ended 1 0) b.passes w p q at in
      let was : cond {A = ℕ} p.ended 1 0 ≡ 0 = cond-false {A = ℕ} p.ended 1 0 going in
      let before : min b.next b.jobs ≡ b.jobs = min-eq_right over in
      let later : min (b.next + 1) b.jobs ≡ b.jobs = min-eq_right (omega arith) in
      record {
        once = λ j. omega (arith, sum_by-changed (λ d. times j d.drawn) b.passes w p q at, law.once j, ap (once_below j) before, ap (once_below j) later);
        drawn = (let d = law.drawn in omega arith);
        total = (let t = law.total in omega arith);
        least = least-kept q refl;
        small = small-kept q refl;
        seen = seen-kept q b.least (law.seen w p at) (λ o le. le);
        past = λ v r e done. omega arith;
      }

  BookLaw-reported_by : (place : ℕ) → place < 2 ^ 32 → BookLaw (reported_by b w place p)
  BookLaw-reported_by place lt =
      let q = with_report p place in
      let lens = sum_by-changed (λ d. length d.drawn) b.passes w p q at in
      let ends = sum_by-changed (λ d. cond d.ended 1 0) b.passes w p q at in
      record {
        once = λ j. omega (arith, sum_by-changed (λ d. times j d.drawn) b.passes w p q at, law.once j);
        drawn = (let d = law.drawn in omega arith);
        total = (let t = law.total in omega arith);
        least = report-least b.passes w place p at b.least law.least;
        small = λ y r. elim (report-cases b.passes w place p at y r) [ inl old ↦ law.small y old | inr e ↦ omega arith ];
        seen = seen-kept q (Some (lesser b.least place)) (IsAtMost-lesser b.least p.seen place (law.seen w p at)) (λ o le. IsAtMost-lesser b.least o place le);
        past = past-kept q refl;
      }

  BookLaw-looked_by : BookLaw (looked_by b w p)
  BookLaw-looked_by =
      let q = with_seen p b.least in
      let lens = sum_by-changed (λ d. length d.drawn) b.passes w p q at in
      let ends = sum_by-changed (λ d. cond d.ended 1 0) b.passes w p q at in
      record {
        once = λ j. omega (arith, sum_by-changed (λ d. times j d.drawn) b.passes w p q at, law.once j);
        drawn = (let d = law.drawn in omega arith);
        total = (let t = law.total in omega arith);
        least = least-kept q refl;
        small = small-kept q refl;
        seen = seen-kept q b.least (IsAtMost-refl b.least) (λ o le. le);
        past = past-kept q refl;
      }

-- ---- every step

-- where the step is answered, the book after it meets the law
abbrev pub Keeps : StepOutcome → Type 0
Keeps (Ok r) = BookLaw r.0
Keeps (Err f) = Unit {0}

claims-keeps : (b : Book) → BookLaw b → (w : ℕ) (p : Deeds) → slice_get b.passes w ≡ Some p → Keeps (claims b w p)
claims-keeps b law w p at = go p.ended refl (ltb b.next b.jobs) refl
  where
    go : (done : Bool) → p.ended ≡ done → (room : Bool) → ltb b.next b.jobs ≡ room → Keeps (claimed b w p done room)
    go true e room f = tt
    go false e true f = BookLaw-drawn_by b law w p at e (ltb-true b.next b.jobs f)
    go false e false f = BookLaw-ended_by b law w p at e (ltb-false b.next b.jobs f)

reports-keeps : (b : Book) → BookLaw b → (w place : ℕ) (p : Deeds) → slice_get b.passes w ≡ Some p → Keeps (reports b w place p)
reports-keeps b law w place p at = go (ltb place (2 ^ 32)) refl
  where
    go : (fits : Bool) → ltb place (2 ^ 32) ≡ fits → Keeps (placed b w place p fits)
    go true e = BookLaw-reported_by b law w p at place (ltb-true place (2 ^ 32) e)
    go false e = tt

by_pass-keeps : (o : Option Deeds) (act : Deeds → StepOutcome) → ((p : Deeds) → o ≡ Some p → Keeps (act p)) → Keeps (by_pass o act)
by_pass-keeps None act each = tt
by_pass-keeps (Some p) act each = each p refl

-- a step of a book that meets the law leads to one that meets it, whatever the event
pub step-keeps : (b : Book) → BookLaw b → (e : Event) → Keeps (step b e)
step-keeps b law (Claim w) = by_pass-keeps (slice_get b.passes w) (claims b w) (claims-keeps b law w)
step-keeps b law (Report w place) = by_pass-keeps (slice_get b.passes w) (reports b w place) (reports-keeps b law w place)
step-keeps b law (Look w) = by_pass-keeps (slice_get b.passes w) (λ p. Ok (looked_by b w p, Answer.Least b.least)) (λ p at. BookLaw-looked_by b law w p at)

-- an event that is answered keeps the law
pub BookLaw-step : (b c : Book) (e : Event) (a : Answer) → step b e ≡ Ok (c, a) → BookLaw b → BookLaw c
BookLaw-step b c e a is law = let k : Keeps (Ok (c, a)) = subst Keeps is (step-keeps b law e) in k

-- ---- the start

fresh-at : (n w : ℕ) (p : Deeds) → slice_get (replicate n fresh) w ≡ Some p → p ≡ fresh
fresh-at zero w p e = cc
fresh-at (suc n) zero p e = let s : fresh ≡ p = cc in sym s
fresh-at (suc n) (suc w) p e = fresh-at n w p e

not-Contains-nil : (x : ℕ) (xs : List ℕ) → xs ≡ [] → ¬ Contains xs x
not-Contains-nil x xs e c = omega (arith, c.1, ap length e)

-- at its start a book meets the law, with any number of jobs and passes
pub BookLaw-start : (jobs workers : ℕ) → BookLaw (start jobs workers)
BookLaw-start jobs workers = record {
  once = λ j. sum_by-replicate (λ (d : Deeds). times j d.drawn) workers fresh ∙ zeros workers
      ∙ sym (cond-false (ltb j (min 0 jobs)) 1 0 (le-ltb j (min 0 jobs) (omega arith)));
  drawn = sum_by-replicate (λ (d : Deeds). length d.drawn) workers fresh ∙ zeros workers ∙ omega arith;
  total = (let a : sum_by (λ (d : Deeds). length d.drawn) (replicate workers fresh) ≡ 0 =
      sum_by-replicate (λ (d : Deeds). length d.drawn) workers fresh ∙ zeros workers in
      let c : count_by (λ (d : Deeds). d.ended) (replicate workers fresh) ≡ 0 = sum_by-replicate (λ (d : Deeds). cond d.ended 1 0) workers fresh
      ∙ zeros workers in omega arith);
  least = λ x r. none x r;
  small = λ x r. absurd (none x r);
  seen = λ w p e. subst (λ (d : Deeds). IsAtMost None d.seen) (sym (fresh-at workers w p e)) tt;
  past = λ w p e done. absurd (true≢false (sym done ∙ ap (λ (d : Deeds). d.ended) (fresh-at workers w p e)));
}
  where
    zeros : (n : ℕ) → n * 0 ≡ 0
    zeros n = omega arith

    none : (x : ℕ) → ¬ IsReported (replicate workers fresh) x
    none x r = not-Contains-nil x (r.1).reported (ap (λ (d : Deeds). d.reported) (fresh-at workers r.0 r.1 r.2)) r.3

-- ---- what the law says of the words and of one pass

-- no word leaves its range
pub BookLaw-next_le : (b : Book) → BookLaw b → b.next ≤ b.jobs + length b.passes
BookLaw-next_le b law = omega (arith, law.drawn, law.total, count_by-le-length (λ (d : Deeds). d.ended) b.passes)

module _ (b : Book) (law : BookLaw b) (w : ℕ) (p : Deeds) (at : slice_get b.passes w ≡ Some p) where
  -- a pass drew no more jobs than there were claims
  pub BookLaw-drawn_le : length p.drawn ≤ b.next
  BookLaw-drawn_le = omega (arith, le-sum_by (λ (d : Deeds). length d.drawn) b.passes w p at, law.drawn)

  -- the least is above nothing that the pass has reported
  pub BookLaw-reported : (place : ℕ) → Contains p.reported place → IsAtMost b.least (Some place)
  BookLaw-reported place has = go b.least law.least
    where
      go : (o : Option ℕ) → IsLeast o b.passes → IsAtMost o (Some place)
      go None l = absurd (l place (w, p, at, has))
      go (Some x) l = l.1 place (w, p, at, has)

-- ---- the end

-- where some pass has ended, each job was drawn, once
pub BookLaw-all_drawn : (b : Book) → BookLaw b → (w : ℕ) (p : Deeds) → slice_get b.passes w ≡ Some p → p.ended ≡ true → IsAllDrawn b
BookLaw-all_drawn b law w p at done j =
    let past : b.jobs < b.next = law.past w p at done in
    let all : min b.next b.jobs ≡ b.jobs = min-eq_right (omega arith) in
    law.once j ∙ ap (once_below j) all
