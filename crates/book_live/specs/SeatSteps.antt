-- What a claim, a report and a look make of the seat that takes them.
use Rattle.std.specs.Prelude.{◌≡◌, ℕ, ◌<◌, ◌≤◌, List, [], ◌∷◌, length, Some}
use Rattle.std.specs.List.{Contains}
use Rattle.book_core.specs.declared.events.Event.TheVariants.{Claim, Report, Look}
use Rattle.book_core.specs.declared.events.Answer.TheVariants.{Reported, Least}
use Rattle.book_core.specs.Passes.{Deeds, with_drawn, with_end, with_report, with_seen}
use Rattle.book_core.specs.Places.{IsAtMost}
use Rattle.book_core.specs.Shares.{NumberedPass, numbered_pass}
use Rattle.book_live.specs.declared.views.View.{View}
use Rattle.book_live.specs.StoredPasses.{deeds_of}
use Rattle.book_live.specs.Views.{view}
use Rattle.book_live.specs.Shown.{place_in_word}
use Rattle.book_live.specs.Steps.{IsOneStep, answer_to}

-- ---- the pass of a seat

-- the number of the first pass of a share: 0, where the share has no pass
abbrev pub first_number : List NumberedPass → ℕ
first_number [] = 0
first_number (h ∷ hs) = h.number

-- the number of the pass of a seat
abbrev pub pass_number_of : View → ℕ
pass_number_of v = first_number v.held

-- the share, once its first pass has taken a step, where it has a pass
abbrev pub first_changed : (Deeds → Deeds) → List NumberedPass → List NumberedPass
first_changed f [] = []
first_changed f (h ∷ hs) = numbered_pass h.number (f h.deeds) ∷ hs

-- the seat of a pass, once that pass has taken a step
abbrev pub changed : View → (Deeds → Deeds) → View
changed v f = view v.sizes (first_changed f v.held)

-- ---- its steps

-- A claim that finds the number of a job draws it, and any other ends the pass.
-- The pass has drawn no more jobs than there were claims.
pub record Claimed (before : View) (found : ℕ) (after : View) : Type 0 where
  pub drawn : found < before.sizes.jobs → after ≡ changed before (λ p. with_drawn p found)
  pub ended : before.sizes.jobs ≤ found → after ≡ changed before with_end
  pub few : length (deeds_of before).drawn ≤ found
  pub event : IsOneStep before.sizes (Claim (pass_number_of before)) (deeds_of before) (answer_to before.sizes (Claim (pass_number_of before)) found) (deeds_of after)

-- A report adds its place to those of the pass.
pub record Placed (before : View) (place : ℕ) (after : View) : Type 0 where
  pub added : after ≡ changed before (λ p. with_report p place)
  pub event : IsOneStep before.sizes (Report (pass_number_of before) place) (deeds_of before) Reported (deeds_of after)

-- A look records what it finds, which is not above what the pass saw or reported.
pub record Looked (before : View) (found : ℕ) (after : View) : Type 0 where
  pub recorded : after ≡ changed before (λ p. with_seen p (place_in_word found))
  pub own : (place : ℕ) → Contains (deeds_of before).reported place → IsAtMost (place_in_word found) (Some place)
  pub falls : IsAtMost (place_in_word found) (deeds_of before).seen
  pub event : IsOneStep before.sizes (Look (pass_number_of before)) (deeds_of before) (Least (place_in_word found)) (deeds_of after)
