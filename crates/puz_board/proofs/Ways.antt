-- Ways home in a graph whose steps are free or paid, and values of its states.
use Rattle.std.proofs.Common.{◌≡◌, ℕ, suc, ◌≤◌, ◌⊎◌, Option, Some, None}

module _ {S : Type 0} (Free Paid : S → S → Type 0) (Home : S → Type 0) where
  -- free steps alone lead from one state to the other
  pub data Frees : S → S → Type 0 where
    here : {s : S} → Frees s s
    onward : {s m t : S} → Free s m → Frees m t → Frees s t

  -- a way home with this number of paid steps
  pub data Way : S → ℕ → Type 0 where
    home : {s : S} → Home s → Way s 0
    free : {s t : S} {c : ℕ} → Free s t → Way t c → Way s c
    paid : {s t : S} {c : ℕ} → Paid s t → Way t c → Way s (suc c)

  -- free steps, and then one paid step
  abbrev pub One : S → S → Type 0
  One s t = (m : S) × Frees s m × Paid m t

  -- free steps alone lead from the state to a home state
  abbrev pub IsGoal : S → Type 0
  IsGoal s = (m : S) × Frees s m × Home m

  -- the state has a way home with this number of paid steps, and none with fewer
  abbrev pub IsLeast : S → ℕ → Type 0
  IsLeast s d = Way s d × ((c : ℕ) → Way s c → d ≤ c)

  -- the state has no way home, whatever number of paid steps
  abbrev pub IsNever : S → Type 0
  IsNever s = (c : ℕ) → ¬ Way s c

  -- what a value says of a state
  abbrev pub Says : S → Option ℕ → Type 0
  Says s None = IsNever s
  Says s (Some d) = IsLeast s d

  -- the local rule away from the goal
  abbrev pub OneMore : (S → Option ℕ) → S → Option ℕ → Type 0
  OneMore v s None = (t : S) → One s t → v t ≡ None
  OneMore v s (Some d) =
      ((t : S) × (k : ℕ) × One s t × (v t ≡ Some k) × (d ≡ suc k)) ×
      ((t : S) (k : ℕ) → One s t → v t ≡ Some k → d ≤ suc k)

  -- goal states have the value 0, and others one more than the least that a paid step reaches
  abbrev pub Rule : (S → Option ℕ) → S → Type 0
  Rule v s = (IsGoal s × (v s ≡ Some 0)) ⊎ ((¬ IsGoal s) × OneMore v s (v s))
