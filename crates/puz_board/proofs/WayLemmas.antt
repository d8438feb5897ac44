-- The local rule at every state makes every value the least cost of a way home, and back.
use Rattle.std.proofs.Common.{◌≡◌, ℕ, zero, suc, ◌≤◌, ◌⊎◌, Option, Some, None, inl, inr, refl, sym, ◌∙◌, ap, subst, arith}
use Rattle.puz_board.proofs.Ways.{Frees, here, onward, Way, home, free, paid, One, IsGoal, Says, OneMore, Rule}

module _ {S : Type 0} (Free Paid : S → S → Type 0) (Home : S → Type 0) where
  -- a way begins with free steps, and then it is at home or takes a paid step
  pub begins : {s : S} {c : ℕ} → Way Free Paid Home s c
      → (IsGoal Free Paid Home s × (c ≡ 0)) ⊎ ((t : S) × (k : ℕ) × One Free Paid Home s t × Way Free Paid Home t k × (c ≡ suc k))
  begins (home {s = s} h) = inl ((s, here, h), refl)
  begins (free f w) = elim (begins w) [ inl g ↦ inl ((g.0.0, onward f g.0.1, g.0.2), g.1) | inr o ↦ inr (o.0, o.1, (o.2.0, onward f o.2.1, o.2.2), o.3, o.4) ]
  begins (paid {s = s} {t = t} {c = c} p w) = inr (t, c, (s, here, p), w, refl)

  -- a way home behind free steps is a way home with as many paid steps
  pub along : {s m : S} {c : ℕ} → Frees Free Paid Home s m → Way Free Paid Home m c → Way Free Paid Home s c
  along here w = w
  along (onward f r) w = free f (along r w)

  -- a way home behind free steps and one paid step is a way home with one paid step more
  pub way_from_one : {s t : S} {c : ℕ} → One Free Paid Home s t → Way Free Paid Home t c → Way Free Paid Home s (suc c)
  way_from_one o w = along o.1 (paid o.2 w)

  module _ (v : S → Option ℕ) (steady : (s t : S) → Free s t → v t ≡ v s) where
    -- ---- the rule everywhere makes every value right
    module _ (rule : (s : S) → Rule Free Paid Home v s) where
      at_home : (s : S) → Home s → v s ≡ Some 0
      at_home s h = elim (rule s) [ inl g ↦ g.1 | inr o ↦ absurd (o.0 (s, here, h)) ]

      after_paid : (s t : S) → Paid s t → (k : ℕ) → v t ≡ Some k → (d : ℕ) × (v s ≡ Some d) × (d ≤ suc k)
      after_paid s t p k e = elim (rule s) [ inl g ↦ (0, g.1, omega arith) | inr o ↦ go (v s) refl o.1 ]
        where
          go : (x : Option ℕ) → v s ≡ x → OneMore Free Paid Home v s x → (d : ℕ) × (v s ≡ Some d) × (d ≤ suc k)
          go None is one = absurd (let n : v t ≡ None = one t (s, here, p) in let bad : Some k ≡ None = sym e ∙ n in cc)
          go (Some d) is one = (d, is, one.1 t k (s, here, p) e)

      -- under the local rule, a state with a way home has a value, at most the paid steps of the way
      pub below_every_way : {s : S} {c : ℕ} → Way Free Paid Home s c → (d : ℕ) × (v s ≡ Some d) × (d ≤ c)
      below_every_way (home {s = s} h) = (0, at_home s h, omega arith)
      below_every_way (free {s = s} {t = t} f w) = let b = below_every_way w in (b.0, sym (steady s t f) ∙ b.1, b.2)
      below_every_way (paid {s = s} {t = t} {c = c} p w) =
          let b = below_every_way w in
          let a = after_paid s t p b.0 b.1 in
          let small : b.0 ≤ c = b.2 in
          (a.0, a.1, let q : a.0 ≤ suc b.0 = a.2 in omega arith)

      goal_way : (d : ℕ) (s : S) → v s ≡ Some d → IsGoal Free Paid Home s × (v s ≡ Some 0) → Way Free Paid Home s d
      goal_way d s e g = let z : 0 ≡ d = cc (e, g.1) in subst (λ x. Way Free Paid Home s x) z (along g.0.1 (home g.0.2))

      -- under the local rule, a state with a value has a way home with as many paid steps
      pub way_of_value : (d : ℕ) (s : S) → v s ≡ Some d → Way Free Paid Home s d
      way_of_value zero s e = elim (rule s) [ inl g ↦ goal_way zero s e g | inr o ↦ absurd (no_zero (subst (OneMore Free Paid Home v s) e o.1)) ]
        where
          no_zero : OneMore Free Paid Home v s (Some 0) → ⊥
          no_zero one = let bad : 0 ≡ suc one.0.1 = one.0.4 in omega arith
      way_of_value (suc d) s e = elim (rule s) [
        | inl g ↦ goal_way (suc d) s e g
        | inr o ↦ step (λ t is. way_of_value d t is) (subst (OneMore Free Paid Home v s) e o.1)
      ]
        where
          less : (k : ℕ) → suc d ≡ suc k → d ≡ k
          less k q = omega arith

          step : ((t : S) → v t ≡ Some d → Way Free Paid Home t d) → OneMore Free Paid Home v s (Some (suc d)) → Way Free Paid Home s (suc d)
          step ih one =
              let t : S = one.0.0 in
              let is : v t ≡ Some d = one.0.3 ∙ ap Some (sym (less one.0.1 one.0.4)) in
              way_from_one one.0.2 (ih t is)

      -- the values are exact
      pub says_from_rule : (s : S) → Says Free Paid Home s (v s)
      says_from_rule s = go (v s) refl
        where
          some : {A : Type 0} (a b : A) → Some a ≡ Some b → a ≡ b
          some a b e = cc

          go : (x : Option ℕ) → v s ≡ x → Says Free Paid Home s x
          go None e = λ c w. let b = below_every_way w in let bad : Some b.0 ≡ None = sym b.1 ∙ e in cc
          go (Some d) e = (
            way_of_value d s e,
            λ c w. let b = below_every_way w in let same : b.0 ≡ d = some b.0 d (sym b.1 ∙ e) in
                let le : b.0 ≤ c = b.2 in omega arith,
          )

    -- ---- exact values keep the rule
    module _ (decided : (s : S) → IsGoal Free Paid Home s ⊎ (¬ IsGoal Free Paid Home s)) (exact : (s : S) → Says Free Paid Home s (v s)) where
      -- what is known of a value that has a way
      value_of_way : {s : S} {c : ℕ} → Way Free Paid Home s c → (d : ℕ) × (v s ≡ Some d) × (d ≤ c)
      value_of_way {s} {c} w = go (v s) refl (exact s)
        where
          go : (x : Option ℕ) → v s ≡ x → Says Free Paid Home s x → (d : ℕ) × (v s ≡ Some d) × (d ≤ c)
          go None e never = absurd (never c w)
          go (Some d) e least = (d, e, least.1 c w)

      way_at : (s : S) (d : ℕ) → v s ≡ Some d → Way Free Paid Home s d
      way_at s d e = (subst (Says Free Paid Home s) e (exact s)).0

      least_at : (s : S) (d : ℕ) → v s ≡ Some d → (c : ℕ) → Way Free Paid Home s c → d ≤ c
      least_at s d e = (subst (Says Free Paid Home s) e (exact s)).1

      one_more : (s : S) → ¬ IsGoal Free Paid Home s → OneMore Free Paid Home v s (v s)
      one_more s far = go (v s) refl
        where
          none : (t : S) (x : Option ℕ) → v t ≡ x → v s ≡ None → One Free Paid Home s t → v t ≡ None
          none t None e n o = e
          none t (Some k) e n o = absurd (let b = value_of_way (way_from_one o (way_at t k e)) in let bad : Some b.0 ≡ None = sym b.1 ∙ n in cc)

          bound : (d : ℕ) → v s ≡ Some d → (t : S) (k : ℕ) → One Free Paid Home s t → v t ≡ Some k → d ≤ suc k
          bound d e t k o is = least_at s d e (suc k) (way_from_one o (way_at t k is))

          first : (d : ℕ) → v s ≡ Some d → (t : S) × (k : ℕ) × One Free Paid Home s t × (v t ≡ Some k) × (d ≡ suc k)
          first d e = elim (begins (way_at s d e)) [ inl g ↦ absurd (far g.0) | inr o ↦ pick o ]
            where
              pick : (t : S) × (k : ℕ) × One Free Paid Home s t × Way Free Paid Home t k × (d ≡ suc k) → (t : S) × (k : ℕ) × One Free Paid Home s t
                  × (v t ≡ Some k) × (d ≡ suc k)
              pick o =
                  let b = value_of_way o.3 in
                  let low : d ≤ suc b.0 = bound d e o.0 b.0 o.2 b.1 in
                  let high : b.0 ≤ o.1 = b.2 in
                  let is : d ≡ suc o.1 = o.4 in
                  (o.0, b.0, o.2, b.1, omega arith)

          go : (x : Option ℕ) → v s ≡ x → OneMore Free Paid Home v s x
          go None e = λ t o. none t (v t) refl e o
          go (Some d) e = (first d e, bound d e)

      -- where each value is exact, the local rule holds at each state
      pub rule_from_says : (s : S) → Rule Free Paid Home v s
      rule_from_says s = elim (decided s) [ inl g ↦ inl (g, zero_at g) | inr far ↦ inr (far, one_more s far) ]
        where
          zero_at : IsGoal Free Paid Home s → v s ≡ Some 0
          zero_at g = let b = value_of_way (along g.1 (home g.2)) in let z : 0 ≡ b.0 = let le : b.0 ≤ 0 = b.2 in omega arith in b.1 ∙ ap Some (sym z)
