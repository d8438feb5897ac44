-- The rule up to a count makes each value that is past it the least cost of a way home.
use Rattle.std.proofs.Common.{◌≡◌, ℕ, zero, suc, ◌<◌, ◌≤◌, ◌⊎◌, Option, Some, None, inl, inr, refl, sym, ◌∙◌, ap, subst, arith}
use Rattle.std.specs.Prelude.{IfSome}
use Rattle.puz_board.proofs.Ways.{Way, home, free, paid, here, IsGoal, IsLeast, OneMore, Rule}
use Rattle.puz_board.proofs.WayLemmas.{along, way_from_one}

module _ {S : Type 0} (Free Paid : S → S → Type 0) (Home : S → Type 0) (v : S → Option ℕ) where
  -- the value is none, though the least value one move away is the count
  abbrev pub IsPast : ℕ → S → Type 0
  IsPast most s = (¬ IsGoal Free Paid Home s) × (v s ≡ None) × OneMore Free Paid Home v s (Some (suc most))

  -- the value keeps the rule and is no greater than the count, or it is past the count
  abbrev pub RuleUpTo : ℕ → S → Type 0
  RuleUpTo most s = (Rule Free Paid Home v s × IfSome (v s) (λ d. d ≤ most)) ⊎ IsPast most s

  module _ (steady : (s t : S) → Free s t → v t ≡ v s) (most : ℕ) (rule : (s : S) → RuleUpTo most s) where
    -- the value is at most the cost, or it is none and the cost above the count
    abbrev Bounds : S → ℕ → Type 0
    Bounds s c = ((d : ℕ) × (v s ≡ Some d) × (d ≤ c)) ⊎ ((v s ≡ None) × (most < c))

    at_home : (s : S) → Home s → v s ≡ Some 0
    at_home s h = elim (rule s) [
      | inl keeps ↦ elim keeps.0 [ inl g ↦ g.1 | inr o ↦ absurd (o.0 (s, here, h)) ]
      | inr past ↦ absurd (past.0 (s, here, h))
    ]

    after_paid : (s t : S) (c : ℕ) → Paid s t → Bounds t c → Bounds s (suc c)
    after_paid s t c p bounds = elim (rule s) [
      | inl keeps ↦ elim keeps.0 [ inl g ↦ inl (0, g.1, omega arith) | inr o ↦ go (v s) refl keeps.1 o.1 bounds ]
      | inr past ↦ inr (past.1, above past.2 bounds)
    ]
      where
        above : OneMore Free Paid Home v s (Some (suc most)) → Bounds t c → most < suc c
        above one (inl b) = let low : suc most ≤ suc b.0 = one.1 t b.0 (s, here, p) b.1 in let high : b.0 ≤ c = b.2 in omega arith
        above one (inr b) = let high : most < c = b.1 in omega arith

        go : (x : Option ℕ) → v s ≡ x → IfSome x (λ d. d ≤ most) → OneMore Free Paid Home v s x → Bounds t c → Bounds s (suc c)
        go None is small one (inl b) = absurd (let n : v t ≡ None = one t (s, here, p) in let bad : Some b.0 ≡ None = sym b.1 ∙ n in cc)
        go None is small one (inr b) = let high : most < c = b.1 in inr (is, omega arith)
        go (Some d) is small one (inl b) = let low : d ≤ suc b.0 = one.1 t b.0 (s, here, p) b.1 in let high : b.0 ≤ c = b.2 in inl (d, is, omega arith)
        go (Some d) is small one (inr b) = let high : most < c = b.1 in let low : d ≤ most = small in inl (d, is, omega arith)

    -- each way has such a cost
    bounds_way : {s : S} {c : ℕ} → Way Free Paid Home s c → Bounds s c
    bounds_way (home {s = s} h) = inl (0, at_home s h, omega arith)
    bounds_way (free {s = s} {t = t} f w) = elim (bounds_way w) [
      | inl b ↦ inl (b.0, sym (steady s t f) ∙ b.1, b.2)
      | inr b ↦ inr (sym (steady s t f) ∙ b.0, b.1)
    ]
    bounds_way (paid {s = s} {t = t} {c = c} p w) = after_paid s t c p (bounds_way w)

    goal_way : (d : ℕ) (s : S) → v s ≡ Some d → IsGoal Free Paid Home s × (v s ≡ Some 0) → Way Free Paid Home s d
    goal_way d s e g = let z : 0 ≡ d = cc (e, g.1) in subst (λ x. Way Free Paid Home s x) z (along Free Paid Home g.0.1 (home g.0.2))

    not_past : (d : ℕ) (s : S) → v s ≡ Some d → ¬ IsPast most s
    not_past d s e past = let bad : Some d ≡ None = sym e ∙ past.1 in cc

    one_farther : (d : ℕ) (s : S) → ((t : S) → v t ≡ Some d → Way Free Paid Home t d) → OneMore Free Paid Home v s (Some (suc d)) → Way Free Paid Home s (suc d)
    one_farther d s way one =
        let same : one.0.1 ≡ d = let more : suc d ≡ suc one.0.1 = one.0.4 in omega arith in
        way_from_one Free Paid Home one.0.2 (way one.0.0 (one.0.3 ∙ ap Some same))

    -- a value is the cost of a way
    way_of_value : (d : ℕ) (s : S) → v s ≡ Some d → Way Free Paid Home s d
    way_of_value zero s e = elim (rule s) [
      | inr past ↦ absurd (not_past zero s e past)
      | inl keeps ↦ elim keeps.0 [ inl g ↦ goal_way zero s e g | inr o ↦ absurd (no_zero (subst (OneMore Free Paid Home v s) e o.1)) ]
    ]
      where
        no_zero : OneMore Free Paid Home v s (Some 0) → ⊥
        no_zero one = let bad : 0 ≡ suc one.0.1 = one.0.4 in omega arith
    way_of_value (suc d) s e = elim (rule s) [
      | inr past ↦ absurd (not_past (suc d) s e past)
      | inl keeps ↦ elim keeps.0 [
        | inl g ↦ goal_way (suc d) s e g
        | inr o ↦ one_farther d s (λ t is. way_of_value d t is) (subst (OneMore Free Paid Home v s) e o.1)
      ]
    ]

    -- past the count stands one more
    pub past_costs : (s : S) → IsPast most s → IsLeast Free Paid Home s (suc most)
    past_costs s past = (
      one_farther most s (λ t is. way_of_value most t is) past.2,
      λ c w. elim (bounds_way w) [
        | inl b ↦ absurd (not_past b.0 s b.1 past)
        | inr b ↦ (let high : most < c = b.1 in omega arith)
      ],
    )
