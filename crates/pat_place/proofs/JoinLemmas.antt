-- Paths of free cells: joined cells are joined back, and whether cells are joined can be decided.
use Rattle.std.proofs.Common.{◌≡◌, ℕ, zero, suc, ◌*◌, ◌<◌, ◌≤◌, ◌⊎◌, List, Option, Some, None, inl, inr, refl, ap, subst, arith}
use Rattle.std.proofs.lemmas.Bool.{cases_eq, cases_lt, cases_Bool, both_ways}
use Rattle.puz_board.specs.declared.moves.Move.{Move}
use Rattle.puz_board.specs.declared.moves.Move.TheVariants.{Up, Down, Left, Right}
use Rattle.puz_board.specs.Cells.{step_of, reverse_of, Adjacent}
use Rattle.puz_board.proofs.CellLemmas.{reverse_of-takes_back}
use Rattle.pat_place.specs.Patterns.{has}
use Rattle.pat_place.specs.Placements.{IsFree}
use Rattle.pat_place.specs.Regions.{here, onward, Joins}

-- a statement is decided where it holds or its negation does
abbrev pub Decided : Type 0 → Type 0
Decided A = A ⊎ (¬ A)

-- where each of two statements is decided, so is whether both hold
pub both : {A B : Type 0} → Decided A → Decided B → Decided (A × B)
both a b = elim a [ inl x ↦ elim b [ inl y ↦ inl (x, y) | inr n ↦ inr (λ p. n p.1) ] | inr n ↦ inr (λ p. n p.0) ]

either : {A B : Type 0} → Decided A → Decided B → Decided (A ⊎ B)
either a b = elim a [ inl x ↦ inl (inl x) | inr m ↦ elim b [ inl y ↦ inl (inr y) | inr n ↦ inr (λ p. elim p [ inl x ↦ m x | inr y ↦ n y ]) ] ]

step_decided : (o : Option ℕ) (d : ℕ) → Decided (o ≡ Some d)
step_decided None d = inr (λ e. cc)
step_decided (Some x) d = elim (cases_eq x d) [ inl e ↦ inl (ap Some e) | inr ne ↦ inr (λ e. ne (let q : x ≡ d = cc in q)) ]

module _ (n : ℕ) (p : List ℕ) where
  -- whether two cells are adjacent is decided
  pub adjacent_decided : (c d : ℕ) → Decided (Adjacent n c d)
  adjacent_decided c d = elim (cases_lt d (n * n)) [
    | inl l ↦ elim some_move [ inl m ↦ inl (l, m.0, m.1) | inr none ↦ inr (λ a. none (a.1, a.2)) ]
    | inr l ↦ inr (λ a. let k : d < n * n = a.0 in omega arith)
  ]
    where
      some_move : Decided ((m : Move) × (step_of n c m ≡ Some d))
      some_move = elim (step_decided (step_of n c Up) d) [
        | inl e ↦ inl (Up, e)
        | inr a ↦ elim (step_decided (step_of n c Down) d) [
          | inl e ↦ inl (Down, e)
          | inr b ↦ elim (step_decided (step_of n c Left) d) [
            | inl e ↦ inl (Left, e)
            | inr f ↦ elim (step_decided (step_of n c Right) d) [
              | inl e ↦ inl (Right, e)
              | inr g ↦ inr (λ h. none a b f g h.0 h.1)
            ]
          ]
        ]
      ]
        where
          none : ¬ (step_of n c Up ≡ Some d) → ¬ (step_of n c Down ≡ Some d) → ¬ (step_of n c Left ≡ Some d) → ¬ (step_of n c Right ≡ Some d)
              → (m : Move) → step_of n c m ≡ Some d → ⊥
          none a b f g Up e = a e
          none a b f g Down e = b e
          none a b f g Left e = f e
          none a b f g Right e = g e

  -- whether a cell is on the board and no tile is in it is decided
  pub free_decided : (c : ℕ) → Decided (IsFree n p c)
  free_decided c = both (elim (cases_lt c (n * n)) [ inl l ↦ inl l | inr l ↦ inr (λ k. omega arith) ])
      (elim (cases_Bool (has p c)) [ inl t ↦ inr (λ f. both_ways (has p c) f t) | inr f ↦ inl f ])

  -- inner cells of the path are below k
  abbrev Via : ℕ → ℕ → ℕ → Type 0
  Via zero c d = (c ≡ d) ⊎ (Adjacent n c d × IsFree n p d)
  Via (suc k) c d = Via k c d ⊎ (Via k c k × Via k k d)

  via_decided : (k c d : ℕ) → Decided (Via k c d)
  via_decided zero c d = either (cases_eq c d) (both (adjacent_decided c d) (free_decided d))
  via_decided (suc k) c d = either (via_decided k c d) (both (via_decided k c k) (via_decided k k d))

  -- a path of free cells and another from its end on make one path of free cells
  pub Joins-trans : {c d f : ℕ} → Joins n p c d → Joins n p d f → Joins n p c f
  Joins-trans here r = r
  Joins-trans (onward a free q) r = onward a free (Joins-trans q r)

  joins_from_via : (k c d : ℕ) → Via k c d → Joins n p c d
  joins_from_via zero c d v = elim v [ inl e ↦ subst (λ x. Joins n p c x) e here | inr a ↦ onward a.0 a.1 here ]
  joins_from_via (suc k) c d v = elim v [ inl a ↦ joins_from_via k c d a | inr b ↦ Joins-trans (joins_from_via k c k b.0) (joins_from_via k k d b.1) ]

  via_more : (k c d : ℕ) → Via zero c d → Via k c d
  via_more zero c d v = v
  via_more (suc k) c d v = inl (via_more k c d v)

  via_joined : (k c e d : ℕ) → e < k → Via k c e → Via k e d → Via k c d
  via_joined zero c e d l a b = absurd (omega arith)
  via_joined (suc k) c e d l a b = elim (cases_eq e k) [
    | inl same ↦ inr
        (to (subst (λ x. Via (suc k) c x) same a), onto (subst (λ x. Via (suc k) x d) same b))
    | inr ne ↦ join (via_joined k c e d (omega arith)) (via_joined k c e k (omega arith)) (via_joined k k e d (omega arith))
  ]
    where
      to : Via (suc k) c k → Via k c k
      to v = elim v [ inl x ↦ x | inr y ↦ y.0 ]

      onto : Via (suc k) k d → Via k k d
      onto v = elim v [ inl x ↦ x | inr y ↦ y.1 ]

      join : (Via k c e → Via k e d → Via k c d) → (Via k c e → Via k e k → Via k c k) → (Via k k e → Via k e d → Via k k d) → Via (suc k) c d
      join straight left_part right_part = elim a [
        | inl x ↦ elim b [ inl y ↦ inl (straight x y) | inr y ↦ inr (left_part x y.0, y.1) ]
        | inr x ↦ elim b [ inl y ↦ inr (x.0, right_part x.1 y) | inr y ↦ inr (x.0, y.1) ]
      ]

  via_from_joins : {c d : ℕ} → Joins n p c d → Via (n * n) c d
  via_from_joins (here {c = c}) = via_more (n * n) c c (inl refl)
  via_from_joins (onward {c = c} {d = d} {f = f} a free r) = via_joined (n * n) c d f free.0 (via_more (n * n) c d (inr (a, free))) (via_from_joins r)

  -- whether a path of free cells leads from one cell to another is decided
  pub joins_decided : (c d : ℕ) → Decided (Joins n p c d)
  joins_decided c d = elim (via_decided (n * n) c d) [ inl v ↦ inl (joins_from_via (n * n) c d v) | inr none ↦ inr (λ r. none (via_from_joins r)) ]

  -- a cell to which a path of free cells leads from a free cell is free
  pub Joins-free : {c d : ℕ} → IsFree n p c → Joins n p c d → IsFree n p d
  Joins-free f here = f
  Joins-free f (onward a free r) = Joins-free free r

  -- on sides 2 to 5, where a path of free cells leads from a free cell, one leads back
  pub Joins-sym : {c d : ℕ} → 2 ≤ n → n ≤ 5 → IsFree n p c → Joins n p c d → Joins n p d c
  Joins-sym low high f here = here
  Joins-sym low high f (onward {c = c} {d = d} a free r) =
      Joins-trans (Joins-sym low high free r) (onward (f.0, reverse_of a.1, reverse_of-takes_back a.1 n c d low high f.0 a.2) f here)
