-- What disjoint patterns cost together: each step moves one tile, which is in one of them at most.
use Rattle.std.proofs.Common.{◌≡◌, ℕ, ◌+◌, ◌≤◌, Bool, true, false, cond, List, [], ◌∷◌, length, inl, inr, refl, ap, ap₂, arith}
use Rattle.puz_board.specs.Boards.{at, slid}
use Rattle.puz_board.specs.Costs.{has}
use Rattle.set_sum.specs.Sums.{AreDisjoint, HaveOverlap, Overlap, total_cost}
use Rattle.set_sum.proofs.AnyLemmas.{Any-here, Any-later}

-- what the patterns pay together for a move of one tile
abbrev pub charge : List (List ℕ) → ℕ → ℕ
charge [] t = 0
charge (p ∷ ps) t = cond (has p t) 1 0 + charge ps t

-- disjoint patterns without the first one are disjoint
pub disjoint-rest : (p : List ℕ) (ps : List (List ℕ)) → AreDisjoint (p ∷ ps) → AreDisjoint ps
disjoint-rest p ps apart = λ h. apart (inr h)

-- a tile of one pattern is in none of the others
charge-others : (p : List ℕ) (t : ℕ) → has p t ≡ true → (ps : List (List ℕ)) → (¬ HaveOverlap (p ∷ ps)) → charge ps t ≡ 0
charge-others p t is_tile [] apart = refl
charge-others p t is_tile (q ∷ ps) apart = go (has q t) refl (charge-others p t is_tile ps (λ h. apart (later h)))
  where
    later : HaveOverlap (p ∷ ps) → HaveOverlap (p ∷ q ∷ ps)
    later h = elim h [ inl some ↦ inl (Any-later (Overlap p) q ps some) | inr more ↦ inr (inr more) ]

    go : (h : Bool) → has q t ≡ h → charge ps t ≡ 0 → cond (has q t) 1 0 + charge ps t ≡ 0
    go true e rest = absurd (apart (inl (Any-here (Overlap p) q ps (t, is_tile, e))))
    go false e rest = ap₂ (λ h x. cond h 1 0 + x) e rest

charge-once : (ps : List (List ℕ)) (t : ℕ) → AreDisjoint ps → charge ps t ≤ 1
charge-once [] t apart = omega arith
charge-once (p ∷ ps) t apart = go (has p t) refl (charge-once ps t (disjoint-rest p ps apart))
  where
    go : (h : Bool) → has p t ≡ h → charge ps t ≤ 1 → cond (has p t) 1 0 + charge ps t ≤ 1
    go true e low =
        let none : charge ps t ≡ 0 = charge-others p t e ps apart in
        let one : cond (has p t) 1 0 + charge ps t ≡ 1 + 0 = ap₂ (λ h x. cond h 1 0 + x) e none in
        omega arith
    go false e low = let same : cond (has p t) 1 0 + charge ps t ≡ 0 + charge ps t = ap (λ h. cond h 1 0 + charge ps t) e in omega arith

total_cost-nowhere : (ps : List (List ℕ)) (b : List ℕ) → total_cost ps b [] ≡ 0
total_cost-nowhere [] b = refl
total_cost-nowhere (p ∷ ps) b = let e : total_cost ps b [] ≡ 0 = total_cost-nowhere ps b in omega arith

total_cost-step : (ps : List (List ℕ)) (b : List ℕ) (c : ℕ) (cs : List ℕ) → total_cost ps b (c ∷ cs) ≡ charge ps (at b c) + total_cost ps (slid b c) cs
total_cost-step [] b c cs = refl
total_cost-step (p ∷ ps) b c cs = let e : total_cost ps b (c ∷ cs) ≡ charge ps (at b c) + total_cost ps (slid b c) cs = total_cost-step ps b c cs in omega arith

-- what a path costs disjoint patterns together is at most its number of steps
pub total_cost-within : (ps : List (List ℕ)) → AreDisjoint ps → (path b : List ℕ) → total_cost ps b path ≤ length path
total_cost-within ps apart [] b = let e : total_cost ps b [] ≡ 0 = total_cost-nowhere ps b in omega arith
total_cost-within ps apart (c ∷ cs) b =
    let e : total_cost ps b (c ∷ cs) ≡ charge ps (at b c) + total_cost ps (slid b c) cs = total_cost-step ps b c cs in
    let once : charge ps (at b c) ≤ 1 = charge-once ps (at b c) apart in
    let rest : total_cost ps (slid b c) cs ≤ length cs = total_cost-within ps apart cs (slid b c) in
    omega arith
