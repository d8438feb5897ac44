-- What members say of a board together. A pattern is the list of its tiles.
use Rattle.std.specs.Prelude.{◌≡◌, ℕ, ◌+◌, true, Any, List, [], ◌∷◌, ◌⊎◌}
use Rattle.puz_board.specs.Costs.{cost, has}
use Rattle.tab_rule.specs.declared.tables.Count.{Count}
use Rattle.tab_rule.specs.declared.tables.Count.TheVariants.{Finite, Never}
use Rattle.set_sum.specs.Members.{MemberSays}
use Rattle.set_sum.specs.Parts.{ShownPart}
use Rattle.set_sum.specs.declared.members.Member.{Member}

-- ---- disjoint patterns

-- a tile is in both patterns
abbrev pub Overlap : List ℕ → List ℕ → Type 0
Overlap p q = (t : ℕ) × (has p t ≡ true) × (has q t ≡ true)

-- an element of the list and a later one have the relation
abbrev pub HaveTwo : {X : Type 0} (R : X → X → Type 0) → List X → Type 0
HaveTwo R [] = ⊥
HaveTwo R (x ∷ xs) = Any (R x) xs ⊎ HaveTwo R xs

-- a tile is in two of the patterns
abbrev pub HaveOverlap : List (List ℕ) → Type 0
HaveOverlap patterns = HaveTwo Overlap patterns

-- no tile is in two of the patterns
abbrev pub AreDisjoint : List (List ℕ) → Type 0
AreDisjoint patterns = ¬ HaveOverlap patterns

-- what a path costs the patterns together
abbrev pub total_cost : List (List ℕ) → List ℕ → List ℕ → ℕ
total_cost [] b path = 0
total_cost (p ∷ ps) b path = cost p b path + total_cost ps b path

-- ---- what a set says of a board

-- each member says a number, and these add up to d
abbrev pub AddUpTo : List ShownPart → List Member → List ℕ → ℕ → Type 0
AddUpTo tables [] b d = d ≡ 0
AddUpTo tables (m ∷ ms) b d =
    (first : ℕ) × (rest : ℕ) × MemberSays tables m b (Finite first) × AddUpTo tables ms b rest × (d ≡ first + rest)

-- the sum of what the members say, and never where one of them says never
abbrev pub SetSays : List ShownPart → List Member → List ℕ → Count → Type 0
SetSays tables set b (Finite d) = AddUpTo tables set b d
SetSays tables set b Never = Any (λ m. MemberSays tables m b Never) set
