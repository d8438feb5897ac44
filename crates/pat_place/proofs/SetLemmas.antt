-- Placements of one set of cells: their cells ascending, and slots, which depend on the set alone.
use Rattle.std.proofs.Common.{◌≡◌, ℕ, zero, suc, ◌*◌, ◌^◌, ◌<◌, ◌≤◌, true, List, length, inl, inr, sym, ◌∙◌, arith}
use Rattle.std.specs.Prelude.{count_ones}
use Rattle.puz_board.specs.Masks.{IsMaskOf, numbers_of}
use Rattle.puz_board.proofs.BitLemmas.{in_below}
use Rattle.puz_board.proofs.GrownLemmas.{free_fits}
use Rattle.puz_board.proofs.HasLemmas.{all_from_has}
use Rattle.pat_place.specs.Patterns.{IsPattern, ShownPattern, has}
use Rattle.pat_place.specs.Placements.{IsFree, IsPlacement}
use Rattle.pat_place.specs.Regions.{Joins, IsLeader, IsCount, IsSlot}
use Rattle.std.proofs.lemmas.Bool.{cases_Bool, both_ways}
use Rattle.pat_place.proofs.ListLemmas.{apart_from_ascending}
use Rattle.pat_place.proofs.MaskLemmas.{ascending-numbers_below, has-numbers_below, in_numbers_below, length-numbers_below}
use Rattle.pat_place.proofs.PatternLemmas.{few_tiles}
use Rattle.pat_place.proofs.SlotSteps.{same_paths}

-- ---- the cells of a set, ascending

module _ (p : ShownPattern) (pat : IsPattern p) (set : ℕ) (bits : set < 2 ^ (p.side * p.side)) (size : count_ones set ≡ length p.tiles) where
  fits : set < 2 ^ 32
  fits = free_fits p.side set pat.low pat.high bits

  counted : length (numbers_of set) ≡ count_ones set
  counted = length-numbers_below 32 set fits

  -- a set of as many cells as a pattern has tiles lists at most 8 of them
  pub few_numbers : length (numbers_of set) ≤ 8
  few_numbers = let c = counted in let few = few_tiles p pat in omega arith

  -- the cells of a set of a pattern's size, ascending, are a placement of the pattern
  pub placement_of_set : IsPlacement (record { pattern = p; cells = numbers_of set })
  placement_of_set = record {
    size = counted ∙ size;
    inside = all_from_has (λ c. c < p.side * p.side) (numbers_of set) (λ x h. in_below set (p.side * p.side) x bits (in_numbers_below 32 set x h).1);
    apart = apart_from_ascending (numbers_of set) (ascending-numbers_below 32 set);
  }

  -- a set is the mask of the cells that are listed from it
  pub set_of_numbers : IsMaskOf set (λ c. has (numbers_of set) c ≡ true)
  set_of_numbers x = (λ h. has-numbers_below 32 set x (in_below set 32 x fits h) h, λ h. (in_numbers_below 32 set x h).1)

-- ---- the order of the cells is all the same

-- the cells of two lists are the same
abbrev pub SameCells : List ℕ → List ℕ → Type 0
SameCells p q = (x : ℕ) → has p x ≡ has q x

-- a list has the cells of another where the other has its cells
pub same_back : (p q : List ℕ) → SameCells p q → SameCells q p
same_back p q same x = sym (same x)

-- cells of one mask
pub same_of_mask : (mask : ℕ) (p q : List ℕ) → IsMaskOf mask (λ c. has p c ≡ true) → IsMaskOf mask (λ c. has q c ≡ true) → SameCells p q
same_of_mask mask p q is also x = elim (cases_Bool (has p x)) [
  | inl t ↦ t ∙ sym ((also x).0 ((is x).1 t))
  | inr f ↦ elim (cases_Bool (has q x)) [
    | inl t ↦ absurd (both_ways (has p x) f ((is x).0 ((also x).1 t)))
    | inr g ↦ f ∙ sym g
  ]
]

-- a cell that is free by one list of cells is free by any list of the same cells
pub free_same : (n : ℕ) (p q : List ℕ) → SameCells p q → (c : ℕ) → IsFree n p c → IsFree n q c
free_same n p q same c free = (free.0, sym (same c) ∙ free.1)

joins_same : (n : ℕ) (p q : List ℕ) → SameCells p q → {c d : ℕ} → Joins n p c d → Joins n q c d
joins_same n p q same r = same_paths n (IsFree n p) (IsFree n q) (free_same n p q same) r

leader_same : (n : ℕ) (p q : List ℕ) → SameCells p q → (c : ℕ) → IsLeader n p c → IsLeader n q c
leader_same n p q same c l = (free_same n p q same c l.0, λ d r. l.1 d (joins_same n q p (same_back p q same) r))

count_of_same : (A B : ℕ → Type 0) → ((x : ℕ) → A x → B x) → ((x : ℕ) → B x → A x) → (m j : ℕ) → IsCount A m j → IsCount B m j
count_of_same A B to back zero j a = a
count_of_same A B to back (suc m) j a = elim a [
  | inl x ↦ inl (to m x.0, x.1, x.2, count_of_same A B to back m x.1 x.3)
  | inr x ↦ inr (λ b. x.0 (back m b), count_of_same A B to back m j x.1)
]

-- a cell's slot by one list of cells is its slot by any list of the same cells
pub slot_same : (n : ℕ) (p q : List ℕ) → SameCells p q → (c j : ℕ) → IsSlot n p c j → IsSlot n q c j
slot_same n p q same c j s = record {
  free = free_same n p q same c s.free;
  leader = s.leader;
  joined = joins_same n p q same s.joined;
  is_leader = leader_same n p q same s.leader s.is_leader;
  below = count_of_same (IsLeader n p) (IsLeader n q) (leader_same n p q same) (leader_same n q p (same_back p q same)) s.leader j s.below;
}
