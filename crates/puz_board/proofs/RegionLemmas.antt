-- A mask that grows to a region.
use Rattle.std.proofs.Common.{◌≡◌, ◌≢◌, ℕ, ◌-◌, ◌<◌, ◌≤◌, ◌⊎◌, inl, inr, sym, subst, arith}
use Rattle.std.specs.Int.{bit_at}
use Rattle.std.proofs.lemmas.Bool.{cases_eq}
use Rattle.puz_board.specs.Cells.{Adjacent}
use Rattle.puz_board.specs.Masks.{IsMaskOf}
use Rattle.puz_board.specs.Paths.{Reaches, here, onward}
use Rattle.puz_board.proofs.BitLemmas.{IsIn, sub_le}

-- the cells of the region that are found so far
pub record IsGrowing (n free cell region : ℕ) : Type 0 where
  pub start : IsIn region cell
  pub inside : (x : ℕ) → IsIn region x → IsIn free x
  pub reached : (x : ℕ) → IsIn region x → Reaches n (IsIn free) cell x

-- a cell is in the region already, or is a free cell adjacent to one of the region
abbrev pub Next : ℕ → ℕ → ℕ → ℕ → Type 0
Next n free region d = IsIn region d ⊎ (IsIn free d × (c : ℕ) × IsIn region c × Adjacent n c d)

module _ (n free cell : ℕ) where
  -- a path of free cells goes on to an adjacent free cell
  pub reaches_further : {c d f : ℕ} → Reaches n (IsIn free) c d → Adjacent n d f → IsIn free f → Reaches n (IsIn free) c f
  reaches_further here a o = onward a o here
  reaches_further (onward b p r) a o = onward b p (reaches_further r a o)

  -- a mask of one free cell alone has cells of this cell's region alone, and has the cell
  pub IsGrowing-start : (region : ℕ) → IsIn free cell → IsIn region cell → ((x : ℕ) → x ≢ cell → bit_at region x ≡ 0) → IsGrowing n free cell region
  IsGrowing-start region open_cell set others = record {
    start = set;
    inside = (λ x h. subst (IsIn free) (sym (only x h)) open_cell);
    reached = (λ x h. subst (λ y. Reaches n (IsIn free) cell y) (sym (only x h)) here);
  }
    where
      only : (x : ℕ) → IsIn region x → x ≡ cell
      only x h = elim (cases_eq x cell) [ inl e ↦ e | inr ne ↦ absurd (let z = others x ne in omega arith) ]

  -- a mask grown by the free cells next to it still has none but cells of the region
  pub IsGrowing-more : (region more : ℕ) → IsGrowing n free cell region → IsMaskOf more (Next n free region) → IsGrowing n free cell more
  IsGrowing-more region more g is = record {
    start = (is cell).1 (inl g.start);
    inside = (λ x h. elim ((is x).0 h) [ inl a ↦ g.inside x a | inr b ↦ b.0 ]);
    reached = (λ x h. elim ((is x).0 h) [ inl a ↦ g.reached x a | inr b ↦ reaches_further (g.reached b.1 b.2) b.3 b.0 ]);
  }

  -- a mask that grows no more has all that is reached
  pub stays_inside : (region : ℕ) → IsMaskOf region (Next n free region) → {c d : ℕ} → Reaches n (IsIn free) c d → IsIn region c → IsIn region d
  stays_inside region is here h = h
  stays_inside region is (onward {c = c} {d = d} a o r) h = stays_inside region is r ((is d).1 (inr (o, c, h, a)))

  -- a mask that its growing leaves as it was has all cells that are reached through free cells
  pub IsGrowing-all : (region more : ℕ) → IsGrowing n free cell region → IsMaskOf more (Next n free region) → more ≡ region
      → IsMaskOf more (Reaches n (IsIn free) cell)
  IsGrowing-all region more g is same = subst (λ m. IsMaskOf m (Reaches n (IsIn free) cell)) (sym same)
      (λ x. (g.reached x, λ r. stays_inside region (subst (λ m. IsMaskOf m (Next n free region)) same is) r g.start))

  -- until then it becomes a greater number, which free bounds
  pub grows : (region more : ℕ) → IsGrowing n free cell region → IsMaskOf more (Next n free region) → more ≢ region → free - more < free - region
  grows region more g is ne =
      let up : region ≤ more = sub_le region more (λ x h. (is x).1 (inl h)) in
      let top : more ≤ free = sub_le more free (IsGrowing-more region more g is).inside in
      omega arith
