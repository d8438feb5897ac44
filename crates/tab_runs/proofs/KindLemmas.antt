-- Which slots of a run's placements have a region.
use Rattle.std.proofs.Common.{◌≡◌, ◌≢◌, ℕ, ◌+◌, ◌-◌, ◌*◌, ◌<◌, ◌≤◌, true, List, length, get_or, inl, inr, sym, ◌∙◌, ap, subst, arith}
use Rattle.std.proofs.lemmas.Bool.{cases_eq, cases_lt}
use Rattle.puz_board.specs.Masks.{IsMaskOf}
use Rattle.pat_place.specs.Patterns.{ShownPattern, has}
use Rattle.pat_place.specs.Placements.{IsFree}
use Rattle.pat_place.specs.Regions.{AreRegions}
use Rattle.pat_place.proofs.SetLemmas.{SameCells, free_same, same_back, same_of_mask, slot_same}
use Rattle.tab_rule.proofs.RegionLemmas.{none_past, region_of_mask}
use Rattle.tab_file.specs.Tables.{slot_count}
use Rattle.tab_runs.specs.SetRows.{AreKindsUpTo, AreMarked}
use Rattle.tab_runs.specs.Kinds.{TellRegions, TellRegionsOf, TellsRegion}
use Rattle.tab_runs.specs.RunPlaces.{IsRun, run_length}
use Rattle.tab_runs.specs.Runs.{free_below, with_last}
use Rattle.tab_runs.specs.RowTables.{entries_of_run}
use Rattle.tab_runs.proofs.RowLemmas.{free_below-same, parts_one}
use Rattle.tab_runs.proofs.RunLemmas.{same_with_last}
use Rattle.tab_runs.proofs.RunRanks.{free_below-one}

-- ---- one placement more

module _ (n w : ℕ) (p : List ℕ) (c : ℕ) (old : List ℕ) (kinds : AreKindsUpTo n w p c old) where
  -- a cell that a tile is in
  pub kinds_skip : ¬ IsFree n p c → AreKindsUpTo n w p (c + 1) old
  kinds_skip taken = record {
    filled = λ d j l free low. elim (cases_eq d c) [
      | inl e ↦ absurd (taken (subst (IsFree n p) e free))
      | inr ne ↦ kinds.filled d j (omega arith) free low
    ];
    empty = λ d j past free low. kinds.empty d j (λ l. past (omega arith)) free low;
  }

  -- a free cell
  module _ (free : IsFree n p c) (regions new : List ℕ) (are : AreRegions n (with_last p c) regions) (few : length regions ≤ w)
      (marked : AreMarked (free_below p c * w) (length regions) old new) where
    kept : (d j : ℕ) → d ≢ c → IsFree n p d → j < w → get_or new (free_below p d * w + j) 0 ≡ get_or old (free_below p d * w + j) 0
    kept d j ne was low = marked.outside (free_below p d * w + j) (elim (cases_lt (free_below p d * w + j) (free_below p c * w)) [
      | inl l ↦ inl l
      | inr l ↦ elim (cases_lt (free_below p d * w + j) (free_below p c * w + length regions)) [
        | inr k ↦ inr k
        | inl k ↦
            let slot : ℕ = free_below p d * w + j - free_below p c * w in
            let parts = parts_one (free_below p d) (free_below p c) w j slot low (omega arith) (omega arith) in
            absurd (ne (free_below-one n p d c was free parts.0))
      ]
    ])

    here : (j : ℕ) → j < w → TellsRegion n (with_last p c) j (get_or new (free_below p c * w + j) 0)
    here j low = elim (cases_lt j (length regions)) [
      | inl l ↦ inr (marked.inside (free_below p c * w + j) (omega arith) (omega arith), region_of_mask n (with_last p c) regions are j l)
      | inr l ↦ inl (
        marked.outside (free_below p c * w + j) (inr (omega arith)) ∙ kinds.empty c j (λ k. omega arith) free low,
        none_past n (with_last p c) regions are j l,
      )
    ]

    -- where a free cell's placement is marked by its regions, the kinds are filled for one cell more
    pub kinds_more : AreKindsUpTo n w p (c + 1) new
    kinds_more = record {
      filled = λ d j l was low. elim (cases_eq d c) [
        | inl e ↦ subst (λ x. TellsRegion n (with_last p x) j (get_or new (free_below p x * w + j) 0)) (sym e) (here j low)
        | inr ne ↦ subst (TellsRegion n (with_last p d) j) (sym (kept d j ne was low)) (kinds.filled d j (omega arith) was low)
      ];
      empty = λ d j past was low. kept d j (λ e. past (omega arith)) was low ∙ kinds.empty d j (λ l. past (omega arith)) was low;
    }

-- kinds that are filled for all cells of the board tell which slots of the run have a region
pub kinds_all : (n w : ℕ) (p kinds : List ℕ) → AreKindsUpTo n w p (n * n) kinds → TellRegions n w p kinds
kinds_all n w p kinds are c j free low = are.filled c j free.0 free low

-- ---- the order of the cells is all the same

-- kinds that tell the regions of a run tell those of any run with the same set of cells
pub tells_same : (n w : ℕ) (p q : List ℕ) → SameCells p q → (kinds : List ℕ) → TellRegions n w p kinds → TellRegions n w q kinds
tells_same n w p q same kinds tells c j free low =
    let back = same_back p q same in
    subst (λ k. TellsRegion n (with_last q c) j (get_or kinds (k * w + j) 0)) (free_below-same p q same c) (elim (tells c j (free_same n q p back c free) low) [
      | inl none ↦ inl (none.0, λ x s. none.1 x (slot_same n (with_last q c) (with_last p c) (same_with_last q p c back) x j s))
      | inr some ↦ inr (
        some.0,
        record {
          cell = some.1.cell;
          in_slot = slot_same n (with_last p c) (with_last q c) (same_with_last p q c same) some.1.cell j some.1.in_slot;
        },
      )
    ])

-- ---- one set more

-- a run has as many entries as its number of tiles and its side say
pub entries_same : (p : ShownPattern) (cells : List ℕ) → IsRun p cells → run_length p.side cells * slot_count p ≡ entries_of_run p.side (length p.tiles)
entries_same p cells run = ap (λ k. k * slot_count p) (let s = run.size in
    let e : p.side * p.side - length cells ≡ p.side * p.side + 1 - length p.tiles = omega arith in e)

-- kinds of a run tell the regions of its set, in whatever order its cells are given
pub kinds_of_set : (n w : ℕ) (p kinds : List ℕ) (mask : ℕ) → IsMaskOf mask (λ c. has p c ≡ true) → TellRegions n w p kinds → TellRegionsOf n w mask kinds
kinds_of_set n w p kinds mask is tells q also = tells_same n w p q (same_of_mask mask p q is also) kinds tells
