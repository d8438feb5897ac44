-- The run of a placement, and the last one of its placements.
use Rattle.std.proofs.Common.{◌≡◌, ◌≢◌, ℕ, suc, ◌+◌, ◌-◌, ◌*◌, ◌/◌, ◌%◌, ◌^◌, ◌<◌, ◌≤◌, true, false, eqb, List, [], ◌∷◌, length, get_or, set, take}
use Rattle.std.proofs.Common.{inl, inr, refl, sym, ◌∙◌, ap, subst, arith}
use Rattle.std.specs.Int.{bit_at}
use Rattle.std.specs.List.{AllByRecursion}
use Rattle.std.proofs.lemmas.Bool.{both_ways, cases_lt, eqb-false, false_from_ne_true, ne_eqb, or_from, or_left, or_parts, or_cases, eqb-true}
use Rattle.std.proofs.lemmas.List.{length-take-le, take_all}
use Rattle.std.proofs.lemmas.Nat.{div-add-mod', mod_below}
use Rattle.std.proofs.Math.Seq.{set-append_seam, take-suc}
use Rattle.puz_board.specs.Masks.{IsMaskOf}
use Rattle.puz_board.proofs.BitLemmas.{in_below}
use Rattle.puz_board.proofs.CellLemmas.{few_cells}
use Rattle.pat_place.specs.Patterns.{IsPattern, ShownPattern, has}
use Rattle.pat_place.specs.Placements.{IsApart, IsFree, IsPlacement, ShownPlacement}
use Rattle.pat_place.specs.Ranks.{IsRank}
use Rattle.pat_place.proofs.ListLemmas.{all_at, at-has}
use Rattle.pat_place.proofs.RankLemmas.{IsRank-one}
use Rattle.tab_file.specs.Tables.{Table}
use Rattle.tab_runs.specs.Outside.{IsLastOutside}
use Rattle.tab_runs.specs.RunPlaces.{IsFirstRank, IsRun, run_length}
use Rattle.tab_runs.specs.Runs.{free_below, with_last}
use Rattle.tab_runs.proofs.RowLemmas.{parts_one}
use Rattle.tab_runs.proofs.RunLemmas.{has-with_last}
use Rattle.tab_runs.proofs.RunRanks.{first_some, free_at, free_below-low, free_below-up}

-- where all cells of a placement are on the board, so are those of the run and the last one
pub inside_front : (m : ℕ) (p : List ℕ) (c : ℕ) → AllByRecursion (λ x. x < m) (with_last p c) → AllByRecursion (λ x. x < m) p × (c < m)
inside_front m [] c all = (tt, all.0)
inside_front m (x ∷ p) c all = let r = inside_front m p c all.1 in ((all.0, r.0), r.1)

-- where no two tiles of a placement share a cell, none of the run do, and the last one's is in none of theirs
pub apart_front : (p : List ℕ) (c : ℕ) → IsApart (with_last p c) → IsApart p × (has p c ≡ false)
apart_front [] c apart = (tt, refl)
apart_front (x ∷ p) c apart =
    let r = apart_front p c apart.1 in
    let o = or_parts (has p x) (eqb c x) (sym (has-with_last p c x) ∙ apart.0) in
    ((o.0, r.0), or_from (eqb x c) (has p c) (ne_eqb x c (λ e. eqb-false c x o.1 (sym e))) r.1)

-- the run of the placement of a rank: its cells, the last tile's, its first rank, and its set of cells
pub record IsRunAt (t : Table) (p : List ℕ) (last from first set : ℕ) : Type 0 where
  pub run : IsRun t.pattern p
  pub free : IsFree t.pattern.side p last
  pub is_first : IsFirstRank t.pattern.side p first
  pub low : first ≤ from
  pub mask : IsMaskOf set (λ c. has p c ≡ true)

mask_front : (p : List ℕ) (c occupied set : ℕ) → has p c ≡ false → AllByRecursion (λ x. x < 25) p → set < 2 ^ 32
    → IsMaskOf occupied (λ x. has (with_last p c) x ≡ true)
    → bit_at set c ≡ 0 → ((x : ℕ) → x < 32 → x ≢ c → bit_at set x ≡ bit_at occupied x) → IsMaskOf set (λ x. has p x ≡ true)
mask_front p c occupied set out inside fits is clear others x = (
  λ h.
      let ne : x ≢ c = (λ e. let z : bit_at set x ≡ 0 = ap (bit_at set) e ∙ clear in omega arith) in
      let both = sym (has-with_last p c x) ∙ (is x).0 (sym (others x (in_below set 32 x fits h) ne) ∙ h) in
      elim (or_cases (has p x) (eqb c x) both) [ inl k ↦ k | inr e ↦ absurd (ne (sym (eqb-true c x e))) ],
  λ h.
      let ne : x ≢ c = (λ e. both_ways (has p c) out (ap (has p) (sym e) ∙ h)) in
      let at = at-has p x h in
      let low : x < 32 = (let l = all_at p at.0 inside at.1 in let e : get_or p at.0 0 ≡ x = at.2 in omega arith) in
      others x low ne ∙ (is x).1 (has-with_last p c x ∙ or_left (has p x) (eqb c x) h),
)

below_more : (m k : ℕ) → m ≤ k → (p : List ℕ) → AllByRecursion (λ x. x < m) p → AllByRecursion (λ x. x < k) p
below_more m k l [] all = tt
below_more m k l (x ∷ p) all = ((let h = all.0 in omega arith), below_more m k l p all.1)

first_is : (n : ℕ) (p : List ℕ) (c from : ℕ) → AllByRecursion (λ x. x < n * n) p → IsApart p → IsFree n p c → IsRank n (with_last p c) from
    → IsFirstRank n p (from - from % run_length n p)
first_is n p c from inside apart free is =
    let first = first_some n p inside apart in
    let low = free_below-low n p c inside apart free in
    let some : 0 < run_length n p = omega arith in
    let same : from ≡ first.0 * run_length n p + free_below p c =
    IsRank-one n (with_last p c) from (first.0 * run_length n p + free_below p c) is (first.2.each c free) in
    let split = div-add-mod' from (run_length n p) in
    let parts = parts_one (from / run_length n p) first.0 (run_length n p) (from % run_length n p) (free_below p c)
    (mod_below from (run_length n p) some) low (omega arith) in
    let e : first.0 * run_length n p ≡ from - from % run_length n p = (let k = parts.1 in omega arith) in
    subst (IsFirstRank n p) e first.2

-- the cells of a placement but the last, with its rank rounded down by the run's length, are its run
pub run_at : (t : Table) → IsPattern t.pattern → (view : ShownPlacement) → view.pattern ≡ t.pattern → IsPlacement view → (from : ℕ)
    → IsRank t.pattern.side view.cells from → (cells : List ℕ) → cells ≡ view.cells
    → (index occupied set len : ℕ) → index + 1 ≡ length t.pattern.tiles → IsMaskOf occupied (λ c. has view.cells c ≡ true) → set < 2 ^ 32
    → bit_at set (get_or cells index 0) ≡ 0
    → ((x : ℕ) → x < 32 → x ≢ get_or cells index 0 → bit_at set x ≡ bit_at occupied x) → len ≡ t.pattern.side * t.pattern.side + 1 - length t.pattern.tiles
    → IsRunAt t (take index cells) (get_or cells index 0) from (from - from % len) set
run_at t pat view same placed from rank cells cells_are index occupied set len is_index is fits clear others len_is =
    let size : length cells ≡ index + 1 = ap length cells_are ∙ placed.size ∙ ap (λ q. length q.tiles) same ∙ sym is_index in
    let p = take index cells in
    let c = get_or cells index 0 in
    let whole : with_last p c ≡ view.cells = sym (take-suc cells index 0 (omega arith)) ∙ take_all (suc index) cells (omega arith) ∙ cells_are in
    let inside = inside_front (t.pattern.side * t.pattern.side) p c
    (subst (λ q. AllByRecursion (λ x. x < q.side * q.side) (with_last p c)) same
    (subst (AllByRecursion (λ x. x < view.pattern.side * view.pattern.side)) (sym whole) placed.inside)) in
    let apart = apart_front p c (subst IsApart (sym whole) placed.apart) in
    let free : IsFree t.pattern.side p c = (inside.1, apart.1) in
    let long : length p ≡ index = length-take-le index cells (omega arith) in
    let few = few_cells t.pattern.side pat.low pat.high in
    let len_same : run_length t.pattern.side p ≡ len =
    sym (len_is ∙ (let e : t.pattern.side * t.pattern.side + 1 - length t.pattern.tiles ≡ t.pattern.side * t.pattern.side - length p = omega arith in e)) in
    record {
      run = record { size = ap (λ k. k + 1) long ∙ is_index; inside = inside.0; apart = apart.0 };
      free = free;
      is_first = subst (λ k. IsFirstRank t.pattern.side p (from - from % k)) len_same
          (first_is t.pattern.side p c from inside.0 apart.0 free (subst (λ q. IsRank t.pattern.side q from) (sym whole) rank));
      low = omega arith;
      mask = mask_front p c occupied set apart.1 (below_more (t.pattern.side * t.pattern.side) 25 few p inside.0) fits
          (subst (λ q. IsMaskOf occupied (λ x. has q x ≡ true)) (sym whole) is) clear others;
    }

-- the cells with the last one changed
set_last : (cells : List ℕ) (index g : ℕ) → length cells ≡ index + 1 → set cells index g ≡ with_last (take index cells) g
set_last cells index g size =
    let c : ℕ = get_or cells index 0 in
    let whole : with_last (take index cells) c ≡ cells = sym (take-suc cells index 0 (omega arith)) ∙ take_all (suc index) cells (omega arith) in
    let long : length (take index cells) ≡ index = length-take-le index cells (omega arith) in
    ap (λ q. set q index g) (sym whole) ∙ ap (λ k. set (with_last (take index cells) c) k g) (sym long) ∙ set-append_seam (take index cells) c [] g

-- the cells but the last, with the last one put behind, are all cells of the placement
pub same_last : (cells : List ℕ) (index : ℕ) → length cells ≡ index + 1 → with_last (take index cells) (get_or cells index 0) ≡ cells
same_last cells index size = sym (take-suc cells index 0 (omega arith)) ∙ take_all (suc index) cells (omega arith)

-- no cell of the run's last tile is behind the greatest one
behind_all : (n : ℕ) (p : List ℕ) (g : ℕ) → AllByRecursion (λ x. x < n * n) p → IsApart p → IsFree n p g
    → ((x : ℕ) → g < x → x < n * n → has p x ≡ true) → free_below p g + 1 ≡ run_length n p
behind_all n p g inside apart free last =
    let low = free_below-low n p g inside apart free in
    elim (cases_lt (free_below p g + 1) (run_length n p)) [
      | inr l ↦ (omega arith)
      | inl l ↦ absurd (
          let d = free_at n p inside apart (free_below p g + 1) l in
          elim (cases_lt g d.0) [
            | inl above ↦ both_ways (has p d.0) d.1.1 (last d.0 above d.1.0)
            | inr below ↦ (let up = free_below-up p d.0 g (omega arith) in let e = d.2 in omega arith)
          ])
    ]

-- the last placement of a run
last_rank : (t : Table) → IsPattern t.pattern → (p : List ℕ) (c from first set : ℕ) → IsRunAt t p c from first set → (g : ℕ)
    → IsFree t.pattern.side p g → ((x : ℕ) → g < x → x < t.pattern.side * t.pattern.side → has p x ≡ true)
    → IsRank t.pattern.side (with_last p g) (first + (t.pattern.side * t.pattern.side - length t.pattern.tiles))
last_rank t pat p c from first set at g free last =
    let e = behind_all t.pattern.side p g at.run.inside at.run.apart free last in
    let s = at.run.size in
    subst (λ k. IsRank t.pattern.side (with_last p g) (first + k))
    (let q : free_below p g ≡ t.pattern.side * t.pattern.side - length t.pattern.tiles = omega arith in q) (at.is_first.each g free)

-- what a set of the run's cells lacks
outside_free : (t : Table) → (p : List ℕ) (c from first set : ℕ) → IsRunAt t p c from first set → (g count : ℕ)
    → count ≡ t.pattern.side * t.pattern.side → IsLastOutside set count g
    → IsFree t.pattern.side p g × ((x : ℕ) → g < x → x < t.pattern.side * t.pattern.side → has p x ≡ true)
outside_free t p c from first set at g count count_is is = (
  ((let l = is.low in omega arith), false_from_ne_true (has p g) (λ h. let one = (at.mask g).1 h in let z = is.outside in omega arith)),
  λ x above low. (at.mask x).0 (is.last x above (omega arith)),
)

-- the set of a placement's cells without that of its last tile
pub record IsWithoutLast (q : ShownPattern) (view : ShownPlacement) (count index cell occupied rest : ℕ) : Type 0 where
  pub pattern : IsPattern q
  pub same : view.pattern ≡ q
  pub placed : IsPlacement view
  pub board : count ≡ q.side * q.side
  pub index_is : index + 1 ≡ length q.tiles
  pub cell_is : cell ≡ get_or view.cells index 0
  pub occupies : IsMaskOf occupied (λ c. has view.cells c ≡ true)
  pub fits : rest < 2 ^ 32
  pub clear : bit_at rest cell ≡ 0
  pub others : (x : ℕ) → x < 32 → x ≢ cell → bit_at rest x ≡ bit_at occupied x

-- the greatest cell that it lacks is where the run's last placement has the last tile
module _ {q : ShownPattern} {view : ShownPlacement} {count index cell occupied rest : ℕ} (w : IsWithoutLast q view count index cell occupied rest) where
  long : length view.cells ≡ index + 1
  long = w.placed.size ∙ ap (λ u. length u.tiles) w.same ∙ sym w.index_is

  -- where it is another cell than the tile's, the tile can go there
  pub free_last : {g : ℕ} → IsLastOutside rest count g → g ≢ cell → IsFree view.pattern.side view.cells g
  free_last {g} last ne =
      subst (λ n. IsFree n view.cells g) (sym (ap (λ u. u.side) w.same)) (
        (let l = last.low in let b = w.board in omega arith),
        false_from_ne_true (has view.cells g) (λ h.
            let one = (w.occupies g).1 h in
            let few = few_cells q.side w.pattern.low w.pattern.high in
            let l = last.low in
            let b = w.board in
            let e = w.others g (omega arith) ne in
            let z = last.outside in
            omega arith),
      )

  module _ (r : ℕ) (is : IsRank q.side view.cells r) where
    run_without : IsRunAt (record { pattern = q; entries = [] }) (take index view.cells) cell r (r - r % (q.side * q.side + 1 - length q.tiles)) rest
    run_without =
        subst (λ x. IsRunAt (record { pattern = q; entries = [] }) (take index view.cells) x r (r - r % (q.side * q.side + 1 - length q.tiles)) rest)
        (sym w.cell_is)
        (run_at (record { pattern = q; entries = [] }) w.pattern view w.same w.placed r is view.cells refl index occupied rest
        (q.side * q.side + 1 - length q.tiles) w.index_is w.occupies w.fits
        (ap (bit_at rest) (sym w.cell_is) ∙ w.clear) (λ x low ne. w.others x low (λ e. ne (e ∙ w.cell_is))) refl)

    -- the set without the last tile's cell lacks some cell of the board
    pub some_outside : ¬ ((x : ℕ) → x < count → bit_at rest x ≡ 1)
    some_outside all = let z = w.clear in let one = all cell (let l = run_without.free.0 in let b = w.board in omega arith) in omega arith

    module _ {g : ℕ} (last : IsLastOutside rest count g) where
      last_placed : IsRank q.side (with_last (take index view.cells) g) (r - r % (q.side * q.side + 1 - length q.tiles) + (q.side * q.side - length q.tiles))
      last_placed =
          let t : Table = record { pattern = q; entries = [] } in
          let first = r - r % (q.side * q.side + 1 - length q.tiles) in
          let outside = outside_free t (take index view.cells) cell r first rest run_without g count w.board last in
          last_rank t w.pattern (take index view.cells) cell r first rest run_without g outside.0 outside.1

      -- where the greatest cell that is lacking is the last tile's own, the placement has the run's last rank
      pub last_same : g ≡ cell → IsRank q.side view.cells (r - r % (q.side * q.side + 1 - length q.tiles) + (q.side * q.side - length q.tiles))
      last_same e = subst (λ cells. IsRank q.side cells (r - r % (q.side * q.side + 1 - length q.tiles) + (q.side * q.side - length q.tiles)))
          (ap (with_last (take index view.cells)) (e ∙ w.cell_is) ∙ same_last view.cells index long) last_placed

      -- the placement with its last tile moved to the greatest cell that is lacking has the run's last rank
      pub last_moved : {cells : List ℕ} → cells ≡ set view.cells index g
          → IsRank q.side cells (r - r % (q.side * q.side + 1 - length q.tiles) + (q.side * q.side - length q.tiles))
      last_moved {cells} e = subst (λ cells. IsRank q.side cells (r - r % (q.side * q.side + 1 - length q.tiles) + (q.side * q.side - length q.tiles)))
          (sym (e ∙ set_last view.cells index g long)) last_placed
