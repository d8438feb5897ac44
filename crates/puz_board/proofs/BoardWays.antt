-- Boards of one side are the states of a graph: a step of the blank is free, or it moves one of the tiles and is paid.
use Rattle.std.proofs.Common.{◌≡◌, ◌≢◌, ℕ, suc, ◌+◌, ◌-◌, ◌/◌, ◌%◌, ◌*◌, ◌<◌, ◌≤◌, Bool, true, false, cond, eqb, List, [], ◌∷◌, Some, refl, sym, ◌∙◌}
use Rattle.std.proofs.Common.{ap, subst, arith, one-add, zero-add}
use Rattle.std.proofs.lemmas.Bool.{eqb-false}
use Rattle.puz_board.specs.declared.moves.Move.{Move}
use Rattle.puz_board.specs.declared.moves.Move.TheVariants.{Up, Down, Left, Right}
use Rattle.puz_board.specs.Boards.{IsBoardOf, at, blank, slid}
use Rattle.puz_board.specs.Cells.{Adjacent, step_of}
use Rattle.puz_board.specs.Costs.{IsHome, IsLeastCost, IsNeverHome, LeadsHome, cost, has}
use Rattle.puz_board.specs.Paths.{IsPath, after}
use Rattle.puz_board.proofs.CellLemmas.{stays}
use Rattle.puz_board.proofs.BoardLemmas.{IsBoardOf-slid, blank-slid, side_of-board}
use Rattle.puz_board.proofs.Ways

-- ---- adjacent cells differ

-- two adjacent cells are not the same cell
pub Adjacent-apart : (n c d : ℕ) → 2 ≤ n → Adjacent n c d → c ≢ d
Adjacent-apart n c d low a = go a.1 a.2
  where
    go : (m : Move) → step_of n c m ≡ Some d → c ≢ d
    go Up e = let p = stays (eqb (c / n) 0) (c - n) d e in let q = eqb-false (c / n) 0 p.0 in let r : c - n ≡ d = p.1 in λ w. q (omega arith)
    go Down e = let p = stays (eqb (c / n) (n - 1)) (c + n) d e in let r : c + n ≡ d = p.1 in λ w. omega arith
    go Left e = let p = stays (eqb (c % n) 0) (c - 1) d e in let q = eqb-false (c % n) 0 p.0 in let r : c - 1 ≡ d = p.1 in
        λ w. q (let z : c ≡ 0 = omega arith in omega arith)
    go Right e = let p = stays (eqb (c % n) (n - 1)) (c + 1) d e in let r : c + 1 ≡ d = p.1 in λ w. omega arith

-- ---- boards as states

pub record State (n : ℕ) : Type 0 where
  pub cells : List ℕ
  pub good : IsBoardOf n cells

module _ (n : ℕ) (tiles : List ℕ) where
  -- a step that moves one of the tiles, or another one
  abbrev pub Step : Bool → State n → State n → Type 0
  Step paid s t = (c : ℕ) × Adjacent n (blank s.cells) c × (has tiles (at s.cells c) ≡ paid) × (t.cells ≡ slid s.cells c)

  -- a step of the blank is free where it moves none of the tiles
  abbrev pub Free : State n → State n → Type 0
  Free = Step false

  -- a step of the blank is paid where it moves one of the tiles
  abbrev pub Paid : State n → State n → Type 0
  Paid = Step true

  -- a state is home where its tiles are in their own cells and the blank in cell 0
  abbrev pub Home : State n → Type 0
  Home s = IsHome tiles s.cells

  -- the state after the blank of a state has gone to a cell of the board
  abbrev pub moved : (s : State n) (c : ℕ) → c < n * n → State n
  moved s c l = record { cells = slid s.cells c; good = IsBoardOf-slid n s.cells s.good c l }

  -- the cost of a path that begins with a step of one of the tiles, or of another one
  cost_paid : (b : List ℕ) (c : ℕ) (cs : List ℕ) → has tiles (at b c) ≡ true → cost tiles b (c ∷ cs) ≡ suc (cost tiles (slid b c) cs)
  cost_paid b c cs e = ap (λ h. cond h 1 0 + cost tiles (slid b c) cs) e ∙ one-add (cost tiles (slid b c) cs)

  cost_free : (b : List ℕ) (c : ℕ) (cs : List ℕ) → has tiles (at b c) ≡ false → cost tiles b (c ∷ cs) ≡ cost tiles (slid b c) cs
  cost_free b c cs e = ap (λ h. cond h 1 0 + cost tiles (slid b c) cs) e ∙ zero-add (cost tiles (slid b c) cs)

  -- ---- a path is a way of its cost

  begun : (s : State n) (c : ℕ) (cs : List ℕ) (l : c < n * n) → Adjacent n (blank s.cells) c → (paid : Bool) → has tiles (at s.cells c) ≡ paid
      → Ways.Way Free Paid Home (moved s c l) (cost tiles (slid s.cells c) cs) → Ways.Way Free Paid Home s (cost tiles s.cells (c ∷ cs))
  begun s c cs l a true e w = subst (λ x. Ways.Way Free Paid Home s x) (sym (cost_paid s.cells c cs e)) (Ways.paid (c, a, e, refl) w)
  begun s c cs l a false e w = subst (λ x. Ways.Way Free Paid Home s x) (sym (cost_free s.cells c cs e)) (Ways.free (c, a, e, refl) w)

  way_along : (path : List ℕ) (s : State n) → IsPath n (blank s.cells) path → IsHome tiles (after s.cells path)
      → Ways.Way Free Paid Home s (cost tiles s.cells path)
  way_along [] s walk home = Ways.home home
  way_along (c ∷ cs) s walk home =
      let inside : c < n * n = walk.0.0 in
      let on : IsPath n (blank (slid s.cells c)) cs = subst (λ x. IsPath n x cs) (sym (blank-slid n s.cells s.good c inside)) walk.1 in
      begun s c cs inside walk.0 (has tiles (at s.cells c)) refl (way_along cs (moved s c inside) on home)

  -- a path that leads the tiles home is a way home whose count of paid steps is the path's cost
  pub way_of_path : (path : List ℕ) (s : State n) → LeadsHome tiles s.cells path → Ways.Way Free Paid Home s (cost tiles s.cells path)
  way_of_path path s leads = way_along path s (subst (λ m. IsPath m (blank s.cells) path) (side_of-board n s.cells s.good) leads.walk) leads.ends

  -- ---- and back

  record PathOf (s : State n) (d : ℕ) : Type 0 where
    path : List ℕ
    walk : IsPath n (blank s.cells) path
    ends : IsHome tiles (after s.cells path)
    costs : cost tiles s.cells path ≡ d

  total : (paid : Bool) (s : State n) (c : ℕ) (cs : List ℕ) (d e : ℕ) → has tiles (at s.cells c) ≡ paid → cost tiles (slid s.cells c) cs ≡ d
      → cond paid (suc d) d ≡ e
      → cost tiles s.cells (c ∷ cs) ≡ e
  total true s c cs d e is rest sum = cost_paid s.cells c cs is ∙ ap suc rest ∙ sum
  total false s c cs d e is rest sum = cost_free s.cells c cs is ∙ rest ∙ sum

  longer : (paid : Bool) (s t : State n) (d e : ℕ) → Step paid s t → cond paid (suc d) d ≡ e → PathOf t d → PathOf s e
  longer paid s t d e step sum on =
      let c : ℕ = step.0 in
      let inside : c < n * n = step.1.0 in
      let same : t.cells ≡ slid s.cells c = step.3 in
      let here : blank t.cells ≡ c = ap blank same ∙ blank-slid n s.cells s.good c inside in
      record {
        path = c ∷ on.path;
        walk = (step.1, subst (λ x. IsPath n x on.path) here on.walk);
        ends = subst (λ b. IsHome tiles (after b on.path)) same on.ends;
        costs = total paid s step.0 on.path d e step.2 (ap (λ b. cost tiles b on.path) (sym same) ∙ on.costs) sum;
      }

  path_of_way : {s : State n} {d : ℕ} → Ways.Way Free Paid Home s d → PathOf s d
  path_of_way (Ways.home h) = record { path = []; walk = tt; ends = h; costs = refl }
  path_of_way (Ways.free {s = s} {t = t} {c = c} f w) = longer false s t c c f refl (path_of_way w)
  path_of_way (Ways.paid {s = s} {t = t} {c = c} f w) = longer true s t c (suc c) f refl (path_of_way w)

  leads_along : (s : State n) (d : ℕ) → (on : PathOf s d) → LeadsHome tiles s.cells on.path
  leads_along s d on = record { walk = subst (λ m. IsPath m (blank s.cells) on.path) (sym (side_of-board n s.cells s.good)) on.walk; ends = on.ends }

  -- ---- the least cost of a board is that of its ways

  -- the least count of paid steps of a state's ways home is the least cost of its tiles on the board
  pub least_of_ways : (s : State n) (d : ℕ) → Ways.IsLeast Free Paid Home s d → IsLeastCost tiles s.cells d
  least_of_ways s d least =
      let on : PathOf s d = path_of_way least.0 in
      record {
        path = on.path;
        leads = leads_along s d on;
        costs = on.costs;
        least = λ other leads. least.1 (cost tiles s.cells other) (way_of_path other s leads);
      }

  -- the least cost of the tiles on a board is the least count of paid steps of a way home
  pub ways_of_least : (s : State n) (d : ℕ) → IsLeastCost tiles s.cells d → Ways.IsLeast Free Paid Home s d
  ways_of_least s d is = (
    subst (λ x. Ways.Way Free Paid Home s x) is.costs (way_of_path is.path s is.leads),
    λ c w.
        let on : PathOf s c = path_of_way w in
        let low : d ≤ cost tiles s.cells on.path = is.least on.path (leads_along s c on) in
        let e : cost tiles s.cells on.path ≡ c = on.costs in
        omega arith,
  )

  -- where a state has no way home, no path of its board leads the tiles home
  pub never_of_ways : (s : State n) → Ways.IsNever Free Paid Home s → IsNeverHome tiles s.cells
  never_of_ways s never = λ path leads. never (cost tiles s.cells path) (way_of_path path s leads)

  -- where no path of a board leads the tiles home, its state has no way home
  pub ways_of_never : (s : State n) → IsNeverHome tiles s.cells → Ways.IsNever Free Paid Home s
  ways_of_never s never = λ c w. let on : PathOf s c = path_of_way w in never on.path (leads_along s c on)
