-- Columns of a block, row by row.
use Rattle.std.proofs.Common.{◌≡◌, ℕ, ◌+◌, ◌-◌, ◌*◌, ◌<◌, ◌≤◌, ◌⊎◌, List, length, take, drop, Option, Some, None, get_or, set, min, inl, inr, refl}
use Rattle.std.proofs.Common.{sym, ◌∙◌, ap, subst, arith, get_or-set_same, get_or-set_other, length-drop, length-set}
use Rattle.std.specs.Prelude.{IfSome, MatchOption, slice_get}
use Rattle.std.proofs.lemmas.Bool.{cases_eq}
use Rattle.std.proofs.lemmas.List.{get_or-drop, get_or-take, length-take, length-take-le}
use Rattle.std.proofs.lemmas.Option.{get_or_from_slice_get, slice_get-get_or, slice_get_read, slice_get_within}
use Rattle.std.proofs.lemmas.Simd.{get_or-zip2, length-zip2}
use Rattle.std.proofs.Math.Nat.{mul-le-mul_right}
use lib.Lanes.{zip2}
use Rattle.pat_place.specs.Patterns.{ShownPattern, IsPattern, most_tiles, width}
use Rattle.puz_board.specs.Cells.{step_of}
use Rattle.puz_board.proofs.CellLemmas.{by_side, step_of-inside}
use Rattle.pat_place.specs.Placements.{ShownPlacement, IsPlacement}
use Rattle.pat_place.proofs.ListLemmas.{Some-one, all_at}
use Rattle.tab_file.specs.Tables.{Table, IsTable, slot_count}
use Rattle.tab_columns.specs.Columns.{AreOf, EachSlot}
use Rattle.tab_rule.specs.LocalRule.{IsLeastNear, IsLeastOf}
use Rattle.tab_columns.specs.Moves.{IsEntryAmong, IsEntryTowards, IsFoundTowards, NoneTowards}
use Rattle.puz_board.specs.declared.moves.Move.{Move}
use Rattle.puz_board.specs.declared.moves.Move.TheVariants.{Up, Down, Left, Right}
use Rattle.tab_columns.proofs.TowardsLemmas.{among_all, among_none, taken_in}

-- ---- elements of lists

-- what is at a place of a list after one was set is the new one at its place, and the old one elsewhere
pub set_get : {X : Type 0} (xs : List X) (row r : ℕ) (y v : X) → slice_get (set xs row y) r ≡ Some v → ((r ≡ row) × (v ≡ y))
    ⊎ ((r ≡ row → ⊥) × (slice_get xs r ≡ Some v))
set_get xs row r y v is =
    let within : r < length (set xs row y) = slice_get_within (set xs row y) r v is in
    let low : r < length xs = let e = length-set xs row y in omega arith in
    let at : get_or (set xs row y) r y ≡ v = get_or_from_slice_get (set xs row y) r v y is in
    elim (cases_eq r row) [
      | inl e ↦ inl (e, sym at ∙ ap (λ k. get_or (set xs row y) k y) e ∙ get_or-set_same xs row y y (let l : row < length xs = omega arith in l))
      | inr ne ↦ inr (ne, slice_get-get_or xs r y low ∙ ap Some (sym (get_or-set_other xs row r y y ne) ∙ at))
    ]

-- what the first elements of a list have at a place, the list has there too, and the place is one of them
pub take_get : {X : Type 0} (xs : List X) (n r : ℕ) (v : X) → slice_get (take n xs) r ≡ Some v → (r < n) × (slice_get xs r ≡ Some v)
take_get xs n r v is =
    let within : r < length (take n xs) = slice_get_within (take n xs) r v is in
    let long = length-take n xs in
    let low : r < n = omega arith in
    let inside : r < length xs = omega arith in
    let at : get_or (take n xs) r v ≡ v = get_or_from_slice_get (take n xs) r v v is in
    (low, slice_get-get_or xs r v inside ∙ ap Some (sym (get_or-take n xs r v low) ∙ at))

-- ---- rows

-- a place of one row is before all places of the rows behind it
pub place_before : (r row j w : ℕ) → r < row → j < w → r * w + j < row * w
place_before r row j w l low = let next : (r + 1) * w ≤ row * w = mul-le-mul_right w (let s : r + 1 ≤ row = omega arith in s) in omega arith

-- a placement has at most 8 slots, whatever the pattern
pub few_slots_each : (p : ShownPattern) → IsPattern p → slot_count p ≤ 8
few_slots_each p pat = by_side (λ n. (k : ℕ) → k ≤ most_tiles n → width n k ≤ 8) (λ k l. omega arith) (λ k l. omega arith) (λ k l. omega arith)
    (λ k l. omega arith) p.side pat.low pat.high (length p.tiles) pat.most

row_fits : (p : ShownPattern) → IsPattern p → (row : ℕ) → row < 256 → row * slot_count p + slot_count p ≤ 2048
row_fits p pat row l =
    let few : slot_count p ≤ 8 = few_slots_each p pat in
    let all : (row + 1) * slot_count p ≤ 256 * slot_count p = mul-le-mul_right (slot_count p) (let s : row + 1 ≤ 256 = omega arith in s) in
    omega arith

module _ (p : ShownPattern) (placements : List ShownPlacement) (Says : List ℕ → ℕ → ℕ → Type 0) where
  -- of no placements at all, any column says what it is to say
  pub each_none : (column : List ℕ) → EachSlot p placements Says 0 column
  each_none column row j v l is low = absurd (omega arith)

  -- a column that says it of the first rows, kept there and right for the next row, says it of one row more
  pub each_more : (row : ℕ) (column new : List ℕ) → EachSlot p placements Says row column
      → ((i : ℕ) → i < row * slot_count p → get_or new i 0 ≡ get_or column i 0)
      → ((v : ShownPlacement) → slice_get placements row ≡ Some v → (j : ℕ) → j < slot_count p
      → Says v.cells j (get_or new (row * slot_count p + j) 0)) → EachSlot p placements Says (row + 1) new
  each_more row column new before same here r j v l is low = elim (cases_eq r row) [
    | inl e ↦ subst (λ x. Says v.cells j (get_or new (x * slot_count p + j) 0)) (sym e) (here v (subst (λ x. slice_get placements x ≡ Some v) e is) j low)
    | inr ne ↦ subst (Says v.cells j) (sym (same (r * slot_count p + j) (place_before r row j (slot_count p) (omega arith) low)))
        (before r j v (omega arith) is low)
  ]

  -- a column that says it of as many rows as there are placements says it of all placements
  pub each_all : (row : ℕ) (column : List ℕ) → length placements ≤ row → EachSlot p placements Says row column
      → EachSlot p placements Says (length placements) column
  each_all row column all each r j v l is low = each r j v (omega arith) is low

-- ---- the entry after one move of one placement more

-- the row has this placement, and its slots stand within the column
pub record IsColumnRow (t : Table) (ps : List ShownPlacement) (row w : ℕ) (v : ShownPlacement) : Type 0 where
  pub get : slice_get ps row ≡ Some v
  pub of : (v.pattern ≡ t.pattern) × IsPlacement v
  pub wide : w ≡ slot_count t.pattern
  pub at : row * w ≡ row * slot_count t.pattern
  pub fits : row * slot_count t.pattern + slot_count t.pattern ≤ 2048

-- a placement of the list that the loop is at makes a row of the column
pub row_is : {t : Table} {p : ShownPattern} {ps : List ShownPlacement} {row w : ℕ} {v : ShownPlacement} → IsTable t → AreOf t.pattern ps
    → length ps ≤ 256 → p ≡ t.pattern → w ≡ slot_count p → row < length ps → v ≡ get_or ps row v
    → IsColumnRow t ps row w v
row_is {t = t} {ps = ps} {row = row} {v = v} table of few same width low read =
    let get = slice_get_read ps (length ps) row v refl low read in
    record {
      get = get;
      of = of row v get;
      wide = width ∙ ap slot_count same;
      at = ap (λ x. row * x) (width ∙ ap slot_count same);
      fits = row_fits t.pattern table.pattern row (omega arith);
    }

-- the part of the column that the row's slots have
module _ {t : Table} {ps : List ShownPlacement} {row w : ℕ} {v : ShownPlacement} (is : IsColumnRow t ps row w v) (column : List ℕ) where
  -- the part of a full column that belongs to one row has a number for each slot
  pub part_size : length column ≡ 2048 → length (take (row * w + w - row * w) (drop (row * w) column)) ≡ slot_count t.pattern
  part_size long =
      length-take-le (row * w + w - row * w) (drop (row * w) column) (let d = length-drop (row * w) column in let at = is.at in let fits = is.fits in
      let e = is.wide in omega arith) ∙
      (let e : row * w + w - row * w ≡ w = omega arith in e) ∙ is.wide

  -- the part of the column that belongs to one row has at each slot what the column has there
  pub part_at : (j : ℕ) → j < slot_count t.pattern → get_or (take (row * w + w - row * w) (drop (row * w) column)) j 0 ≡ get_or column
      (row * slot_count t.pattern + j) 0
  part_at j l =
      get_or-take (row * w + w - row * w) (drop (row * w) column) j 0 (let e = is.wide in omega arith) ∙ get_or-drop (row * w) column j 0
      ∙ ap (λ b. get_or column (b + j) 0) is.at

module _ {t : Table} {ps : List ShownPlacement} {row w : ℕ} {v : ShownPlacement} (is : IsColumnRow t ps row w v) (index : ℕ) (mv : Move) where
  abbrev SaysTowards : List ℕ → ℕ → ℕ → Type 0
  SaysTowards cells j = IsLeastOf (IsEntryTowards t cells j index mv)

  -- an entry that was found after a move has its place within the column
  pub found_fits : (found : Option (ℕ × ℕ)) → MatchOption found (NoneTowards t v.cells index mv) (λ f. IsFoundTowards t v.cells index mv f.0 f.1)
      → IfSome found (λ f. row * w + f.0 < 2048)
  found_fits None none = tt
  found_fits (Some f) found = let low : f.0 < slot_count t.pattern = found.low in let at = is.at in let fits = is.fits in omega arith

  -- with the entry put in that was found for one placement, the column is right for one more, and 255 behind it
  pub entries_more : (column new : List ℕ) (found : Option (ℕ × ℕ))
      → MatchOption found (NoneTowards t v.cells index mv) (λ f. IsFoundTowards t v.cells index mv f.0 f.1)
      → MatchOption found (new ≡ column) (λ f. new ≡ set column (row * w + f.0) f.1) → EachSlot t.pattern ps SaysTowards row column → length column ≡ 2048
      → ((i : ℕ) → row * slot_count t.pattern ≤ i → i < 2048 → get_or column i 0 ≡ 255)
      → EachSlot t.pattern ps SaysTowards (row + 1) new × (length new ≡ 2048)
      × ((i : ℕ) → (row + 1) * slot_count t.pattern ≤ i → i < 2048 → get_or new i 0 ≡ 255)
  entries_more column new None none same each long empty = (
    each_more t.pattern ps SaysTowards row column new each (λ i l. ap (λ xs. get_or xs i 0) same)
        (λ u also j low. subst (λ x. SaysTowards x.cells j (get_or new (row * slot_count t.pattern + j) 0)) (Some-one v u (sym is.get ∙ also))
        (subst (SaysTowards v.cells j) (sym (ap (λ xs. get_or xs (row * slot_count t.pattern + j) 0) same
        ∙ empty (row * slot_count t.pattern + j) (omega arith) (let fits = is.fits in omega arith))) (none j low))),
    ap length same ∙ long,
    λ i l k. ap (λ xs. get_or xs i 0) same ∙ empty i (omega arith) k,
  )
  entries_more column new (Some f) found same each long empty = (
    each_more t.pattern ps SaysTowards row column new each (λ i l. other i (let low = found.low in let at = is.at in omega arith)) of_row,
    ap length same ∙ length-set column (row * w + f.0) f.1 ∙ long,
    λ i l k. other i (let low = found.low in let at = is.at in omega arith) ∙ empty i (omega arith) k,
  )
    where
      other : (i : ℕ) → (i ≡ row * w + f.0 → ⊥) → get_or new i 0 ≡ get_or column i 0
      other i ne = ap (λ xs. get_or xs i 0) same ∙ get_or-set_other column (row * w + f.0) i f.1 0 ne

      at_slot : (j : ℕ) → j < slot_count t.pattern → SaysTowards v.cells j (get_or new (row * w + j) 0)
      at_slot j low =
          let at = is.at in
          let fits = is.fits in
          elim (cases_eq j f.0) [
            | inl e ↦
                let value : get_or new (row * w + j) 0 ≡ f.1 = ap (λ xs. get_or xs (row * w + j) 0) same
                ∙ ap (λ k. get_or (set column (row * w + f.0) f.1) (row * w + k) 0) e ∙ get_or-set_same column (row * w + f.0) f.1 0 (omega arith) in
                subst (SaysTowards v.cells j) (sym value) (subst (λ k. SaysTowards v.cells k f.1) (sym e) found.here)
            | inr ne ↦ subst (SaysTowards v.cells j) (sym (other (row * w + j) (λ e. ne (omega arith))
                ∙ empty (row * w + j) (omega arith) (omega arith))) (found.others j low ne)
          ]

      of_row : (u : ShownPlacement) → slice_get ps row ≡ Some u → (j : ℕ) → j < slot_count t.pattern
          → SaysTowards u.cells j (get_or new (row * slot_count t.pattern + j) 0)
      of_row u also j low =
          subst (λ x. SaysTowards x.cells j (get_or new (row * slot_count t.pattern + j) 0)) (Some-one v u (sym is.get ∙ also)) (
          subst (λ a. SaysTowards v.cells j (get_or new (a + j) 0)) is.at (at_slot j low))

-- ---- the cell beside a tile's

module _ {t : Table} {v : ShownPlacement} {index : ℕ} (table : IsTable t) (of : (v.pattern ≡ t.pattern) × IsPlacement v)
    (low : index < length t.pattern.tiles) where
  cell_in : get_or v.cells index 0 < t.pattern.side * t.pattern.side
  cell_in =
      let size : length v.cells ≡ length t.pattern.tiles = of.1.size ∙ ap (λ q. length q.tiles) of.0 in
      subst (λ q. get_or v.cells index 0 < q.side * q.side) of.0 (all_at v.cells index of.1.inside (omega arith))

  -- the list of cells beside each cell gives, at a tile's cell, the one to which the move leads
  pub cell_step : {p : ShownPattern} {side cell : ℕ} (mv : Move) (beside : List (Option ℕ)) → p ≡ t.pattern → side ≡ p.side
      → ((c : ℕ) → c < side * side → slice_get beside c ≡ Some (step_of side c mv)) → cell ≡ get_or v.cells index 0
      → get_or beside cell None ≡ step_of t.pattern.side (get_or v.cells index 0) mv
  cell_step {side = side} {cell = cell} mv beside same_pattern same is here =
      let own : side ≡ t.pattern.side = same ∙ ap (λ q. q.side) same_pattern in
      let inside : cell < side * side = subst (λ n. cell < n * n) (sym own) (subst (λ c. c < t.pattern.side * t.pattern.side) (sym here) cell_in) in
      get_or_from_slice_get beside cell (step_of side cell mv) None (is cell inside) ∙ ap (λ n. step_of n cell mv) own
      ∙ ap (λ c. step_of t.pattern.side c mv) here

  -- the cell to which a tile's move leads is below 32, so a mask may have it
  pub step_fits : (mv : Move) (to : Option ℕ) → to ≡ step_of t.pattern.side (get_or v.cells index 0) mv → IfSome to (λ c. c < 32)
  step_fits mv None e = tt
  step_fits mv (Some c) e =
      let inside : c < t.pattern.side * t.pattern.side =
      step_of-inside t.pattern.side (get_or v.cells index 0) mv c table.pattern.low table.pattern.high cell_in (sym e) in
      let most : t.pattern.side * t.pattern.side ≤ 25 = cells_few t.pattern.side table.pattern.low table.pattern.high in
      omega arith
    where
      cells_few : (n : ℕ) → 2 ≤ n → n ≤ 5 → n * n ≤ 25
      cells_few = by_side (λ n. n * n ≤ 25) (omega arith) (omega arith) (omega arith) (omega arith)

-- ---- the least entries of one tile more

module _ (t : Table) (table : IsTable t) (ps : List ShownPlacement) (of : AreOf t.pattern ps) (few : length ps ≤ 256) where
  place_fits : (row j : ℕ) → row < length ps → j < slot_count t.pattern → row * slot_count t.pattern + j < 2048
  place_fits row j l low = let fits = row_fits t.pattern table.pattern row (omega arith) in omega arith

  -- the least of the first tiles' entries and those of the next tile's four moves is the least of one tile more
  pub least_more : (index : ℕ) → index < length t.pattern.tiles → (before up down left right : List ℕ)
      → length before ≡ 2048 → length up ≡ 2048 → length down ≡ 2048 → length left ≡ 2048 → length right ≡ 2048
      → EachSlot t.pattern ps (λ cells j. IsLeastOf (IsEntryAmong t cells j index)) (length ps) before
      → EachSlot t.pattern ps (λ cells j. IsLeastOf (IsEntryTowards t cells j index Up)) (length ps) up
      → EachSlot t.pattern ps (λ cells j. IsLeastOf (IsEntryTowards t cells j index Down)) (length ps) down
      → EachSlot t.pattern ps (λ cells j. IsLeastOf (IsEntryTowards t cells j index Left)) (length ps) left
      → EachSlot t.pattern ps (λ cells j. IsLeastOf (IsEntryTowards t cells j index Right)) (length ps) right
      → EachSlot t.pattern ps (λ cells j. IsLeastOf (IsEntryAmong t cells j (index + 1))) (length ps)
      (zip2 min (zip2 min (zip2 min (zip2 min before up) down) left) right)
  least_more index low before up down left right long long_up long_down long_left long_right is is_up is_down is_left is_right row j v l get slot =
      let i : ℕ = row * slot_count t.pattern + j in
      let fits : i < 2048 = place_fits row j l slot in
      let long1 : length (zip2 min before up) ≡ 2048 = length-zip2 min before up (omega arith) ∙ long in
      let long2 : length (zip2 min (zip2 min before up) down) ≡ 2048 = length-zip2 min (zip2 min before up) down (omega arith) ∙ long1 in
      let long3 : length (zip2 min (zip2 min (zip2 min before up) down) left) ≡ 2048 =
      length-zip2 min (zip2 min (zip2 min before up) down) left (omega arith) ∙ long2 in
      let v1 : get_or (zip2 min before up) i 0 ≡ min (get_or before i 0) (get_or up i 0) = get_or-zip2 min before up i 0 0 0 (omega arith) (omega arith) in
      let v2 : get_or (zip2 min (zip2 min before up) down) i 0 ≡ min (get_or (zip2 min before up) i 0) (get_or down i 0) =
      get_or-zip2 min (zip2 min before up) down i 0 0 0 (omega arith) (omega arith) in
      let v3 : get_or (zip2 min (zip2 min (zip2 min before up) down) left) i 0 ≡ min (get_or (zip2 min (zip2 min before up) down) i 0) (get_or left i 0) =
      get_or-zip2 min (zip2 min (zip2 min before up) down) left i 0 0 0 (omega arith) (omega arith) in
      let v4 : get_or (zip2 min (zip2 min (zip2 min (zip2 min before up) down) left) right) i 0 ≡ min
      (get_or (zip2 min (zip2 min (zip2 min before up) down) left) i 0) (get_or right i 0) =
      get_or-zip2 min (zip2 min (zip2 min (zip2 min before up) down) left) right i 0 0 0 (omega arith) (omega arith) in
      let value = v4 ∙ ap (λ m. min m (get_or right i 0)) (v3 ∙ ap (λ m. min m (get_or left i 0)) (v2 ∙ ap (λ m. min m (get_or down i 0)) v1)) in
      let placement = of row v get in
      let size : length v.cells ≡ length t.pattern.tiles = placement.1.size ∙ ap (λ q. length q.tiles) placement.0 in
      subst (IsLeastOf (IsEntryAmong t v.cells j (index + 1))) (sym value) (
      taken_in t v index (get_or v.cells index 0) (table, placement.0, placement.1, (let k : index < length v.cells = omega arith in k), refl) j
      (get_or before i 0) (get_or up i 0) (get_or down i 0) (get_or left i 0) (get_or right i 0)
      (is row j v l get slot) (is_up row j v l get slot) (is_down row j v l get slot) (is_left row j v l get slot) (is_right row j v l get slot))

  -- a column of 255 has the least entry after moves of no tile
  pub least_none : (column : List ℕ) → ((i : ℕ) → i < 2048 → get_or column i 0 ≡ 255)
      → EachSlot t.pattern ps (λ cells j. IsLeastOf (IsEntryAmong t cells j 0)) (length ps) column
  least_none column empty row j v l get slot = subst (IsLeastOf (IsEntryAmong t v.cells j 0))
      (sym (empty (row * slot_count t.pattern + j) (place_fits row j l slot))) (among_none t v.cells j)

  -- the least entry after moves of all tiles is the least near entry
  pub least_all : (index : ℕ) (column : List ℕ) → length t.pattern.tiles ≤ index
      → EachSlot t.pattern ps (λ cells j. IsLeastOf (IsEntryAmong t cells j index)) (length ps) column
      → EachSlot t.pattern ps (IsLeastNear t) (length ps) column
  least_all index column all is row j v l get slot =
      let placement = of row v get in
      let size : length v.cells ≡ length t.pattern.tiles = placement.1.size ∙ ap (λ q. length q.tiles) placement.0 in
      among_all t v.cells j index (get_or column (row * slot_count t.pattern + j) 0) (omega arith) (is row j v l get slot)
