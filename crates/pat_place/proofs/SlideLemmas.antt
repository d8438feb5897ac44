-- The placement of a board after a step of its blank.
use Rattle.std.proofs.Common.{◌≡◌, ◌≢◌, ℕ, zero, suc, ◌*◌, ◌<◌, Bool, true, false, eqb, List, [], ◌∷◌, length, set, get_or, refl, sym, ◌∙◌, ap, ap₂, arith}
use Rattle.std.specs.List.{AllByRecursion}
use Rattle.std.proofs.lemmas.Bool.{both_ways, or_parts, eqb-false, false_from_ne_true}
use Rattle.std.proofs.lemmas.List.{length-map}
use Rattle.puz_board.specs.Boards.{IsBoardOf, at, blank, cell_of, slid}
use Rattle.puz_board.specs.Cells.{Adjacent}
use Rattle.puz_board.proofs.BoardLemmas.{IsBoardOf-slid, at-cell_of, at-slid_back, at-slid_other, at_blank, cell_of-below, cell_of-content, cell_of-is}
use Rattle.puz_board.proofs.BoardWays.{Adjacent-apart}
use Rattle.pat_place.specs.BoardLaws.{MovesOneTile}
use Rattle.pat_place.specs.Patterns.{ShownPattern, IsPattern, has}
use Rattle.pat_place.specs.Placements.{IsApart, IsFree, placement_of}
use Rattle.pat_place.proofs.ListLemmas.{apart_from_ascending, at-has, has-at}

-- ---- the cells of numbers after a step

module _ (n : ℕ) (b : List ℕ) (good : IsBoardOf n b) (c : ℕ) (inside : c < n * n) where
  cell_of-slid_moved : blank b ≢ c → cell_of (at b c) (slid b c) ≡ blank b
  cell_of-slid_moved ne =
      cell_of-is n (slid b c) (IsBoardOf-slid n b good c inside) (at b c) (blank b) (cell_of-below n b good 0 (omega arith)) (at-slid_back n b good c inside ne)

  cell_of-slid_other : (t : ℕ) → t < n * n → t ≢ 0 → t ≢ at b c → cell_of t (slid b c) ≡ cell_of t b
  cell_of-slid_other t l p q =
      let e = at-cell_of n b good t l in
      let ne : cell_of t b ≢ c = λ w. q (sym e ∙ ap (at b) w) in
      let nz : cell_of t b ≢ blank b = λ w. p (sym e ∙ ap (at b) w ∙ at_blank n b good c inside) in
      cell_of-is n (slid b c) (IsBoardOf-slid n b good c inside) t (cell_of t b) (cell_of-below n b good t l)
      (at-slid_other n b good c inside (cell_of t b) ne nz ∙ e)

-- ---- the cells of several tiles

-- they are numbers of the board, and none is the blank
abbrev pub AreTiles : ℕ → List ℕ → Type 0
AreTiles n ts = AllByRecursion (λ t. (0 < t) × (t < n * n)) ts

has-miss : (t x : ℕ) (xs : List ℕ) → has (x ∷ xs) t ≡ false → (x ≢ t) × (has xs t ≡ false)
has-miss t x xs e = let p = or_parts (eqb x t) (has xs t) e in (eqb-false x t p.0, p.1)

module _ (n : ℕ) (b : List ℕ) (good : IsBoardOf n b) (c : ℕ) (inside : c < n * n) where
  -- a step of another tile leaves the placement
  pub placement_of-slid_other : (ts : List ℕ) → AreTiles n ts → has ts (at b c) ≡ false → placement_of ts (slid b c) ≡ placement_of ts b
  placement_of-slid_other [] all e = refl
  placement_of-slid_other (t ∷ ts) all e =
      let m = has-miss (at b c) t ts e in
      let big : 0 < t = all.0.0 in
      let q : t ≢ 0 = omega arith in
      ap₂ (λ x xs. x ∷ xs) (cell_of-slid_other n b good c inside t all.0.1 q m.0) (placement_of-slid_other ts all.1 m.1)

  -- a step of the tile with index i moves it to where the blank was
  pub placement_of-slid_tile : (ts : List ℕ) → AreTiles n ts → IsApart ts → blank b ≢ c → (i : ℕ) → i < length ts → get_or ts i 0 ≡ at b c
      → placement_of ts (slid b c) ≡ set (placement_of ts b) i (blank b)
  placement_of-slid_tile [] all apart ne i l e = absurd (omega arith)
  placement_of-slid_tile (t ∷ ts) all apart ne zero l e =
      ap₂ (λ x xs. x ∷ xs) (ap (λ x. cell_of x (slid b c)) e ∙ cell_of-slid_moved n b good c inside ne)
      (placement_of-slid_other ts all.1 (ap (has ts) (sym e) ∙ apart.0))
  placement_of-slid_tile (t ∷ ts) all apart ne (suc i) l e =
      let big : 0 < t = all.0.0 in
      let q : t ≢ 0 = omega arith in
      let other : t ≢ at b c = λ w. both_ways (has ts t) apart.0 (has-at ts t i (omega arith) (e ∙ sym w)) in
      ap₂ (λ x xs. x ∷ xs) (cell_of-slid_other n b good c inside t all.0.1 q other) (placement_of-slid_tile ts all.1 apart.1 ne i (omega arith) e)

-- ---- the cells of a placement hold the tiles

-- the cell at a place of a board's placement is that of the tile at this place
pub get-placement_of : (ts b : List ℕ) (i : ℕ) → i < length ts → get_or (placement_of ts b) i 0 ≡ cell_of (get_or ts i 0) b
get-placement_of [] b i l = absurd (omega arith)
get-placement_of (t ∷ ts) b zero l = refl
get-placement_of (t ∷ ts) b (suc i) l = get-placement_of ts b i (omega arith)

-- the tile at a place of a pattern is above 0 and below the count of cells
pub tile_at : (n : ℕ) (ts : List ℕ) (i : ℕ) → AreTiles n ts → i < length ts → (0 < get_or ts i 0) × (get_or ts i 0 < n * n)
tile_at n [] i all l = absurd (omega arith)
tile_at n (t ∷ ts) zero all l = all.0
tile_at n (t ∷ ts) (suc i) all l = tile_at n ts i all.1 (omega arith)

module _ (n : ℕ) (ts : List ℕ) (all : AreTiles n ts) (b : List ℕ) (good : IsBoardOf n b) where
  -- a cell is one of the placement's where it holds one of the tiles
  pub has-placement_of : (c : ℕ) → c < n * n → has (placement_of ts b) c ≡ has ts (at b c)
  has-placement_of c l = go (has (placement_of ts b) c) (has ts (at b c)) refl refl
    where
      to : has (placement_of ts b) c ≡ true → has ts (at b c) ≡ true
      to h =
          let i = at-has (placement_of ts b) c h in
          let low : i.0 < length ts = let e = length-map ts (λ t. cell_of t b) in let q : i.0 < length (placement_of ts b) = i.1 in omega arith in
          let cell : cell_of (get_or ts i.0 0) b ≡ c = sym (get-placement_of ts b i.0 low) ∙ i.2 in
          has-at ts (at b c) i.0 low (sym (at-cell_of n b good (get_or ts i.0 0) (tile_at n ts i.0 all low).1) ∙ ap (at b) cell)

      back : has ts (at b c) ≡ true → has (placement_of ts b) c ≡ true
      back h =
          let i = at-has ts (at b c) h in
          let low : i.0 < length (placement_of ts b) = let e = length-map ts (λ t. cell_of t b) in let q : i.0 < length ts = i.1 in omega arith in
          has-at (placement_of ts b) c i.0 low (get-placement_of ts b i.0 i.1 ∙ ap (λ t. cell_of t b) i.2 ∙ cell_of-content n b good c l)

      go : (x y : Bool) → has (placement_of ts b) c ≡ x → has ts (at b c) ≡ y → has (placement_of ts b) c ≡ has ts (at b c)
      go true y e f = e ∙ sym (to e)
      go false true e f = back f ∙ sym f
      go false false e f = e ∙ sym f

  no_blank : has ts 0 ≡ false
  no_blank = false_from_ne_true (has ts 0) (λ h. let i = at-has ts 0 h in let p = tile_at n ts i.0 all i.1 in let e : get_or ts i.0 0 ≡ 0 = i.2 in omega arith)

  -- the blank's cell is free
  pub IsFree-blank : 0 < n * n → IsFree n (placement_of ts b) (blank b)
  IsFree-blank some =
      let l = cell_of-below n b good 0 some in
      (l, has-placement_of (blank b) l ∙ ap (has ts) (at_blank n b good 0 some) ∙ no_blank)

-- ---- a step of a tile of the pattern

-- where the blank goes to a tile of the pattern, this tile alone moves, to where the blank was
pub MovesOneTile-slid : (p : ShownPattern) → IsPattern p → (b : List ℕ) → IsBoardOf p.side b → (c : ℕ) → Adjacent p.side (blank b) c
    → has p.tiles (at b c) ≡ true → MovesOneTile p b c
MovesOneTile-slid p pat b good c near h =
    let i = at-has p.tiles (at b c) h in
    record {
      index = i.0;
      is_index = i.1;
      from = get-placement_of p.tiles b i.0 i.1 ∙ ap (λ t. cell_of t b) i.2 ∙ cell_of-content p.side b good c near.0;
      to = placement_of-slid_tile p.side b good c near.0 p.tiles pat.tiles (apart_from_ascending p.tiles pat.ascending)
          (Adjacent-apart p.side (blank b) c pat.low near) i.0 i.1 i.2;
    }
