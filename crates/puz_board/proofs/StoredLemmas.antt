-- A slide among the stored cells is a slide of the board.
use Rattle.std.proofs.Common.{◌≡◌, ℕ, zero, suc, ◌+◌, ◌-◌, ◌*◌, ◌<◌, List, [], ◌∷◌, length, take, get_or, set, refl, sym, ◌∙◌, ap, ap₂, subst, arith}
use Rattle.std.proofs.Common.{length-set, get_or-take, ◌++◌, replicate}
use Rattle.std.proofs.Math.Seq.{take-set-lt}
use Rattle.std.proofs.lemmas.List.{drop-set-lt}
use Rattle.puz_board.specs.declared.boards.Board.TheInside.{Inside}
use Rattle.puz_board.specs.Boards.{IsBoard, blank, side_of, slid}
use Rattle.puz_board.specs.Stored.{IsStored, numbers_shown}
use Rattle.puz_board.proofs.BoardLemmas.{IsBoard-slid, blank-slid, cell_of-below, side_of-slid}

-- the fields after the blank of cell z has changed places with the tile of cell c
abbrev pub moved : Inside → ℕ → ℕ → Inside
moved s z c = record { side = s.side; blank = c; cells = set (set s.cells z (get_or s.cells c 0)) c 0 }

module _ (s : Inside) (kept : IsStored s) (z c : ℕ) (is_blank : z ≡ blank (numbers_shown s))
    (inside : c < side_of (numbers_shown s) * side_of (numbers_shown s)) where
  below : c < s.side * s.side
  below = subst (λ n. c < n * n) kept.side inside

  z_inside : z < s.side * s.side
  z_inside =
      let l = cell_of-below (side_of (numbers_shown s)) (numbers_shown s) kept.board 0 (omega arith) in
      subst (λ n. z < n * n) kept.side (omega arith)

  -- changing the two stored cells shows the board after the slide
  pub numbers_shown-moved : numbers_shown (moved s z c) ≡ slid (numbers_shown s) c
  unfolding slid
  numbers_shown-moved =
      take-set-lt (s.side * s.side) (set s.cells z (get_or s.cells c 0)) c 0 below ∙
      ap (λ xs. set xs c 0) (
      take-set-lt (s.side * s.side) s.cells z (get_or s.cells c 0) z_inside ∙
      ap₂ (λ i y. set (numbers_shown s) i y) is_blank (sym (get_or-take (s.side * s.side) s.cells c 0 below)))

  -- the fields of a stored board after a slide are those of a stored board
  pub IsStored-moved : IsStored (moved s z c)
  IsStored-moved = record {
    room = length-set (set s.cells z (get_or s.cells c 0)) c 0 ∙ length-set s.cells z (get_or s.cells c 0) ∙ kept.room;
    side = ap side_of numbers_shown-moved ∙ side_of-slid (side_of (numbers_shown s)) (numbers_shown s) kept.board c inside ∙ kept.side;
    blank_cell = ap blank numbers_shown-moved ∙ blank-slid (side_of (numbers_shown s)) (numbers_shown s) kept.board c inside;
    board = subst IsBoard (sym numbers_shown-moved) (IsBoard-slid (numbers_shown s) kept.board c inside);
    rest =
        drop-set-lt (s.side * s.side) (set s.cells z (get_or s.cells c 0)) c 0 below ∙
        drop-set-lt (s.side * s.side) s.cells z (get_or s.cells c 0) z_inside ∙ kept.rest;
  }

-- ---- a board is stored

-- putting the next number behind the first i, where zeros were, makes them the first i + 1
pub one_more : (xs : List ℕ) (i m : ℕ) → i < length xs → set (take i xs ++ replicate (suc m) 0) i (get_or xs i 0) ≡ take (suc i) xs ++ replicate m 0
one_more [] i m l = absurd (omega arith)
one_more (x ∷ xs) zero m l = refl
one_more (x ∷ xs) (suc i) m l = ap (λ ys. x ∷ ys) (one_more xs i m (omega arith))

-- one more number behind the first i
pub one_more_stored : (xs : List ℕ) (i n : ℕ) → i < length xs → i < n
    → set (take i xs ++ replicate (n - i) 0) i (get_or xs i 0) ≡ take (i + 1) xs ++ replicate (n - (i + 1)) 0
one_more_stored xs i n l m =
    let left : n - i ≡ suc (n - (i + 1)) = omega arith in
    let next : suc i ≡ i + 1 = omega arith in
    ap (λ k. set (take i xs ++ replicate k 0) i (get_or xs i 0)) left ∙ one_more xs i (n - (i + 1)) l ∙ ap (λ k. take k xs ++ replicate (n - (i + 1)) 0) next
