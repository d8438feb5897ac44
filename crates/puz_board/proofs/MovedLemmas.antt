-- Moves lead boards to boards, and the reverse of a move leads back.
use Rattle.std.proofs.Common.{◌≡◌, ℕ, ◌*◌, ◌<◌, List, ◌∷◌, Option, Some, None, inl, inr, refl, sym, ◌∙◌, ap, subst, arith}
use Rattle.std.specs.Prelude.{option_map}
use Rattle.std.proofs.lemmas.Bool.{cases_eq}
use Rattle.std.proofs.lemmas.List.{ext_get_or}
use Rattle.puz_board.specs.declared.moves.Move.{Move}
use Rattle.puz_board.specs.Boards.{IsBoardOf, at, blank, moved, side_of, slid}
use Rattle.puz_board.specs.Cells.{reverse_of, step_of}
use Rattle.puz_board.specs.Paths.{IsPath, IsSolution}
use Rattle.puz_board.proofs.BoardLemmas.{IsBoardOf-slid, at-slid_back, at-slid_other, at-slid_there, at_blank, blank-slid, cell_of-below, cells_least}
use Rattle.puz_board.proofs.BoardLemmas.{side_of-board, side_of-slid}
use Rattle.puz_board.proofs.CellLemmas.{reverse_of-takes_back, step_of-inside}

blank_inside : (n : ℕ) (b : List ℕ) → IsBoardOf n b → blank b < n * n
blank_inside n b good = cell_of-below n b good 0 (let some = cells_least n b good in omega arith)

-- a slide, and the slide back
slid-slid : (n : ℕ) (b : List ℕ) → IsBoardOf n b → (c : ℕ) → c < n * n → slid (slid b c) (blank b) ≡ b
slid-slid n b good c inside = ext_get_or 0 (slid (slid b c) (blank b)) b (again.size ∙ sym good.size) (λ x low. each x (let e = again.size in omega arith))
  where
    once : IsBoardOf n (slid b c)
    once = IsBoardOf-slid n b good c inside

    home : blank b < n * n
    home = blank_inside n b good

    again : IsBoardOf n (slid (slid b c) (blank b))
    again = IsBoardOf-slid n (slid b c) once (blank b) home

    there : blank (slid b c) ≡ c
    there = blank-slid n b good c inside

    each : (x : ℕ) → x < n * n → at (slid (slid b c) (blank b)) x ≡ at b x
    each x low = elim (cases_eq x (blank b)) [
      | inl e ↦ ap (at (slid (slid b c) (blank b))) e ∙ at-slid_there n (slid b c) once (blank b) home ∙ sym (at_blank n b good c inside) ∙ ap (at b) (sym e)
      | inr p ↦ elim (cases_eq x c) [
        | inl e ↦
            ap (at (slid (slid b c) (blank b))) (e ∙ sym there) ∙
            at-slid_back n (slid b c) once (blank b) home (λ w. p (e ∙ sym there ∙ w)) ∙
            at-slid_back n b good c inside (λ w. p (e ∙ sym w)) ∙
            ap (at b) (sym e)
        | inr q ↦ at-slid_other n (slid b c) once (blank b) home x p (λ w. q (w ∙ there)) ∙ at-slid_other n b good c inside x q p
      ]
    ]

-- ---- a move is a slide to a cell

record Slide (n : ℕ) (b : List ℕ) (m : Move) (d : List ℕ) : Type 0 where
  cell : ℕ
  inside : cell < n * n
  step : step_of n (blank b) m ≡ Some cell
  is : slid b cell ≡ d

module _ (n : ℕ) (b : List ℕ) (good : IsBoardOf n b) (m : Move) where
  moved-step_of : moved b m ≡ option_map (slid b) (step_of n (blank b) m)
  moved-step_of = ap (λ side. option_map (slid b) (step_of side (blank b) m)) (side_of-board n b good)

  moved-slid : (c : ℕ) → step_of n (blank b) m ≡ Some c → moved b m ≡ Some (slid b c)
  moved-slid c step = moved-step_of ∙ ap (option_map (slid b)) step

  slide : (d : List ℕ) → moved b m ≡ Some d → Slide n b m d
  slide d leads = go (step_of n (blank b) m) refl (sym moved-step_of ∙ leads)
    where
      go : (o : Option ℕ) → step_of n (blank b) m ≡ o → option_map (slid b) o ≡ Some d → Slide n b m d
      go None step is = cc
      go (Some c) step is = record { cell = c; inside = step_of-inside n (blank b) m c good.low good.high (blank_inside n b good) step; step = step; is = cc }

  -- a move that doesn't leave the board leads a board of side n to one of side n
  pub IsBoardOf-moved : (d : List ℕ) → moved b m ≡ Some d → IsBoardOf n d
  IsBoardOf-moved d leads = let s = slide d leads in subst (IsBoardOf n) s.is (IsBoardOf-slid n b good s.cell s.inside)

-- the reverse of a move leads back
pub moved-reverse_of : (n : ℕ) (b : List ℕ) → IsBoardOf n b → (m : Move) (d : List ℕ) → moved b m ≡ Some d → moved d (reverse_of m) ≡ Some b
moved-reverse_of n b good m d leads =
    let s = slide n b good m d leads in
    let there : blank (slid b s.cell) ≡ s.cell = blank-slid n b good s.cell s.inside in
    let back : step_of n s.cell (reverse_of m) ≡ Some (blank b) =
    reverse_of-takes_back m n (blank b) s.cell good.low good.high (blank_inside n b good) s.step in
    let step : step_of n (blank (slid b s.cell)) (reverse_of m) ≡ Some (blank b) = ap (λ c. step_of n c (reverse_of m)) there ∙ back in
    ap (λ e. moved e (reverse_of m)) (sym s.is) ∙
    moved-slid n (slid b s.cell) (IsBoardOf-slid n b good s.cell s.inside) (reverse_of m) (blank b) step ∙
    ap Some (slid-slid n b good s.cell s.inside)

-- ---- the first move of a solution

-- a move leads to a board that the rest of the path solves
pub record FirstMove (b rest : List ℕ) : Type 0 where
  pub move : Move
  pub next : List ℕ
  pub leads : moved b move ≡ Some next
  pub solves : IsSolution next rest

-- a solution begins with a move to a board that the rest of its path solves
pub first_move : (n : ℕ) (b : List ℕ) → IsBoardOf n b → (c : ℕ) (rest : List ℕ) → IsSolution b (c ∷ rest) → FirstMove b rest
first_move n b good c rest solves =
    let inside : c < n * n = subst (λ side. c < side * side) (side_of-board n b good) solves.0.0.0 in
    let side : side_of (slid b c) ≡ side_of b = side_of-slid n b good c inside in
    let here : blank (slid b c) ≡ c = blank-slid n b good c inside in
    record {
      move = solves.0.0.1;
      next = slid b c;
      leads = ap (option_map (slid b)) solves.0.0.2;
      solves = (subst (λ k. IsPath k (blank (slid b c)) rest) (sym side) (subst (λ z. IsPath (side_of b) z rest) (sym here) solves.0.1), solves.1);
    }
