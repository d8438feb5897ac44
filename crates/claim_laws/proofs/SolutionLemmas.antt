-- A solution that takes a move back is two moves longer than another.
use Rattle.std.proofs.Common.{◌≡◌, ◌∙◌, ◌*◌, ◌<◌, ◌≤◌, ap, ℕ, List, [], ◌∷◌, ◌++◌, Some, arith, length, length-append, option_map, subst, sym}
use Rattle.puz_board.specs.Boards.{IsBoardOf, IsGoal, blank, moved, side_of, slid}
use Rattle.puz_board.specs.Cells.{Adjacent, reverse_of, step_of}
use Rattle.puz_board.specs.Paths.{IsPath, IsSolution, after}
use Rattle.puz_board.proofs.BoardLemmas.{IsBoardOf-slid, blank-slid, cell_of-below, cells_least, side_of-board, side_of-slid}
use Rattle.puz_board.proofs.CellLemmas.{reverse_of-takes_back}
use Rattle.puz_board.proofs.MovedLemmas.{moved-reverse_of}
use Rattle.pat_place.proofs.ListLemmas.{Some-one}
use Rattle.claim_laws.specs.Solutions.{ShortestSolutionsTakeNothingBack}

module _ (n : ℕ) (b : List ℕ) (good : IsBoardOf n b) (c : ℕ) (near : Adjacent n (blank b) c) where
  -- the blank that goes to a cell and back leaves the board as it was
  slid_back : slid (slid b c) (blank b) ≡ b
  slid_back =
      let m = near.1 in
      let d = slid b c in
      let side = side_of-board n b good in
      let leads : moved b m ≡ Some d = ap (λ k. option_map (slid b) (step_of k (blank b) m)) side ∙ ap (option_map (slid b)) near.2 in
      let back : moved d (reverse_of m) ≡ Some b = moved-reverse_of n b good m d leads in
      let least = cells_least n b good in
      let here : blank b < n * n = cell_of-below n b good 0 (omega (arith, least)) in
      let step : step_of n c (reverse_of m) ≡ Some (blank b) = reverse_of-takes_back m n (blank b) c good.low good.high here near.2 in
      let forth : moved d (reverse_of m) ≡ Some (slid d (blank b)) =
      ap (λ k. option_map (slid d) (step_of k (blank d) (reverse_of m))) (side_of-slid n b good c near.0 ∙ side) ∙
      ap (λ x. option_map (slid d) (step_of n x (reverse_of m))) (blank-slid n b good c near.0) ∙ ap (option_map (slid d)) step in
      Some-one (slid d (blank b)) b (sym forth ∙ back)

-- without the two moves it is a solution still
shorter : (front b behind : List ℕ) (n c : ℕ) → IsBoardOf n b → IsSolution b (front ++ (c ∷ blank (after b front) ∷ behind)) → IsSolution b (front ++ behind)
shorter [] b behind n c good solves =
    let near = subst (λ k. Adjacent k (blank b) c) (side_of-board n b good) solves.0.0 in
    (solves.0.1.1, subst (λ t. IsGoal (after t behind)) (slid_back n b good c near) solves.1)
shorter (x ∷ front) b behind n c good solves =
    let near = subst (λ k. Adjacent k (blank b) x) (side_of-board n b good) solves.0.0 in
    let d = slid b x in
    let side : side_of d ≡ side_of b = side_of-slid n b good x near.0 in
    let here : blank d ≡ x = blank-slid n b good x near.0 in
    let path = front ++ (c ∷ blank (after d front) ∷ behind) in
    let on : IsPath (side_of d) (blank d) path = subst (λ k. IsPath k (blank d) path) (sym side)
    (subst (λ z. IsPath (side_of b) z path) (sym here) solves.0.1) in
    let rest = shorter front d behind n c (IsBoardOf-slid n b good x near.0) (on, solves.1) in
    let back : IsPath (side_of b) x (front ++ behind) =
    subst (λ z. IsPath (side_of b) z (front ++ behind)) here (subst (λ k. IsPath k (blank d) (front ++ behind)) side rest.0) in
    ((solves.0.0, back), rest.1)

-- so a shortest solution has no such moves
pub takes_nothing_back : ShortestSolutionsTakeNothingBack
takes_nothing_back b front behind c d good solves bounded = λ same.
    let path = front ++ (c ∷ d ∷ behind) in
    let again = subst (λ x. IsSolution b (front ++ (c ∷ x ∷ behind))) (sym same) solves in
    let fewer : length path ≤ length (front ++ behind) = bounded (front ++ behind) (shorter front b behind (side_of b) c good again) in
    let whole = length-append front (c ∷ d ∷ behind) in
    let part = length-append front behind in
    omega (arith, fewer, whole, part)
