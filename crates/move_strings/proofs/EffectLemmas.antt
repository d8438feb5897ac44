-- Strings with the same effect on one board have it on each board of its side whose blank is in the same cell: each of these is
-- that board with other numbers on its tiles.
use Rattle.std.proofs.Common.{◌≡◌, ◌≢◌, ℕ, suc, ◌-◌, ◌*◌, ◌<◌, cond, eqb, List, [], ◌∷◌, length, map, set, Option, Some, None, inl, inr, refl, sym}
use Rattle.std.proofs.Common.{◌∙◌, ap, ap₂, subst, arith, eq-eqb, ne_eqb}
use Rattle.std.specs.Prelude.{option_and_then, option_map}
use Rattle.std.proofs.lemmas.Bool.{cases_eq, cond-true, cond-false}
use Rattle.std.proofs.lemmas.List.{ext_get_or, get_or-map, length-map, map-set}
use Rattle.puz_board.specs.declared.moves.Move.{Move}
use Rattle.puz_board.specs.Boards.{IsBoardOf, at, blank, cell_of, moved, side_of, side_of_count, slid}
use Rattle.puz_board.specs.Cells.{step_of}
use Rattle.puz_board.specs.Paths.{board_after}
use Rattle.puz_board.proofs.BoardLemmas.{at-cell_of, cell_of-below, cell_of-content, cell_of-is, cells_least, side_of-board}
use Rattle.puz_board.proofs.CellLemmas.{step_of-inside}
use Rattle.puz_board.proofs.MovedLemmas.{IsBoardOf-moved}
use Rattle.move_strings.specs.Checks.{IsSameFrom, IsSameOn}
use Rattle.move_strings.specs.Strings.{HasSameEffect}

-- ---- other numbers

module _ (f : ℕ → ℕ) (zero_is : f 0 ≡ 0) (tiles_are : (x : ℕ) → x ≢ 0 → f x ≢ 0) where
  same_test : (x : ℕ) → eqb (f x) 0 ≡ eqb x 0
  same_test x = elim (cases_eq x 0) [
    | inl e ↦ eq-eqb (f x) 0 (ap f e ∙ zero_is) ∙ sym (eq-eqb x 0 e)
    | inr ne ↦ ne_eqb (f x) 0 (tiles_are x ne) ∙ sym (ne_eqb x 0 ne)
  ]

  blank-map : (b : List ℕ) → blank (map f b) ≡ blank b
  blank-map [] = refl
  blank-map (x ∷ xs) = ap₂ (λ t k. cond t 0 (suc k)) (same_test x) (blank-map xs)

  side_of-map : (b : List ℕ) → side_of (map f b) ≡ side_of b
  side_of-map b = ap side_of_count (length-map b f)

  slid-map : (b : List ℕ) (c : ℕ) → c < length b → slid (map f b) c ≡ map f (slid b c)
  unfolding slid
  slid-map b c inside =
      let there : at (map f b) c ≡ f (at b c) = get_or-map f b c 0 0 inside in
      ap₂ (λ z x. set (set (map f b) z x) c 0) (blank-map b) there ∙
      ap (λ xs. set xs c 0) (sym (map-set f b (blank b) (at b c))) ∙
      ap (set (map f (set b (blank b) (at b c))) c) (sym zero_is) ∙
      sym (map-set f (set b (blank b) (at b c)) c 0)

  moved_to : (b : List ℕ) (m : Move) → (o : Option ℕ) → ((c : ℕ) → o ≡ Some c → c < length b)
      → option_map (slid (map f b)) o ≡ option_map (map f) (option_map (slid b) o)
  moved_to b m None inside = refl
  moved_to b m (Some c) inside = ap Some (slid-map b c (inside c refl))

  moved-map : (n : ℕ) (b : List ℕ) → IsBoardOf n b → (m : Move) → moved (map f b) m ≡ option_map (map f) (moved b m)
  moved-map n b good m =
      let some = cells_least n b good in
      let size = good.size in
      let home = cell_of-below n b good 0 (omega arith) in
      let side = side_of-board n b good in
      ap₂ (λ k z. option_map (slid (map f b)) (step_of k z m)) (side_of-map b) (blank-map b) ∙
      moved_to b m (step_of (side_of b) (blank b) m)
      (λ c leads. let inside : c < n * n = step_of-inside n (blank b) m c good.low good.high (omega arith)
      (subst (λ k. step_of k (blank b) m ≡ Some c) side leads) in omega arith)

  after_on : (n : ℕ) (b : List ℕ) → IsBoardOf n b → (m : Move) (ms : List Move)
      → ((d : List ℕ) → IsBoardOf n d → board_after (map f d) ms ≡ option_map (map f) (board_after d ms))
      → (o : Option (List ℕ)) → moved b m ≡ o
      → option_and_then (λ d. board_after d ms) (option_map (map f) o) ≡ option_map (map f) (option_and_then (λ d. board_after d ms) o)
  after_on n b good m ms later None is = refl
  after_on n b good m ms later (Some d) is = later d (IsBoardOf-moved n b good m d is)

  board_after-map : (n : ℕ) (b : List ℕ) → IsBoardOf n b → (ms : List Move) → board_after (map f b) ms ≡ option_map (map f) (board_after b ms)
  unfolding board_after
  board_after-map n b good [] = refl
  board_after-map n b good (m ∷ ms) =
      ap (option_and_then (λ d. board_after d ms)) (moved-map n b good m) ∙
      after_on n b good m ms (λ d is. board_after-map n d is ms) (moved b m) refl

  same_ends : (p : List ℕ) (string witness : List Move) → IsSameOn p string witness → (end : List ℕ) → (o : Option (List ℕ)) → board_after p string ≡ o
      → option_map (map f) o ≡ Some end → option_map (map f) (board_after p witness) ≡ Some end
  same_ends p string witness same end None is leads = cc
  same_ends p string witness same end (Some e) is leads = ap (option_map (map f)) (same e is) ∙ leads

  IsSameOn-map : (n : ℕ) (p : List ℕ) → IsBoardOf n p → (string witness : List Move) → IsSameOn p string witness → IsSameOn (map f p) string witness
  IsSameOn-map n p good string witness same end leads =
      board_after-map n p good witness ∙ same_ends p string witness same end (board_after p string) refl (sym (board_after-map n p good string) ∙ leads)

-- ---- the numbers of another board

-- the number that stands on one board where x stands on the other; tiles stay tiles
abbrev put_for : List ℕ → List ℕ → ℕ → ℕ
put_for p b x = cond (eqb x 0) 0 (suc (at b (cell_of x p) - 1))

put_for-tile : (p b : List ℕ) (x : ℕ) → x ≢ 0 → put_for p b x ≡ suc (at b (cell_of x p) - 1)
put_for-tile p b x ne = cond-false (eqb x 0) 0 (suc (at b (cell_of x p) - 1)) (ne_eqb x 0 ne)

tile_tile : (p b : List ℕ) (x : ℕ) → x ≢ 0 → put_for p b x ≢ 0
tile_tile p b x ne e = let is = put_for-tile p b x ne in omega arith

put_each : (n : ℕ) (p b : List ℕ) → IsBoardOf n p → IsBoardOf n b → blank b ≡ blank p → (i : ℕ) → i < n * n → put_for p b (at p i) ≡ at b i
put_each n p b good_p good_b same i l =
    let some = cells_least n p good_p in
    elim (cases_eq (at p i) 0) [
      | inl e ↦
          let here : blank p ≡ i = cell_of-is n p good_p 0 i l e in
          cond-true (eqb (at p i) 0) 0 _ (eq-eqb (at p i) 0 e) ∙ sym (at-cell_of n b good_b 0 (omega arith)) ∙ ap (at b) (same ∙ here)
      | inr ne ↦
          let there : at b i ≢ 0 = λ e. ne (ap (at p) (sym (cell_of-is n b good_b 0 i l e) ∙ same) ∙ at-cell_of n p good_p 0 (omega arith)) in
          let is = put_for-tile p b (at p i) ne in
          let back : at b (cell_of (at p i) p) ≡ at b i = ap (at b) (cell_of-content n p good_p i l) in
          omega arith
    ]

map_put : (n : ℕ) (p b : List ℕ) → IsBoardOf n p → IsBoardOf n b → blank b ≡ blank p → map (put_for p b) p ≡ b
map_put n p b good_p good_b same =
    let long = length-map p (put_for p b) in
    let size_p = good_p.size in
    let size_b = good_b.size in
    ext_get_or 0 (map (put_for p b) p) b (omega arith)
    (λ i l. get_or-map (put_for p b) p i 0 0 (omega arith) ∙ put_each n p b good_p good_b same i (omega arith))

-- what holds on one board holds from its blank's cell
pub IsSameOn-from : (n : ℕ) (p : List ℕ) → IsBoardOf n p → (string witness : List Move) → IsSameOn p string witness → IsSameFrom n (blank p) string witness
IsSameOn-from n p good string witness same b is there =
    subst (λ d. IsSameOn d string witness) (map_put n p b good is there) (IsSameOn-map (put_for p b) refl (tile_tile p b) n p good string witness same)

-- what holds from each cell holds on each board
pub HasSameEffect-from : (n : ℕ) (string witness : List Move) → ((c : ℕ) → c < n * n → IsSameFrom n c string witness) → HasSameEffect n string witness
HasSameEffect-from n string witness each b end good leads =
    let some = cells_least n b good in
    each (blank b) (cell_of-below n b good 0 (omega arith)) b good refl end leads
