-- How far a sum is below a bound where the raised sum is below it, and that this stays the same along a walk.
use Rattle.std.proofs.Common.{◌≡◌, ◌≢◌, ℕ, ◌+◌, ◌*◌, ◌%◌, ◌<◌, ◌≤◌, eqb, List, Some, inl, inr, sym, ◌∙◌, ap, subst, arith, ne_eqb, eq-eqb}
use Rattle.std.proofs.lemmas.Bool.{cases_eq, cond-true, cond-false}
use Rattle.puz_board.specs.Boards.{IsBoardOf, blank, moved}
use Rattle.puz_board.specs.Cells.{Adjacent}
use Rattle.puz_board.specs.Parity.{blank_parity, taxicab}
use Rattle.puz_board.specs.declared.moves.Move.{Move}
use Rattle.puz_board.proofs.BoardLemmas.{blank-slid, side_of-board}
use Rattle.puz_board.proofs.CellLemmas.{step_of-beside}
use Rattle.puz_board.proofs.MovedLemmas.{IsBoardOf-moved}
use Rattle.edge_words.proofs.TileMoveLemmas.{Slide, slide_of}
use Rattle.set_sum.specs.Raised.{raised}
use Rattle.puz_walk.specs.Cuts.{margin_of}
use Rattle.puz_walk.proofs.TurnLemmas.{blank_below}

-- ---- the margin

-- it is 2 where the bound has the parity, and else 1
pub margin_even : (bound parity : ℕ) → bound % 2 ≡ parity → margin_of bound parity ≡ 2
margin_even bound parity e = cond-true (eqb (bound % 2) parity) 2 1 (eq-eqb (bound % 2) parity e)

-- the margin is 1 where the bound's parity is another one
pub margin_odd : (bound parity : ℕ) → bound % 2 ≢ parity → margin_of bound parity ≡ 1
margin_odd bound parity ne = cond-false (eqb (bound % 2) parity) 2 1 (ne_eqb (bound % 2) parity ne)

raised_same : (parity d : ℕ) → d % 2 ≡ parity → raised parity d ≡ d
raised_same parity d e = cond-true (eqb (d % 2) parity) d (d + 1) (eq-eqb (d % 2) parity e)

raised_more : (parity d : ℕ) → d % 2 ≢ parity → raised parity d ≡ d + 1
raised_more parity d ne = cond-false (eqb (d % 2) parity) d (d + 1) (ne_eqb (d % 2) parity ne)

-- the raised sum is below the bound where the sum is so far below it
pub raised_below : (bound parity d : ℕ) → parity ≤ 1 → d + margin_of bound parity ≤ bound → raised parity d < bound
raised_below bound parity d bit low = elim (cases_eq (d % 2) parity) [
  | inl same ↦ elim (cases_eq (bound % 2) parity) [
    | inl e ↦ let m = margin_even bound parity e in let r = raised_same parity d same in omega arith
    | inr ne ↦ let m = margin_odd bound parity ne in let r = raised_same parity d same in omega arith
  ]
  | inr other ↦ elim (cases_eq (bound % 2) parity) [
    | inl e ↦ let m = margin_even bound parity e in let r = raised_more parity d other in omega arith
    | inr ne ↦ let m = margin_odd bound parity ne in let r = raised_more parity d other in omega arith
  ]
]

-- and else at least the bound
pub raised_reaches : (bound parity d : ℕ) → parity ≤ 1 → bound < d + margin_of bound parity → bound ≤ raised parity d
raised_reaches bound parity d bit high = elim (cases_eq (d % 2) parity) [
  | inl same ↦ elim (cases_eq (bound % 2) parity) [
    | inl e ↦ let m = margin_even bound parity e in let r = raised_same parity d same in omega arith
    | inr ne ↦ let m = margin_odd bound parity ne in let r = raised_same parity d same in omega arith
  ]
  | inr other ↦ elim (cases_eq (bound % 2) parity) [
    | inl e ↦ let m = margin_even bound parity e in let r = raised_more parity d other in omega arith
    | inr ne ↦ let m = margin_odd bound parity ne in let r = raised_more parity d other in omega arith
  ]
]

-- the margin is 1 or 2, whatever the bound and the parity
pub margin_some : (bound parity : ℕ) → (1 ≤ margin_of bound parity) × (margin_of bound parity ≤ 2)
margin_some bound parity = elim (cases_eq (bound % 2) parity) [
  | inl e ↦ let m = margin_even bound parity e in (omega arith, omega arith)
  | inr ne ↦ let m = margin_odd bound parity ne in (omega arith, omega arith)
]

-- ---- parity

-- the parity of a board's blank is 0 or 1
pub parity_bit : (b : List ℕ) → blank_parity b ≤ 1
unfolding blank_parity
parity_bit b = omega arith

farther : (n : ℕ) → 2 ≤ n → n ≤ 5 → (c d : ℕ) → c < n * n → Adjacent n c d → taxicab n c % 2 + taxicab n d % 2 ≡ 1
farther n low high c d l is = elim (step_of-beside n c is.1 d low high l is.2) [
  | inl in_row ↦ let same = in_row.0 in elim in_row.1 [ inl e ↦ omega arith | inr e ↦ omega arith ]
  | inr in_column ↦ let same = in_column.0 in elim in_column.1 [ inl e ↦ omega arith | inr e ↦ omega arith ]
]

-- a move changes the blank's parity
pub parity_flips : (n : ℕ) (b : List ℕ) → IsBoardOf n b → (move : Move) (next : List ℕ) → moved b move ≡ Some next → blank_parity b + blank_parity next ≡ 1
unfolding blank_parity
parity_flips n b good move next leads =
    let s : Slide n b move next = slide_of n b good move next leads in
    let here : blank next ≡ s.cell = ap blank (sym s.is) ∙ blank-slid n b good s.cell s.inside in
    let near : Adjacent n (blank b) (blank next) = subst (Adjacent n (blank b)) (sym here) (s.inside, move, s.step) in
    let flips : taxicab n (blank b) % 2 + taxicab n (blank next) % 2 ≡ 1 = farther n good.low good.high (blank b) (blank next) (blank_below n b good) near in
    let before : blank_parity b ≡ taxicab n (blank b) % 2 = ap (λ side. taxicab side (blank b) % 2) (side_of-board n b good) in
    let after : blank_parity next ≡ taxicab n (blank next) % 2 =
    ap (λ side. taxicab side (blank next) % 2) (side_of-board n next (IsBoardOf-moved n b good move next leads)) in
    omega arith

-- so the margin stays
pub margin_still : (bound parity other : ℕ) → parity + other ≡ 1 → margin_of (bound + 1) parity ≡ margin_of bound other
margin_still bound parity other flips = elim (cases_eq (bound % 2) other) [
  | inl e ↦ margin_even (bound + 1) parity (omega arith) ∙ sym (margin_even bound other e)
  | inr ne ↦ margin_odd (bound + 1) parity (λ w. ne (omega arith)) ∙ sym (margin_odd bound other ne)
]
