-- Moves among the cells of one side.
use Rattle.std.proofs.Common.{◌≡◌, ◌≢◌, ℕ, ◌+◌, ◌-◌, ◌*◌, ◌/◌, ◌%◌, ◌<◌, ◌≤◌, Bool, true, false, cond, eqb, Some, None, inl, inr, refl, sym, ◌∙◌, ap}
use Rattle.std.proofs.Common.{subst, arith, ne_eqb}
use Rattle.std.proofs.lemmas.Bool.{cases_eq, cond-false, eqb-false}
use Rattle.puz_board.specs.declared.moves.Move.{Move}
use Rattle.puz_board.specs.declared.moves.Move.TheVariants.{Up, Down, Left, Right}
use Rattle.puz_board.specs.Cells.{IsBeside, IsTakenBackBy, reverse_of, step_of}

-- what holds at each side holds
pub by_side : (P : ℕ → Type 0) → P 2 → P 3 → P 4 → P 5 → (n : ℕ) → 2 ≤ n → n ≤ 5 → P n
by_side P two three four five n low high = elim (cases_eq n 2) [
  | inl e ↦ subst P (sym e) two
  | inr ne2 ↦ elim (cases_eq n 3) [
    | inl e ↦ subst P (sym e) three
    | inr ne3 ↦ elim (cases_eq n 4) [
      | inl e ↦ subst P (sym e) four
      | inr ne4 ↦ let e : 5 ≡ n = omega arith in subst P e five
    ]
  ]
]

-- no board has more than 25 cells
pub few_cells : (n : ℕ) → 2 ≤ n → n ≤ 5 → n * n ≤ 25
few_cells = by_side (λ n. n * n ≤ 25) (omega arith) (omega arith) (omega arith) (omega arith)

-- ---- the reverse of a move takes it back

up_back : (n : ℕ) → 2 ≤ n → n ≤ 5 → (c d : ℕ) → c < n * n → c / n ≢ 0 → c - n ≡ d → (d / n ≢ n - 1) × (d + n ≡ c)
up_back = by_side (λ n. (c d : ℕ) → c < n * n → c / n ≢ 0 → c - n ≡ d → (d / n ≢ n - 1) × (d + n ≡ c)) (λ c d l p e. omega arith)
    (λ c d l p e. omega arith) (λ c d l p e. omega arith) (λ c d l p e. omega arith)

down_back : (n : ℕ) → 2 ≤ n → n ≤ 5 → (c d : ℕ) → c < n * n → c / n ≢ n - 1 → c + n ≡ d → (d / n ≢ 0) × (d - n ≡ c)
down_back = by_side (λ n. (c d : ℕ) → c < n * n → c / n ≢ n - 1 → c + n ≡ d → (d / n ≢ 0) × (d - n ≡ c)) (λ c d l p e. omega arith)
    (λ c d l p e. omega arith) (λ c d l p e. omega arith) (λ c d l p e. omega arith)

left_back : (n : ℕ) → 2 ≤ n → n ≤ 5 → (c d : ℕ) → c < n * n → c % n ≢ 0 → c - 1 ≡ d → (d % n ≢ n - 1) × (d + 1 ≡ c)
left_back = by_side (λ n. (c d : ℕ) → c < n * n → c % n ≢ 0 → c - 1 ≡ d → (d % n ≢ n - 1) × (d + 1 ≡ c)) (λ c d l p e. omega arith)
    (λ c d l p e. omega arith) (λ c d l p e. omega arith) (λ c d l p e. omega arith)

right_back : (n : ℕ) → 2 ≤ n → n ≤ 5 → (c d : ℕ) → c < n * n → c % n ≢ n - 1 → c + 1 ≡ d → (d % n ≢ 0) × (d - 1 ≡ c)
right_back = by_side (λ n. (c d : ℕ) → c < n * n → c % n ≢ n - 1 → c + 1 ≡ d → (d % n ≢ 0) × (d - 1 ≡ c)) (λ c d l p e. omega arith)
    (λ c d l p e. omega arith) (λ c d l p e. omega arith) (λ c d l p e. omega arith)

-- a move that stays on the board isn't stopped at its edge
pub stays : (stopped : Bool) (x d : ℕ) → cond stopped None (Some x) ≡ Some d → (stopped ≡ false) × (x ≡ d)
stays true x d e = absurd (let bad : None ≡ Some d = e in cc)
stays false x d e = (refl, cc)

-- and back
pub goes : (a edge x c : ℕ) → a ≢ edge → x ≡ c → cond (eqb a edge) None (Some x) ≡ Some c
goes a edge x c ne e = cond-false (eqb a edge) None (Some x) (ne_eqb a edge ne) ∙ ap Some e

-- wherever a move leads on a board, the reverse of the move leads back
pub reverse_of-takes_back : (m : Move) → IsTakenBackBy m (reverse_of m)
reverse_of-takes_back Up n c d low high l e =
    let way = stays (eqb (c / n) 0) (c - n) d e in
    let back = up_back n low high c d l (eqb-false (c / n) 0 way.0) way.1 in
    goes (d / n) (n - 1) (d + n) c back.0 back.1
reverse_of-takes_back Down n c d low high l e =
    let way = stays (eqb (c / n) (n - 1)) (c + n) d e in
    let back = down_back n low high c d l (eqb-false (c / n) (n - 1) way.0) way.1 in
    goes (d / n) 0 (d - n) c back.0 back.1
reverse_of-takes_back Left n c d low high l e =
    let way = stays (eqb (c % n) 0) (c - 1) d e in
    let back = left_back n low high c d l (eqb-false (c % n) 0 way.0) way.1 in
    goes (d % n) (n - 1) (d + 1) c back.0 back.1
reverse_of-takes_back Right n c d low high l e =
    let way = stays (eqb (c % n) (n - 1)) (c + 1) d e in
    let back = right_back n low high c d l (eqb-false (c % n) (n - 1) way.0) way.1 in
    goes (d % n) 0 (d - 1) c back.0 back.1

-- ---- a move stays among the cells

down_inside : (n : ℕ) → 2 ≤ n → n ≤ 5 → (c : ℕ) → c < n * n → c / n ≢ n - 1 → c + n < n * n
down_inside = by_side (λ n. (c : ℕ) → c < n * n → c / n ≢ n - 1 → c + n < n * n) (λ c l ne. omega arith) (λ c l ne. omega arith)
    (λ c l ne. omega arith) (λ c l ne. omega arith)

right_inside : (n : ℕ) → 2 ≤ n → n ≤ 5 → (c : ℕ) → c < n * n → c % n ≢ n - 1 → c + 1 < n * n
right_inside = by_side (λ n. (c : ℕ) → c < n * n → c % n ≢ n - 1 → c + 1 < n * n) (λ c l ne. omega arith) (λ c l ne. omega arith)
    (λ c l ne. omega arith) (λ c l ne. omega arith)

-- a move from a cell of the board leads to a cell of the board
pub step_of-inside : (n c : ℕ) (m : Move) (d : ℕ) → 2 ≤ n → n ≤ 5 → c < n * n → step_of n c m ≡ Some d → d < n * n
step_of-inside n c Up d low high l e = let way = stays (eqb (c / n) 0) (c - n) d e in let is = way.1 in omega arith
step_of-inside n c Down d low high l e =
    let way = stays (eqb (c / n) (n - 1)) (c + n) d e in
    let is = way.1 in
    let inside = down_inside n low high c l (eqb-false _ _ way.0) in
    omega arith
step_of-inside n c Left d low high l e = let way = stays (eqb (c % n) 0) (c - 1) d e in let is = way.1 in omega arith
step_of-inside n c Right d low high l e =
    let way = stays (eqb (c % n) (n - 1)) (c + 1) d e in
    let is = way.1 in
    let inside = right_inside n low high c l (eqb-false _ _ way.0) in
    omega arith

-- ---- a move leads to a cell beside, and to each of them

up_beside : (n : ℕ) → 2 ≤ n → n ≤ 5 → (c d : ℕ) → c < n * n → c / n ≢ 0 → c - n ≡ d → (c % n ≡ d % n) × (d / n + 1 ≡ c / n)
up_beside = by_side (λ n. (c d : ℕ) → c < n * n → c / n ≢ 0 → c - n ≡ d → (c % n ≡ d % n) × (d / n + 1 ≡ c / n)) (λ c d l p e. omega arith)
    (λ c d l p e. omega arith) (λ c d l p e. omega arith) (λ c d l p e. omega arith)

down_beside : (n : ℕ) → 2 ≤ n → n ≤ 5 → (c d : ℕ) → c < n * n → c + n ≡ d → (c % n ≡ d % n) × (c / n + 1 ≡ d / n)
down_beside = by_side (λ n. (c d : ℕ) → c < n * n → c + n ≡ d → (c % n ≡ d % n) × (c / n + 1 ≡ d / n)) (λ c d l e. omega arith)
    (λ c d l e. omega arith) (λ c d l e. omega arith) (λ c d l e. omega arith)

left_beside : (n : ℕ) → 2 ≤ n → n ≤ 5 → (c d : ℕ) → c < n * n → c % n ≢ 0 → c - 1 ≡ d → (c / n ≡ d / n) × (d % n + 1 ≡ c % n)
left_beside = by_side (λ n. (c d : ℕ) → c < n * n → c % n ≢ 0 → c - 1 ≡ d → (c / n ≡ d / n) × (d % n + 1 ≡ c % n)) (λ c d l p e. omega arith)
    (λ c d l p e. omega arith) (λ c d l p e. omega arith) (λ c d l p e. omega arith)

right_beside : (n : ℕ) → 2 ≤ n → n ≤ 5 → (c d : ℕ) → c < n * n → c % n ≢ n - 1 → c + 1 ≡ d → (c / n ≡ d / n) × (c % n + 1 ≡ d % n)
right_beside = by_side (λ n. (c d : ℕ) → c < n * n → c % n ≢ n - 1 → c + 1 ≡ d → (c / n ≡ d / n) × (c % n + 1 ≡ d % n)) (λ c d l p e. omega arith)
    (λ c d l p e. omega arith) (λ c d l p e. omega arith) (λ c d l p e. omega arith)

-- a move leads from a cell to one beside it in its row or its column
pub step_of-beside : (n c : ℕ) (m : Move) (d : ℕ) → 2 ≤ n → n ≤ 5 → c < n * n → step_of n c m ≡ Some d → IsBeside n c d
step_of-beside n c Up d low high l e =
    let way = stays (eqb (c / n) 0) (c - n) d e in
    let at = up_beside n low high c d l (eqb-false _ _ way.0) way.1 in
    inr (at.0, inr at.1)
step_of-beside n c Down d low high l e =
    let way = stays (eqb (c / n) (n - 1)) (c + n) d e in
    let at = down_beside n low high c d l way.1 in
    inr (at.0, inl at.1)
step_of-beside n c Left d low high l e =
    let way = stays (eqb (c % n) 0) (c - 1) d e in
    let at = left_beside n low high c d l (eqb-false _ _ way.0) way.1 in
    inl (at.0, inr at.1)
step_of-beside n c Right d low high l e =
    let way = stays (eqb (c % n) (n - 1)) (c + 1) d e in
    let at = right_beside n low high c d l (eqb-false _ _ way.0) way.1 in
    inl (at.0, inl at.1)

up_reaches : (n : ℕ) → 2 ≤ n → n ≤ 5 → (c d : ℕ) → c < n * n → d < n * n → c % n ≡ d % n → d / n + 1 ≡ c / n → (c / n ≢ 0) × (c - n ≡ d)
up_reaches = by_side (λ n. (c d : ℕ) → c < n * n → d < n * n → c % n ≡ d % n → d / n + 1 ≡ c / n → (c / n ≢ 0) × (c - n ≡ d))
    (λ c d l k p e. omega arith) (λ c d l k p e. omega arith) (λ c d l k p e. omega arith) (λ c d l k p e. omega arith)

down_reaches : (n : ℕ) → 2 ≤ n → n ≤ 5 → (c d : ℕ) → c < n * n → d < n * n → c % n ≡ d % n → c / n + 1 ≡ d / n → (c / n ≢ n - 1) × (c + n ≡ d)
down_reaches = by_side (λ n. (c d : ℕ) → c < n * n → d < n * n → c % n ≡ d % n → c / n + 1 ≡ d / n → (c / n ≢ n - 1) × (c + n ≡ d))
    (λ c d l k p e. omega arith) (λ c d l k p e. omega arith) (λ c d l k p e. omega arith) (λ c d l k p e. omega arith)

left_reaches : (n : ℕ) → 2 ≤ n → n ≤ 5 → (c d : ℕ) → c < n * n → d < n * n → c / n ≡ d / n → d % n + 1 ≡ c % n → (c % n ≢ 0) × (c - 1 ≡ d)
left_reaches = by_side (λ n. (c d : ℕ) → c < n * n → d < n * n → c / n ≡ d / n → d % n + 1 ≡ c % n → (c % n ≢ 0) × (c - 1 ≡ d))
    (λ c d l k p e. omega arith) (λ c d l k p e. omega arith) (λ c d l k p e. omega arith) (λ c d l k p e. omega arith)

right_reaches : (n : ℕ) → 2 ≤ n → n ≤ 5 → (c d : ℕ) → c < n * n → d < n * n → c / n ≡ d / n → c % n + 1 ≡ d % n → (c % n ≢ n - 1) × (c + 1 ≡ d)
right_reaches = by_side (λ n. (c d : ℕ) → c < n * n → d < n * n → c / n ≡ d / n → c % n + 1 ≡ d % n → (c % n ≢ n - 1) × (c + 1 ≡ d))
    (λ c d l k p e. omega arith) (λ c d l k p e. omega arith) (λ c d l k p e. omega arith) (λ c d l k p e. omega arith)

-- to each cell beside another one in its row or column, a move leads
pub beside-step_of : (n c d : ℕ) → 2 ≤ n → n ≤ 5 → c < n * n → d < n * n → IsBeside n c d → (m : Move) × (step_of n c m ≡ Some d)
beside-step_of n c d low high l k (inl (same, inl next)) = let at = right_reaches n low high c d l k same next in
    (Right, goes (c % n) (n - 1) (c + 1) d at.0 at.1)
beside-step_of n c d low high l k (inl (same, inr next)) = let at = left_reaches n low high c d l k same next in (Left, goes (c % n) 0 (c - 1) d at.0 at.1)
beside-step_of n c d low high l k (inr (same, inl next)) = let at = down_reaches n low high c d l k same next in
    (Down, goes (c / n) (n - 1) (c + n) d at.0 at.1)
beside-step_of n c d low high l k (inr (same, inr next)) = let at = up_reaches n low high c d l k same next in (Up, goes (c / n) 0 (c - n) d at.0 at.1)
