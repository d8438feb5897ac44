-- The automaton of reversals refuses the moves that somewhere take one of them straight back.
use Rattle.std.proofs.Common.{◌≡◌, ◌≢◌, ℕ, zero, suc, ◌+◌, ◌*◌, ◌<◌, ◌≤◌, ◌⊎◌, ◌↔◌, true, eqb, List, [], ◌∷◌, ◌++◌, length, length-append, get_or}
use Rattle.std.proofs.Common.{Option, Some, None, inl, inr, refl, sym, ◌∙◌, ap, subst, arith, eq-eqb, ne_eqb}
use Rattle.std.specs.Prelude.{option_and_then}
use Rattle.std.specs.List.{AllByRecursion}
use Rattle.std.proofs.lemmas.Bool.{cond-false, cond-true}
use Rattle.puz_board.specs.Boards.{IsBoardOf, moved}
use Rattle.puz_board.specs.Cells.{reverse_of}
use Rattle.puz_board.specs.Paths.{board_after}
use Rattle.puz_board.specs.declared.moves.Move.{Move}
use Rattle.puz_board.specs.declared.moves.Move.TheVariants.{Up, Down, Left, Right}
use Rattle.puz_board.proofs.MovedLemmas.{moved-reverse_of}
use Rattle.move_strings.specs.Automata.{IsAutomaton, left_out, next_at, refuses, reversal_steps}
use Rattle.move_strings.specs.Strings.{HasReversal, IsForbidden, rank_of}
use Rattle.move_strings.proofs.OrderLemmas.{rank_of-few}
use Rattle.move_strings.proofs.PartLemmas.{rest_of_moves, first_of_moves, same_or}

-- ---- a move and its reverse

there_and_back : (n : ℕ) (b : List ℕ) → IsBoardOf n b → (m : Move) (end : List ℕ) → (o : Option (List ℕ)) → moved b m ≡ o
    → option_and_then (λ d. board_after d (reverse_of m ∷ [])) o ≡ Some end → board_after b [] ≡ Some end
unfolding board_after
there_and_back n b good m end None is leads = cc
there_and_back n b good m end (Some d) is leads =
    sym (ap (option_and_then (λ e. Some e)) (moved-reverse_of n b good m d is)) ∙ leads

same_back : (n : ℕ) (m : Move) (b end : List ℕ) → IsBoardOf n b → board_after b (m ∷ reverse_of m ∷ []) ≡ Some end → board_after b [] ≡ Some end
unfolding board_after
same_back n m b end good leads = there_and_back n b good m end (moved b m) refl leads

-- a move and the one that takes it back are forbidden
pub IsForbidden-reversal : (n : ℕ) (m : Move) → IsForbidden n (m ∷ reverse_of m ∷ [])
IsForbidden-reversal n m = record { witness = []; is = record { before = inl (omega arith); same = λ b end good leads. same_back n m b end good leads } }

-- ---- the table

-- the state at which a move has arrived
abbrev arrived : Move → ℕ
arrived m = suc (rank_of m)

first_step : (m : Move) → next_at reversal_steps 0 m ≡ arrived m
first_step Up = refl
first_step Down = refl
first_step Left = refl
first_step Right = refl

after_reverse : (m : Move) → next_at reversal_steps (arrived m) (reverse_of m) ≡ left_out
after_reverse Up = refl
after_reverse Down = refl
after_reverse Left = refl
after_reverse Right = refl

after_other : (m k : Move) → k ≢ reverse_of m → next_at reversal_steps (arrived m) k ≡ arrived k
after_other Up Up ne = refl
after_other Up Down ne = absurd (ne refl)
after_other Up Left ne = refl
after_other Up Right ne = refl
after_other Down Up ne = absurd (ne refl)
after_other Down Down ne = refl
after_other Down Left ne = refl
after_other Down Right ne = refl
after_other Left Up ne = refl
after_other Left Down ne = refl
after_other Left Left ne = refl
after_other Left Right ne = absurd (ne refl)
after_other Right Up ne = refl
after_other Right Down ne = refl
after_other Right Left ne = absurd (ne refl)
after_other Right Right ne = refl

-- a step that takes the arriving move back is left out, and any other leads to the state of its move
step_after : (m k : Move) → ((k ≡ reverse_of m) × (next_at reversal_steps (arrived m) k ≡ left_out)) ⊎ (next_at reversal_steps (arrived m) k ≡ arrived k)
step_after m k = elim (same_or k (reverse_of m)) [
  | inl e ↦ inl (e, subst (λ x. next_at reversal_steps (arrived m) x ≡ left_out) (sym e) (after_reverse m))
  | inr ne ↦ inr (after_other m k ne)
]

low_or : (steps : List ℕ) → AllByRecursion (λ next. (next ≤ 4) ⊎ (next ≡ left_out)) steps → (k : ℕ) → (get_or steps k 0 ≤ 4) ⊎ (get_or steps k 0 ≡ left_out)
low_or [] each k = inl (omega arith)
low_or (next ∷ steps) each zero = each.0
low_or (next ∷ steps) each (suc k) = low_or steps each.1 k

few_states : (k : ℕ) → (get_or reversal_steps k 0 ≤ 4) ⊎ (get_or reversal_steps k 0 ≡ left_out)
few_states = low_or reversal_steps (
  inl (omega arith),
  (
    inl (omega arith),
    (
      inl (omega arith),
      (
        inl (omega arith),
        (
          inl (omega arith),
          (
            inr refl,
            (
              inl (omega arith),
              (
                inl (omega arith),
                (
                  inr refl,
                  (
                    inl (omega arith),
                    (
                      inl (omega arith),
                      (
                        inl (omega arith),
                        (
                          inl (omega arith),
                          (
                            inl (omega arith),
                            (
                              inl (omega arith),
                              (
                                inr refl,
                                (
                                  inl (omega arith),
                                  (inl (omega arith), (inr refl, (inl (omega arith), tt))),
                                ),
                              ),
                            ),
                          ),
                        ),
                      ),
                    ),
                  ),
                ),
              ),
            ),
          ),
        ),
      ),
    ),
  ),
)

-- ---- what is refused

goes_on : (s next : ℕ) (m : Move) (ms : List Move) → next_at reversal_steps s m ≡ next → next < left_out
    → refuses reversal_steps s (m ∷ ms) ≡ refuses reversal_steps next ms
goes_on s next m ms is low =
    cond-false (eqb (next_at reversal_steps s m) left_out) true (refuses reversal_steps (next_at reversal_steps s m) ms)
    (ne_eqb (next_at reversal_steps s m) left_out (λ e. omega arith)) ∙
    ap (λ k. refuses reversal_steps k ms) is

stops : (s : ℕ) (m : Move) (ms : List Move) → next_at reversal_steps s m ≡ left_out → refuses reversal_steps s (m ∷ ms) ≡ true
stops s m ms is = cond-true (eqb (next_at reversal_steps s m) left_out) true (refuses reversal_steps (next_at reversal_steps s m) ms)
    (eq-eqb (next_at reversal_steps s m) left_out is)

goes_after : (s : ℕ) (m : Move) (ms : List Move) → next_at reversal_steps s m ≡ arrived m
    → refuses reversal_steps s (m ∷ ms) ≡ refuses reversal_steps (arrived m) ms
goes_after s m ms is = let few = rank_of-few m in goes_on s (arrived m) m ms is (omega arith)

later : (m : Move) (ms : List Move) → HasReversal ms → HasReversal (m ∷ ms)
later m ms has = (has.0, record { front = m ∷ has.1.front; rest = has.1.rest; whole = ap (λ t. m ∷ t) has.1.whole })

has_after : (ms : List Move) (m : Move) → refuses reversal_steps (arrived m) ms ≡ true → HasReversal (m ∷ ms)
has_after [] m refused = cc
has_after (k ∷ ms) m refused = elim (step_after m k) [
  | inl back ↦ (m, record { front = []; rest = ms; whole = ap (λ x. m ∷ x ∷ ms) back.0 })
  | inr on ↦ later m (k ∷ ms) (has_after ms k (sym (goes_after (arrived m) k ms on) ∙ refused))
]

refused_by : (ms : List Move) (m x : Move) (front rest : List Move) → m ∷ ms ≡ front ++ ((x ∷ reverse_of x ∷ []) ++ rest)
    → refuses reversal_steps (arrived m) ms ≡ true
refused_by [] m x [] rest whole = let none : 0 ≡ suc (length rest) = ap (λ t. length (rest_of_moves t)) whole in absurd (omega arith)
refused_by [] m x (l ∷ ls) rest whole =
    let none : 0 ≡ length (ls ++ ((x ∷ reverse_of x ∷ []) ++ rest)) = ap (λ t. length (rest_of_moves t)) whole in
    let long = length-append ls ((x ∷ reverse_of x ∷ []) ++ rest) in
    absurd (omega arith)
refused_by (k ∷ ms) m x [] rest whole =
    let here : m ≡ x = ap first_of_moves whole in
    let back : k ≡ reverse_of x = ap (λ t. first_of_moves (rest_of_moves t)) whole in
    stops (arrived m) k ms (subst (λ y. next_at reversal_steps (arrived m) y ≡ left_out) (sym (back ∙ ap reverse_of (sym here))) (after_reverse m))
refused_by (k ∷ ms) m x (l ∷ ls) rest whole = elim (step_after m k) [
  | inl back ↦ stops (arrived m) k ms back.1
  | inr on ↦ goes_after (arrived m) k ms on ∙ refused_by ms k x ls rest (ap rest_of_moves whole)
]

-- the automaton of reversals refuses exactly the moves that take one of them straight back
pub refused-reversal : (moves : List Move) → (refuses reversal_steps 0 moves ≡ true) ↔ HasReversal moves
refused-reversal [] = (λ refused. cc, λ has. none has.1.front has.0 has.1.rest has.1.whole)
  where
    none : (front : List Move) (x : Move) (rest : List Move) → [] ≡ front ++ ((x ∷ reverse_of x ∷ []) ++ rest) → refuses reversal_steps 0 [] ≡ true
    none [] x rest whole = let few = ap length whole in absurd (omega arith)
    none (l ∷ ls) x rest whole = let few : 0 ≡ suc (length (ls ++ ((x ∷ reverse_of x ∷ []) ++ rest))) = ap length whole in absurd (omega arith)
refused-reversal (m ∷ ms) = (
  λ refused. has_after ms m (sym (goes_after 0 m ms (first_step m)) ∙ refused),
  λ has. goes_after 0 m ms (first_step m) ∙ refused_by ms m has.0 has.1.front has.1.rest has.1.whole,
)

-- ---- it is an automaton

-- the table of reversals is an automaton for boards of any side
pub IsAutomaton-reversals : (n : ℕ) → IsAutomaton (record { side = n; steps = reversal_steps })
IsAutomaton-reversals n = record {
  first = λ m. let few = rank_of-few m in omega arith;
  next = λ s m is on k. elim (few_states (4 * s + rank_of m)) [
    | inl low ↦ let few = rank_of-few k in omega arith
    | inr out ↦ absurd (on out)
  ];
  refused = λ moves refused.
      let has = (refused-reversal moves).0 refused in
      record { string = has.0 ∷ reverse_of has.0 ∷ []; forbidden = IsForbidden-reversal n has.0; has = has.1 };
}
