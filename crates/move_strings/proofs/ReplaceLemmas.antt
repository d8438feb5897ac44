-- Moves in which a forbidden string is replaced lead to the same board, and so some moves with no forbidden string lead there.
use Rattle.std.proofs.Common.{◌≡◌, ℕ, zero, suc, ◌<◌, ◌≤◌, ◌⊎◌, List, [], ◌∷◌, ◌++◌, length, Option, Some, None, inl, inr, refl, sym, ◌∙◌, ap, subst, arith}
use Rattle.std.specs.Prelude.{option_and_then}
use Rattle.puz_board.specs.declared.moves.Move.{Move}
use Rattle.puz_board.specs.Boards.{IsBoardOf, moved}
use Rattle.puz_board.specs.Paths.{board_after}
use Rattle.puz_board.proofs.MovedLemmas.{IsBoardOf-moved}
use Rattle.move_strings.specs.Strings.{ComesBefore, HasForbidden}
use Rattle.move_strings.proofs.OrderLemmas.{ComesBefore-around, length-replaced, spelled, spelled-replaced}

-- ---- some moves, and then others

-- the board after some moves, from which others lead on
pub record Between (b : List ℕ) (front rest : List Move) (end : List ℕ) : Type 0 where
  pub middle : List ℕ
  pub leads : board_after b front ≡ Some middle
  pub on : board_after middle rest ≡ Some end

between_on : (b : List ℕ) (m : Move) (front rest : List Move) (end : List ℕ)
    → ((d : List ℕ) → board_after d (front ++ rest) ≡ Some end → Between d front rest end)
    → (o : Option (List ℕ)) → moved b m ≡ o → option_and_then (λ d. board_after d (front ++ rest)) o ≡ Some end → Between b (m ∷ front) rest end
unfolding board_after
between_on b m front rest end later None is leads = cc
between_on b m front rest end later (Some d) is leads =
    let on = later d leads in
    record { middle = on.middle; leads = ap (option_and_then (λ e. board_after e front)) is ∙ on.leads; on = on.on }

-- where some moves and then others lead to a board, there is a board between them
pub between : (b : List ℕ) (front rest : List Move) (end : List ℕ) → board_after b (front ++ rest) ≡ Some end → Between b front rest end
unfolding board_after
between b [] rest end leads = record { middle = b; leads = refl; on = leads }
between b (m ∷ front) rest end leads = between_on b m front rest end (λ d on. between d front rest end on) (moved b m) refl leads

join_on : (b : List ℕ) (m : Move) (front rest : List Move) (middle end : List ℕ)
    → ((d : List ℕ) → board_after d front ≡ Some middle → board_after d (front ++ rest) ≡ Some end)
    → (o : Option (List ℕ)) → option_and_then (λ d. board_after d front) o ≡ Some middle → option_and_then (λ d. board_after d (front ++ rest)) o ≡ Some end
join_on b m front rest middle end later None leads = cc
join_on b m front rest middle end later (Some d) leads = later d leads

-- moves to a board, and other moves on from it, are moves to where these lead
pub joined : (b : List ℕ) (front rest : List Move) (middle end : List ℕ) → board_after b front ≡ Some middle → board_after middle rest ≡ Some end
    → board_after b (front ++ rest) ≡ Some end
unfolding board_after
joined b [] rest middle end leads on =
    let same : b ≡ middle = cc in
    subst (λ d. board_after d rest ≡ Some end) (sym same) on
joined b (m ∷ front) rest middle end leads on = join_on b m front rest middle end (λ d is. joined d front rest middle end is on) (moved b m) leads

-- ---- boards stay boards

stays_on : (n : ℕ) (b : List ℕ) → IsBoardOf n b → (m : Move) (ms : List Move) (end : List ℕ)
    → ((d : List ℕ) → IsBoardOf n d → board_after d ms ≡ Some end → IsBoardOf n end)
    → (o : Option (List ℕ)) → moved b m ≡ o → option_and_then (λ d. board_after d ms) o ≡ Some end → IsBoardOf n end
stays_on n b good m ms end later None is leads = cc
stays_on n b good m ms end later (Some d) is leads = later d (IsBoardOf-moved n b good m d is) leads

-- where moves lead a board of side n, there is a board of side n again
pub IsBoardOf-after : (n : ℕ) (b : List ℕ) → IsBoardOf n b → (ms : List Move) (end : List ℕ) → board_after b ms ≡ Some end → IsBoardOf n end
unfolding board_after
IsBoardOf-after n b good [] end leads =
    let same : b ≡ end = cc in
    subst (IsBoardOf n) same good
IsBoardOf-after n b good (m ∷ ms) end leads = stays_on n b good m ms end (λ d is on. IsBoardOf-after n d is ms end on) (moved b m) refl leads

-- ---- a forbidden string is replaced

-- moves that lead to the same board, no more of them, and that spell a smaller number
pub record Replaced (b : List ℕ) (moves : List Move) (end : List ℕ) : Type 0 where
  pub others : List Move
  pub leads : board_after b others ≡ Some end
  pub few : length others ≤ length moves
  pub less : spelled 0 others < spelled 0 moves
  pub before : ComesBefore others moves

-- moves with a forbidden string in them have others that come before and lead to the same board
pub replaced : (n : ℕ) (b : List ℕ) → IsBoardOf n b → (moves : List Move) (end : List ℕ) → board_after b moves ≡ Some end → HasForbidden n moves
    → Replaced b moves end
replaced n b good moves end leads has =
    let front = has.has.front in
    let rest = has.has.rest in
    let string = has.string in
    let witness = has.forbidden.witness in
    let first = between b front (string ++ rest) end (subst (λ ms. board_after b ms ≡ Some end) has.has.whole leads) in
    let second = between first.middle string rest end first.on in
    let same = has.forbidden.is.same first.middle second.middle (IsBoardOf-after n b good front first.middle first.leads) second.leads in
    record {
      others = front ++ (witness ++ rest);
      leads = joined b front (witness ++ rest) first.middle end first.leads (joined first.middle witness rest second.middle end same second.on);
      few = subst (λ ms. length (front ++ (witness ++ rest)) ≤ length ms) (sym has.has.whole)
          (length-replaced front witness string rest has.forbidden.is.before);
      less = subst (λ ms. spelled 0 (front ++ (witness ++ rest)) < spelled 0 ms) (sym has.has.whole)
          (spelled-replaced front witness string rest has.forbidden.is.before);
      before = subst (ComesBefore (front ++ (witness ++ rest))) (sym has.has.whole) (ComesBefore-around front witness string rest has.forbidden.is.before);
    }

-- ---- the least moves that lead to a board

-- moves that lead to the board, no more than so many, of which this holds
pub record Least (b end : List ℕ) (most : ℕ) (Without : List Move → Type 0) : Type 0 where
  pub moves : List Move
  pub leads : board_after b moves ≡ Some end
  pub few : length moves ≤ most
  pub without : Without moves

least_below : (n : ℕ) (b : List ℕ) → IsBoardOf n b → (end : List ℕ) (most : ℕ) (Without : List Move → Type 0)
    → ((moves : List Move) → board_after b moves ≡ Some end → length moves ≤ most → HasForbidden n moves ⊎ Without moves)
    → (k : ℕ) (moves : List Move) → spelled 0 moves < k → board_after b moves ≡ Some end → length moves ≤ most → Least b end most Without
least_below n b good end most Without test zero moves low leads few = absurd (omega arith)
least_below n b good end most Without test (suc k) moves low leads few = elim (test moves leads few) [
  | inl has ↦
      let r = replaced n b good moves end leads has in
      let less = r.less in
      let fewer = r.few in
      least_below n b good end most Without test k r.others (omega arith) r.leads (omega arith)
  | inr without ↦ record { moves = moves; leads = leads; few = few; without = without }
]

-- Where moves lead to a board, and all moves that do have a forbidden string or a property, some moves with the property do.
pub least : (n : ℕ) (b : List ℕ) → IsBoardOf n b → (end : List ℕ) (most : ℕ) (Without : List Move → Type 0)
    → ((moves : List Move) → board_after b moves ≡ Some end → length moves ≤ most → HasForbidden n moves ⊎ Without moves)
    → (moves : List Move) → board_after b moves ≡ Some end → length moves ≤ most → Least b end most Without
least n b good end most Without test moves leads few = least_below n b good end most Without test (suc (spelled 0 moves)) moves (omega arith) leads few
