-- Moves that lead along cells leave the board that the path leaves.
use Rattle.std.proofs.Common.{◌≡◌, ℕ, suc, ◌*◌, ◌<◌, List, [], ◌∷◌, length, Option, Some, None, refl, sym, ◌∙◌, ap, subst, arith}
use Rattle.std.specs.Prelude.{option_and_then, option_map}
use Rattle.puz_board.specs.declared.moves.Move.{Move}
use Rattle.puz_board.specs.Boards.{IsBoard, blank, side_of, slid}
use Rattle.puz_board.specs.Cells.{step_of}
use Rattle.puz_board.specs.Paths.{IsPath, Leads, after, board_after}
use Rattle.puz_board.proofs.BoardLemmas.{IsBoard-slid, blank-slid, cell_of-below, cells_least, side_of-slid}
use Rattle.puz_board.proofs.CellLemmas.{step_of-inside}

-- moves that lead along a path of the blank leave the board that the path leaves, one move to each cell
pub board_after-led : (b : List ℕ) (ms : List Move) (path : List ℕ) → IsBoard b → IsPath (side_of b) (blank b) path → Leads (side_of b) (blank b) ms path
    → (board_after b ms ≡ Some (after b path)) × (length path ≡ length ms)
unfolding board_after
board_after-led b [] [] good walk led = (refl, refl)
board_after-led b [] (d ∷ path) good walk led = absurd led
board_after-led b (m ∷ ms) [] good walk led = absurd led
board_after-led b (m ∷ ms) (d ∷ path) good walk led =
    let side = side_of-slid (side_of b) b good d walk.0.0 in
    let here = blank-slid (side_of b) b good d walk.0.0 in
    let rest = board_after-led (slid b d) ms path (IsBoard-slid b good d walk.0.0)
    (subst (λ n. IsPath n (blank (slid b d)) path) (sym side) (subst (λ z. IsPath (side_of b) z path) (sym here) walk.1))
    (subst (λ n. Leads n (blank (slid b d)) ms path) (sym side) (subst (λ z. Leads (side_of b) z ms path) (sym here) led.1)) in
    (ap (λ o. option_and_then (λ e. board_after e ms) (option_map (slid b) o)) led.0 ∙ rest.0, ap suc rest.1)

-- ---- and back

-- a path along which moves lead one board to another
pub record Led (b : List ℕ) (ms : List Move) (e : List ℕ) : Type 0 where
  pub path : List ℕ
  pub led : Leads (side_of b) (blank b) ms path
  pub walk : IsPath (side_of b) (blank b) path
  pub ends : after b path ≡ e
  pub count : length path ≡ length ms

led_on : (b e : List ℕ) (m : Move) (ms : List Move) → IsBoard b
    → ((d : ℕ) → d < side_of b * side_of b → board_after (slid b d) ms ≡ Some e → Led (slid b d) ms e)
    → (o : Option ℕ) → step_of (side_of b) (blank b) m ≡ o → option_and_then (λ x. board_after x ms) (option_map (slid b) o) ≡ Some e → Led b (m ∷ ms) e
led_on b e m ms good rest None s f = cc
led_on b e m ms good rest (Some d) s f =
    let some = cells_least (side_of b) b good in
    let start = cell_of-below (side_of b) b good 0 (omega arith) in
    let reached : d < side_of b * side_of b = step_of-inside (side_of b) (blank b) m d good.low good.high (omega arith) s in
    let side = side_of-slid (side_of b) b good d reached in
    let here = blank-slid (side_of b) b good d reached in
    let on = rest d reached f in
    record {
      path = d ∷ on.path;
      led = (s, subst (λ z. Leads (side_of b) z ms on.path) here (subst (λ n. Leads n (blank (slid b d)) ms on.path) side on.led));
      walk = ((reached, m, s), subst (λ z. IsPath (side_of b) z on.path) here (subst (λ n. IsPath n (blank (slid b d)) on.path) side on.walk));
      ends = on.ends;
      count = ap suc on.count;
    }

-- moves that lead one board to another do so along a path of the blank
pub led-board_after : (b e : List ℕ) (ms : List Move) → IsBoard b → board_after b ms ≡ Some e → Led b ms e
unfolding board_after
led-board_after b e [] good f = record { path = []; led = tt; walk = tt; ends = cc; count = refl }
led-board_after b e (m ∷ ms) good f =
    led_on b e m ms good (λ d l. led-board_after (slid b d) e ms (IsBoard-slid b good d l)) (step_of (side_of b) (blank b) m) refl f
