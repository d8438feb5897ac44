-- What a member says of a board: it is one thing, what a table of the member's own pattern says, and so at most what each
-- solution costs that pattern.
use Rattle.std.proofs.Common.{◌≡◌, ℕ, ◌*◌, ◌<◌, ◌≤◌, Bool, true, false, cond, List, sym, subst}
use Rattle.std.specs.List.{AllByRecursion}
use Rattle.puz_board.specs.Boards.{IsBoard, IsBoardOf}
use Rattle.puz_board.specs.Costs.{cost}
use Rattle.puz_board.specs.Paths.{IsSolution}
use Rattle.puz_board.specs.Transposing.{transposed, transposed_tiles}
use Rattle.puz_board.proofs.BoardLemmas.{side_of-board}
use Rattle.puz_board.proofs.TransposeLemmas.{IsBoardOf-transposed}
use Rattle.pat_place.proofs.TransposedLemmas.{IsPattern-transposed}
use Rattle.tab_rule.specs.declared.tables.Count.{Count}
use Rattle.tab_rule.specs.declared.tables.Count.TheVariants.{Finite, Never}
use Rattle.set_sum.specs.Members.{MemberSays, board_for, own_part, pattern_of, table_of, table_pattern}
use Rattle.set_sum.specs.Parts.{PartSays, ShownPart}
use Rattle.set_sum.specs.declared.members.Member.{Member}
use Rattle.set_sum.proofs.HomeLemmas.{IsOf, solution_home}
use Rattle.set_sum.proofs.ListLemmas.{all_weaker}
use Rattle.set_sum.proofs.PartLemmas.{part_either, part_none, part_once, part_transposed, part_within}

-- a member says no two numbers of a board
pub member_once : (tables : List ShownPart) (m : Member) (b : List ℕ) (d e : ℕ) → MemberSays tables m b (Finite d) → MemberSays tables m b (Finite e) → d ≡ e
member_once tables m b d e one other = part_once (table_of tables m) (board_for m b) d e one other

-- a member that says a number of a board doesn't say never of it
pub member_either : (tables : List ShownPart) (m : Member) (b : List ℕ) (d : ℕ) → MemberSays tables m b (Finite d) → ¬ MemberSays tables m b Never
member_either tables m b d one never = part_either (table_of tables m) (board_for m b) d one never

board_good : (n : ℕ) (is_transposed : Bool) (b : List ℕ) → IsBoardOf n b → IsBoardOf n (cond is_transposed (transposed b) b)
board_good n true b good = IsBoardOf-transposed n b good
board_good n false b good = good

-- the board that a member looks up is one of its side
pub board_for-good : (n : ℕ) (m : Member) (b : List ℕ) → IsBoardOf n b → IsBoardOf n (board_for m b)
board_for-good n m b good = board_good n m.is_transposed b good

-- ---- its own pattern

own_good : (n : ℕ) (is_transposed : Bool) (tiles : List ℕ) → IsOf n tiles → IsOf n (cond is_transposed (transposed_tiles n tiles) tiles)
own_good n true tiles pat = IsPattern-transposed (record { side = n; tiles = tiles }) pat
own_good n false tiles pat = pat

module _ (n : ℕ) (b : List ℕ) (good : IsBoardOf n b) where
  below : (tiles : List ℕ) → IsOf n tiles → AllByRecursion (λ t. t < n * n) tiles
  below tiles pat = all_weaker (λ t. (0 < t) × (t < n * n)) (λ t. t < n * n) (λ t within. within.1) tiles pat.tiles

  own_says : (is_transposed : Bool) (part : ShownPart) → IsOf n part.tiles → (count : Count) → PartSays part (cond is_transposed (transposed b) b) count
      → PartSays (record { tiles = cond is_transposed (transposed_tiles n part.tiles) part.tiles; is_folded = part.is_folded }) b count
  own_says true part pat count says = part_transposed n part (below part.tiles pat) b good count says
  own_says false part pat count says = says

  -- what a member says of a board is what a table of its own pattern tells of it
  pub member_pattern : (tables : List ShownPart) (m : Member) → IsOf n (table_pattern tables m) → (count : Count) → MemberSays tables m b count
      → PartSays (own_part n tables m) b count
  member_pattern tables m pat count says = own_says m.is_transposed (table_of tables m) pat count says

  module _ (path : List ℕ) (solves : IsSolution b path) (tables : List ShownPart) (m : Member) (pat : IsOf n (table_pattern tables m)) where
    own : IsOf n (pattern_of n tables m)
    own = own_good n m.is_transposed (table_pattern tables m) pat

    board : IsBoard b
    board = subst (λ k. IsBoardOf k b) (sym (side_of-board n b good)) good

    -- the number that a member says of a board is at most what a solution costs its pattern
    pub member_within : (d : ℕ) → MemberSays tables m b (Finite d) → d ≤ cost (pattern_of n tables m) b path
    member_within d says = part_within (own_part n tables m) b board d (member_pattern tables m pat (Finite d) says) path
        (solution_home n b good path solves (pattern_of n tables m) own)

    -- no member says never of a board that has a solution
    pub member_none : ¬ MemberSays tables m b Never
    member_none never = part_none (own_part n tables m) b board (member_pattern tables m pat Never never) path
        (solution_home n b good path solves (pattern_of n tables m) own)
