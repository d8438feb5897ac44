-- What a member says of a board it says after the move of a tile that its pattern hasn't: such a move costs the pattern nothing,
-- and may be taken back.
use Rattle.std.proofs.Common.{◌≡◌, ℕ, Bool, true, false, cond, List, sym, ◌∙◌, ap, subst}
use Rattle.std.specs.Prelude.{MatchBool}
use Rattle.puz_board.specs.Boards.{IsBoardOf, at, blank, side_of, slid}
use Rattle.puz_board.specs.Cells.{Adjacent}
use Rattle.puz_board.specs.Costs.{has}
use Rattle.puz_board.specs.Transposing.{transposed, transposed_cell}
use Rattle.puz_board.proofs.BoardLemmas.{IsBoardOf-slid, side_of-slid}
use Rattle.puz_board.proofs.TransposeLemmas.{Adjacent-transposed, IsBoardOf-transposed, at-transposed, blank-transposed, cell_below, cell_twice}
use Rattle.puz_board.proofs.TransposeLemmas.{slid-transposed}
use Rattle.pat_place.specs.Placements.{placement_of}
use Rattle.pat_place.proofs.SlideLemmas.{AreTiles, placement_of-slid_other}
use Rattle.tab_rule.specs.Counts.{TableSays}
use Rattle.tab_rule.specs.FoldedTables.{IsFoldedCost, FoldedTableSays, IsFoldedNever}
use Rattle.tab_rule.specs.declared.tables.Count.{Count}
use Rattle.tab_rule.specs.declared.tables.Count.TheVariants.{Finite, Never}
use Rattle.tab_rule.proofs.StillLemmas.{at-back, blank_inside, count_still, slid-back, slid-near}
use Rattle.set_sum.specs.Members.{MemberSays, table_of, table_pattern}
use Rattle.set_sum.specs.Parts.{PartSays, ShownPart}
use Rattle.set_sum.specs.Owners.{has_tile}
use Rattle.set_sum.specs.declared.members.Member.{Member}

-- ---- what a table says

module _ (n : ℕ) (b : List ℕ) (good : IsBoardOf n b) (c : ℕ) (near : Adjacent n (blank b) c) (tiles : List ℕ) (other : has tiles (at b c) ≡ false) where
  folded_still : AreTiles n tiles → (count : Count) → FoldedTableSays tiles b count → FoldedTableSays tiles (slid b c) count
  folded_still all (Finite d) is =
      subst (λ k. IsFoldedCost k tiles (placement_of tiles (slid b c)) d) (sym (side_of-slid n b good c near.0))
      (subst (λ cells. IsFoldedCost (side_of b) tiles cells d) (sym (placement_of-slid_other n b good c near.0 tiles all other)) is)
  folded_still all Never is =
      subst (λ k. IsFoldedNever k tiles (placement_of tiles (slid b c))) (sym (side_of-slid n b good c near.0))
      (subst (λ cells. IsFoldedNever (side_of b) tiles cells) (sym (placement_of-slid_other n b good c near.0 tiles all other)) is)

  tells_still : AreTiles n tiles → (is_folded : Bool) (count : Count) → MatchBool is_folded (FoldedTableSays tiles b count) (TableSays tiles b count)
      → MatchBool is_folded (FoldedTableSays tiles (slid b c) count) (TableSays tiles (slid b c) count)
  tells_still all true count is = folded_still all count is
  tells_still all false count is = count_still n b good c near tiles other count is

-- ---- what a member says

module _ (n : ℕ) (b : List ℕ) (good : IsBoardOf n b) (c : ℕ) (near : Adjacent n (blank b) c) where
  -- the board, when it is transposed, is a board of the same side
  pub turned : IsBoardOf n (transposed b)
  turned = IsBoardOf-transposed n b good

  -- the transposed cell of one adjacent to the blank is adjacent to the transposed board's blank
  pub near_turned : Adjacent n (blank (transposed b)) (transposed_cell n c)
  near_turned =
      subst (λ z. Adjacent n z (transposed_cell n c)) (sym (blank-transposed n b good))
      (Adjacent-transposed n good.low good.high (blank b) c (blank_inside n b good c near) near)

  -- the tile in the transposed cell of the transposed board is the transposed tile of the cell
  pub tile_turned : at (transposed b) (transposed_cell n c) ≡ transposed_cell n (at b c)
  tile_turned =
      at-transposed n b good (transposed_cell n c) (cell_below n good.low good.high c near.0) ∙
      ap (λ x. transposed_cell n (at b x)) (cell_twice n good.low good.high c near.0)

  says_still : (part : ShownPart) → AreTiles n part.tiles → (is_transposed : Bool)
      → has part.tiles (cond is_transposed (transposed_cell n (at b c)) (at b c)) ≡ false
      → (count : Count) → PartSays part (cond is_transposed (transposed b) b) count
      → PartSays part (cond is_transposed (transposed (slid b c)) (slid b c)) count
  says_still part all true other count says =
      subst (λ x. PartSays part x count) (slid-transposed n b good c near.0)
      (tells_still n (transposed b) turned (transposed_cell n c) near_turned part.tiles (ap (has part.tiles) tile_turned ∙ other) all part.is_folded count says)
  says_still part all false other count says = tells_still n b good c near part.tiles other all part.is_folded count says

  -- it says the same of the board after the step
  pub member_still : (tables : List ShownPart) (m : Member) → AreTiles n (table_pattern tables m) → has_tile n tables m (at b c) ≡ false
      → (count : Count) → MemberSays tables m b count → MemberSays tables m (slid b c) count
  member_still tables m all other count says = says_still (table_of tables m) all m.is_transposed other count says

-- and of the board before it
pub member_before : (n : ℕ) (b : List ℕ) (good : IsBoardOf n b) (c : ℕ) (near : Adjacent n (blank b) c) (tables : List ShownPart) (m : Member)
    → AreTiles n (table_pattern tables m)
    → has_tile n tables m (at b c) ≡ false → (count : Count) → MemberSays tables m (slid b c) count → MemberSays tables m b count
member_before n b good c near tables m all other count says =
    subst (λ x. MemberSays tables m x count) (slid-back n b good c near)
    (member_still n (slid b c) (IsBoardOf-slid n b good c near.0) (blank b) (slid-near n b good c near) tables m all
    (ap (has_tile n tables m) (at-back n b good c near) ∙ other) count says)
