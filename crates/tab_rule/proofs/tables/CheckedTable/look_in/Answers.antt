use Rattle.std.proofs.Common.{◌≡◌, ◌<◌, ℕ, List, refl, slice_index, sym, true, ◌∙◌, ap, subst, arith}
use Rattle.puz_board.specs.Boards.{IsBoard, IsBoardOf, blank}
use Rattle.puz_board.proofs.BoardLemmas.{cells_least, side_of-board}
use Rattle.puz_board.specs.Masks.{IsMaskOf}
use Rattle.pat_place.specs.Patterns.{ShownPattern, has}
use Rattle.pat_place.specs.Placements.{IsFree, IsPlacement, cells_found, placement_of}
use Rattle.pat_place.proofs.PlacementLemmas.{IsPlacement-of}
use Rattle.pat_place.specs.Ranks.{IsRank}
use Rattle.pat_place.specs.Regions.{IsSlot}
use Rattle.tab_file.specs.Tables.{IsTable, Table, placement_count, slot_count}
use Rattle.tab_rule.specs.Counts.{AreCellsOf, TableSays}
use Rattle.tab_rule.specs.ExactTables.{SaysOfBoard}
use Rattle.tab_rule.proofs.BlockLemmas.{rank_below}
use Rattle.tab_rule.proofs.LookLemmas.{entry_says, free_blank, placement_found, placement_on, says-count, says-few}
use Rattle.tab_rule.proofs.tables.CheckedTable.look_in.Goals.{After-entry}
use Rattle.tab_rule.proofs.tables.CheckedTable.look_in.Goals as goal

-- a board of side n is one of its own side, which is n
own : (n : ℕ) (b : List ℕ) → IsBoardOf n b → IsBoard b
own n b good = subst (λ m. IsBoardOf m b) (sym (side_of-board n b good)) good

-- the blank's cell comes first
blank_found : (n : ℕ) (b found : List ℕ) → IsBoardOf n b → AreCellsOf found b → slice_index found 0 ≡ blank b
blank_found n b found good are = are 0 (let l = cells_least n b good in let s = good.size in omega arith)

-- the placement of a board, in the cells that were found
found_on : (t : Table) → IsTable t → (b found : List ℕ) → IsBoardOf t.pattern.side b → AreCellsOf found b → (q : ShownPattern) → q ≡ t.pattern
    → record { pattern = q; cells = cells_found q.tiles found } ≡ placement_on b t.pattern
found_on t is b found board are q same = placement_found b found (own t.pattern.side b board) t.pattern is.pattern
    (side_of-board t.pattern.side b board) are q same

placed_on : (t : Table) → IsTable t → (b : List ℕ) → IsBoardOf t.pattern.side b → IsPlacement (placement_on b t.pattern)
placed_on t is b board = IsPlacement-of b (own t.pattern.side b board) t.pattern is.pattern (side_of-board t.pattern.side b board)

-- the cells that were found for a checked table's tiles are a placement of its pattern
pub standing_of-standing-requires : goal.standing_of-standing-requires
standing_of-standing-requires c =
    let t = c.args.self.now in
    let on = found_on t c.pattern.ensures.table c.requires.0 c.args.found.now c.requires.1 c.requires.2 c.pattern.result c.pattern.ensures.pattern in
    subst IsPlacement (sym on) (placed_on t c.pattern.ensures.table c.requires.0 c.requires.1)

-- the placement that was found, with its rank and set, has the blank's cell free
pub slot_found-slot-requires : goal.slot_found-slot-requires
slot_found-slot-requires c =
    let t = c.args.self.now in
    let b = c.requires.0 in
    let n = t.pattern.side in
    let found = c.args.found.now in
    let pat = c.pattern.ensures.table.pattern in
    let on = found_on t c.pattern.ensures.table b found c.requires.1 c.requires.2 t.pattern refl in
    record {
      placement = subst IsPlacement (sym on) (placed_on t c.pattern.ensures.table b c.requires.1);
      rank = subst (λ q. IsRank q.side (cells_found q.tiles found) c.standing_of-standing.result.rank) c.pattern.ensures.pattern
          c.standing_of-standing.ensures.rank;
      occupied = subst (λ q. IsMaskOf c.standing_of-standing.result.occupied (λ x. has (cells_found q.tiles found) x ≡ true))
          c.pattern.ensures.pattern c.standing_of-standing.ensures.occupied;
      free =
          subst (λ q. IsFree q.pattern.side q.cells (slice_index found 0)) (sym on)
          (subst (IsFree n (placement_of t.pattern.tiles b)) (sym (blank_found n b found c.requires.1 c.requires.2))
          (free_blank t.pattern pat b (own n b c.requires.1) (side_of-board n b c.requires.1)));
    }

-- the rank of the placement that was found is one of the table's
pub entry-requires-clause-rank : goal.entry-requires-clause-rank
entry-requires-clause-rank c =
    let t = c.args.self.now in
    let b = c.requires.0 in
    let on = found_on t c.pattern.ensures.table b c.args.found.now c.requires.1 c.requires.2 c.pattern.result c.pattern.ensures.pattern in
    subst (λ s. c.standing_of-standing.result.rank < placement_count s.pattern) (sym c.self.view_is)
    (rank_below t (placement_on b t.pattern) refl (placed_on t c.pattern.ensures.table b c.requires.1) c.standing_of-standing.result.rank
    (subst (λ q. IsRank q.pattern.side q.cells c.standing_of-standing.result.rank) on c.standing_of-standing.ensures.rank))

-- what the entry says of each board whose numbers were found in these cells
says_of : (c : After-entry) (b : List ℕ) → IsBoardOf c.self.inside.view.pattern.side b → AreCellsOf c.args.found.now b
    → SaysOfBoard c.self.inside.view.pattern.tiles b c.entry.result
says_of c b is are =
    let t = c.self.inside.view in
    let n = t.pattern.side in
    let j = c.slot_found-slot.result in
    let rank = c.standing_of-standing.result.rank in
    let found = c.args.found.now in
    let table = c.self.invariant.exact.is_table in
    let shown = ap (λ s. s.pattern) (sym c.self.view_is) in
    let good = own n b is in
    let on = found_on t table b found is are c.pattern.result (c.pattern.ensures.pattern ∙ shown) in
    let also = found_on t table b found is are c.args.self.now.pattern shown in
    let is_rank = subst (λ q. IsRank q.pattern.side q.cells rank) on c.standing_of-standing.ensures.rank in
    let in_slot = subst (λ q. IsSlot q.pattern.side q.cells (slice_index found 0) j) also c.slot_found-slot.ensures.slot in
    let is_slot = subst (λ x. IsSlot n (placement_of t.pattern.tiles b) x j) (blank_found n b found is are) in_slot in
    let low = subst (λ q. j < slot_count q) shown c.slot_found-slot.ensures.below in
    entry_says t c.self.invariant.exact b good (side_of-board n b is) rank j c.entry.result is_rank is_slot low c.entry.ensures.entry

-- what the entry of the blank's slot tells of each board with these cells is right, and a count is at most 253
pub returns : goal.returns
returns c =
    let t = c.self.inside.view in
    let back = ap (λ s. s.pattern.side) (sym c.self.view_is) in
    record {
      count = λ b is are.
          let says = says_of (goal.at.returns c).After-entry b (subst (λ n. IsBoardOf n b) back is) are in
          subst (λ s. TableSays s.pattern.tiles b c.count_of.result) c.self.view_is
          (subst (TableSays t.pattern.tiles b) (sym c.count_of.ensures) (says-count t.pattern.tiles b c.entry.result says));
      few = λ d is.
          let b = c.requires.0 in
          let says = says_of (goal.at.returns c).After-entry b (subst (λ n. IsBoardOf n b) back c.requires.1) c.requires.2 in
          says-few t.pattern.tiles b c.entry.result says d (sym c.count_of.ensures ∙ is);
    }
