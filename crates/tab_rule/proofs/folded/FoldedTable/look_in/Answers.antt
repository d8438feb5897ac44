use Rattle.std.proofs.Common.{◌≡◌, ◌≤◌, List, ℕ, cond, eqb, inl, inr, sym, ◌∙◌, ap, subst, arith, ne_eqb, eq-eqb}
use Rattle.std.proofs.lemmas.Bool.{cond-true, cond-false}
use Rattle.std.specs.Prelude.{slice_index}
use Rattle.puz_board.specs.Boards.{IsBoard, IsBoardOf}
use Rattle.puz_board.proofs.BoardLemmas.{side_of-board}
use Rattle.pat_place.specs.Patterns.{ShownPattern}
use Rattle.pat_place.specs.Placements.{IsPlacement, placement_of}
use Rattle.pat_place.specs.Ranks.{IsRank}
use Rattle.pat_place.proofs.PlacementLemmas.{IsPlacement-of}
use Rattle.tab_rule.specs.Counts.{AreCellsOf}
use Rattle.tab_rule.specs.declared.tables.Count.TheVariants.{Finite, Never}
use Rattle.tab_rule.specs.FoldedTables.{AreFolded, FoldedTableSays, SaysOfPlacement}
use Rattle.tab_rule.proofs.FoldLemmas.{says-folded}
use Rattle.tab_rule.proofs.LookLemmas.{placement_found, placement_on}
use Rattle.tab_rule.proofs.folded.FoldedTable.look_in.Goals as goal

-- a board of the pattern's side
own : (p : ShownPattern) (b : List ℕ) → IsBoardOf p.side b → IsBoard b
own p b board = subst (λ n. IsBoardOf n b) (sym (side_of-board p.side b board)) board

-- the cells that were found for a folded table's tiles are a placement of its pattern
pub standing_of-standing-requires : goal.standing_of-standing-requires
standing_of-standing-requires c =
    let p = c.args.self.now in
    let b = c.requires.0 in
    let board = c.requires.1 in
    let good = own p b board in
    let side = side_of-board p.side b board in
    let pat = c.pattern.ensures.folded.pattern in
    let on = placement_found b c.args.found.now good p pat side c.requires.2 c.pattern.result c.pattern.ensures.pattern in
    subst IsPlacement (sym on) (IsPlacement-of b good p pat side)

-- what the entry that is read says of the placement
says_of : (c : goal.After-count_of) (b : List ℕ) → IsBoardOf c.args.self.now.side b → AreCellsOf c.args.found.now b
    → SaysOfPlacement c.args.self.now (placement_of c.args.self.now.tiles b) (slice_index c.as_slice.result.now c.standing_of-standing.result.rank)
says_of c b board found =
    let p = c.args.self.now in
    let good = own p b board in
    let side = side_of-board p.side b board in
    let pat = c.pattern.ensures.folded.pattern in
    let rank = c.standing_of-standing.result.rank in
    let on = placement_found b c.args.found.now good p pat side found c.pattern.result c.pattern.ensures.pattern in
    let is_rank = subst (λ q. IsRank q.pattern.side q.cells rank) on c.standing_of-standing.ensures.rank in
    let folded : AreFolded p c.self.inside.entries.items = subst (λ q. AreFolded q c.self.inside.entries.items) c.self.view_is c.self.invariant.entries in
    let says = folded.each (placement_of p.tiles b) rank (IsPlacement-of b good p pat side) is_rank in
    let held = ap (λ entries. slice_index entries rank) (sym c.as_slice.ensures.value) in
    subst (SaysOfPlacement p (placement_of p.tiles b)) held says

-- the entry that is read tells of each board with these cells what the folded table tells
pub returns-clause-count : goal.returns-clause-count
returns-clause-count c b board found =
    let p = c.args.self.now in
    let says = says_of c b board found in
    subst (FoldedTableSays p.tiles b) (sym c.count_of.ensures)
    (says-folded p b (side_of-board p.side b board) (slice_index c.as_slice.result.now c.standing_of-standing.result.rank) says)

few : (p : ShownPattern) (cells : List ℕ) (e : ℕ) → SaysOfPlacement p cells e → (d : ℕ) → cond (eqb e 255) Never (Finite e) ≡ Finite d → d ≤ 253
few p cells e says d is = elim says [
  | inl h ↦
      let own : cond (eqb e 255) Never (Finite e) ≡ Finite e = cond-false (eqb e 255) Never (Finite e) (ne_eqb e 255 (λ full. let l = h.0 in omega arith)) in
      let same : e ≡ d = cc in
      let l = h.0 in
      omega arith
  | inr h ↦
      let never : cond (eqb e 255) Never (Finite e) ≡ Never = cond-true (eqb e 255) Never (Finite e) (eq-eqb e 255 h.0) in
      absurd (let none : Never ≡ Finite d = sym never ∙ is in cc)
]

-- a count that is read from a folded table is at most 253
pub returns-clause-few : goal.returns-clause-few
returns-clause-few c d is =
    let p = c.args.self.now in
    let says = says_of c c.requires.0 c.requires.1 c.requires.2 in
    few p (placement_of p.tiles c.requires.0) (slice_index c.as_slice.result.now c.standing_of-standing.result.rank) says d (sym c.count_of.ensures ∙ is)
