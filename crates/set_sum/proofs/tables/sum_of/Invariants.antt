use Rattle.std.proofs.Common.{◌≡◌, ◌*◌, ◌≤◌, take, true}
use Rattle.std.specs.Prelude.{Any}
use Rattle.puz_board.specs.Transposing.{transposed}
use Rattle.tab_rule.specs.Counts.{AreCellsOf}
use Rattle.set_sum.specs.Parts.{parts_shown}
use Rattle.set_sum.specs.Sums.{AddUpTo}
use Rattle.set_sum.proofs.tables.sum_of.Given as goal

-- the sum so far is that of the members so far
abbrev pub invariant-loop-member : goal.invariant-loop-member
invariant-loop-member l = record {
  adds : AddUpTo (parts_shown l.tables) (take l.member-index l.set) l.board l.total;
  few : l.total ≤ 253 * l.member-index;
  plain : AreCellsOf l.found l.board;
  transposed : Any (λ m. m.is_transposed ≡ true) l.set → AreCellsOf l.transposed (transposed l.board);
}
