use Rattle.std.proofs.Common.{◌≡◌, ◌*◌, ◌≤◌, take}
use Rattle.set_sum.specs.Sums.{AddUpTo}
use Rattle.set_sum.proofs.sums.Sums.sum.Given as goal

-- the sum so far is that of the members so far
abbrev pub invariant-loop-member : goal.invariant-loop-member
invariant-loop-member l = record {
  adds : AddUpTo l.fn.self.bundle.tables (take l.member-index l.member-items) l.fn.self.board l.total;
  few : l.total ≤ 255 * l.member-index;
  same : l.self ≡ l.fn.self;
}
