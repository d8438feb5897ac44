use Rattle.std.proofs.Common.{◌≡◌, ◌≤◌, vec_capacity, vec_len}
use Rattle.tab_rule.proofs.FoldLemmas.{AreFoldedBelow}
use Rattle.tab_rule.proofs.folded.fold_rows.Given as goal

-- the ranks before this one are folded, and there is room for all
abbrev pub invariant-loop-rank : goal.invariant-loop-rank
invariant-loop-rank g l = record {
  room : l.count ≤ vec_capacity l.folded;
  filled : vec_len l.folded ≡ l.rank;
  below : AreFoldedBelow l.table l.rank l.folded.items;
}
