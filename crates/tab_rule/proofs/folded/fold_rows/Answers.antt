use Rattle.std.proofs.Common.{◌≡◌, List, ℕ, ◌+◌, ◌-◌, ◌*◌, rules, take, drop, sym, ◌∙◌, ap, subst, arith}
use Rattle.tab_file.specs.Tables.{placement_count}
use Rattle.tab_rule.specs.LeastEntries.{IsLeastEntry}
use Rattle.tab_rule.proofs.FoldLemmas.{AreFoldedBelow, folded_all, folded_more, folded_none, part_of}
use Rattle.tab_rule.proofs.folded.fold_rows.Goals as goal

-- before the first rank, nothing is folded, and there is room for all ranks
pub loop-rank-init : goal.loop-rank-init
loop-rank-init g c = record {
  room = search rules;
  filled = search rules;
  below = subst (AreFoldedBelow c.args.table.now 0) (sym c.in_ok-folded.ensures.items) (folded_none c.args.table.now);
}

-- with the least entry of one rank pushed, one rank more is folded
pub loop-rank-preserved : goal.loop-rank-preserved
loop-rank-preserved g c =
    let t = c.args.table.now in
    let r = c.loop-rank.rank in
    let w = g.row.W in
    let span : r * w + w - r * w ≡ w = omega arith in
    let part : take (r * w + w - r * w) (drop (r * w) c.entries-entries.result.now) ≡ part_of t r =
    ap (λ k. take k (drop (r * w) c.entries-entries.result.now)) span ∙ ap (λ xs. take w (drop (r * w) xs)) c.entries-entries.ensures.entries
    ∙ ap (λ k. take k (drop (r * k) t.entries)) c.requires in
    record {
      room = search rules;
      filled = search rules;
      below = subst (AreFoldedBelow t (r + 1)) (sym {A = List ℕ} c.push_reserved.ensures.items) (
          folded_more t r c.loop-rank.folded.items c.least_of.result c.loop-rank.invariant.below
          (subst (λ xs. IsLeastEntry xs c.least_of.result) part c.least_of.ensures));
    }

-- with all ranks done, the list has the entries of a folded table
pub returns : goal.returns
returns g c =
    let t = c.args.table.now in
    let end : c.loop-rank.rank ≡ placement_count t.pattern = (let l = c.loop-rank-test.false in let h = c.loop-rank.auto.rank-end in
    let k = c.count-count.ensures.count in let e = ap placement_count c.pattern.ensures.pattern in omega arith) in
    folded_all t c.entries-entries.ensures.exact c.loop-rank.folded.items
    (subst (λ n. AreFoldedBelow t n c.loop-rank.folded.items) end c.loop-rank.invariant.below)
