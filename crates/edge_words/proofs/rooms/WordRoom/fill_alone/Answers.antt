use Rattle.std.proofs.Common.{rules, ◌≡◌, ◌-◌, ◌*◌, ◌/◌, true, cond, length, refl, sym, ◌∙◌, ap, ap₂, subst, arith}
use Rattle.std.specs.Prelude.{is_ok, vec_len}
use Rattle.std.proofs.lemmas.List.{with_items_is}
use Rattle.pat_place.specs.Patterns.{IsPattern}
use Rattle.edge_words.specs.Fills.{run_count}
use Rattle.edge_words.specs.Indexes.{index_count}
use Rattle.edge_words.specs.Words.{AreEdgeWords}
use Rattle.edge_words.proofs.FillLemmas.{count_is, runs_are, words_told}
use Rattle.edge_words.proofs.rooms.WordRoom.fill_alone.Goals as goal

-- within the capacity there is room for the words of all runs
pub fill-requires : goal.fill-requires
fill-requires c =
    let p = c.self.inside.pattern in
    let q = c.new-lookup.result in
    let same : q ≡ p = c.new-lookup.ensures ∙ sym c.requires ∙ sym c.self.view_is in
    let pat : IsPattern p = c.side.ensures.pattern in
    let cells : c.cells.result ≡ p.side * p.side = c.cells.ensures.value ∙ ap₂ (λ m n. m * n) c.side.ensures.side c.side.ensures.side in
    let count : c.capacity-count.result ≡ index_count p = c.capacity-count.ensures ∙ c.self.invariant.room in
    let runs : c.capacity-count.result / c.from.result ≡ run_count p = runs_are p pat c.capacity-count.result c.from.result count (c.from.ensures ∙ cells) in
    let few = c.self.invariant.few in
    let long : length c.as_mut_slice.result.now ≡ (c.capacity-count.result / c.from.result - 0) * (p.side * p.side) =
    (let all = count_is p pat in
    let whole = ap length c.as_mut_slice.ensures.value in
    let fits : is_ok c.resize.result ≡ true = c.resize.ensures.succeeds (omega arith) in
    let len : vec_len c.resize.new.self ≡ c.capacity-count.result = c.resize.ensures.len
    ∙ ap (λ b. cond b c.capacity-count.result (vec_len c.self.inside.words)) fits in
    let size : (c.capacity-count.result / c.from.result - 0) * (p.side * p.side) ≡ run_count p * (p.side * p.side) =
    ap (λ k. k * (p.side * p.side)) (let e : c.capacity-count.result / c.from.result - 0 ≡ run_count p = omega arith in e) in
    omega arith) in
    record {
      span = record {
        order = omega arith;
        within = (let e : run_count q ≡ run_count p = ap run_count same in omega arith);
      };
      few = (let e : index_count q ≡ index_count p = ap index_count same in omega arith);
      size = long ∙ ap (λ k. (c.capacity-count.result / c.from.result - 0) * (k.side * k.side)) (sym same);
    }

-- where all words of the table are filled in, they are well stored
pub invariant_of-result : goal.invariant_of-result
invariant_of-result c =
    let p = c.self.inside.pattern in
    let q = c.new-lookup.result in
    let same : q ≡ p = c.new-lookup.ensures ∙ sym c.requires ∙ sym c.self.view_is in
    let pat : IsPattern p = c.side.ensures.pattern in
    let cells : c.cells.result ≡ p.side * p.side = c.cells.ensures.value ∙ ap₂ (λ m n. m * n) c.side.ensures.side c.side.ensures.side in
    let count : c.capacity-count.result ≡ index_count p = c.capacity-count.ensures ∙ c.self.invariant.room in
    let runs : c.capacity-count.result / c.from.result ≡ run_count p = runs_are p pat c.capacity-count.result c.from.result count (c.from.ensures ∙ cells) in
    let words : AreEdgeWords q c.fill.new.words = words_told q (subst IsPattern (sym same) pat)
    (record { low = 0; high = c.capacity-count.result / c.from.result }) refl (runs ∙ ap run_count (sym same)) c.fill.new.words c.fill.ensures in
    let whole : length c.fill.new.words ≡ c.resize.new.self.len = search rules in
    record {
      pattern = pat;
      words = subst (AreEdgeWords p) (sym (with_items_is c.resize.new.self c.fill.new.words whole))
          (subst (λ k. AreEdgeWords k c.fill.new.words) same words);
      few = c.self.invariant.few;
    }
