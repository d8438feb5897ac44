use Rattle.std.proofs.Common.{◌≡◌, ◌+◌, ◌-◌, ◌*◌, sym, ◌∙◌, ap, ap₂, subst, arith}
use Rattle.std.specs.Prelude.{slice_index}
use Rattle.tab_runs.specs.Runs.{with_last}
use Rattle.edge_words.specs.Lookups.{but_last}
use Rattle.edge_words.specs.Words.{IsEdgeWord}
use Rattle.edge_words.proofs.FillLemmas.{place_low, told_before, told_more, told_next, told_start}
use Rattle.edge_words.proofs.fills.fill_run.Goals as goal

-- where the words of the run begin, those of the span's runs with lower indexes end
pub words_of-found-requires-clause-before : goal.words_of-found-requires-clause-before
words_of-found-requires-clause-before c =
    let p = c.args.lookup.now in
    let s = c.args.span.now in
    let side = c.side.ensures.side ∙ ap (λ q. q.side) c.pattern.ensures.pattern in
    let count : c.cells-cells.result ≡ p.side * p.side = c.cells-cells.ensures.value ∙ ap₂ (λ m n. m * n) side side in
    told_before p s (but_last p c.args.run.now.cells) c.args.index c.requires.index c.requires.span.1 c.requires.span.2 c.args.words.now c.requires.told
    ((c.args.index - s.low) * c.from.result) (ap (λ n. (c.args.index - s.low) * n) (c.from.ensures ∙ count))

-- before the first last cell of a run, the words are those of the runs with lower indexes
pub loop-last-init : goal.loop-last-init
loop-last-init c = told_start c.args.lookup.now c.args.span.now c.args.index c.args.words.now c.requires.told

-- the word of a run's placement is written at a place within the words of the span
pub bounds-words-start : goal.bounds-words-start
bounds-words-start c =
    let p = c.args.lookup.now in
    let s = c.args.span.now in
    let side = c.side.ensures.side ∙ ap (λ q. q.side) c.pattern.ensures.pattern in
    let count : c.cells-cells.result ≡ p.side * p.side = c.cells-cells.ensures.value ∙ ap₂ (λ m n. m * n) side side in
    let within = c.loop-last-test.true in
    let low = place_low p s c.args.index c.loop-last.last c.requires.span.1 c.requires.span.2 (omega arith) in
    let at : (c.args.index - s.low) * c.from.result + c.from-in-loop-last-2.result ≡ (c.args.index - s.low) * (p.side * p.side) + c.loop-last.last =
    ap₂ (λ n last. (c.args.index - s.low) * n + last) (c.from.ensures ∙ count) c.from-in-loop-last-2.ensures in
    let size = c.loop-last.invariant.size in
    omega arith

-- with the word of one last cell more written, the words of the run tell up to the next cell
pub loop-last-preserved : goal.loop-last-preserved
loop-last-preserved c =
    let p = c.args.lookup.now in
    let s = c.args.span.now in
    let run = c.requires.run in
    let side = c.side.ensures.side ∙ ap (λ q. q.side) c.pattern.ensures.pattern in
    let count : c.cells-cells.result ≡ p.side * p.side = c.cells-cells.ensures.value ∙ ap₂ (λ m n. m * n) side side in
    let within = c.loop-last-test.true in
    let last = c.loop-last.last in
    told_more p s (but_last p c.args.run.now.cells) run.run c.args.index last c.requires.index c.requires.span.1 c.requires.span.2
    (omega arith) c.loop-last.words c.loop-last.invariant
    (slice_index c.words_of-found.result c.from-in-loop-last.result)
    (λ free. subst (λ i. IsEdgeWord p (with_last (but_last p c.args.run.now.cells) last) (slice_index c.words_of-found.result i))
    (sym c.from-in-loop-last.ensures) (c.words_of-found.ensures.each last free))
    ((c.args.index - s.low) * c.from.result + c.from-in-loop-last-2.result)
    (ap₂ (λ n k. (c.args.index - s.low) * n + k) (c.from.ensures ∙ count) c.from-in-loop-last-2.ensures)

-- after all last cells of a run, the words tell of the runs up to this one
pub returns : goal.returns
returns c =
    let p = c.args.lookup.now in
    let side = c.side.ensures.side ∙ ap (λ q. q.side) c.pattern.ensures.pattern in
    let count : c.cells-cells.result ≡ p.side * p.side = c.cells-cells.ensures.value ∙ ap₂ (λ m n. m * n) side side in
    let done = c.loop-last-test.false in
    told_next p c.args.span.now c.args.index c.loop-last.last c.loop-last.words (omega arith) c.loop-last.invariant
