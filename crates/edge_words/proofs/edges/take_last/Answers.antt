use Rattle.std.proofs.Common.{◌≡◌, ◌-◌, ◌/◌, ℕ, false, length, sym, ◌∙◌, ap, subst, arith}
use Rattle.std.specs.Int.{bit_at}
use Rattle.std.specs.Prelude.{slice_index}
use Rattle.puz_board.proofs.CellLemmas.{few_cells}
use Rattle.pat_place.specs.Placements.{IsFree}
use Rattle.tab_runs.specs.Runs.{with_last}
use Rattle.edge_words.specs.Edges.{IsWith}
use Rattle.edge_words.specs.Lookups.{but_last}
use Rattle.edge_words.specs.Words.{TellsOfMove, move_of}
use Rattle.puz_board.specs.Cells.{reverse_of, step_of}
use Rattle.edge_words.proofs.RunMoveLemmas.{last_none}
use Rattle.edge_words.proofs.WordLemmas.{left_all, left_here, left_in, left_next, left_start}
use Rattle.edge_words.proofs.edges.take_last.Goals.{After-led_to-open}
use Rattle.edge_words.proofs.edges.take_last.Goals as goal

-- a free cell that isn't in the mask has no free origin
skip : (c : After-led_to-open) → (last : ℕ) → IsFree c.args.lookup.now.side (but_last c.args.lookup.now c.args.run.now.cells) last
    → (bit_at c.led_to-open.result last ≡ 1 → ⊥)
    → TellsOfMove c.args.lookup.now (with_last (but_last c.args.lookup.now c.args.run.now.cells) last) (c.args.number / 4) (move_of c.args.number) false
skip c last free out =
    let p = c.args.lookup.now in
    let cells = but_last p c.args.run.now.cells in
    let number = c.args.number in
    let is = c.requires.run in
    let side = c.side.ensures.side ∙ ap (λ q. q.side) c.pattern.ensures.pattern in
    let tile : length p.tiles - 1 ≡ number / 4 = (let t = c.requires.tile in omega arith) in
    subst (λ i. TellsOfMove p (with_last cells last) i (move_of number) false) tile
    (last_none p c.pattern.ensures.is_pattern cells is.run last free (move_of number)
    (λ from step there. out (c.led_to-open.ensures.led from last ((is.free from).1 there) ((is.free last).1 free)
    (ap (λ n. step_of n last (reverse_of (move_of number))) side ∙ step))))

-- the free cells of a run are below 25
pub led_to-open-requires : goal.led_to-open-requires
led_to-open-requires c = record {
  within = λ x one.
      let pat = c.pattern.ensures.is_pattern in
      let few = few_cells c.args.lookup.now.side pat.low pat.high in
      let low = ((c.requires.run.free x).0 one).0 in
      omega arith;
}

-- before the first last cell, no word has the bit of the last tile's move
pub lasts-init : goal.lasts-init
lasts-init c = left_start c.args.lookup.now (but_last c.args.lookup.now c.args.run.now.cells) c.args.number c.led_to-open.result c.args.words.now
    c.requires.words

-- the lowest cell that is left is free
pub last_edge-rises-requires-clause-last : goal.last_edge-rises-requires-clause-last
last_edge-rises-requires-clause-last c =
    let at = (goal.at.last_edge-rises-requires-clause-last c).After-led_to-open in
    (c.requires.run.free c.first_of-last.result).0 (c.led_to-open.ensures.free c.first_of-last.result
    (left_in c.args.lookup.now (but_last c.args.lookup.now c.args.run.now.cells) c.args.number c.led_to-open.result c.lasts.left c.lasts.words
    c.lasts.invariant (skip at) c.first_of-last.result c.first_of-last.ensures.here c.first_of-last.ensures.lowest))

-- the words tell of the move up to the lowest cell that is left
pub last_edge-rises-requires-clause-words : goal.last_edge-rises-requires-clause-words
last_edge-rises-requires-clause-words c =
    left_here c.args.lookup.now (but_last c.args.lookup.now c.args.run.now.cells) c.args.number c.led_to-open.result c.lasts.left c.lasts.words
    c.lasts.invariant (skip (goal.at.last_edge-rises-requires-clause-words c).After-led_to-open) c.first_of-last.result c.first_of-last.ensures.here
    c.first_of-last.ensures.lowest

-- where the last tile's move is noted for the lowest cell, the others are left
pub lasts-preserved : goal.lasts-preserved
lasts-preserved c =
    let p = c.args.lookup.now in
    let pat = c.pattern.ensures.is_pattern in
    let run = c.args.run.now in
    let cells = but_last p run.cells in
    let number = c.args.number in
    let last = c.first_of-last.result in
    let is = c.requires.run in
    let mask = c.led_to-open.result in
    let at = (goal.at.lasts-preserved c).After-led_to-open in
    let few = few_cells p.side pat.low pat.high in
    let there = (is.free last).0 (c.led_to-open.ensures.free last (left_in p cells number mask c.lasts.left c.lasts.words c.lasts.invariant (skip at) last
    c.first_of-last.ensures.here c.first_of-last.ensures.lowest)) in
    let inside = there.0 in
    let tile : length p.tiles - 1 ≡ number / 4 = (let t = c.requires.tile in omega arith) in
    left_next p cells number mask c.lasts.left c.lasts.words c.lasts.invariant (skip at) last
    c.first_of-last.ensures.here c.first_of-last.ensures.lowest c.but_first-left.result c.but_first-left.type_inv
    (λ x one. let l = ((is.free x).0 (c.led_to-open.ensures.free x one)).0 in omega arith)
    (c.but_first-left.ensures.here last c.first_of-last.ensures.here c.first_of-last.ensures.lowest)
    (λ x few ne. c.but_first-left.ensures.others last c.first_of-last.ensures.here c.first_of-last.ensures.lowest x ne) (omega arith)
    c.last_edge-rises.result
    (subst (λ i. TellsOfMove p (with_last cells last) i (move_of number) c.last_edge-rises.result) tile c.last_edge-rises.ensures)
    c.from-in-lasts.result c.noted.result c.from-in-lasts.ensures
    (subst (λ i. IsWith c.last_edge-rises.result number (slice_index c.lasts.words i) c.noted.result)
    (c.from.ensures ∙ sym c.from-in-lasts.ensures) c.noted.ensures)

-- when no cell is left, the words tell of the last tile's move too
pub returns : goal.returns
returns c =
    left_all c.args.lookup.now (but_last c.args.lookup.now c.args.run.now.cells) c.args.number c.led_to-open.result c.lasts.left c.lasts.words
    c.lasts.invariant (skip (goal.at.returns c).After-led_to-open) c.lasts-test.false
