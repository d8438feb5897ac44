use Rattle.std.specs.Int.{bit_at}
use Rattle.std.proofs.lemmas.Nat.{mul-le}
use Rattle.puz_board.proofs.BitLemmas.{in_below}
use Rattle.tab_runs.specs.Rows.{row_length}
use Rattle.std.proofs.Common.{ℕ, ◌≤◌, false, ◌≡◌, ◌+◌, ◌*◌, ◌/◌, ◌<◌, length, inl, inr, sym, ◌∙◌, ap₂, subst, arith}
use Rattle.std.specs.Prelude.{slice_index}
use Rattle.std.proofs.lemmas.Bool.{cases_eq}
use Rattle.puz_board.specs.Masks.{IsMaskOf}
use Rattle.puz_board.proofs.CellLemmas.{few_cells}
use Rattle.pat_place.specs.Placements.{IsFree}
use Rattle.tab_runs.specs.Runs.{with_last}
use Rattle.tab_runs.proofs.RunLemmas.{free-with_last, with_last-free}
use Rattle.edge_words.specs.Edges.{IsWith}
use Rattle.edge_words.specs.Lookups.{but_last}
use Rattle.edge_words.specs.Words.{TellsOfMove, move_of}
use Rattle.edge_words.proofs.LookupLemmas.{few_below, mask_open, open_place}
use Rattle.edge_words.proofs.RunMoveLemmas.{front_after, front_before, front_blocked, front_place, front_told}
use Rattle.edge_words.proofs.WordLemmas.{left_all, left_in, left_next_at, left_place, left_start_at}
use Rattle.edge_words.proofs.edges.take_near.Goals.{After-without-open}
use Rattle.edge_words.proofs.edges.take_near.Goals as goal

-- the cells in which the last tile isn't in the way
opened : (c : After-without-open) → IsMaskOf c.without-open.result
    (IsFree c.args.lookup.now.side (with_last (but_last c.args.lookup.now c.args.run.now.cells) c.args.near.now.from))
opened c =
    let p = c.args.lookup.now in
    let pat = c.pattern-pattern.ensures.is_pattern in
    let few = few_cells p.side pat.low pat.high in
    mask_open p.side (omega arith) (but_last p c.args.run.now.cells) c.args.run.now.free c.without-open.result c.args.near.now.from
    c.requires.run.free c.without-open.type_inv c.without-open.ensures.here c.without-open.ensures.others

-- a free cell that isn't in the mask is the one to which the tile goes
skip : (c : After-without-open) → (last : ℕ) → IsFree c.args.lookup.now.side (but_last c.args.lookup.now c.args.run.now.cells) last
    → (bit_at c.without-open.result last ≡ 1 → ⊥)
    → TellsOfMove c.args.lookup.now (with_last (but_last c.args.lookup.now c.args.run.now.cells) last) (c.args.number / 4) (move_of c.args.number) false
skip c last free out =
    let p = c.args.lookup.now in
    let pat = c.pattern-pattern.ensures.is_pattern in
    let cells = but_last p c.args.run.now.cells in
    let near = c.args.near.now in
    let low : c.args.number / 4 < length cells = (let t = c.requires.tile in let size = c.requires.run.run.size in omega arith) in
    elim (cases_eq near.from last) [
      | inl e ↦ front_blocked p pat cells c.requires.run.run last free (c.args.number / 4) (move_of c.args.number) low near c.requires.near e
      | inr ne ↦ absurd (out ((opened c last).1 (free-with_last p.side cells near.from last free (λ e. ne (sym e)))))
    ]

-- the blank's cell before a near move is below 32, so that it can be taken out of the mask of free cells
pub without-open-requires : goal.without-open-requires
without-open-requires c =
    let p = c.args.lookup.now in
    let pat = c.pattern-pattern.ensures.is_pattern in
    let few = few_cells p.side pat.low pat.high in
    let low = c.requires.near.free.0 in
    omega arith

-- before the first last cell, no word has the bit of the near move, and none of a row has been passed
pub lasts-init : goal.lasts-init
lasts-init c = left_start_at c.args.lookup.now (but_last c.args.lookup.now c.args.run.now.cells) c.args.number c.without-open.result c.args.words.now
    c.requires.words

-- a row's start and the count of cells passed fit
pub overflow_add-row : goal.overflow_add-row
overflow_add-row c =
    let p = c.args.lookup.now in
    let pat = c.pattern-pattern.ensures.is_pattern in
    let cells = but_last p c.args.run.now.cells in
    let number = c.args.number in
    let near = c.args.near.now in
    let last = c.first_of-last.result in
    let few = few_cells p.side pat.low pat.high in
    let low : number / 4 < length cells = (let t = c.requires.tile in let size = c.requires.run.run.size in omega arith) in
    let at = (goal.at.overflow_add-row c).After-without-open in
    let one = left_in p cells number c.without-open.result c.lasts.left c.lasts.words c.lasts.invariant.lefts (skip at) last
    c.first_of-last.ensures.here c.first_of-last.ensures.lowest in
    let there = with_last-free p.side cells near.from last ((opened at last).0 one) in
    let place = left_place p cells number c.without-open.result c.lasts.left c.lasts.words c.lasts.invariant.lefts (skip at) last
    c.first_of-last.ensures.here c.first_of-last.ensures.lowest c.lasts.place c.lasts.invariant.passed in
    let below = few_below c.without-open.result last in
    let inside = there.0.0 in
    let from = c.requires.near.free.0 in
    let row = c.row_start-row.ensures in
    let most : near.from * row_length p.side (length p.tiles) ≤ 25 * 25 =
    mul-le near.from (row_length p.side (length p.tiles)) 25 25 (omega arith) (omega arith) in
    record { fits = omega arith }

-- before the near move, the last tile and the blank are in two free cells of the run
pub entry-before-requires-clause-open : goal.entry-before-requires-clause-open
entry-before-requires-clause-open c =
    let p = c.args.lookup.now in
    let pat = c.pattern-pattern.ensures.is_pattern in
    let cells = but_last p c.args.run.now.cells in
    let number = c.args.number in
    let near = c.args.near.now in
    let last = c.first_of-last.result in
    let few = few_cells p.side pat.low pat.high in
    let low : number / 4 < length cells = (let t = c.requires.tile in let size = c.requires.run.run.size in omega arith) in
    let at = (goal.at.entry-before-requires-clause-open c).After-without-open in
    let one = left_in p cells number c.without-open.result c.lasts.left c.lasts.words c.lasts.invariant.lefts (skip at) last
    c.first_of-last.ensures.here c.first_of-last.ensures.lowest in
    let there = with_last-free p.side cells near.from last ((opened at last).0 one) in
    front_before p pat cells c.requires.run.run last there.0 (number / 4) (move_of number) low near c.requires.near (λ e. there.1 (sym e))

-- the entry before the near move is looked up at the count of free cells passed in the row of the blank's cell
pub entry-before-requires-clause-place : goal.entry-before-requires-clause-place
entry-before-requires-clause-place c =
    let p = c.args.lookup.now in
    let pat = c.pattern-pattern.ensures.is_pattern in
    let cells = but_last p c.args.run.now.cells in
    let number = c.args.number in
    let near = c.args.near.now in
    let last = c.first_of-last.result in
    let few = few_cells p.side pat.low pat.high in
    let low : number / 4 < length cells = (let t = c.requires.tile in let size = c.requires.run.run.size in omega arith) in
    let at = (goal.at.entry-before-requires-clause-place c).After-without-open in
    let one = left_in p cells number c.without-open.result c.lasts.left c.lasts.words c.lasts.invariant.lefts (skip at) last
    c.first_of-last.ensures.here c.first_of-last.ensures.lowest in
    let there = with_last-free p.side cells near.from last ((opened at last).0 one) in
    let place = left_place p cells number c.without-open.result c.lasts.left c.lasts.words c.lasts.invariant.lefts (skip at) last
    c.first_of-last.ensures.here c.first_of-last.ensures.lowest c.lasts.place c.lasts.invariant.passed in
    let inside = there.0.0 in
    ap₂ (λ a b. a + b) c.row_start-row.ensures (open_place p.side (omega arith) cells c.args.run.now.free c.without-open.result near.from c.requires.run.free
    c.without-open.type_inv c.without-open.ensures.here c.without-open.ensures.others last inside c.lasts.place place)

-- after the near move, the last tile and the blank are in two free cells of the run to which it leads
pub entry-after-requires-clause-open : goal.entry-after-requires-clause-open
entry-after-requires-clause-open c =
    let p = c.args.lookup.now in
    let pat = c.pattern-pattern.ensures.is_pattern in
    let cells = but_last p c.args.run.now.cells in
    let number = c.args.number in
    let near = c.args.near.now in
    let last = c.first_of-last.result in
    let few = few_cells p.side pat.low pat.high in
    let low : number / 4 < length cells = (let t = c.requires.tile in let size = c.requires.run.run.size in omega arith) in
    let at = (goal.at.entry-after-requires-clause-open c).After-without-open in
    let one = left_in p cells number c.without-open.result c.lasts.left c.lasts.words c.lasts.invariant.lefts (skip at) last
    c.first_of-last.ensures.here c.first_of-last.ensures.lowest in
    let there = with_last-free p.side cells near.from last ((opened at last).0 one) in
    front_after p pat cells c.requires.run.run last there.0 (number / 4) (move_of number) low near c.requires.near (λ e. there.1 (sym e))

-- the entry after the near move is looked up at the same count in the row of the cell that the tile left
pub entry-after-requires-clause-place : goal.entry-after-requires-clause-place
entry-after-requires-clause-place c =
    let p = c.args.lookup.now in
    let pat = c.pattern-pattern.ensures.is_pattern in
    let cells = but_last p c.args.run.now.cells in
    let number = c.args.number in
    let near = c.args.near.now in
    let last = c.first_of-last.result in
    let few = few_cells p.side pat.low pat.high in
    let low : number / 4 < length cells = (let t = c.requires.tile in let size = c.requires.run.run.size in omega arith) in
    let at = (goal.at.entry-after-requires-clause-place c).After-without-open in
    let one = left_in p cells number c.without-open.result c.lasts.left c.lasts.words c.lasts.invariant.lefts (skip at) last
    c.first_of-last.ensures.here c.first_of-last.ensures.lowest in
    let there = with_last-free p.side cells near.from last ((opened at last).0 one) in
    let place = left_place p cells number c.without-open.result c.lasts.left c.lasts.words c.lasts.invariant.lefts (skip at) last
    c.first_of-last.ensures.here c.first_of-last.ensures.lowest c.lasts.place c.lasts.invariant.passed in
    let inside = there.0.0 in
    ap₂ (λ a b. a + b) c.row_start-near_row.ensures (open_place p.side (omega arith)
    cells c.args.run.now.free c.without-open.result near.from c.requires.run.free
    c.without-open.type_inv c.without-open.ensures.here c.without-open.ensures.others last inside c.lasts.place place ∙
    front_place p pat cells c.requires.run.run last there.0 (number / 4) (move_of number) low near c.requires.near)

-- the word of a free cell is one of the words
pub bounds-words-from : goal.bounds-words-from
bounds-words-from c =
    let p = c.args.lookup.now in
    let pat = c.pattern-pattern.ensures.is_pattern in
    let cells = but_last p c.args.run.now.cells in
    let number = c.args.number in
    let near = c.args.near.now in
    let last = c.first_of-last.result in
    let few = few_cells p.side pat.low pat.high in
    let low : number / 4 < length cells = (let t = c.requires.tile in let size = c.requires.run.run.size in omega arith) in
    let at = (goal.at.bounds-words-from c).After-without-open in
    let one = left_in p cells number c.without-open.result c.lasts.left c.lasts.words c.lasts.invariant.lefts (skip at) last
    c.first_of-last.ensures.here c.first_of-last.ensures.lowest in
    let there = with_last-free p.side cells near.from last ((opened at last).0 one) in
    let inside = there.0.0 in
    let at_last = c.from.ensures in
    let room = c.requires.words.room in
    omega arith

-- the same where it is written
pub bounds-words-from-in-lasts : goal.bounds-words-from-in-lasts
bounds-words-from-in-lasts c =
    let p = c.args.lookup.now in
    let pat = c.pattern-pattern.ensures.is_pattern in
    let cells = but_last p c.args.run.now.cells in
    let number = c.args.number in
    let near = c.args.near.now in
    let last = c.first_of-last.result in
    let few = few_cells p.side pat.low pat.high in
    let low : number / 4 < length cells = (let t = c.requires.tile in let size = c.requires.run.run.size in omega arith) in
    let at = (goal.at.bounds-words-from-in-lasts c).After-without-open in
    let one = left_in p cells number c.without-open.result c.lasts.left c.lasts.words c.lasts.invariant.lefts (skip at) last
    c.first_of-last.ensures.here c.first_of-last.ensures.lowest in
    let there = with_last-free p.side cells near.from last ((opened at last).0 one) in
    let inside = there.0.0 in
    let at_last = c.from-in-lasts.ensures in
    omega arith

-- where a near move is noted for the lowest cell, the others are left
pub lasts-preserved : goal.lasts-preserved
lasts-preserved c =
    let p = c.args.lookup.now in
    let pat = c.pattern-pattern.ensures.is_pattern in
    let cells = but_last p c.args.run.now.cells in
    let number = c.args.number in
    let near = c.args.near.now in
    let last = c.first_of-last.result in
    let few = few_cells p.side pat.low pat.high in
    let low : number / 4 < length cells = (let t = c.requires.tile in let size = c.requires.run.run.size in omega arith) in
    let at = (goal.at.lasts-preserved c).After-without-open in
    let one = left_in p cells number c.without-open.result c.lasts.left c.lasts.words c.lasts.invariant.lefts (skip at) last
    c.first_of-last.ensures.here c.first_of-last.ensures.lowest in
    let there = with_last-free p.side cells near.from last ((opened at last).0 one) in
    let inside = there.0.0 in
    let tells : TellsOfMove p (with_last cells last) (number / 4) (move_of number) c.rise-rises.result =
    front_told p pat cells c.requires.run.run last there.0 (number / 4) (move_of number) low near c.requires.near
    c.entry-before.result c.entry-after.result c.entry-before.ensures c.entry-after.ensures c.rise-rises.result c.rise-rises.ensures in
    left_next_at p cells number c.without-open.result c.lasts.left c.lasts.words c.lasts.invariant.lefts (skip at) last
    c.first_of-last.ensures.here c.first_of-last.ensures.lowest c.but_first-left.result c.but_first-left.type_inv
    (λ x h. in_below c.without-open.result 32 x c.without-open.type_inv h)
    (c.but_first-left.ensures.here last c.first_of-last.ensures.here c.first_of-last.ensures.lowest)
    (λ x few ne. c.but_first-left.ensures.others last c.first_of-last.ensures.here c.first_of-last.ensures.lowest x ne) (omega arith)
    c.rise-rises.result tells c.from-in-lasts.result c.noted.result c.from-in-lasts.ensures
    (subst (λ i. IsWith c.rise-rises.result number (slice_index c.lasts.words i) c.noted.result) (c.from.ensures ∙ sym c.from-in-lasts.ensures) c.noted.ensures)
    c.lasts.place c.lasts.invariant.passed

-- when no cell is left, the words tell of the near move too
pub returns : goal.returns
returns c =
    left_all c.args.lookup.now (but_last c.args.lookup.now c.args.run.now.cells) c.args.number c.without-open.result c.lasts.left c.lasts.words
    c.lasts.invariant.lefts (skip (goal.at.returns c).After-without-open) c.lasts-test.false
