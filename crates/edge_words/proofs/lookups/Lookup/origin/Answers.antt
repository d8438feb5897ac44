use Rattle.std.proofs.Common.{◌≡◌, ℕ, ◌+◌, ◌*◌, ◌/◌, ◌%◌, ◌<◌, ◌≤◌, IfSome, List, None, Option, Some, cond, eqb, sym, ◌∙◌, ap, ap₂, subst, arith}
use Rattle.std.specs.Prelude.{slice_index_or}
use Rattle.puz_board.specs.Cells.{reverse_of, step_of}
use Rattle.puz_board.specs.declared.moves.Move.{Move}
use Rattle.puz_board.specs.declared.moves.Move.TheVariants.{Up, Down, Left, Right}
use Rattle.puz_board.proofs.CellLemmas.{step_of-inside}
use Rattle.pat_place.specs.Patterns.{IsPattern}
use Rattle.edge_words.specs.Lookups.{AreOrigins}
use Rattle.edge_words.specs.Words.{move_of}
use Rattle.edge_words.proofs.lookups.Lookup.origin.Goals as goal

-- the move of a last digit
abbrev pick : ℕ → Move
pick digit = cond (eqb digit 0) Up (cond (eqb digit 1) Down (cond (eqb digit 2) Left Right))

-- what is kept for a cell and a number
kept : (n : ℕ) (origins : List (Option ℕ)) → AreOrigins n origins → (cell number at : ℕ) → cell < n * n → at ≡ 4 * cell + number % 4
    → slice_index_or origins at None ≡ step_of n cell (reverse_of (move_of number))
kept n origins are cell number at low is =
    let row : at / 4 ≡ cell = omega arith in
    let digit : at % 4 ≡ number % 4 = omega arith in
    are.each at (omega arith) ∙ ap₂ (λ c m. step_of n c (reverse_of m)) row (ap pick digit)

inside : (n cell : ℕ) (move : Move) → 2 ≤ n → n ≤ 5 → cell < n * n → (o : Option ℕ) → o ≡ step_of n cell move → IfSome o (λ from. from < n * n)
inside n cell move low high within None e = tt
inside n cell move low high within (Some from) e = step_of-inside n cell move from low high within (sym e)

-- the origin that is kept of a cell and a number is the cell from which the move leads the blank there
pub returns-clause-origin : goal.returns-clause-origin
returns-clause-origin c =
    let p = c.args.self.now in
    kept p.side c.self.inside.origins (subst (λ q. AreOrigins q.side c.self.inside.origins) c.self.view_is c.self.invariant.origins) c.args.cell
    c.args.number c.from.result c.requires c.from.ensures

-- the origin that is kept of a cell and a number is one of the board's cells, where there is one
pub returns-clause-within : goal.returns-clause-within
returns-clause-within c =
    let p = c.args.self.now in
    let pat = subst IsPattern c.self.view_is c.side-side.ensures.pattern in
    inside p.side c.args.cell (reverse_of (move_of c.args.number)) pat.low pat.high c.requires (slice_index_or c.self.inside.origins c.from.result None)
    (kept p.side c.self.inside.origins (subst (λ q. AreOrigins q.side c.self.inside.origins) c.self.view_is c.self.invariant.origins) c.args.cell
    c.args.number c.from.result c.requires c.from.ensures)
