use Rattle.std.proofs.Common.{◌∙◌}
use Rattle.puz_board.proofs.PuzzleLemmas.{no_semicolon-puzzle_parts, puzzle-puzzle_parts, puzzle_parts-puzzle}
use Rattle.puz_board.proofs.puzzles.split_puzzle.Goals as goal

-- two texts that come of a split make up the text, with its first semicolon between them
pub returns-clause-some : goal.returns-clause-some
returns-clause-some c = puzzle-puzzle_parts c.args.text.now c.split_at_semicolon.result (λ parts. parts.0.now)
    (λ parts. parts.1.now) c.split_at_semicolon.ensures

-- where nothing comes of a split, the text has no semicolon
pub returns-clause-none : goal.returns-clause-none
returns-clause-none c = no_semicolon-puzzle_parts c.args.text.now c.split_at_semicolon.result (λ parts. (parts.0.now, parts.1.now)) c.split_at_semicolon.ensures

-- a text made up of two around its first semicolon is split into these two
pub returns-clause-parted : goal.returns-clause-parted
returns-clause-parted c board moves puzzle = c.split_at_semicolon.ensures ∙ puzzle_parts-puzzle c.args.text.now board moves puzzle
