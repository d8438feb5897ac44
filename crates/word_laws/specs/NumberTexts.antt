-- Which numbers texts write.
use Rattle.std.specs.Prelude.{Bool, is_some}
use Rattle.clap.specs.Walk.{Text}
use Rattle.book_core.specs.Books.{most_workers}
use Rattle.pdb_request.specs.Asked.{most_budget, most_parts}
use Rattle.pdb_words.specs.MakeTable.{most_side}
use Rattle.pdb_words.specs.Masks.{mask_written}
use Rattle.pdb_words.specs.Numbers.{writes_within}

-- the text writes a number of workers
abbrev pub writes_workers : Text → Bool
writes_workers text = writes_within 1 most_workers text

-- the text writes a budget
abbrev pub writes_budget : Text → Bool
writes_budget text = writes_within 1 most_budget text

-- the text writes a number that may be meant for a side
abbrev pub writes_side : Text → Bool
writes_side text = writes_within 0 most_side text

-- the text writes a tile mask
abbrev pub writes_mask : Text → Bool
writes_mask text = is_some (mask_written text)

-- the text writes a number that may be a bound
abbrev pub writes_bound : Text → Bool
writes_bound text = writes_within 0 255 text

-- the text writes a number that a bound may have parts, or one that is even
abbrev pub writes_count : Text → Bool
writes_count text = writes_within 1 most_parts text
