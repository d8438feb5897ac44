-- The words of `make-table [--workers N] [--replace] SIDE MASK OUT`.
use Rattle.std.specs.Prelude.{ℕ, List, [], ◌∷◌, Option, codes, if◌then◌else◌, is_some, pos, unwrap_or}
use Rattle.clap.specs.Walk.{Row, Rule}
use Rattle.clap.specs.Simple.{App}
use Rattle.clap.specs.Kinds.{Kinds}
use Rattle.clap.specs.declared.builder.value_parser.ValueParser.TheVariants as parser
use Rattle.clap.specs.declared.error.kind.ErrorKind.TheVariants.{ValueValidation}
use Rattle.pdb_request.specs.Asked.{Asked, make_table}
use Rattle.pdb_words.specs.Files.{file_in}
use Rattle.pdb_words.specs.Masks.{mask_written}
use Rattle.pdb_words.specs.Numbers.{number_in}
use Rattle.pdb_words.specs.Replace.{replace_flag, replace_in}
use Rattle.pdb_words.specs.Rows.{command, needed_file, needed_number}
use Rattle.pdb_words.specs.Workers.{workers_flag, workers_in}

-- the greatest number that may be meant for a side: that of a byte
abbrev pub most_side : ℕ
most_side = 255

-- the side, a number from 0 to 255, which has to be given
abbrev pub needed_side : Rule
needed_side = needed_number (codes "SIDE") (parser.Signed (pos 0) (pos most_side))

-- the tile mask, for `clap` any word, which has to be given
abbrev pub needed_mask : Rule
needed_mask = needed_file (codes "MASK")

-- the command, as `clap` sees it
abbrev pub make_table_command : App
make_table_command =
    command (codes "make-table") (workers_flag ∷ replace_flag ∷ needed_side ∷ needed_mask ∷ needed_file (codes "OUT") ∷ [])

-- the side that the values found of it name
abbrev pub side_number_in : List Row → ℕ
side_number_in rows = number_in 0 most_side 0 (codes "SIDE") rows

-- the tile mask that their word for it writes, if it writes one
abbrev pub mask_in : List Row → Option ℕ
mask_in rows = mask_written (file_in (codes "MASK") rows)

-- the same, or 0
abbrev pub mask_number_in : List Row → ℕ
mask_number_in rows = unwrap_or (mask_in rows) 0

-- what is wrong with them: nothing, or that their word for the mask writes none
abbrev pub mask_faults : List Row → Kinds
mask_faults rows = if is_some (mask_in rows) then [] else ValueValidation ∷ []

-- what the values found of it ask for
abbrev pub make_table_in : List Row → Asked
make_table_in rows = make_table (record {
  side = side_number_in rows;
  mask = mask_number_in rows;
  out = file_in (codes "OUT") rows;
  replace = replace_in rows;
  workers = workers_in rows;
})
