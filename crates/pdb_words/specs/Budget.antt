-- The flag `--budget N`: how many boards a search may expand, from 1 to 1,000,000,000,000; and without it 1,000,000, or as many as it
-- takes.
use Rattle.std.specs.Prelude.{ℕ, List, Option, codes}
use Rattle.clap.specs.Walk.{Row, Rule}
use Rattle.clap.specs.declared.builder.value_parser.ValueParser.{ValueParser}
use Rattle.clap.specs.declared.builder.value_parser.ValueParser.TheVariants.{Unsigned}
use Rattle.pdb_request.specs.Asked.{most_budget}
use Rattle.pdb_words.specs.Numbers.{number_in, optional_number_in}
use Rattle.pdb_words.specs.Rows.{number_flag, usual_number_flag}

-- so many boards may be expanded where the words don't say how many
abbrev pub usual_budget : ℕ
usual_budget = 1000000

-- the numbers that it takes
abbrev pub budget_parser : ValueParser
budget_parser = Unsigned 1 most_budget

-- the flag with a usual budget, as `clap` sees it
abbrev pub budget_flag : Rule
budget_flag = usual_number_flag (codes "budget") budget_parser (codes "1000000")

-- the budget that the values found of a command ask for, or the usual one
abbrev pub budget_in : List Row → ℕ
budget_in rows = number_in 1 most_budget usual_budget (codes "budget") rows

-- the flag without a usual budget
abbrev pub optional_budget_flag : Rule
optional_budget_flag = number_flag (codes "budget") budget_parser

-- the budget that the values found of a command ask for, or none for as many boards as it takes
abbrev pub optional_budget_in : List Row → Option ℕ
optional_budget_in rows = optional_number_in 1 most_budget (codes "budget") rows
