-- The flag `--workers N`: how many workers share a check, from 1 to 64, and without it 1.
use Rattle.std.specs.Prelude.{⊤, ℕ, List, codes, pos}
use Rattle.clap.specs.Walk.{Row, Rule}
use Rattle.clap.specs.declared.builder.value_parser.ValueParser.TheVariants as parser
use Rattle.book_core.specs.Books.{AreWorkers, most_workers}
use Rattle.pdb_request.specs.declared.requests.Request.{Request}
use Rattle.pdb_request.specs.declared.requests.Request.TheVariants as request
use Rattle.pdb_words.specs.Numbers.{number_in}
use Rattle.pdb_words.specs.Rows.{usual_number_flag}

-- the flag, as `clap` sees it
abbrev pub workers_flag : Rule
workers_flag = usual_number_flag (codes "workers") (parser.Signed (pos 1) (pos most_workers)) (codes "1")

-- how many workers the values found of a command ask for
abbrev pub workers_in : List Row → ℕ
workers_in rows = number_in 1 most_workers 1 (codes "workers") rows

-- there are as many workers as may share a check, where any are asked for
abbrev pub HasWorkers : Request → Type 0
HasWorkers (request.Replay command) = ⊤
HasWorkers (request.TableCheck check) = AreWorkers check.workers
HasWorkers (request.LogCheck check) = AreWorkers check.workers
HasWorkers (request.MakeTable command) = AreWorkers command.workers
HasWorkers (request.Solve search) = AreWorkers search.workers
HasWorkers (request.Prove command) = AreWorkers command.workers
HasWorkers (request.JoinParts command) = ⊤
