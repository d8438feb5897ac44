-- Which flags a command takes.
use Rattle.std.specs.Prelude.{◌≡◌, ◌⊎◌, List, [], ◌∷◌, Option, Some, codes}
use Rattle.clap.specs.Lexer.{long_of}
use Rattle.clap.specs.Walk.{Text}
use Rattle.pdb_words.specs.Commands.{IsOneOf, shared_commands}

-- the names of the commands that take `--fold`
abbrev pub folding_commands : List Text
folding_commands = codes "bound" ∷ codes "optimal" ∷ codes "solve" ∷ codes "prove" ∷ []

-- the names of the commands that take `--budget`
abbrev pub searching_commands : List Text
searching_commands = codes "solve" ∷ codes "prove" ∷ []

-- the names of the commands that take `--replace`
abbrev pub keeping_commands : List Text
keeping_commands = codes "make-table" ∷ codes "solve" ∷ []

-- the names of the commands that take `--goal`
abbrev pub boarding_commands : List Text
boarding_commands =
    codes "replay" ∷ codes "bound" ∷ codes "optimal" ∷ codes "solve" ∷ codes "prove" ∷ codes "parts" ∷ []

-- the command takes the flag of this name
abbrev pub TakesFlag : Text → Text → Type 0
TakesFlag command name = (IsOneOf shared_commands command × (name ≡ codes "workers"))
    ⊎ ((IsOneOf folding_commands command × (name ≡ codes "fold"))
    ⊎ ((IsOneOf searching_commands command × (name ≡ codes "budget")) ⊎ ((IsOneOf keeping_commands command × (name ≡ codes "replace"))
    ⊎ (IsOneOf boarding_commands command × (name ≡ codes "goal")))))

-- the word is `--`, a name, and perhaps a value behind `=`
abbrev pub IsLongFlag : Text → Text → Type 0
IsLongFlag name word = (value : Option Text) × (long_of word ≡ Some (name, value))
