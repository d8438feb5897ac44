-- The names of the commands, and which words begin with one.
use Rattle.std.specs.Prelude.{◌≡◌, ◌≢◌, ◌⊎◌, ⊤, List, [], ◌∷◌, ◌++◌, codes}
use Rattle.clap.specs.Walk.{Text}

-- the names of the commands that take `--workers`
abbrev pub shared_commands : List Text
shared_commands = codes "table" ∷ codes "bound" ∷ codes "optimal" ∷ codes "make-table" ∷ codes "solve" ∷ codes "prove" ∷ []

-- the names of the commands
abbrev pub commands : List Text
commands = codes "replay" ∷ (shared_commands ++ codes "parts" ∷ [])

-- the text is among these
abbrev pub IsOneOf : List Text → Text → Type 0
IsOneOf [] text = ⊥
IsOneOf (first ∷ rest) text = (text ≡ first) ⊎ IsOneOf rest text

-- the text is the name of a command
abbrev pub IsCommand : Text → Type 0
IsCommand name = IsOneOf commands name

-- the word doesn't begin with `-`
abbrev pub IsPlain : Text → Type 0
IsPlain [] = ⊤
IsPlain (first ∷ rest) = first ≢ 45

-- there is no word, a command's name comes first, or `--` stands alone
abbrev pub BeginsWithCommand : List Text → Type 0
BeginsWithCommand [] = ⊤
BeginsWithCommand (first ∷ rest) = IsCommand first ⊎ ((first ≡ codes "--") × (rest ≡ []))
