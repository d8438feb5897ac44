-- What a command takes, row by row, and what is found of it.
use Rattle.std.proofs.Common.{◌≡◌, ◌∙◌, ◌<◌, ◌+◌, ◌++◌, ℕ, List, [], ◌∷◌, ap, arith, get_or, length, map, suc, sym, take}
use Rattle.std.proofs.Math.Seq.{take-suc}
use Rattle.std.proofs.lemmas.List.{map-append}
use Rattle.clap.specs.Walk.{Text}
use Rattle.clap.specs.Words.{with_rule}
use Rattle.clap.proofs.WalkLemmas.{first_value-rows, raw_values-rows}
use Rattle.pdb_words.specs.Rows.{command}
use Rattle.pdb_words.specs.StoredRows.{rule_of_row}
use Rattle.pdb_words.specs.declared.rows.Row.{Row}

-- the first so many and the next one
next_too : {X : Type 0} (xs : List X) (i : ℕ) (x : X) → i < length xs → take (i + 1) xs ≡ take i xs ++ get_or xs i x ∷ []
next_too xs i x below = let next : i + 1 ≡ suc i = omega arith in ap (λ k. take k xs) next ∙ take-suc xs i x below

-- one row more is one rule more
pub one_row_more : (name : Text) (rows : List Row) (i : ℕ) (row : Row) → i < length rows
    → with_rule (command name (map rule_of_row (take i rows))) (rule_of_row (get_or rows i row)) ≡ command name (map rule_of_row (take (i + 1) rows))
one_row_more name rows i row below = ap (command name)
    (sym (ap (map rule_of_row) (next_too rows i row below) ∙ map-append rule_of_row (take i rows) (get_or rows i row ∷ [])))

-- what is found of a command, as its rows have it
pub ruleset found_rows = (first_value-rows, raw_values-rows)
