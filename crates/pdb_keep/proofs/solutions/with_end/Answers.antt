use Rattle.std.proofs.Common.{◌≡◌, ◌∙◌, List, ℕ, [], ◌∷◌, ◌++◌, append_assoc, arith, codes, false, length, sym, true}
use Rattle.std.proofs.lemmas.Bool.{eqb-true}
use Rattle.std.specs.Prelude.{◌==◌}
use Rattle.pdb_keep.specs.Solve.{moves_words}
use Rattle.pdb_keep.proofs.solutions.with_end.Goals as goal

module _ (count words : List ℕ) where
  abbrev rest : List ℕ
  rest = words ++ (codes "\noptimal " ++ (count ++ (words ++ codes "\n")))

  abbrev told : List ℕ → List ℕ
  told letters = moves_words letters ++ words ++ codes "\noptimal " ++ count ++ words ++ codes "\n"

  -- the parts of both lines where there are no letters
  none_told : (letters : List ℕ) → (length letters == 0) ≡ true → codes "moves" ++ rest ≡ told letters
  none_told [] none = simp append_assoc
  none_told (letter ∷ letters) none = let some : length (letter ∷ letters) ≡ 0 = eqb-true (length (letter ∷ letters)) 0 none in absurd (omega (arith, some))

  -- and where there are some
  some_told : (letters : List ℕ) → (length letters == 0) ≡ false → codes "moves " ++ (letters ++ rest) ≡ told letters
  some_told [] some = cc
  some_told (letter ∷ letters) some = simp append_assoc

-- where there are no letters, the line has its word alone
pub returns-then-is_empty : goal.returns-then-is_empty
returns-then-is_empty c = c.lines.ensures ∙ none_told c.args.count.now c.args.words.now c.args.letters.now (sym c.is_empty.ensures ∙ c.if-is_empty.true)

-- where there are letters, they are in a line behind a word and a space, and their number in the next
pub returns-else-is_empty : goal.returns-else-is_empty
returns-else-is_empty c = c.lines-else-is_empty.ensures ∙ some_told c.args.count.now c.args.words.now c.args.letters.now (sym c.is_empty.ensures ∙ c.if-is_empty.false)
