-- The lemmas at the front of bytes.
use Rattle.std.specs.Prelude.{ℕ, zero, suc, List, [], ◌∷◌}
use Rattle.log_file.specs.Logs.{Lemma}
use Rattle.log_file.specs.LogFiles.{behind, front_lemma}

-- the first lemmas, so many of them
abbrev pub first_lemmas : ℕ → ℕ → List ℕ → List Lemma
first_lemmas n zero bytes = []
first_lemmas n (suc i) bytes = front_lemma n bytes ∷ first_lemmas n i (behind n bytes)
