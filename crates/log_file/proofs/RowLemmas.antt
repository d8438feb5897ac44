-- Lemmas one after the other in bytes, from the first on.
use Rattle.std.proofs.Common.{◌≡◌, ℕ, zero, suc, ◌+◌, List, [], ◌∷◌, ◌++◌, length, refl, ◌∙◌, ap, arith}
use Rattle.std.specs.List.{AllByRecursion}
use Rattle.puz_board.specs.Boards.{IsBoardOf}
use Rattle.log_file.specs.Logs.{Lemma}
use Rattle.log_file.specs.LogFiles.{AreLemmas, behind, front_lemma}
use Rattle.log_file.specs.FormFaults.{AreBoards, AreFilled, AreWhole, behind_first}
use Rattle.log_file.specs.FirstLemmas.{first_lemmas}

module _ (n : ℕ) where
  -- ---- one lemma more

  behind_first-suc : (i : ℕ) (bytes : List ℕ) → behind_first n (suc i) bytes ≡ behind n (behind_first n i bytes)
  behind_first-suc zero bytes = refl
  behind_first-suc (suc i) bytes = behind_first-suc i (behind n bytes)

  first_lemmas-suc : (i : ℕ) (bytes : List ℕ) → first_lemmas n (suc i) bytes ≡ first_lemmas n i bytes ++ front_lemma n (behind_first n i bytes) ∷ []
  first_lemmas-suc zero bytes = refl
  first_lemmas-suc (suc i) bytes = ap (λ more. front_lemma n bytes ∷ more) (first_lemmas-suc i (behind n bytes))

  -- behind one lemma more are the bytes behind the lemma at the front of what was left
  pub behind_first-next : (i : ℕ) (bytes : List ℕ) → behind_first n (i + 1) bytes ≡ behind n (behind_first n i bytes)
  behind_first-next i bytes = let next : i + 1 ≡ suc i = omega arith in ap (λ k. behind_first n k bytes) next ∙ behind_first-suc i bytes

  -- one lemma more is the lemma at the front of the bytes that the others leave
  pub first_lemmas-next : (i : ℕ) (bytes : List ℕ) → first_lemmas n (i + 1) bytes ≡ first_lemmas n i bytes ++ front_lemma n (behind_first n i bytes) ∷ []
  first_lemmas-next i bytes = let next : i + 1 ≡ suc i = omega arith in ap (λ k. first_lemmas n k bytes) next ∙ first_lemmas-suc i bytes

  -- the first lemmas of bytes are as many as were asked for
  pub length-first_lemmas : (i : ℕ) (bytes : List ℕ) → length (first_lemmas n i bytes) ≡ i
  length-first_lemmas zero bytes = refl
  length-first_lemmas (suc i) bytes = ap suc (length-first_lemmas i (behind n bytes))

  -- ---- the list of them

  -- bytes that are so many whole lemmas are their first lemmas, one after the other
  pub AreLemmas-first : (count : ℕ) (bytes : List ℕ) → AreFilled n count bytes → AreLemmas n (first_lemmas n count bytes) bytes
  AreLemmas-first zero bytes filled = filled.rest
  AreLemmas-first (suc count) bytes filled = (
    filled.whole 0 (omega arith),
    refl,
    AreLemmas-first count (behind n bytes) (record {
      whole = λ i l. filled.whole (suc i) (omega arith);
      rest = filled.rest;
    }),
  )

  -- lemmas of which bytes are made are the first lemmas of the bytes
  pub first-lemmas : (lemmas : List Lemma) (bytes : List ℕ) → AreLemmas n lemmas bytes → lemmas ≡ first_lemmas n (length lemmas) bytes
  first-lemmas [] bytes are = refl
  first-lemmas (lemma ∷ more) bytes are = λ i. are.1 i ∷ first-lemmas more (behind n bytes) are.2 i

  -- bytes that are made of lemmas are as many whole lemmas and nothing more
  pub AreFilled-lemmas : (lemmas : List Lemma) (bytes : List ℕ) → AreLemmas n lemmas bytes → AreFilled n (length lemmas) bytes
  AreFilled-lemmas [] bytes are = record { whole = λ i l. absurd (omega arith); rest = are }
  AreFilled-lemmas (lemma ∷ more) bytes are =
      let behind_it = AreFilled-lemmas more (behind n bytes) are.2 in
      record { whole = whole_from behind_it; rest = behind_it.rest }
    where
      whole_from : AreFilled n (length more) (behind n bytes) → AreWhole n (suc (length more)) bytes
      whole_from filled zero l = are.0
      whole_from filled (suc i) l = filled.whole i (omega arith)

  -- ---- their boards

  abbrev AllBoards : List Lemma → Type 0
  AllBoards = AllByRecursion (λ lemma. IsBoardOf n lemma.board)

  -- where the boards in bytes are boards, so are those of the first lemmas
  pub boards-first : (count : ℕ) (bytes : List ℕ) → AreBoards n count bytes → AllBoards (first_lemmas n count bytes)
  boards-first zero bytes boards = tt
  boards-first (suc count) bytes boards = (boards 0 (omega arith), boards-first count (behind n bytes) (λ i l. boards (suc i) (omega arith)))

  -- where the first lemmas have boards, the boards in the bytes are boards
  pub first-boards : (count : ℕ) (bytes : List ℕ) → AllBoards (first_lemmas n count bytes) → AreBoards n count bytes
  first-boards zero bytes all i l = absurd (omega arith)
  first-boards (suc count) bytes all zero l = all.0
  first-boards (suc count) bytes all (suc i) l = first-boards count (behind n bytes) all.1 i (omega arith)
