-- A file has one log or one fault.
use Rattle.std.proofs.Common.{◌≡◌, ℕ, ◌-◌, ◌<◌, ◌⊎◌, List, length, drop, take, Result, Ok, Err, inl, inr, refl, sym, ◌∙◌, ap, ap₂, subst, arith, length-drop}
use Rattle.std.proofs.Math.Seq.{take-length}
use Rattle.std.specs.Prelude.{IfOk}
use Rattle.puz_board.specs.Boards.{IsBoardOf}
use Rattle.std.specs.List.{AllByRecursion}
use Rattle.log_file.specs.Logs.{IsSize, IsVersion, Lemma, Log}
use Rattle.log_file.specs.LogFiles.{AreLemmas, HasLemma, IsLogHeader, IsLogFile, lemma_count_in, front_lemma, header_length, log_side_in}
use Rattle.log_file.specs.FormFaults.{AreBoards, AreFilled, HasHeader, IsFormFaultOf, IsFirstCut, IsFirstNoBoard, IsLeftOver, behind_first}
use Rattle.log_file.specs.FirstLemmas.{first_lemmas}
use Rattle.log_file.specs.declared.faults.FormFault.{FormFault}
use Rattle.log_file.specs.declared.faults.FormFault.TheVariants.{L1, L2, L3}
use Rattle.log_file.specs.declared.faults.ViewFault.{ViewFault}
use Rattle.log_file.specs.declared.faults.ViewFault.TheVariants.{Memory, Refused}
use Rattle.log_file.proofs.RowLemmas.{AreFilled-lemmas, AreLemmas-first, boards-first, first-boards, first-lemmas, length-first_lemmas}

-- ---- one log

module _ (file : List ℕ) (log : Log) (is : IsLogFile log file) where
  -- the file of a log has a header of known version and allowed size
  pub HasHeader-log : HasHeader file
  HasHeader-log = record {
    header = record { room = is.header.room; begins = is.header.begins; is_version = refl; is_side = refl; is_count = refl };
    version = subst IsVersion (sym is.header.is_version) is.is_log.version;
    size = subst (λ n. IsSize n (lemma_count_in file)) (sym is.header.is_side) (subst (IsSize log.side) (sym is.header.is_count) is.is_log.size);
  }

  lemmas_are : log.lemmas ≡ first_lemmas (log_side_in file) (lemma_count_in file) (drop header_length file)
  lemmas_are =
      first-lemmas log.side log.lemmas (drop header_length file) is.lemmas ∙
      ap₂ (λ n count. first_lemmas n count (drop header_length file)) (sym is.header.is_side) (sym is.header.is_count)

  filled : AreFilled (log_side_in file) (lemma_count_in file) (drop header_length file)
  filled =
      subst (λ n. AreFilled n (lemma_count_in file) (drop header_length file)) (sym is.header.is_side)
      (subst (λ count. AreFilled log.side count (drop header_length file)) (sym is.header.is_count)
      (AreFilled-lemmas log.side log.lemmas (drop header_length file) is.lemmas))

-- two logs of one file are the same
pub one_log : (file : List ℕ) (a b : Log) → IsLogFile a file → IsLogFile b file → a ≡ b
one_log file a b is_a is_b =
    let versions : a.version ≡ b.version = sym is_a.header.is_version ∙ is_b.header.is_version in
    let sides : a.side ≡ b.side = sym is_a.header.is_side ∙ is_b.header.is_side in
    let lemmas : a.lemmas ≡ b.lemmas = lemmas_are file a is_a ∙ sym (lemmas_are file b is_b) in
    λ i. record { version = versions i; side = sides i; lemmas = lemmas i }

-- ---- one fault

-- of two numbers that are each the first of their kind, neither is less
module _ (A : ℕ → Type 0) where
  same_first : (i j : ℕ) → ((k : ℕ) → k < i → A k) → ¬ A i → ((k : ℕ) → k < j → A k) → ¬ A j → i ≡ j
  same_first i j below_i at_i below_j at_j =
      let no_less : i < j → ⊥ = λ l. at_i (below_j i l) in
      let no_more : j < i → ⊥ = λ l. at_j (below_i j l) in
      omega arith

module _ (n count : ℕ) (bytes : List ℕ) where
  one_cut : (i j : ℕ) → (IsFirstCut n count bytes i ⊎ ((i ≡ count) × IsLeftOver n count bytes))
      → (IsFirstCut n count bytes j ⊎ ((j ≡ count) × IsLeftOver n count bytes)) → i ≡ j
  one_cut i j (inl a) (inl b) = same_first (λ k. HasLemma n (behind_first n k bytes)) i j a.whole a.cut b.whole b.cut
  one_cut i j (inl a) (inr b) = absurd (a.cut (b.1.whole i a.within))
  one_cut i j (inr a) (inl b) = absurd (b.cut (a.1.whole j b.within))
  one_cut i j (inr a) (inr b) = a.0 ∙ sym b.0

  filled_or_cut : (i : ℕ) → AreFilled n count bytes → ¬ (IsFirstCut n count bytes i ⊎ ((i ≡ count) × IsLeftOver n count bytes))
  filled_or_cut i filled (inl a) = a.cut (filled.whole i a.within)
  filled_or_cut i filled (inr a) = a.1.rest filled.rest

  one_no_board : (i j : ℕ) → IsFirstNoBoard n count bytes i → IsFirstNoBoard n count bytes j → i ≡ j
  one_no_board i j a b = same_first (λ k. IsBoardOf n (front_lemma n (behind_first n k bytes)).board) i j a.boards a.no_board b.boards b.no_board

-- two faults of form of one file are the same
pub one_fault : (file : List ℕ) (a b : FormFault) → IsFormFaultOf a file → IsFormFaultOf b file → a ≡ b
one_fault file L1 L1 a b = refl
one_fault file L1 (L2 j) a b = absurd (a b.0)
one_fault file L1 (L3 j) a b = absurd (a b.0)
one_fault file (L2 i) L1 a b = absurd (b a.0)
one_fault file (L2 i) (L2 j) a b = ap L2 (one_cut _ _ _ i j a.1 b.1)
one_fault file (L2 i) (L3 j) a b = absurd (filled_or_cut _ _ _ i b.1.filled a.1)
one_fault file (L3 i) L1 a b = absurd (b a.0)
one_fault file (L3 i) (L2 j) a b = absurd (filled_or_cut _ _ _ j a.1.filled b.1)
one_fault file (L3 i) (L3 j) a b = ap L3 (one_no_board _ _ _ i j a.1 b.1)

-- ---- not both

-- the file of a log has no fault of form
pub no_fault : (file : List ℕ) (log : Log) (fault : FormFault) → IsLogFile log file → ¬ IsFormFaultOf fault file
no_fault file log L1 is stands = stands (HasHeader-log file log is)
no_fault file log (L2 i) is stands = filled_or_cut _ _ _ i (filled file log is) stands.1
no_fault file log (L3 i) is stands =
    stands.1.no_board (first-boards (log_side_in file) (lemma_count_in file) (drop header_length file) boards i stands.1.within)
  where
    boards : AllByRecursion (λ lemma. IsBoardOf (log_side_in file) lemma.board)
        (first_lemmas (log_side_in file) (lemma_count_in file) (drop header_length file))
    boards =
        subst (AllByRecursion (λ lemma. IsBoardOf (log_side_in file) lemma.board)) (lemmas_are file log is)
        (subst (λ n. AllByRecursion (λ lemma. IsBoardOf n lemma.board) log.lemmas) (sym is.header.is_side) is.is_log.boards)

-- ---- what is answered of bytes

-- the bytes behind the header
behind_header : (file : List ℕ) → take (length file - header_length) (drop header_length file) ≡ drop header_length file
behind_header file = ap (λ k. take k (drop header_length file)) (sym (length-drop header_length file)) ∙ take-length (drop header_length file)

module _ (version side count : ℕ) (file : List ℕ) (header : IsLogHeader version side count file) (known : IsVersion version) (size : IsSize side count) where
  -- a good header, and behind it as many whole lemmas with boards, are the file of their log
  pub IsLogFile-first : (lemmas : List Lemma) → AreFilled side count (drop header_length file) → AreBoards side count (drop header_length file)
      → lemmas ≡ first_lemmas side count (drop header_length file) → IsLogFile (record { version = version; side = side; lemmas = lemmas }) file
  IsLogFile-first lemmas filled boards are =
      let counted : length lemmas ≡ count = ap length are ∙ length-first_lemmas side count (drop header_length file) in
      record {
        is_log = record {
          version = known;
          size = subst (IsSize side) (sym counted) size;
          boards = subst (AllByRecursion (λ lemma. IsBoardOf side lemma.board)) (sym are) (boards-first side count (drop header_length file) boards);
        };
        header = subst (λ k. IsLogHeader version side k file) (sym counted) header;
        lemmas = subst (λ ls. AreLemmas side ls (drop header_length file)) (sym are) (AreLemmas-first side count (drop header_length file) filled);
      }

  -- the same of the bytes behind the header, as they are taken
  pub IsLogFile-read : (lemmas : List Lemma) → let bytes = take (length file - header_length) (drop header_length file) in
      AreFilled side count bytes → AreBoards side count bytes
      → lemmas ≡ first_lemmas side count bytes → IsLogFile (record { version = version; side = side; lemmas = lemmas }) file
  IsLogFile-read lemmas filled boards are =
      IsLogFile-first lemmas (subst (AreFilled side count) (behind_header file) filled) (subst (AreBoards side count) (behind_header file) boards)
      (are ∙ ap (first_lemmas side count) (behind_header file))

module _ (file : List ℕ) (r : Result Log ViewFault) (ok : IfOk r (λ log. IsLogFile log file))
    (refused : (fault : FormFault) → r ≡ Err (Refused fault) → IsFormFaultOf fault file) where
  -- what is answered of a log's file is that log, or that memory is wanting
  pub log_viewed : (log : Log) → IsLogFile log file → (r ≡ Ok log) ⊎ (r ≡ Err Memory)
  log_viewed log is = go r ok refused
    where
      go : (r : Result Log ViewFault) → IfOk r (λ log. IsLogFile log file) → ((fault : FormFault) → r ≡ Err (Refused fault) → IsFormFaultOf fault file)
          → (r ≡ Ok log) ⊎ (r ≡ Err Memory)
      go (Ok found) ok refused = inl (ap Ok (one_log file found log ok is))
      go (Err Memory) ok refused = inr refl
      go (Err (Refused fault)) ok refused = absurd (no_fault file log fault is (refused fault refl))

  -- where memory is wanting for logs' files alone, a fault of form is what is answered
  pub fault_named : (r ≡ Err Memory → (log : Log) × IsLogFile log file) → (fault : FormFault) → IsFormFaultOf fault file → r ≡ Err (Refused fault)
  fault_named memory fault stands = go r ok refused memory
    where
      go : (r : Result Log ViewFault) → IfOk r (λ log. IsLogFile log file) → ((fault : FormFault) → r ≡ Err (Refused fault) → IsFormFaultOf fault file)
          → (r ≡ Err Memory → (log : Log) × IsLogFile log file) → r ≡ Err (Refused fault)
      go (Ok found) ok refused memory = absurd (no_fault file found fault ok stands)
      go (Err Memory) ok refused memory = let log = memory refl in absurd (no_fault file log.0 fault log.1 stands)
      go (Err (Refused other)) ok refused memory = ap (λ f. Err (Refused f)) (one_fault file other fault (refused other refl) stands)
