-- A file is that of a good log or has a fault, and of these one alone.
use Rattle.std.proofs.Common.{◌≡◌, ◌≢◌, ℕ, ◌-◌, ◌<◌, ◌≤◌, ◌⊎◌, List, [], length, Result, Ok, Err, Some, inl, inr, refl, sym, ◌∙◌, ap, subst, arith}
use Rattle.std.specs.Prelude.{IfErr, IfOk}
use Rattle.std.proofs.lemmas.Bool.{cases_eq}
use Rattle.std.proofs.lemmas.Option.{slice_get-get_or}
use Rattle.puz_board.specs.Boards.{IsBoardOf, side_of}
use Rattle.puz_board.proofs.BoardLemmas.{side_of-board}
use Rattle.tab_rule.proofs.ValueLemmas.{same_list_decided}
use Rattle.set_sum.specs.Bundles.{ShownBundle, IsBundle}
use Rattle.set_sum.proofs.AnswerLemmas.{all_get}
use Rattle.log_file.specs.FormFaults as form
use Rattle.log_file.specs.LogFiles.{IsLogFile}
use Rattle.log_file.specs.Logs.{IsLog, Lemma, Log}
use Rattle.log_file.specs.declared.faults.FormFault.{FormFault}
use Rattle.log_file.proofs.AnswerLemmas.{file_answer}
use Rattle.log_file.proofs.FileLemmas.{no_fault, one_log, one_fault as one_form_fault}
use Rattle.log_check.specs.GoodLogs.{IsGoodFile, IsGoodLog, IsLast, IsLogFor}
use Rattle.log_check.specs.LogFaults.{AreOfOneSide, IsCauseOfLogFault, IsLogRefusalOf, IsFirstBadLemma}
use Rattle.log_check.specs.declared.faults.LogFault.{LogFault}
use Rattle.log_check.specs.declared.faults.LogFault.TheVariants.{Memory, Refused}
use Rattle.log_check.specs.declared.faults.LogRefusal.{LogRefusal}
use Rattle.log_check.specs.declared.faults.LogRefusal.TheVariants.{Form, L4, L5, L6}
use Rattle.log_check.proofs.FirstBadLemmas.{good_or_first_bad}

-- ---- one log

last_one : (lemmas : List Lemma) (a b : Lemma) → IsLast lemmas a → IsLast lemmas b → a ≡ b
last_one lemmas a b is also = let both : Some a ≡ Some b = sym is ∙ also in cc

-- a log has one
pub last_some : (log : Log) → IsLog log → (last : Lemma) × IsLast log.lemmas last
last_some log is =
    let some : 1 ≤ length log.lemmas = is.size.some in
    (_, slice_get-get_or log.lemmas (length log.lemmas - 1) (record { board = []; bound = 0; tree = [] }) (omega arith))

module _ (v : ShownBundle) (b : List ℕ) (log : Log) where
  of_one_side : IsLog log → (last : Lemma) → IsLogFor v log b last → AreOfOneSide v log b
  of_one_side is last is_for =
      let board = all_get (λ lemma. IsBoardOf log.side lemma.board) log.lemmas (length log.lemmas - 1) last is_for.is_last is.boards in
      record { log_side = is_for.side; board_side = ap side_of (sym is_for.board) ∙ side_of-board log.side last.board board ∙ is_for.side }

  -- what stands of a log file, in the order of the faults
  abbrev Stands : LogRefusal → Type 0
  Stands (Form fault) = ⊥
  Stands L4 = ¬ AreOfOneSide v log b
  Stands L5 = (last : Lemma) × AreOfOneSide v log b × IsLast log.lemmas last × (last.board ≢ b)
  Stands (L6 i) = (last : Lemma) × IsLogFor v log b last × IsFirstBadLemma v log i

  first_bad_one : (i j : ℕ) → IsFirstBadLemma v log i → IsFirstBadLemma v log j → i ≡ j
  first_bad_one i j is also =
      let no_less : i < j → ⊥ = λ l. is.bad (also.before i l) in
      let no_more : j < i → ⊥ = λ l. also.bad (is.before j l) in
      omega arith

  no_other_board : (a last : Lemma) → IsLogFor v log b a → IsLast log.lemmas last → ¬ (last.board ≢ b)
  no_other_board a last is_for is_last other = other (ap (λ lemma. lemma.board) (last_one log.lemmas last a is_last is_for.is_last) ∙ is_for.board)

  stands_one : IsLog log → (f g : LogRefusal) → Stands f → Stands g → f ≡ g
  stands_one is (Form f) g none also = absurd none
  stands_one is L4 (Form g) stands none = absurd none
  stands_one is L4 L4 stands also = refl
  stands_one is L4 L5 stands also = absurd (stands also.1)
  stands_one is L4 (L6 j) stands also = absurd (stands (of_one_side is also.0 also.1))
  stands_one is L5 (Form g) stands none = absurd none
  stands_one is L5 L4 stands also = absurd (also stands.1)
  stands_one is L5 L5 stands also = refl
  stands_one is L5 (L6 j) stands also = absurd (no_other_board also.0 stands.0 also.1 stands.2 stands.3)
  stands_one is (L6 i) (Form g) stands none = absurd none
  stands_one is (L6 i) L4 stands also = absurd (also (of_one_side is stands.0 stands.1))
  stands_one is (L6 i) L5 stands also = absurd (no_other_board stands.0 also.0 stands.1 also.2 also.3)
  stands_one is (L6 i) (L6 j) stands also = ap L6 (first_bad_one i j stands.2 also.2)

  none_stands : IsLog log → (bound : ℕ) → IsGoodLog v log b bound → (f : LogRefusal) → ¬ Stands f
  none_stands is bound good (Form f) none = none
  none_stands is bound good L4 stands = stands (of_one_side is good.last good.is_for)
  none_stands is bound good L5 stands = no_other_board good.last stands.0 good.is_for stands.2 stands.3
  none_stands is bound good (L6 i) stands = stands.2.bad (good.good i stands.2.there)

-- ---- one file

module _ (v : ShownBundle) (b file : List ℕ) where
  -- a fault is one of the form, or stands of the file's log
  fault_of : (f : LogRefusal) → IsLogRefusalOf f v b file
      → ((fault : FormFault) × (f ≡ Form fault) × form.IsFormFaultOf fault file) ⊎ ((log : Log) × IsLogFile log file × Stands v b log f)
  fault_of (Form fault) is = inl (fault, refl, is)
  fault_of L4 is = inr is
  fault_of L5 is = inr (is.0, is.2, (is.1, is.3, is.4, is.5))
  fault_of (L6 i) is = inr (is.0, is.2, (is.1, is.3, is.4))

  -- a file is that of good logs for one bound of the board at most
  pub one_bound : (m n : ℕ) → IsGoodFile v b file m → IsGoodFile v b file n → m ≡ n
  one_bound m n is also =
      let same : also.log ≡ is.log = one_log file also.log is.log also.is_file is.is_file in
      let last = last_one is.log.lemmas is.good.last also.good.last is.good.is_for.is_last
      (subst (λ log. IsLast log.lemmas also.good.last) same also.good.is_for.is_last) in
      sym is.good.bound_is ∙ ap (λ lemma. lemma.bound) last ∙ also.good.bound_is

  -- a file has at most one fault as the log for a board
  pub one_fault : (f g : LogRefusal) → IsLogRefusalOf f v b file → IsLogRefusalOf g v b file → f ≡ g
  one_fault f g is also = elim (fault_of f is) [
    | inl a ↦ elim (fault_of g also) [
      | inl c ↦ a.1 ∙ ap Form (one_form_fault file a.0 c.0 a.2 c.2) ∙ sym c.1
      | inr c ↦ absurd (no_fault file c.0 a.0 c.1 a.2)
    ]
    | inr a ↦ elim (fault_of g also) [
      | inl c ↦ absurd (no_fault file a.0 c.0 a.1 c.2)
      | inr c ↦ stands_one v b c.0 c.1.is_log f g (subst (λ log. Stands v b log f) (one_log file a.0 c.0 a.1 c.1) a.2) c.2
    ]
  ]

  -- the file of a good log for the board has no fault
  pub good_or_fault : (bound : ℕ) (f : LogRefusal) → IsGoodFile v b file bound → ¬ IsLogRefusalOf f v b file
  good_or_fault bound f good is = elim (fault_of f is) [
    | inl a ↦ no_fault file good.log a.0 good.is_file a.2
    | inr a ↦ none_stands v b good.log good.is_file.is_log bound good.good f (subst (λ log. Stands v b log f) (one_log file a.0 good.log a.1 good.is_file) a.2)
  ]

  -- ---- what is answered

  -- the bound of a good log is what is answered of its file, or memory is wanting
  pub good_answered : (r : Result ℕ LogFault) → IfOk r (IsGoodFile v b file) → IfErr r (λ fault. IsCauseOfLogFault fault v b file)
      → (bound : ℕ) → IsGoodFile v b file bound → (r ≡ Ok bound) ⊎ (r ≡ Err Memory)
  good_answered (Ok found) ok err bound good = inl (ap Ok (one_bound found bound ok good))
  good_answered (Err Memory) ok err bound good = inr refl
  good_answered (Err (Refused fault)) ok err bound good = absurd (good_or_fault bound fault good err)

  -- a fault of the form is what is answered of a file, and memory is never wanting
  pub form_answered : (r : Result ℕ LogFault) → IfOk r (IsGoodFile v b file) → IfErr r (λ fault. IsCauseOfLogFault fault v b file)
      → (fault : FormFault) → form.IsFormFaultOf fault file → r ≡ Err (Refused (Form fault))
  form_answered (Ok found) ok err fault is = absurd (good_or_fault found (Form fault) ok is)
  form_answered (Err Memory) ok err fault is = absurd (no_fault file err.0 fault err.1 is)
  form_answered (Err (Refused other)) ok err fault is = ap (λ f. Err (Refused f)) (one_fault other (Form fault) err is)

  -- any fault is what is answered of a file, or memory is wanting
  pub fault_answered : (r : Result ℕ LogFault) → IfOk r (IsGoodFile v b file) → IfErr r (λ fault. IsCauseOfLogFault fault v b file)
      → (fault : LogRefusal) → IsLogRefusalOf fault v b file → (r ≡ Err (Refused fault)) ⊎ (r ≡ Err Memory)
  fault_answered (Ok found) ok err fault is = absurd (good_or_fault found fault ok is)
  fault_answered (Err Memory) ok err fault is = inr refl
  fault_answered (Err (Refused other)) ok err fault is = inl (ap (λ f. Err (Refused f)) (one_fault other fault err is))

-- ---- there is an answer

module _ (v : ShownBundle) (is : IsBundle v) (b file : List ℕ) where
  abbrev Answer : Type 0
  Answer = ((bound : ℕ) × IsGoodFile v b file bound) ⊎ ((f : LogRefusal) × IsLogRefusalOf f v b file)

  module _ (log : Log) (is_file : IsLogFile log file) where
    lemmas_answer : (last : Lemma) → IsLogFor v log b last → Answer
    lemmas_answer last is_for = elim (good_or_first_bad v is log is_file.is_log is_for.side) [
      | inl all ↦ inl (last.bound, record { log = log; is_file = is_file; good = record { last = last; is_for = is_for; bound_is = refl; good = all } })
      | inr first ↦ inr (L6 first.0, (log, last, is_file, is_for, first.1))
    ]

    board_answer : AreOfOneSide v log b → Answer
    board_answer sides =
        let last = last_some log is_file.is_log in
        elim (same_list_decided last.0.board b) [
          | inl same ↦ lemmas_answer last.0 (record { side = sides.log_side; is_last = last.1; board = same })
          | inr other ↦ inr (L5, (log, last.0, is_file, sides, last.1, other))
        ]

    log_answer : Answer
    log_answer = elim (cases_eq log.side v.side) [
      | inr other ↦ inr (L4, (log, is_file, λ sides. other sides.log_side))
      | inl log_side ↦ elim (cases_eq (side_of b) v.side) [
        | inr other ↦ inr (L4, (log, is_file, λ sides. other sides.board_side))
        | inl board_side ↦ board_answer (record { log_side = log_side; board_side = board_side })
      ]
    ]

  -- over a bundle, a file is that of a good log for the board or has a fault
  pub check_answer : Answer
  check_answer = elim (file_answer file) [ inl has ↦ log_answer has.0 has.1 | inr fault ↦ inr (Form fault.0, fault.1) ]
