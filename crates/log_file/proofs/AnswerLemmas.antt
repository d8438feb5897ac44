-- Each file is a log's or has a fault.
use Rattle.std.proofs.Common.{◌≡◌, ◌≢◌, ℕ, zero, suc, ◌+◌, ◌*◌, ◌<◌, ◌≤◌, ◌⊎◌, List, [], ◌∷◌, length, drop, take, inl, inr, refl, sym, subst, arith}
use Rattle.std.proofs.lemmas.Bool.{cases_eq, cases_lt}
use Rattle.puz_board.specs.Boards.{IsBoardOf, at}
use Rattle.log_file.specs.Logs.{IsSize, IsVersion, Log, most_lemmas}
use Rattle.log_file.specs.LogFiles.{HasLemma, IsLogFile, lemma_count_in, front_lemma, head_length, header_length, log_side_in, log_signature}
use Rattle.log_file.specs.LogFiles.{tree_length, version_in}
use Rattle.log_file.specs.FormFaults.{AreFilled, HasHeader, IsFormFaultOf, behind_first}
use Rattle.log_file.specs.FirstLemmas.{first_lemmas}
use Rattle.log_file.specs.declared.faults.FormFault.{FormFault}
use Rattle.log_file.specs.declared.faults.FormFault.TheVariants.{L1, L2, L3}
use Rattle.log_file.proofs.FileLemmas.{IsLogFile-first}

-- ---- what can be told

abbrev Decided : Type 0 → Type 0
Decided A = A ⊎ (¬ A)

lists_decided : (xs ys : List ℕ) → (xs ≡ ys) ⊎ (xs ≢ ys)
lists_decided [] [] = inl refl
lists_decided [] (y ∷ ys) = inr (λ e. cc)
lists_decided (x ∷ xs) [] = inr (λ e. cc)
lists_decided (x ∷ xs) (y ∷ ys) = elim (cases_eq x y) [
  | inr other ↦ inr (λ e. other (let same : x ≡ y = cc in same))
  | inl same ↦ elim (lists_decided xs ys) [
    | inl more ↦ inl (λ i. same i ∷ more i)
    | inr other ↦ inr (λ e. other (let more : xs ≡ ys = cc in more))
  ]
]

-- all numbers below m are of a kind, or one is the first that isn't
module _ (A : ℕ → Type 0) (decided : (k : ℕ) → Decided (A k)) where
  all_or_first : (m : ℕ) → ((k : ℕ) → k < m → A k) ⊎ ((i : ℕ) × (i < m) × ((k : ℕ) → k < i → A k) × ¬ A i)
  all_or_first zero = inl (λ k none. absurd (omega arith))
  all_or_first (suc m) = elim (all_or_first m) [
    | inr first ↦ inr (first.0, (let l : first.0 < m = first.1 in omega arith), first.2, first.3)
    | inl before ↦ elim (decided m) [
      | inr not ↦ inr (m, omega arith, before, not)
      | inl is ↦ inl (λ k l. elim (cases_lt k m) [
        | inl less ↦ before k less
        | inr more ↦ let same : m ≡ k = omega arith in subst A same is
      ])
    ]
  ]

  all_decided : (m : ℕ) → Decided ((k : ℕ) → k < m → A k)
  all_decided m = elim (all_or_first m) [ inl all ↦ inl all | inr first ↦ inr (λ all. first.3 (all first.0 first.1)) ]

at_most_decided : (m n : ℕ) → Decided (m ≤ n)
at_most_decided m n = elim (cases_lt n m) [ inl more ↦ inr (λ l. let less : m ≤ n = l in omega arith) | inr l ↦ inl l ]

below_decided : (m n : ℕ) → Decided (m < n)
below_decided m n = elim (cases_lt m n) [ inl l ↦ inl l | inr more ↦ inr (λ l. let less : m < n = l in omega arith) ]

-- ---- boards

module _ (n : ℕ) (b : List ℕ) where
  abbrev Differs : ℕ → ℕ → Type 0
  Differs d c = at b c ≢ at b d

  differs_decided : (d c : ℕ) → Decided (Differs d c)
  differs_decided d c = elim (cases_eq (at b c) (at b d)) [ inl same ↦ inr (λ other. other same) | inr other ↦ inl other ]

  distinct_decided : Decided ((d : ℕ) → d < n * n → (c : ℕ) → c < d → Differs d c)
  distinct_decided = all_decided (λ d. (c : ℕ) → c < d → Differs d c) (λ d. all_decided (Differs d) (differs_decided d) d) (n * n)

  distinct_from : ((d : ℕ) → d < n * n → (c : ℕ) → c < d → Differs d c) → (c d : ℕ) → c < n * n → d < n * n → at b c ≡ at b d → c ≡ d
  distinct_from differ c d l m e = elim (cases_lt c d) [
    | inl less ↦ absurd (differ d m c less e)
    | inr more ↦ elim (cases_lt d c) [ inl less ↦ absurd (differ c l d less (sym e)) | inr most ↦ omega arith ]
  ]

  distinct_differ : IsBoardOf n b → (d : ℕ) → d < n * n → (c : ℕ) → c < d → Differs d c
  distinct_differ is d m c l e = let same : c ≡ d = is.distinct c d (omega arith) m e in omega arith

  board_decided : Decided (IsBoardOf n b)
  board_decided = elim (at_most_decided 2 n) [
    | inr not ↦ inr (λ is. not is.low)
    | inl low ↦ elim (at_most_decided n 5) [
      | inr not ↦ inr (λ is. not is.high)
      | inl high ↦ elim (cases_eq (length b) (n * n)) [
        | inr not ↦ inr (λ is. not is.size)
        | inl size ↦ elim (all_decided (λ c. at b c < n * n) (λ c. below_decided (at b c) (n * n)) (n * n)) [
          | inr not ↦ inr (λ is. not is.below)
          | inl below ↦ elim distinct_decided [
            | inr not ↦ inr (λ is. not (distinct_differ is))
            | inl differ ↦ inl (record { low = low; high = high; size = size; below = below; distinct = distinct_from differ })
          ]
        ]
      ]
    ]
  ]

-- ---- files

size_decided : (side count : ℕ) → Decided (IsSize side count)
size_decided side count = elim (at_most_decided 2 side) [
  | inr not ↦ inr (λ is. not is.low)
  | inl low ↦ elim (at_most_decided side 5) [
    | inr not ↦ inr (λ is. not is.high)
    | inl high ↦ elim (at_most_decided 1 count) [
      | inr not ↦ inr (λ is. not is.some)
      | inl some ↦ elim (at_most_decided count most_lemmas) [
        | inr not ↦ inr (λ is. not is.few)
        | inl few ↦ inl (record { low = low; high = high; some = some; few = few })
      ]
    ]
  ]
]

version_decided : (version : ℕ) → Decided (IsVersion version)
version_decided version = elim (cases_eq version 1) [
  | inl one ↦ inl (inl one)
  | inr other ↦ elim (cases_eq version 2) [ inl two ↦ inl (inr two) | inr none ↦ inr (λ is. elim is [ inl one ↦ other one | inr two ↦ none two ]) ]
]

header_decided : (file : List ℕ) → Decided (HasHeader file)
header_decided file = elim (at_most_decided header_length (length file)) [
  | inr not ↦ inr (λ has. not has.header.room)
  | inl room ↦ elim (lists_decided (take 4 file) log_signature) [
    | inr not ↦ inr (λ has. not has.header.begins)
    | inl begins ↦ elim (version_decided (version_in file)) [
      | inr not ↦ inr (λ has. not has.version)
      | inl version ↦ elim (size_decided (log_side_in file) (lemma_count_in file)) [
        | inr not ↦ inr (λ has. not has.size)
        | inl size ↦ inl (record {
          header = record { room = room; begins = begins; is_version = refl; is_side = refl; is_count = refl };
          version = version;
          size = size;
        })
      ]
    ]
  ]
]

lemma_decided : (n : ℕ) (bytes : List ℕ) → Decided (HasLemma n bytes)
lemma_decided n bytes = elim (at_most_decided (head_length n) (length bytes)) [
  | inr not ↦ inr (λ has. not has.head)
  | inl head ↦ elim (at_most_decided (head_length n + tree_length n bytes) (length bytes)) [
    | inr not ↦ inr (λ has. not has.whole)
    | inl whole ↦ inl (record { head = head; whole = whole })
  ]
]

module _ (file : List ℕ) (has : HasHeader file) where
  abbrev n : ℕ
  n = log_side_in file

  abbrev count : ℕ
  count = lemma_count_in file

  abbrev bytes : List ℕ
  bytes = drop header_length file

  boards_answer : AreFilled n count bytes → ((log : Log) × IsLogFile log file) ⊎ ((fault : FormFault) × IsFormFaultOf fault file)
  boards_answer filled = elim (all_or_first (λ i. IsBoardOf n (front_lemma n (behind_first n i bytes)).board) (λ i. board_decided n _) count) [
    | inl all ↦ inl (_, IsLogFile-first (version_in file) n count file has.header has.version has.size (first_lemmas n count bytes) filled all refl)
    | inr first ↦ inr (L3 first.0, (has, record { filled = filled; within = first.1; boards = first.2; no_board = first.3 }))
  ]

  lemmas_answer : ((log : Log) × IsLogFile log file) ⊎ ((fault : FormFault) × IsFormFaultOf fault file)
  lemmas_answer = elim (all_or_first (λ i. HasLemma n (behind_first n i bytes)) (λ i. lemma_decided n (behind_first n i bytes)) count) [
    | inr first ↦ inr (L2 first.0, (has, inl (record { within = first.1; whole = first.2; cut = first.3 })))
    | inl whole ↦ elim (lists_decided (behind_first n count bytes) []) [
      | inr more ↦ inr (L2 count, (has, inr (refl, record { whole = whole; rest = more })))
      | inl none ↦ boards_answer (record { whole = whole; rest = none })
    ]
  ]

-- any bytes are the file of a log or have a fault of form
pub file_answer : (file : List ℕ) → ((log : Log) × IsLogFile log file) ⊎ ((fault : FormFault) × IsFormFaultOf fault file)
file_answer file = elim (header_decided file) [ inl has ↦ lemmas_answer file has | inr none ↦ inr (L1, none) ]
