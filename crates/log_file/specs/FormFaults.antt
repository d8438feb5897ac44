-- What keeps bytes from being a log file.
use Rattle.std.specs.Prelude.{◌≡◌, ◌≢◌, ◌⊎◌, ℕ, zero, suc, ◌<◌, List, [], drop}
use Rattle.puz_board.specs.Boards.{IsBoardOf}
use Rattle.log_file.specs.Logs.{IsSize, IsVersion}
use Rattle.log_file.specs.LogFiles.{HasLemma, IsLogHeader, behind, lemma_count_in, front_lemma, header_length, log_side_in, version_in}
use Rattle.log_file.specs.declared.faults.FormFault.{FormFault}
use Rattle.log_file.specs.declared.faults.FormFault.TheVariants.{L1, L2, L3}

-- the header is that of a log of some version, some side and some number of lemmas
pub record HasHeader (file : List ℕ) : Type 0 where
  pub header : IsLogHeader (version_in file) (log_side_in file) (lemma_count_in file) file
  pub version : IsVersion (version_in file)
  pub size : IsSize (log_side_in file) (lemma_count_in file)

-- the bytes behind the first lemmas, so many of them
abbrev pub behind_first : ℕ → ℕ → List ℕ → List ℕ
behind_first n zero bytes = bytes
behind_first n (suc i) bytes = behind_first n i (behind n bytes)

-- they aren't cut short
abbrev pub AreWhole : ℕ → ℕ → List ℕ → Type 0
AreWhole n count bytes = (i : ℕ) → i < count → HasLemma n (behind_first n i bytes)

-- the lemma with this number is the first that is cut short
pub record IsFirstCut (n count : ℕ) (bytes : List ℕ) (i : ℕ) : Type 0 where
  pub within : i < count
  pub whole : AreWhole n i bytes
  pub cut : ¬ HasLemma n (behind_first n i bytes)

-- bytes are left over behind the last of so many lemmas
pub record IsLeftOver (n count : ℕ) (bytes : List ℕ) : Type 0 where
  pub whole : AreWhole n count bytes
  pub rest : behind_first n count bytes ≢ []

-- the bytes are so many lemmas, none of them cut short
pub record AreFilled (n count : ℕ) (bytes : List ℕ) : Type 0 where
  pub whole : AreWhole n count bytes
  pub rest : behind_first n count bytes ≡ []

-- the numbers of the first boards, so many of them, are boards
abbrev pub AreBoards : ℕ → ℕ → List ℕ → Type 0
AreBoards n count bytes = (i : ℕ) → i < count → IsBoardOf n (front_lemma n (behind_first n i bytes)).board

-- the lemma with this number is the first whose board isn't one
pub record IsFirstNoBoard (n count : ℕ) (bytes : List ℕ) (i : ℕ) : Type 0 where
  pub filled : AreFilled n count bytes
  pub within : i < count
  pub boards : AreBoards n i bytes
  pub no_board : ¬ IsBoardOf n (front_lemma n (behind_first n i bytes)).board

-- the fault stands, and none of those before it
abbrev pub IsFormFaultOf : FormFault → List ℕ → Type 0
IsFormFaultOf L1 file = ¬ HasHeader file
IsFormFaultOf (L2 i) file = HasHeader file
    × (IsFirstCut (log_side_in file) (lemma_count_in file) (drop header_length file) i
    ⊎ ((i ≡ lemma_count_in file) × IsLeftOver (log_side_in file) (lemma_count_in file) (drop header_length file)))
IsFormFaultOf (L3 i) file = HasHeader file × IsFirstNoBoard (log_side_in file) (lemma_count_in file) (drop header_length file) i
