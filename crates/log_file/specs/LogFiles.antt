-- Log files: a header, and behind it the lemmas, one after the other.
-- The places of bytes are counted from 0, and a number of several bytes has its highest byte first.
use Rattle.std.specs.Prelude.{◌≡◌, ℕ, ◌+◌, ◌*◌, ◌≤◌, ◌^◌, List, [], ◌∷◌, codes, drop, length, slice_index, take}
use Rattle.byteorder.specs.Endian.{big_number}
use Rattle.log_file.specs.Logs.{IsLog, Lemma, Log}

-- ---- the header

-- how many bytes it has
abbrev pub header_length : ℕ
header_length = 10

-- how it begins: the letters of the format
abbrev pub log_signature : List ℕ
log_signature = codes "PDBL"

-- the version of the format
abbrev pub version_in : List ℕ → ℕ
version_in file = slice_index file 4

-- the side of the boards
abbrev pub log_side_in : List ℕ → ℕ
log_side_in file = slice_index file 5

-- how many lemmas there are
abbrev pub lemma_count_in : List ℕ → ℕ
lemma_count_in file = big_number 4 (drop 6 file)

-- the first bytes are the header of a log of this version and side and so many lemmas
pub record IsLogHeader (version side count : ℕ) (file : List ℕ) : Type 0 where
  pub room : header_length ≤ length file
  pub begins : take 4 file ≡ log_signature
  pub is_version : version_in file ≡ version
  pub is_side : log_side_in file ≡ side
  pub is_count : lemma_count_in file ≡ count

-- ---- the lemma at the front of bytes, for boards of side n

-- how many bytes stand between its board and its tree: one for the bound, four for the length of the tree
abbrev pub bound_and_length : ℕ
bound_and_length = 5

-- how many bytes come before its tree: the board's numbers among them
abbrev pub head_length : ℕ → ℕ
head_length n = n * n + bound_and_length

-- how many bytes its tree is to have
abbrev pub tree_length : ℕ → List ℕ → ℕ
tree_length n bytes = big_number 4 (drop (n * n + 1) bytes)

-- the lemma itself: its board, its bound and the bytes of its tree
abbrev pub front_lemma : ℕ → List ℕ → Lemma
front_lemma n bytes = record {
  board = take (n * n) bytes;
  bound = slice_index bytes (n * n);
  tree = take (tree_length n bytes) (drop (head_length n) bytes);
}

-- the bytes behind it
abbrev pub behind : ℕ → List ℕ → List ℕ
behind n bytes = drop (head_length n + tree_length n bytes) bytes

-- it isn't cut short
pub record HasLemma (n : ℕ) (bytes : List ℕ) : Type 0 where
  pub head : head_length n ≤ length bytes
  pub whole : head_length n + tree_length n bytes ≤ length bytes

-- ---- log files

-- the most bytes of one
abbrev pub most_log_bytes : ℕ
most_log_bytes = 2 ^ 30

-- the bytes are these lemmas, one after the other, and nothing more
abbrev pub AreLemmas : ℕ → List Lemma → List ℕ → Type 0
AreLemmas n [] bytes = bytes ≡ []
AreLemmas n (lemma ∷ more) bytes = HasLemma n bytes × (lemma ≡ front_lemma n bytes) × AreLemmas n more (behind n bytes)

-- the header of the log, and then its lemmas
pub record IsLogFile (log : Log) (file : List ℕ) : Type 0 where
  pub is_log : IsLog log
  pub header : IsLogHeader log.version log.side (length log.lemmas) file
  pub lemmas : AreLemmas log.side log.lemmas (drop header_length file)
