-- Why words ask for nothing.
use Rattle.std.specs.Prelude.{◌≡◌, ◌≢◌, ⊤, ℕ, ◌==◌, Bool, ◌&&◌, ◌||◌, true, List, ◌++◌, codes, decimal, if◌then◌else◌, nat_le, nat_lt, string_bytes}
use Rattle.std.specs.List.{list_all}
use Rattle.clap.specs.Walk.{Text}
use Rattle.clap.specs.Kinds.{IsAmong}
use Rattle.clap.specs.declared.error.kind.ErrorKind.{ErrorKind}
use Rattle.clap.specs.declared.error.kind.ErrorKind.TheVariants.{DisplayHelp, DisplayVersion}
use Rattle.pdb_words.specs.CommandLine.{faults_of}
use Rattle.pdb_words.specs.declared.faults.WordFault.{WordFault}
use Rattle.pdb_words.specs.declared.faults.WordFault.TheVariants as fault

-- a wish for help is among what is wrong with the words
abbrev pub AsksForHelp : List Text → Type 0
AsksForHelp words = IsAmong DisplayHelp (faults_of words)

-- a wish for the version is among it
abbrev pub AsksForVersion : List Text → Type 0
AsksForVersion words = IsAmong DisplayVersion (faults_of words)

-- something is wrong with the words that is no wish for help or for the version
pub record IsMistaken (words : List Text) : Type 0 where
  pub kind : ErrorKind
  pub among : IsAmong kind (faults_of words)
  pub no_help : kind ≢ DisplayHelp
  pub no_version : kind ≢ DisplayVersion

-- the words give cause for the fault
abbrev pub IsCauseOfWordFault : List Text → WordFault → Type 0
IsCauseOfWordFault words (fault.Help text) = AsksForHelp words
IsCauseOfWordFault words fault.Version = AsksForVersion words
IsCauseOfWordFault words (fault.Mistake text) = IsMistaken words
IsCauseOfWordFault words fault.Memory = ⊤

-- a mistake, or want of memory
abbrev pub IsMistakeOrMemory : WordFault → Type 0
IsMistakeOrMemory (fault.Mistake text) = ⊤
IsMistakeOrMemory fault.Memory = ⊤
IsMistakeOrMemory other = ⊥

-- the byte is LF, which is 10, or that of a printable character of ASCII
abbrev pub is_plain_byte : ℕ → Bool
is_plain_byte byte = (byte == 10) || (nat_le 32 byte && nat_lt byte 127)

-- what is shown for a byte in the text of a mistake: `?`, which is 63, for any other
abbrev pub plain_byte : ℕ → ℕ
plain_byte byte = if is_plain_byte byte then byte else 63

-- the text of a mistake has plain bytes alone
abbrev pub IsPlainlySaid : WordFault → Type 0
IsPlainlySaid (fault.Mistake text) = list_all is_plain_byte (string_bytes text) ≡ true
IsPlainlySaid other = ⊤

-- the line of the version
abbrev pub version_line : List ℕ
version_line = codes "pdb_cli 0.2.0\n"

-- what is said of a word that is no UTF-8 text: that of this number, from 1
abbrev pub unreadable_word : ℕ → List ℕ
unreadable_word place = codes "error: word " ++ decimal place
    ++ codes " is no UTF-8 text\n\nUsage: pdb_cli [COMMAND]\n\nFor more information, try '--help'.\n"
