-- Parts of a bound, joined: what lines of `prove` tell of them. The byte of LF is 10.
use Rattle.std.specs.Prelude.{◌≡◌, ℕ, ◌<◌, ◌-◌, ◌==◌, Bool, true, false, not, if◌then◌else◌, codes, filter, flat_map, length, map, take, List, [], ◌∷◌, ◌++◌, Option, Some, None}
use Rattle.std.specs.List.{All, list_all, list_any, range_with_len, slice_split}
use Rattle.std.specs.Str.{bytes_eq}
use Rattle.puz_goal.specs.Goals.{SolvesFor}
use Rattle.puz_goal.specs.declared.goals.Goal.{Goal}
use Rattle.claim_text.specs.Claims as claims
use Rattle.claim_text.specs.Claims.{ShownClaim}
use Rattle.claim_text.specs.Lines.{claim_line, joined_line, part_bounded, refused, shorter, told_line}
use Rattle.claim_text.specs.Parts.{part_at, part_claim}
use Rattle.byte_io.specs.Shelf.{Bytes}
use Rattle.pdb_run.specs.Commands.{Reply}

-- the whole lines of a text, each with its LF: its pieces between LFs, but for the last one, which has none behind it
abbrev pub whole_lines : List ℕ → List (List ℕ)
whole_lines text =
    let pieces = slice_split (λ byte. byte == 10) text in map (λ piece. piece ++ codes "\n") (take (length pieces - 1) pieces)

-- a bound of a board in so many parts
pub record ShownBoundInParts : Type 0 where
  pub board : List ℕ
  pub bound : ℕ
  pub count : ℕ
  -- where the blank is at home
  pub goal : Goal

-- the claim that its part with this index holds
abbrev pub claim_of : ShownBoundInParts → ℕ → ShownClaim
claim_of asked index = part_claim asked.count asked.bound asked.board index

-- ---- the parts that hold

-- the line that says that the part with this index holds
abbrev pub part_line : ShownBoundInParts → ℕ → List ℕ
part_line asked index = told_line asked.goal (part_bounded (part_at asked.count index) asked.bound asked.board)

-- one of the lines says so
abbrev pub is_told : List (List ℕ) → ShownBoundInParts → ℕ → Bool
is_told lines asked index = list_any (λ line. bytes_eq line (part_line asked index)) lines

-- of each part one of the lines says so
abbrev pub are_told : List (List ℕ) → ShownBoundInParts → Bool
are_told lines asked = list_all (is_told lines asked) (range_with_len 0 asked.count)

-- ---- the parts that are open

-- the line of the claim that the part with this index holds
abbrev pub open_claim : ShownBoundInParts → ℕ → List ℕ
open_claim asked index = claim_line (claim_of asked index)

-- such lines, of the parts that no line says to hold
abbrev pub open_claims : List (List ℕ) → ShownBoundInParts → List ℕ
open_claims lines asked = flat_map (open_claim asked) (filter (λ index. not (is_told lines asked index)) (range_with_len 0 asked.count))

-- ---- a bound that is false

-- the line says of one of the parts that these moves show the claim to be false, and they do: they solve the board, and are fewer
pub record Refutes (asked : ShownBoundInParts) (line moves : List ℕ) : Type 0 where
  pub index : ℕ
  pub below : index < asked.count
  pub is : line ≡ told_line asked.goal (refused (codes "refused O2 by" ++ moves) (claim_of asked index))
  pub count : ℕ
  pub solves : SolvesFor asked.goal asked.board moves count
  pub fewer : count < asked.bound

-- the line shows no such moves
abbrev pub RefutesNot : ShownBoundInParts → List ℕ → Type 0
RefutesNot asked line = (moves : List ℕ) → ¬ Refutes asked line moves

-- these are the moves that the first of the lines shows which shows any
abbrev pub AreFirstMoves : ShownBoundInParts → List (List ℕ) → Option (List ℕ) → Type 0
AreFirstMoves asked lines None = All (RefutesNot asked) lines
AreFirstMoves asked lines (Some moves) =
    (before : List (List ℕ)) × (line : List ℕ) × (behind : List (List ℕ))
    × (lines ≡ before ++ line ∷ behind) × All (RefutesNot asked) before × Refutes asked line moves

-- ---- what is said

-- the bound, behind the digests of the texts that were read
abbrev pub bound_reply : List Bytes → ShownBoundInParts → Reply
bound_reply texts asked = record { digested = texts; made = None; lines = joined_line asked.goal asked.bound asked.count asked.board; is_yes = true }

-- the claims that are open
abbrev pub open_reply : List Bytes → ShownBoundInParts → Reply
open_reply texts asked = record { digested = []; made = None; lines = open_claims (flat_map whole_lines texts) asked; is_yes = false }

-- that these moves show that the bound is false, in the words of `prove`
abbrev pub false_reply : ShownBoundInParts → List ℕ → Reply
false_reply asked moves =
    record { digested = []; made = None; lines = told_line asked.goal (shorter moves (record { board = asked.board; asks = claims.bound asked.bound })); is_yes = false }

-- one of these, where the lines of these texts show these moves, if any
abbrev pub joined_reply : List Bytes → ShownBoundInParts → Option (List ℕ) → Reply
joined_reply texts asked (Some moves) = false_reply asked moves
joined_reply texts asked None = if are_told (flat_map whole_lines texts) asked then bound_reply texts asked else open_reply texts asked
