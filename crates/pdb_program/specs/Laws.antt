-- What holds of runs of `prove` and a run of `parts` together.
use Rattle.std.specs.Prelude.{◌≡◌, ℕ, ◌≤◌, List, Option, Some, map}
use Rattle.std.specs.List.{All}
use Rattle.std.specs.Option.{option_map_or}
use Rattle.puz_board.specs.BoardTexts.{Spells}
use Rattle.puz_goal.specs.Goals.{IsBoundedFor}
use Rattle.puz_goal.specs.declared.goals.Goal.{Goal}
use Rattle.claim_text.specs.Parts.{AreParts}
use Rattle.byte_io.specs.Shelf.{Bytes}
use Rattle.pdb_request.specs.Asked.{PartsArguments, ProveArguments, parts, prove}
use Rattle.pdb_program.specs.Headline.{HasLine, Headline, SaysPart, SaysYes}

-- some run of `prove` for the goal wrote the line, whatever sets and tables it had, and however it ended
abbrev pub IsOfProve : Goal → Bytes → Type 0
IsOfProve goal line =
    (a : ProveArguments) × (a.goal ≡ goal) × (before : Bytes → Option Bytes) × (later : Bytes → Option Bytes) × (input : Bytes) × (lines : Bytes) × (status : ℕ)
    × Headline (prove a) before later input lines status × (above : Bytes) × (below : Bytes) × HasLine above line below lines

-- each whole line of the text that says that a part of a bound holds is such a line
abbrev pub HasPartsOfProve : Goal → Bytes → Type 0
HasPartsOfProve goal text = (above line below : Bytes) → HasLine above line below text → SaysPart line → IsOfProve goal line

-- where such lines alone say so of parts, in the answers that `parts` reads, and it says a yes, no solution of its board has fewer
-- moves than its bound
abbrev pub PartsOfProveGiveTheBound : Type 0
PartsOfProveGiveTheBound =
    (a : PartsArguments) (before later : Bytes → Option Bytes) (input lines : Bytes) (status : ℕ) (answers : List Bytes)
    → AreParts a.count → a.bound ≤ 255 → Headline (parts a) before later input lines status
    → map before a.answers ≡ map Some answers → All (HasPartsOfProve a.goal) answers
    → (above line below : Bytes) → HasLine above line below lines → SaysYes line
    → (text : Bytes) × (b : List ℕ) × (option_map_or before a.board (Some input) ≡ Some text) × Spells text b × IsBoundedFor a.goal b a.bound
