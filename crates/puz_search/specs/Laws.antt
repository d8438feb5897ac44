-- What holds of searches.
use Rattle.std.specs.Prelude.{ℕ, List}
use Rattle.puz_board.specs.Boards.{IsBoardOf}
use Rattle.move_strings.specs.BoundParts.{IsPartBounded, ShownPart}
use Rattle.puz_search.specs.Guides.{IsGuide, ShownGuide}
use Rattle.puz_search.specs.Searches.{SearchOfPartFails}

-- where the search of a part fails, the least solution of fewer moves isn't of the part
abbrev pub PartsThatFailAreBounded : Type 0
PartsThatFailAreBounded =
    (g : ShownGuide) → IsGuide g → (p : ShownPart) (r : ℕ) (b : List ℕ) → IsBoardOf g.bundle.side b →
    (boards : ℕ) → SearchOfPartFails g p r b boards → IsPartBounded p r b
