-- Lists that are joined.
use Rattle.std.specs.Prelude.{ℕ, List, [], ◌∷◌, ◌++◌}
use Rattle.std.specs.declared.vec.Vec.{Vec}

-- the items of all lists, one list after the other
abbrev pub all_items : {Z : Type 0} → List (Vec ℕ Z) → List ℕ
all_items [] = []
all_items (list ∷ lists) = list.items ++ all_items lists
