-- Trees that are to prove lower bounds, and the bytes that spell them.
use Rattle.std.specs.Prelude.{◌≡◌, ℕ, ◌+◌, Bool, true, false, List, [], ◌∷◌, ◌++◌, ⊤}
use Rattle.std.specs.Int.{w32, to_be_bytes}

-- A leaf names a set of the bundle, and says whether it takes the set's sum by parity. A citation names a lemma of the log.
-- Both go by numbers from 0. A branch has a place for each of the moves up, down, left and right, and `absent` stands where
-- it has no child for a move.
pub data Tree : Type 0 where
  absent : Tree
  leaf : Bool → ℕ → Tree
  citation : ℕ → Tree
  branch : Tree → Tree → Tree → Tree → Tree

-- which leaves a log of this version may have: those by parity in version 2 alone, and the others in each
abbrev pub HasLeaf : ℕ → Bool → Type 0
HasLeaf version true = version ≡ 2
HasLeaf version false = ⊤

-- the byte of a leaf of set 0: 65 by parity, and otherwise 1
abbrev pub first_leaf : Bool → ℕ
first_leaf true = 65
first_leaf false = 1

-- The bytes that spell a tree, the front before the behind: for a leaf one byte, the number of its set and 65 where it is by
-- parity, and otherwise the number and 1; for a citation the byte 32 and the number of its lemma in four bytes, the highest
-- first; for a branch the byte 0, and then its children in the order up, down, left, right.
abbrev pub spelling : Tree → List ℕ
spelling absent = []
spelling (leaf by_parity set) = (set + first_leaf by_parity) ∷ []
spelling (citation lemma) = 32 ∷ to_be_bytes w32 lemma
spelling (branch up down left right) = 0 ∷ spelling up ++ spelling down ++ spelling left ++ spelling right
