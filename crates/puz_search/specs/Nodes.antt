-- Nodes: boards of a search, below which is still to be searched.
use Rattle.std.specs.Prelude.{◌≡◌, ℕ, ◌+◌, ◌<◌, ◌≤◌, List, ◌++◌, length, IfNone, IfSome, Option}
use Rattle.puz_board.specs.Boards.{IsBoardOf}
use Rattle.move_strings.specs.Automata.{IsState}
use Rattle.puz_walk.specs.Starts.{AreSumsOn}
use Rattle.puz_walk.specs.Walks.{IsClosed, ShownWalk}
use Rattle.puz_search.specs.Outcomes.{IsTrail}
use Rattle.puz_search.specs.Prefixes.{Count, at_least, in_all, prefix_counts}
use Rattle.puz_search.specs.declared.answers.SearchAnswer.{SearchAnswer}
use Rattle.puz_search.specs.declared.answers.SearchAnswer.TheVariants.{Refuted, Solved, Spent}
use Rattle.puz_search.specs.declared.nodes.Node.{Node}
use Rattle.puz_search.specs.declared.searches.Search.{Search}

-- what holds of the counts of the search below a node
abbrev pub node_counts : Search → Node → Count → ℕ → Type 0
node_counts s node count boards = prefix_counts s.guide.now node.prefix node.bound node.board node.state count boards

-- of those of the whole search
abbrev pub search_counts : Search → Count → ℕ → Type 0
search_counts s count boards = prefix_counts s.guide.now s.prefix s.bound s.start.now.board 0 count boards

-- the node is that of the first board
pub record IsFirst (s : Search) (node : Node) : Type 0 where
  pub board : node.board ≡ s.start.now.board
  pub state : node.state ≡ 0
  pub bound : node.bound ≡ s.bound
  pub prefix : node.prefix ≡ s.prefix

-- the board is of the bundle's side, has these sums, is in a state of the automaton, and has just the bound that is left after the
-- moves of the letters
pub record IsPlaced (s : Search) (node : Node) : Type 0 where
  pub board : IsBoardOf s.guide.now.bundle.side node.board
  pub sums : AreSumsOn s.guide.now.bundle node.board node.sums
  pub state : IsState s.guide.now.steps node.state
  pub left : length node.letters.items + node.bound ≡ s.bound

-- what is seen of a walk that begins at the board of the node
abbrev pub walk_to : Search → Node → ShownWalk
walk_to s node = record { bundle = s.guide.now.bundle; board = node.board; bound = node.bound }

-- a walk of which this is seen, or none where it would be closed
abbrev pub IsWalkTo : {W : Type 0} → (W → ShownWalk) → ShownWalk → Option W → Type 0
IsWalkTo shown w walk = IfSome walk (λ walk. shown walk ≡ w) × IfNone walk (IsClosed w.bundle w.board w.bound)

-- the letters lead from the first board to that of the node: with the letters of a trail from there they are a trail
pub record IsLed (s : Search) (node : Node) : Type 0 where
  pub placed : IsPlaced s node
  pub leads : (text : List ℕ) → IsTrail node.board node.bound text → IsTrail s.start.now.board s.bound (node.letters.items ++ text)

-- the letters are those of the node, and then those of a solution below it
abbrev pub solves_below : Node → List ℕ → Type 0
solves_below node letters = (text : List ℕ) × IsTrail node.board node.bound text × (letters ≡ node.letters.items ++ text)

-- the letters are those of a solution of the first board, of fewer moves than the bound
abbrev pub solves_first : Search → List ℕ → Type 0
solves_first s letters = IsTrail s.start.now.board s.bound letters

-- What a part of a search answers within a budget: these say what holds of its counts, and what its solutions are. Where it finds
-- one it doesn't fail, and where its budget is spent it has more boards.
abbrev pub IsPartAnswer : (Count → ℕ → Type 0) → (List ℕ → Type 0) → ℕ → SearchAnswer → Type 0
IsPartAnswer Part IsSolved budget (Refuted boards) = ((count : Count) → Part count boards) × (boards ≤ budget)
IsPartAnswer Part IsSolved budget (Solved letters) = IsSolved letters.items × ((boards : ℕ) → ¬ Part in_all boards)
IsPartAnswer Part IsSolved budget Spent = (boards : ℕ) × Part at_least boards × (budget < boards)
