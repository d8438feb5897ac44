-- Frontiers: lists of nodes, so that a search fails just where those below all of them do.
use Rattle.std.specs.Prelude.{◌≡◌, ℕ, ◌+◌, ◌-◌, ◌<◌, List, [], ◌∷◌, ◌++◌, length, slice_index_or, ⊤}
use Rattle.std.specs.List.{All}
use Rattle.puz_board.specs.Boards.{moved}
use Rattle.puz_board.specs.declared.moves.Move.{Move}
use Rattle.move_strings.specs.Automata.{next_at}
use Rattle.puz_search.specs.Nodes.{IsLed, node_counts, search_counts}
use Rattle.puz_search.specs.Prefixes.{Count, at_least, both_counts, counted, in_all, next_ahead, next_rank, part_of}
use Rattle.puz_search.specs.Searches.{AtChild, leaves_out}
use Rattle.puz_search.specs.declared.frontiers.Frontier.{Frontier}
use Rattle.puz_search.specs.declared.nodes.Node.{Node}
use Rattle.puz_search.specs.declared.searches.Search.{Search}
use Rattle.puz_search.specs.declared.outcomes.JobOutcome.{JobOutcome}
use Rattle.puz_search.specs.declared.outcomes.JobOutcome.TheVariants.{Refuted, Spent, Open}

-- ---- counts

-- one fails just where the other fails with x boards fewer, and has x boards more than the other
pub record IsMore (One Other : Count → ℕ → Type 0) (x : ℕ) : Type 0 where
  pub to : (boards : ℕ) → One in_all boards → (rest : ℕ) × Other in_all rest × (boards ≡ rest + x)
  pub back : (count : Count) (boards rest : ℕ) → Other count rest → boards ≡ rest + x → One count boards

-- what holds of the counts of the searches below the nodes, together
abbrev pub all_counts : Search → List Node → Count → ℕ → Type 0
all_counts s [] count boards = boards ≡ 0
all_counts s (node ∷ rest) count boards = both_counts (node_counts s node) (all_counts s rest) count boards

-- of the search after a move of a node
abbrev pub child_counts_of : Search → Node → Move → Count → ℕ → Type 0
child_counts_of s node move count boards =
    let x = node.prefix in
    let to = next_at s.guide.now.steps node.state move in
    AtChild (moved node.board move) (leaves_out s.guide.now.steps node.state move)
    (λ next. counted s.guide.now (part_of x) (next_ahead x.ahead) (next_rank x.ahead x.rank move) (node.bound - 1) next to count) boards

-- ---- frontiers

-- nodes were added for a part of a search, of which x boards were expanded
pub record Adds (s : Search) (Part : Count → ℕ → Type 0) (x : ℕ) (old new : List Node) : Type 0 where
  pub added : List Node
  pub items : new ≡ old ++ added
  pub counts : IsMore Part (all_counts s added) x
  pub led : All (IsLed s) added

-- the nodes stand for the whole search
pub record IsFrontier (s : Search) (frontier : Frontier) : Type 0 where
  pub counts : IsMore (search_counts s) (all_counts s frontier.nodes.items) frontier.expanded
  pub led : All (IsLed s) frontier.nodes.items

-- ---- the jobs of workers

-- how the search below a node ended
abbrev pub IsOutcome : Search → Node → JobOutcome → Type 0
IsOutcome s node (Refuted boards) = (count : Count) → node_counts s node count boards
IsOutcome s node (Spent budget) = (boards : ℕ) × node_counts s node at_least boards × (budget < boards)
IsOutcome s node Open = ⊤

-- how that of the node with this number did
abbrev pub IsOutcomeOf : Search → List Node → ℕ → JobOutcome → Type 0
IsOutcomeOf s nodes job outcome = (other : Node) → IsOutcome s (slice_index_or nodes job other) outcome

-- how those of all nodes did
abbrev pub AreOutcomesOf : Search → List Node → List JobOutcome → Type 0
AreOutcomesOf s nodes outcomes =
    (length outcomes ≡ length nodes) × ((job : ℕ) (other : JobOutcome) → job < length nodes → IsOutcomeOf s nodes job (slice_index_or outcomes job other))
