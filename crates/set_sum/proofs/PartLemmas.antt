-- What a table of a bundle says of a board, full or folded: it is one thing, and at most what each path home costs.
use Rattle.std.proofs.Common.{◌≡◌, ℕ, ◌*◌, ◌<◌, ◌≤◌, Bool, true, false, List, refl, arith}
use Rattle.std.specs.Prelude.{MatchBool}
use Rattle.std.specs.List.{AllByRecursion}
use Rattle.puz_board.specs.Boards.{IsBoard, IsBoardOf}
use Rattle.puz_board.specs.Costs.{LeadsHome, cost}
use Rattle.puz_board.specs.Transposing.{transposed, transposed_tiles}
use Rattle.puz_board.proofs.TransposeLemmas.{least_costs, nevers}
use Rattle.pat_place.specs.Patterns.{IsPattern}
use Rattle.tab_rule.specs.Counts.{TableSays}
use Rattle.tab_rule.specs.FoldedTables.{FoldedTableSays}
use Rattle.tab_rule.specs.declared.tables.Count.{Count}
use Rattle.tab_rule.specs.declared.tables.Count.TheVariants.{Finite, Never}
use Rattle.tab_rule.proofs.FoldLemmas.{folded_some}
use Rattle.tab_rule.proofs.LookLemmas.{count_some}
use Rattle.set_sum.specs.Parts.{IsExactPart, PartSays, ShownPart, part_pattern, part_shown}
use Rattle.set_sum.specs.declared.parts.Part.{Part}
use Rattle.set_sum.specs.declared.parts.Part.TheVariants.{Folded, Full}
use Rattle.set_sum.proofs.TransposedFoldLemmas.{folded_counts}

-- what a table says whose tiles are these, folded or not
abbrev Tells : Bool → List ℕ → List ℕ → Count → Type 0
Tells is_folded tiles b count = MatchBool is_folded (FoldedTableSays tiles b count) (TableSays tiles b count)

-- ---- one thing

tells_once : (is_folded : Bool) (tiles b : List ℕ) (d e : ℕ) → Tells is_folded tiles b (Finite d) → Tells is_folded tiles b (Finite e) → d ≡ e
tells_once true tiles b d e one other =
    let low : d ≤ cost tiles other.board other.costs.path = one.least other.board other.costs.path other.is_board other.places other.costs.leads in
    let high : e ≤ cost tiles one.board one.costs.path = other.least one.board one.costs.path one.is_board one.places one.costs.leads in
    let p : cost tiles one.board one.costs.path ≡ d = one.costs.costs in
    let q : cost tiles other.board other.costs.path ≡ e = other.costs.costs in
    omega arith
tells_once false tiles b d e one other =
    let low : d ≤ cost tiles b other.path = one.least other.path other.leads in
    let high : e ≤ cost tiles b one.path = other.least one.path one.leads in
    let p : cost tiles b one.path ≡ d = one.costs in
    let q : cost tiles b other.path ≡ e = other.costs in
    omega arith

-- a table tells no two numbers of a board
pub part_once : (part : ShownPart) (b : List ℕ) (d e : ℕ) → PartSays part b (Finite d) → PartSays part b (Finite e) → d ≡ e
part_once part b d e one other = tells_once part.is_folded part.tiles b d e one other

tells_either : (is_folded : Bool) (tiles b : List ℕ) (d : ℕ) → Tells is_folded tiles b (Finite d) → ¬ Tells is_folded tiles b Never
tells_either true tiles b d one never = never one.board one.is_board one.places one.costs.path one.costs.leads
tells_either false tiles b d one never = never one.path one.leads

-- a table that tells a number of a board doesn't tell never of it
pub part_either : (part : ShownPart) (b : List ℕ) (d : ℕ) → PartSays part b (Finite d) → ¬ PartSays part b Never
part_either part b d one never = tells_either part.is_folded part.tiles b d one never

-- ---- a lower bound of what paths cost

tells_within : (is_folded : Bool) (tiles b : List ℕ) → IsBoard b → (d : ℕ) → Tells is_folded tiles b (Finite d) → (path : List ℕ)
    → LeadsHome tiles b path → d ≤ cost tiles b path
tells_within true tiles b board d says path leads = says.least b path board refl leads
tells_within false tiles b board d says path leads = says.least path leads

-- the number that a table tells of a board is at most what each path home costs its tiles
pub part_within : (part : ShownPart) (b : List ℕ) → IsBoard b → (d : ℕ) → PartSays part b (Finite d) → (path : List ℕ) → LeadsHome part.tiles b path
    → d ≤ cost part.tiles b path
part_within part b board d says path leads = tells_within part.is_folded part.tiles b board d says path leads

tells_none : (is_folded : Bool) (tiles b : List ℕ) → IsBoard b → Tells is_folded tiles b Never → (path : List ℕ) → ¬ LeadsHome tiles b path
tells_none true tiles b board never path leads = never b board refl path leads
tells_none false tiles b board never path leads = never path leads

-- where a table tells never of a board, no path leads its tiles home
pub part_none : (part : ShownPart) (b : List ℕ) → IsBoard b → PartSays part b Never → (path : List ℕ) → ¬ LeadsHome part.tiles b path
part_none part b board never path leads = tells_none part.is_folded part.tiles b board never path leads

-- ---- a transposed board

tells_transposed : (is_folded : Bool) (n : ℕ) (tiles : List ℕ) → AllByRecursion (λ t. t < n * n) tiles → (b : List ℕ) → IsBoardOf n b → (count : Count)
    → Tells is_folded tiles (transposed b) count → Tells is_folded (transposed_tiles n tiles) b count
tells_transposed true n tiles all b good count is = folded_counts n tiles all b good count is
tells_transposed false n tiles all b good (Finite d) is = (least_costs n tiles all b good d).1 is
tells_transposed false n tiles all b good Never is = (nevers n tiles all b good).1 is

-- what a table says of the transposed board one of the transposed pattern says of the board
pub part_transposed : (n : ℕ) (part : ShownPart) → AllByRecursion (λ t. t < n * n) part.tiles → (b : List ℕ) → IsBoardOf n b → (count : Count)
    → PartSays part (transposed b) count → PartSays (record { tiles = transposed_tiles n part.tiles; is_folded = part.is_folded }) b count
part_transposed n part all b good count is = tells_transposed part.is_folded n part.tiles all b good count is

-- ---- something

-- an exact table tells something of each board of its side
pub part_told : (part : Part) → IsExactPart part → (b : List ℕ) → IsBoardOf (part_pattern part).side b → (count : Count) × PartSays (part_shown part) b count
part_told (Full table) exact b board = count_some table exact b board
part_told (Folded pattern) folded b board = folded_some pattern folded b board

-- the tiles of an exact table are a pattern
pub pattern_exact : (part : Part) → IsExactPart part → IsPattern (part_pattern part)
pattern_exact (Full table) exact = exact.is_table.pattern
pattern_exact (Folded pattern) folded = folded.pattern

-- its tiles are those that are shown
pub shown_tiles : (part : Part) → (part_pattern part).tiles ≡ (part_shown part).tiles
shown_tiles (Full table) = refl
shown_tiles (Folded pattern) = refl
