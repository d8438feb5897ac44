-- What the program's yes means, command by command, and its no to a table: in boards, paths and bytes.
--
-- `before` and `later` have the bytes under each name when the run begins and when it ends, `input` what its reader has left
-- when it begins, and `lines` all that it wrote.
use Rattle.std.specs.Prelude.{◌≡◌, ◌≢◌, ◌⊎◌, ℕ, ◌<◌, ◌≤◌, ◌^◌, List, [], ◌++◌, Option, Some, codes, decimal, map}
use Rattle.std.specs.Option.{option_map_or}
use Rattle.puz_board.specs.BoardTexts.{Spells}
use Rattle.puz_board.specs.Masks.{numbers_of}
use Rattle.puz_goal.specs.Goals.{IsBoundedFor, SolvesFor, goal_words}
use Rattle.puz_goal.specs.Turning.{board_for}
use Rattle.puz_goal.specs.declared.goals.Goal.{Goal}
use Rattle.move_strings.specs.BoundParts.{IsPart, IsPartBounded, ShownPart}
use Rattle.claim_text.specs.Claims.{HasNo, part_words}
use Rattle.claim_text.specs.Lines.{joined_goal}
use Rattle.tab_file.specs.Tables.{Table}
use Rattle.tab_rule.specs.ExactTables.{IsExactFile}
use Rattle.byte_io.specs.Shelf.{Bytes}
use Rattle.pdb_request.specs.Asked.{Asked, ProveArguments, TableArguments, bound, make_table, optimal, parts, prove, replay, solve, table}
use Rattle.pdb_run.specs.Writing.{digests_of}
use Rattle.pdb_verdict.specs.Bound.{IsBoundedText, IsProvedFor}
use Rattle.pdb_verdict.specs.Lines.{exact_line}
use Rattle.pdb_verdict.specs.Replay.{IsSolvedPuzzle}
use Rattle.pdb_parts.specs.Laws.{AreTrueAnswers}

-- ---- whole lines

-- nothing, or a text that ends with an LF
abbrev pub AreWholeLines : Bytes → Type 0
AreWholeLines text = (text ≡ []) ⊎ ((front : Bytes) × (text ≡ front ++ codes "\n"))

-- the text has this line, with that above and below it: it begins the text or stands behind an LF, an LF ends it, and it has no
-- other LF, whose byte is 10
abbrev pub HasLine : (above line below text : Bytes) → Type 0
HasLine above line below text = AreWholeLines above × HasNo 10 line × (text ≡ above ++ (line ++ (codes "\n" ++ below)))

-- the line begins as the lines of a yes do
abbrev pub SaysYes : Bytes → Type 0
SaysYes line = (rest : Bytes)
    × ((line ≡ codes "solution" ++ rest) ⊎ (line ≡ codes "exact" ++ rest) ⊎ (line ≡ codes "bound" ++ rest) ⊎ (line ≡ codes "optimal" ++ rest)
    ⊎ (line ≡ codes "joined" ++ rest))

-- ---- what a line of a yes means

-- the line is `exact` of this side and this mask, whatever counts it ends with, and the file is the exact one of their pattern
abbrev pub SaysExact : (line file : Bytes) → (side mask : ℕ) → Type 0
SaysExact line file side mask =
    (t : Table) × (t.pattern.side ≡ side) × (t.pattern.tiles ≡ numbers_of mask) × IsExactFile t file
    × (entries : ℕ) × (unreachable : ℕ) × (deepest : ℕ) × (line ++ codes "\n" ≡ exact_line side mask entries unreachable deepest)

-- the line is `bound n of` a board text and the words of the goal, and no solution of its board for the goal has fewer than n moves; or
-- it is `optimal n of` a puzzle text and these words, its moves, n of them, solve its board for the goal, and no solution has fewer
abbrev pub HoldsOfClaim : Goal → Bytes → Type 0
HoldsOfClaim goal line =
    ((text : Bytes) × (n : ℕ) × (line ≡ codes "bound " ++ decimal n ++ codes " of" ++ text ++ goal_words goal) × IsBoundedText goal text n)
    ⊎ ((puzzle : Bytes) × (n : ℕ) × (is : IsSolvedPuzzle goal puzzle n)
    × (line ≡ codes "optimal " ++ decimal n ++ codes " of" ++ puzzle ++ goal_words goal) × IsBoundedFor goal is.board n)

-- what a line of a yes means below what stands above it, command by command, with the arguments of the command; each line but `exact`
-- ends with the words of the goal, of which there are none where the blank is first at home
abbrev pub HoldsOfYes : Asked → (before later : Bytes → Option Bytes) → (input above line : Bytes) → Type 0
-- the line is `solution n`, and the moves of the puzzle text, n of them, solve its board for the goal
HoldsOfYes (replay a) before later input above line =
    (puzzle : Bytes) × (n : ℕ) × (option_map_or before a.puzzle (Some input) ≡ Some puzzle)
    × (line ≡ codes "solution " ++ decimal n ++ goal_words a.goal) × IsSolvedPuzzle a.goal puzzle n
-- the line is `exact` of a side and a mask, and the file is the exact one of their pattern
HoldsOfYes (table a) before later input above line =
    (file : Bytes) × (side : ℕ) × (mask : ℕ) × (before a.file ≡ Some file) × (mask < 2 ^ 32) × SaysExact line file side mask
-- the line is `bound n`, and no solution for the goal of the board in the text has fewer than n moves
HoldsOfYes (bound a) before later input above line =
    (text : Bytes) × (n : ℕ) × (before a.text ≡ Some text) × (line ≡ codes "bound " ++ decimal n ++ goal_words a.goal)
    × IsBoundedText a.goal text n
-- the line is `optimal n`; the moves of the puzzle text, n of them, solve its board for the goal, and no solution has fewer
HoldsOfYes (optimal a) before later input above line =
    (puzzle : Bytes) × (n : ℕ) × (is : IsSolvedPuzzle a.goal puzzle n) × (before a.text ≡ Some puzzle)
    × (line ≡ codes "optimal " ++ decimal n ++ goal_words a.goal) × IsBoundedFor a.goal is.board n
-- the bytes that stand under OUT afterwards are the exact file of the pattern of this side and this mask, and the line is `exact`
-- of these
HoldsOfYes (make_table a) before later input above line = (file : Bytes) × (later a.out ≡ Some file) × SaysExact line file a.side a.mask
-- the line is `optimal n`, and the one above it `moves` with a moves text; its n moves solve the board in the text for the goal, and no
-- solution has fewer; and the bytes that stand under OUT afterwards are a log that proves this bound, of the board as it is turned for
-- the goal, over the sets and the tables
HoldsOfYes (solve a) before later input above line =
    (text : Bytes) × (b : List ℕ) × (moves : Bytes) × (n : ℕ) × (before a.board ≡ Some text) × Spells text b
    × (line ≡ codes "optimal " ++ decimal n ++ goal_words a.goal)
    × (higher : Bytes) × HasLine higher (codes "moves" ++ moves ++ goal_words a.goal) [] above × SolvesFor a.goal b moves n × IsBoundedFor a.goal b n
    × (set_text : Bytes) × (files : List Bytes) × (log : Bytes) × (before a.sets ≡ Some set_text) × (map before a.tables ≡ map Some files)
    × (later a.out ≡ Some log) × IsProvedFor a.goal a.fold b set_text log files n
-- the line is a true answer to a claim
HoldsOfYes (prove a) before later input above line = HoldsOfClaim a.goal line
-- the line is `joined bound n of` the board in the text, `from k parts, by lines that were read`, and the words of the goal; above it
-- stand the digests of the answers; and if each line of these is true that says for the goal that one of k parts of the bound n of this
-- board holds, no solution of the board for the goal has fewer than n moves
HoldsOfYes (parts a) before later input above line =
    (text : Bytes) × (told : Bytes) × (b : List ℕ) × (option_map_or before a.board (Some input) ≡ Some text) × Spells text b × Spells told b
    × (line ≡ codes "joined bound " ++ decimal a.bound ++ codes " of" ++ told ++ codes " from " ++ decimal a.count ++ codes " parts, by lines that were read"
    ++ joined_goal a.goal)
    × (files : List Bytes) × (map before a.answers ≡ map Some files) × (above ≡ digests_of files)
    × (AreTrueAnswers (record { board = b; bound = a.bound; count = a.count; goal = a.goal }) files → IsBoundedFor a.goal b a.bound)

-- ---- what a line of a part means

-- the line begins as those of parts do
abbrev pub SaysPart : Bytes → Type 0
SaysPart line = (rest : Bytes) × (line ≡ codes "part " ++ rest)

-- the line is `part i/k of bound n of` a board text and the words of the goal, and for its board, as it is turned for the goal, that part
-- of the bound, which is at most 255, holds: the least solution of fewer than n moves, if there is one, isn't of the part
abbrev pub HoldsOfPart : Goal → Bytes → Type 0
HoldsOfPart goal line =
    (p : ShownPart) × (n : ℕ) × (text : Bytes) × (b : List ℕ) × IsPart p × (n ≤ 255) × Spells text b × IsPartBounded p n (board_for goal b)
    × (line ≡ codes "part " ++ part_words p ++ codes " of bound " ++ decimal n ++ codes " of" ++ text ++ goal_words goal)

-- each whole line that begins so is true
abbrev pub ArePartLinesTrue : Goal → Bytes → Type 0
ArePartLinesTrue goal lines = (above line below : Bytes) → HasLine above line below lines → SaysPart line → HoldsOfPart goal line

-- ---- the program's answers

-- the last line says a yes; of `prove` each line does, but for those of parts of bounds, and for digests
abbrev pub AreAYes : Asked → Bytes → Type 0
AreAYes (prove a) lines = AreWholeLines lines × ((above line below : Bytes) → HasLine above line below lines
    → SaysYes line ⊎ ((rest : Bytes) × ((line ≡ codes "part " ++ rest) ⊎ (line ≡ codes "sha256 " ++ rest))))
AreAYes other lines = (above : Bytes) × (line : Bytes) × HasLine above line [] lines × SaysYes line

-- A run that was asked for this and ends with this status, 0 for a yes and 1 for a no. What a no means of `table`: the bytes under
-- the name are no exact file, of whatever pattern; so an exact file is answered with 0, or by 2 or 3, but never with 1. What 2 and 3
-- mean is said where runs are (`RunsOn`).
pub record Headline (asked : Asked) (before later : Bytes → Option Bytes) (input lines : Bytes) (status : ℕ) : Type 0 where
  -- each line that says a yes is true, whatever the status and whatever else happened
  pub lines_true : (above line below : Bytes) → HasLine above line below lines → SaysYes line → HoldsOfYes asked before later input above line
  -- and of `prove` each line that says that a part of a bound holds
  pub parts_true : (a : ProveArguments) → asked ≡ prove a → ArePartLinesTrue a.goal lines
  -- one that says a yes is the last line, and the status is 0; of `prove` more lines may follow, and one of these may be a no
  pub last : (above line below : Bytes) → HasLine above line below lines → SaysYes line → ((a : ProveArguments) → asked ≢ prove a)
      → (below ≡ []) × (status ≡ 0)
  -- and there is one where the status is 0
  pub yes : status ≡ 0 → AreAYes asked lines
  pub no : (a : TableArguments) → asked ≡ table a → status ≡ 1 → (file : Bytes) × (before a.file ≡ Some file) × ((t : Table) → ¬ IsExactFile t file)
  pub known : status ≤ 3
