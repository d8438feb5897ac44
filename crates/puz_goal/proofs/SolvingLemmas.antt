-- Solutions for a goal, and those of the turned board.
use Rattle.std.proofs.Common.{◌≡◌, ◌≢◌, ℕ, ◌+◌, ◌-◌, ◌*◌, ◌<◌, ◌≤◌, List, length, map, inl, inr, refl, sym, ◌∙◌, ap, subst, arith}
use Rattle.std.proofs.lemmas.Bool.{cases_eq}
use Rattle.std.proofs.lemmas.List.{length-map}
use Rattle.puz_board.specs.Boards.{IsBoard, IsBoardOf, IsGoal, at, blank, side_of}
use Rattle.puz_board.specs.Cells.{reverse_of}
use Rattle.puz_board.specs.MovesTexts.{Solves, moves_of}
use Rattle.puz_board.specs.Paths.{IsPath, IsSolution, Leads, after}
use Rattle.puz_board.proofs.BoardLemmas.{cells_least}
use Rattle.puz_board.proofs.TransposeLemmas.{IsBoardOf-after}
use Rattle.puz_goal.specs.Goals.{IsBoundedFor, IsLastGoal, IsSolutionFor, SolvesFor}
use Rattle.puz_goal.specs.Laws.{BoardsTurn}
use Rattle.puz_goal.specs.Turning.{board_for, half_turned, moves_for, turned_cell, turned_letter, turned_number}
use Rattle.puz_goal.specs.declared.goals.Goal.{Goal}
use Rattle.puz_goal.specs.declared.goals.Goal.TheVariants.{First, Last}
use Rattle.puz_goal.proofs.LetterLemmas.{all-turned, moves_of-turned, text_twice}
use Rattle.puz_goal.proofs.TurnLemmas.{IsBoard-turned, IsBoardOf-turned, Leads-turned, after-turned, at-turned, blank-turned, blank_inside}
use Rattle.puz_goal.proofs.TurnLemmas.{number_some, side_of-turned, turned-twice, walk-turned}

-- ---- home

module _ (n : ℕ) (b : List ℕ) (good : IsBoardOf n b) where
  -- where the blank is last at home, the turned board has it first at home
  pub goal-turned : IsLastGoal b → IsGoal (half_turned b)
  goal-turned home c low =
      let size = (IsBoardOf-turned n b good).size in
      let own = good.size in
      let inside : c < n * n = omega arith in
      at-turned n b good c inside ∙ elim (cases_eq c 0) [
        | inl e ↦
            let place : n * n - 1 - c ≡ length b - 1 = omega arith in
            ap (λ x. turned_number n (at b x)) place ∙ ap (turned_number n) home.1 ∙ sym e
        | inr some ↦
            let before : n * n - 1 - c + 1 < length b = omega arith in
            let is : at b (n * n - 1 - c) ≡ n * n - 1 - c + 1 = home.0 (n * n - 1 - c) before in
            let more : n * n - 1 - c + 1 ≢ 0 = λ e. omega arith in
            let rest : n * n - (n * n - 1 - c + 1) ≡ c = omega arith in
            ap (turned_number n) is ∙ number_some n (n * n - 1 - c + 1) more ∙ rest
      ]

  -- and back
  pub last-turned : IsGoal b → IsLastGoal (half_turned b)
  last-turned home =
      let size = (IsBoardOf-turned n b good).size in
      let own = good.size in
      let some = cells_least n b good in (
        λ c low.
            let inside : c < n * n = omega arith in
            let here : n * n - 1 - c < length b = omega arith in
            let tile : n * n - 1 - c ≢ 0 = λ e. omega arith in
            let rest : n * n - (n * n - 1 - c) ≡ c + 1 = omega arith in
            at-turned n b good c inside ∙ ap (turned_number n) (home (n * n - 1 - c) here) ∙ number_some n (n * n - 1 - c) tile ∙ rest,
        let end : length (half_turned b) - 1 < n * n = omega arith in
            let first : n * n - 1 - (length (half_turned b) - 1) ≡ 0 = omega arith in
            at-turned n b good (length (half_turned b) - 1) end ∙ ap (λ x. turned_number n (at b x)) first ∙
            ap (turned_number n) (home 0 (omega arith)),
      )

-- ---- solutions

module _ (b : List ℕ) (good : IsBoard b) where
  abbrev n : ℕ
  n = side_of b

  abbrev on : List ℕ
  on = half_turned b

  on_board : IsBoardOf n on
  on_board = IsBoardOf-turned n b good

  -- a solution with the blank last, turned, is one of the turned board
  pub solution-turned : (path : List ℕ) → IsSolutionFor Last b path → IsSolution on (map (turned_cell n) path)
  solution-turned path solves = (
    subst (λ m. IsPath m (blank on) (map (turned_cell n) path)) (sym (side_of-turned b good)) (walk-turned n path b good solves.0),
    subst IsGoal (sym (after-turned n path b good solves.0)) (goal-turned n (after b path) (IsBoardOf-after n path b good solves.0) solves.1),
  )

  -- and back
  pub solution-back : (path : List ℕ) → IsSolution on path → IsSolutionFor Last b (map (turned_cell n) path)
  solution-back path solves =
      let walk : IsPath n (blank on) path = subst (λ m. IsPath m (blank on) path) (side_of-turned b good) solves.0 in
      let twice = turned-twice n b good in
      let back : after b (map (turned_cell n) path) ≡ half_turned (after on path) =
      ap (λ x. after x (map (turned_cell n) path)) (sym twice) ∙ after-turned n path on on_board walk in (
        subst (λ x. IsPath n (blank x) (map (turned_cell n) path)) twice (walk-turned n path on on_board walk),
        subst IsLastGoal (sym back) (last-turned n (after on path) (IsBoardOf-after n path on on_board walk) solves.1),
      )

  solves-turned : (text : List ℕ) (k : ℕ) → SolvesFor Last b text k → Solves on (map turned_letter text) k
  solves-turned text k solved =
      let led = Leads-turned n good.low good.high (moves_of text) solved.path (blank b) (blank_inside n b good) solved.led in
      record {
        letters = all-turned text solved.letters;
        path = map (turned_cell n) solved.path;
        led = subst (λ m. Leads m (blank on) (moves_of (map turned_letter text)) (map (turned_cell n) solved.path)) (sym (side_of-turned b good))
            (subst (λ ms. Leads n (blank on) ms (map (turned_cell n) solved.path)) (sym (moves_of-turned text))
            (subst (λ c. Leads n c (map reverse_of (moves_of text)) (map (turned_cell n) solved.path)) (sym (blank-turned n b good)) led));
        solution = solution-turned solved.path solved.solution;
        count = length-map solved.path (turned_cell n) ∙ solved.count;
        few = solved.few;
      }

  solves-back : (text : List ℕ) (k : ℕ) → Solves on (map turned_letter text) k → SolvesFor Last b text k
  solves-back text k solved =
      let way : Leads n (blank on) (moves_of (map turned_letter text)) solved.path =
      subst (λ m. Leads m (blank on) (moves_of (map turned_letter text)) solved.path) (side_of-turned b good) solved.led in
      let led = Leads-turned n good.low good.high (moves_of (map turned_letter text)) solved.path (blank on) (blank_inside n on on_board) way in
      let start : turned_cell n (blank on) ≡ blank b = sym (blank-turned n on on_board) ∙ ap blank (turned-twice n b good) in
      let moves : map reverse_of (moves_of (map turned_letter text)) ≡ moves_of text = sym (moves_of-turned (map turned_letter text))
      ∙ ap moves_of (text_twice text) in
      record {
        letters = rw (text_twice text) at (all-turned (map turned_letter text) solved.letters);
        path = map (turned_cell n) solved.path;
        led = subst (λ ms. Leads n (blank b) ms (map (turned_cell n) solved.path)) moves
            (subst (λ c. Leads n c (map reverse_of (moves_of (map turned_letter text))) (map (turned_cell n) solved.path)) start led);
        solution = solution-back solved.path solved.solution;
        count = length-map solved.path (turned_cell n) ∙ solved.count;
        few = solved.few;
      }

-- ---- for a goal

-- a board for a goal is a board, and turned again it is itself
pub boards_turn : BoardsTurn
boards_turn First b good = record { board = good; side = refl; twice = refl }
boards_turn Last b good = record { board = IsBoard-turned b good; side = side_of-turned b good; twice = turned-twice (side_of b) b good }

-- moves that solve a board for a goal, turned, solve the turned board
pub solves_for : (goal : Goal) (b text : List ℕ) (k : ℕ) → IsBoard b → SolvesFor goal b text k → Solves (board_for goal b) (moves_for goal text) k
solves_for First b text k good solved = record {
  letters = solved.letters;
  path = solved.path;
  led = solved.led;
  solution = solved.solution;
  count = solved.count;
  few = solved.few;
}
solves_for Last b text k good solved = solves-turned b good text k solved

-- and back
pub solved_for : (goal : Goal) (b text : List ℕ) (k : ℕ) → IsBoard b → Solves (board_for goal b) (moves_for goal text) k → SolvesFor goal b text k
solved_for First b text k good solved = record {
  letters = solved.letters;
  path = solved.path;
  led = solved.led;
  solution = solved.solution;
  count = solved.count;
  few = solved.few;
}
solved_for Last b text k good solved = solves-back b good text k solved

-- a bound of the turned board is one of the board for the goal
pub bounded_for : (goal : Goal) (b : List ℕ) (k : ℕ) → IsBoard b → ((path : List ℕ) → IsSolution (board_for goal b) path → k ≤ length path)
    → IsBoundedFor goal b k
bounded_for First b k good bounded = bounded
bounded_for Last b k good bounded = λ path solves.
    subst (λ l. k ≤ l) (length-map path (turned_cell (side_of b))) (bounded (map (turned_cell (side_of b)) path) (solution-turned b good path solves))

-- and back
pub bounds_for : (goal : Goal) (b : List ℕ) (k : ℕ) → IsBoard b → IsBoundedFor goal b k → (path : List ℕ) → IsSolution (board_for goal b) path
    → k ≤ length path
bounds_for First b k good bounded = bounded
bounds_for Last b k good bounded = λ path solves.
    subst (λ l. k ≤ l) (length-map path (turned_cell (side_of b))) (bounded (map (turned_cell (side_of b)) path) (solution-back b good path solves))
