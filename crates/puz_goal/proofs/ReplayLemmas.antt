-- The first letters of a text tell what its moves do.
use Rattle.std.proofs.Common.{◌≡◌, ℕ, zero, suc, ◌+◌, ◌<◌, ◌≤◌, min, Bool, true, false, cond, ltb, List, [], ◌∷◌, ◌++◌, length, map, take, get_or, Option, Some, None}
use Rattle.std.proofs.Common.{Err, inl, inr, refl, sym, ◌∙◌, ap, ap₂, arith, not, ◌||◌, length-append}
use Rattle.std.proofs.lemmas.Bool.{cases_lt, cond-true, lt-ltb}
use Rattle.std.proofs.lemmas.List.{append-nil, length-map, length-take, map-append, take-append-le, take_all}
use Rattle.std.proofs.lemmas.List.Elements.{All-append, All-cons, All-nil, filter_map-append}
use Rattle.std.proofs.Math.Seq.{take-suc}
use Rattle.std.specs.List.{AllPass, cons_option, find, position_or_len, range_with_len}
use Rattle.std.specs.Prelude.{is_none, is_some}
use Rattle.puz_board.specs.Cells.{move_of_letter}
use Rattle.puz_board.specs.BoardTexts.{is_separator, refuse}
use Rattle.puz_board.specs.First.{first_below}
use Rattle.puz_board.specs.MovesTexts.{is_letter, leaves_at, leaving, moves_of, replay_of, replay_of_moves, stray_letter}
use Rattle.puz_board.specs.Paths.{board_after}
use Rattle.puz_board.specs.declared.moves.Move.{Move}
use Rattle.puz_board.specs.declared.replays.MoveFault.TheVariants.{M1, M2, M3}
use Rattle.puz_board.proofs.FirstLemmas.{position-AllPass}
use Rattle.puz_goal.specs.Turning.{turned_letter}
use Rattle.puz_goal.proofs.LetterLemmas.{clean-turned}

-- ---- the first number that passes one of two tests that agree

find_same : (f g : ℕ → Bool) (a n : ℕ) → ((k : ℕ) → k < n → f (a + k) ≡ g (a + k)) → find f (range_with_len a n) ≡ find g (range_with_len a n)
find_same f g a zero same = refl
find_same f g a (suc n) same =
    let here : a + 0 ≡ a = omega arith in
    ap₂ (λ t rest. cond t (Some a) rest) (ap f (sym here) ∙ same 0 (omega arith) ∙ ap g here)
    (find_same f g (a + 1) n (λ k l. let next : a + 1 + k ≡ a + suc k = omega arith in ap f next ∙ same (suc k) (omega arith) ∙ ap g (sym next)))

first_same : (f g : ℕ → Bool) (n : ℕ) → ((k : ℕ) → k < n → f k ≡ g k) → first_below f n ≡ first_below g n
unfolding first_below
first_same f g n same = find_same f g 0 n (λ k l. let e : 0 + k ≡ k = omega arith in ap f e ∙ same k l ∙ ap g (sym e))

-- ---- more than 1000 moves

take_front : (k : ℕ) (ms : List Move) → k < 1000 → take (k + 1) (take 1001 ms) ≡ take (k + 1) ms
take_front k ms l = take_within (k + 1) 1001 ms (omega arith)
  where
    take_within : (i n : ℕ) (ms : List Move) → i ≤ n → take i (take n ms) ≡ take i ms
    take_within zero n ms l = refl
    take_within (suc i) zero ms l = absurd (omega arith)
    take_within (suc i) (suc n) [] l = refl
    take_within (suc i) (suc n) (m ∷ ms) l = ap (λ rest. m ∷ rest) (take_within i n ms (omega arith))

long : (b : List ℕ) (ms : List Move) → 1000 < length ms → replay_of_moves b ms ≡ refuse M2 (first_below (leaves_at b ms) 1000) (Err M3)
unfolding replay_of_moves leaving
long b ms l =
    let most : min 1000 (length ms) ≡ 1000 = omega arith in
    ap (refuse M2 (leaving b ms)) (cond-true (ltb 1000 (length ms)) (Err M3) _ (lt-ltb _ _ l)) ∙
    ap (λ k. refuse M2 (first_below (leaves_at b ms) k) (Err M3)) most

-- 1001 moves tell what all do
pub replay-front : (b : List ℕ) (ms : List Move) → replay_of_moves b (take 1001 ms) ≡ replay_of_moves b ms
replay-front b ms = elim (cases_lt 1001 (length ms)) [
  | inr few ↦ ap (replay_of_moves b) (take_all 1001 ms few)
  | inl many ↦
      let size : length (take 1001 ms) ≡ 1001 = length-take 1001 ms ∙ omega arith in
      long b (take 1001 ms) (omega arith) ∙
      ap (λ o. refuse M2 o (Err M3)) (first_same (leaves_at b (take 1001 ms)) (leaves_at b ms) 1000
      (λ k l. ap (λ xs. is_none (board_after b xs)) (take_front k ms l))) ∙
      sym (long b ms (omega arith))
]

-- ---- bytes that are neither letters nor separators

abbrev is_stray : ℕ → Bool
is_stray b = not (is_letter b || is_separator b)

place-turned : (text : List ℕ) → position_or_len is_stray (map turned_letter text) ≡ position_or_len is_stray text
place-turned [] = refl
place-turned (b ∷ text) = ap₂ (λ clean rest. cond (not (not clean)) (1 + rest) 0) (clean-turned b) (place-turned text)

-- they stay where they are
pub stray-turned : (text : List ℕ) → stray_letter (map turned_letter text) ≡ stray_letter text
unfolding stray_letter
stray-turned text = ap₂ (λ i n. cond (ltb i n) (Some i) None) (place-turned text) (length-map text turned_letter)

-- where there is one, it is what is wrong
pub replay-stray : (b text : List ℕ) (i : ℕ) → Some i ≡ stray_letter text → Err (M1 i) ≡ replay_of b (map turned_letter text)
unfolding replay_of
replay-stray b text i e = ap (λ o. refuse M1 o (replay_of_moves b (moves_of (map turned_letter text)))) (e ∙ sym (stray-turned text))

-- where there is none, the first letters tell what the text does
pub replay-clean : (b text letters : List ℕ) → None ≡ stray_letter text → ((k d : ℕ) → k < length letters → is_letter (get_or letters k d) ≡ true)
    → moves_of letters ≡ take 1001 (moves_of (map turned_letter text)) → replay_of b letters ≡ replay_of b (map turned_letter text)
unfolding replay_of stray_letter
replay-clean b text letters clean all moves =
    ap (λ o. refuse M1 o (replay_of_moves b (moves_of letters)))
    (position-AllPass (λ b. is_letter b || is_separator b) letters (λ k d l. ap (λ t. t || is_separator (get_or letters k d)) (all k d l))) ∙
    ap (replay_of_moves b) moves ∙ replay-front b (moves_of (map turned_letter text)) ∙
    ap (λ o. refuse M1 o (replay_of_moves b (moves_of (map turned_letter text)))) (clean ∙ sym (stray-turned text))

-- ---- the letters so far

module _ (text : List ℕ) (i : ℕ) (inside : i < length text) where
  -- the moves of one byte more
  pub moves_of-next : moves_of (map turned_letter (take (i + 1) text))
      ≡ moves_of (map turned_letter (take i text)) ++ cons_option (move_of_letter (turned_letter (get_or text i 0))) []
  moves_of-next =
      let next : i + 1 ≡ suc i = omega arith in
      ap (λ k. moves_of (map turned_letter (take k text))) next ∙ ap (λ t. moves_of (map turned_letter t)) (take-suc text i 0 inside) ∙
      ap moves_of (map-append turned_letter (take i text) (get_or text i 0 ∷ [])) ∙
      filter_map-append move_of_letter (map turned_letter (take i text)) (turned_letter (get_or text i 0) ∷ [])

abbrev IsLetter : ℕ → Type 0
IsLetter b = is_letter b ≡ true

-- as many letters are kept as tell what the moves so far do
pub record AreKept (text front : List ℕ) (i : ℕ) : Type 0 where
  pub moves : moves_of front ≡ take 1001 (moves_of (map turned_letter (take i text)))
  pub letters : AllPass is_letter front
  pub count : length (moves_of front) ≡ length front

module _ (text letters : List ℕ) (i letter : ℕ) (inside : i < length text) (is : letter ≡ turned_letter (get_or text i 0)) (kept : AreKept text letters i) where
  abbrev so_far : List Move
  so_far = moves_of (map turned_letter (take i text))

  -- with a byte that is none, or with enough letters, they stay
  next_moves : moves_of (map turned_letter (take (i + 1) text)) ≡ so_far ++ cons_option (move_of_letter letter) []
  next_moves = moves_of-next text i inside ∙ ap (λ l. so_far ++ cons_option (move_of_letter l) []) (sym is)

  pub kept-other : is_letter letter ≡ false → AreKept text letters (i + 1)
  kept-other other = record {
    moves = kept.moves ∙ ap (take 1001) (sym (next_moves ∙ none (move_of_letter letter) other));
    letters = kept.letters;
    count = kept.count;
  }
    where
      none : (o : Option Move) → is_some o ≡ false → so_far ++ cons_option o [] ≡ so_far
      none None e = append-nil so_far
      none (Some m) e = cc

  pub kept-full : 1001 ≤ length letters → AreKept text letters (i + 1)
  kept-full full = record {
    moves = kept.moves ∙ sym (ap (take 1001) next_moves ∙ take-append-le 1001 so_far (cons_option (move_of_letter letter) []) many);
    letters = kept.letters;
    count = kept.count;
  }
    where
      many : 1001 ≤ length so_far
      many =
          let taken : length (moves_of letters) ≡ min 1001 (length so_far) = ap length kept.moves ∙ length-take 1001 so_far in
          let all = kept.count in
          omega arith

  -- one more letter is kept
  pub kept-more : is_letter letter ≡ true → length letters < 1001 → AreKept text (letters ++ letter ∷ []) (i + 1)
  kept-more more few = go (move_of_letter letter) refl more
    where
      size : length so_far < 1001
      size =
          let taken : length (moves_of letters) ≡ min 1001 (length so_far) = ap length kept.moves ∙ length-take 1001 so_far in
          let all = kept.count in
          omega arith

      whole : moves_of letters ≡ so_far
      whole = kept.moves ∙ take_all 1001 so_far (let s = size in omega arith)

      go : (o : Option Move) → move_of_letter letter ≡ o → is_some o ≡ true → AreKept text (letters ++ letter ∷ []) (i + 1)
      go None e some = cc
      go (Some m) e some =
          let pushed : moves_of (letters ++ letter ∷ []) ≡ so_far ++ m ∷ [] =
          filter_map-append move_of_letter letters (letter ∷ []) ∙ ap₂ (λ front o. front ++ cons_option o []) whole e in
          let one = length-append so_far (m ∷ []) in
          let next = next_moves ∙ ap (λ o. so_far ++ cons_option o []) e in
          let small = size in
          record {
            moves = pushed ∙ sym (ap (take 1001) next ∙ take_all 1001 (so_far ++ m ∷ []) (omega arith));
            letters = All-append IsLetter letters (letter ∷ []) kept.letters (All-cons IsLetter letter [] more (All-nil IsLetter));
            count =
                let all = kept.count in
                let lettered = length-append letters (letter ∷ []) in
                let same = ap length whole in
                let long = ap length pushed in
                omega arith;
          }
