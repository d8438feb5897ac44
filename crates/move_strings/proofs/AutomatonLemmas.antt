-- Moves that an automaton refuses end, at the step that is left out, with a forbidden string.
use Rattle.std.proofs.Common.{◌≡◌, ℕ, zero, suc, ◌+◌, ◌*◌, ◌/◌, ◌%◌, ◌<◌, true, eqb, List, [], ◌∷◌, ◌++◌, length, get_or, map, inl, inr, refl, sym}
use Rattle.std.proofs.Common.{◌∙◌, ap, ap₂, subst, arith, append_assoc, ne_eqb}
use Rattle.std.specs.Prelude.{◌↔◌, All, Bool, IsTrue}
use Rattle.std.specs.declared.vec.Vec.{Vec}
use Rattle.std.proofs.lemmas.Bool.{cond-false}
use Rattle.std.proofs.lemmas.List.{get_or-map, length-map}
use Rattle.puz_board.specs.declared.moves.Move.{Move}
use Rattle.puz_board.specs.declared.moves.Move.TheVariants.{Up, Down, Left, Right}
use Rattle.move_strings.proofs.OrderLemmas.{rank_of-few}
use Rattle.move_strings.specs.Automata.{IsAutomaton, IsState, left_out, next_at, refuses}
use Rattle.move_strings.specs.Drafts.{EndsWith, IsRightDraft, IsRightStep, automaton_of, label_of, move_of_rank, moves_at, number_of, string_of}
use Rattle.move_strings.specs.Strings.{HasForbidden, IsForbidden, rank_of}
use Rattle.move_strings.specs.Tables.{IsRight}
use Rattle.move_strings.specs.declared.drafts.Draft.{Draft}
use Rattle.move_strings.specs.declared.drafts.Transition.{Transition}
use Rattle.move_strings.specs.declared.drafts.Transition.TheVariants.{To, LeftOut}
use Rattle.move_strings.specs.declared.forbidden_strings.Forbidden.{Forbidden}

-- ---- places of the table

move_of_rank-rank_of : (m : Move) → move_of_rank (rank_of m) ≡ m
move_of_rank-rank_of Up = refl
move_of_rank-rank_of Down = refl
move_of_rank-rank_of Left = refl
move_of_rank-rank_of Right = refl

state_of_place : (s : ℕ) (m : Move) → (4 * s + rank_of m) / 4 ≡ s
state_of_place s m = let few = rank_of-few m in omega arith

rank_of_place : (s : ℕ) (m : Move) → (4 * s + rank_of m) % 4 ≡ rank_of m
rank_of_place s m = let few = rank_of-few m in omega arith

-- ---- ends of moves

-- what ends a label and one more move ends the moves that end with the label, and that move
ends_on : (done label : List Move) (m : Move) (string : List Move) → EndsWith done label → EndsWith (label ++ m ∷ []) string → EndsWith (done ++ m ∷ []) string
ends_on done label m string before after = (
  before.0 ++ after.0,
  ap (λ ms. ms ++ m ∷ []) before.1 ∙ append_assoc before.0 label (m ∷ []) ∙ ap (λ ms. before.0 ++ ms) after.1 ∙ sym (append_assoc before.0 after.0 string),
)

one_on : (done : List Move) (m : Move) (ms : List Move) → (done ++ m ∷ []) ++ ms ≡ done ++ m ∷ ms
one_on done m ms = append_assoc done (m ∷ []) ms

-- ---- what is refused

module _ (n : ℕ) (label : ℕ → List Move) (states : ℕ) (string : ℕ → List Move) (strings : ℕ) (steps : List ℕ) (few : states < left_out)
    (forbidden : (number : ℕ) → number < strings → IsForbidden n (string number))
    (right : (s : ℕ) (m : Move) → s < states → IsRight label states string strings (label s ++ m ∷ []) (next_at steps s m)) where
  refused_from : (ms : List Move) (s : ℕ) (done : List Move) → s < states → EndsWith done (label s) → refuses steps s ms ≡ true → HasForbidden n (done ++ ms)
  refused_from [] s done inside ends refused = cc
  refused_from (m ∷ ms) s done inside ends refused = elim (right s m inside) [
    | inl on ↦
        let low : next_at steps s m < states = on.0 in
        let goes_on : refuses steps (next_at steps s m) ms ≡ true =
        sym (cond-false (eqb (next_at steps s m) left_out) true (refuses steps (next_at steps s m) ms)
        (ne_eqb (next_at steps s m) left_out (λ e. omega arith))) ∙ refused in
        subst (HasForbidden n) (one_on done m ms)
        (refused_from ms (next_at steps s m) (done ++ m ∷ []) low (ends_on done (label s) m (label (next_at steps s m)) ends on.1) goes_on)
    | inr out ↦
        let whole = ends_on done (label s) m (string out.1) ends out.3 in
        record {
          string = string out.1;
          forbidden = forbidden out.1 out.2;
          has = record {
            front = whole.0;
            rest = ms;
            whole = sym (one_on done m ms) ∙ ap (λ k. k ++ ms) whole.1 ∙ append_assoc whole.0 (string out.1) ms;
          };
        }
  ]

-- ---- the table of a draft

string_of-get : (forbidden : List Forbidden) (k : ℕ) (d : Forbidden) → k < length forbidden → string_of forbidden k ≡ (get_or forbidden k d).string.items
string_of-get [] k d inside = absurd (omega arith)
string_of-get (entry ∷ forbidden) zero d inside = refl
string_of-get (entry ∷ forbidden) (suc k) d inside = string_of-get forbidden k d (omega arith)

label_of-get : {Z : Type 0} → (labels : List (Vec Move Z)) (k : ℕ) (d : Vec Move Z) → k < length labels → label_of labels k ≡ (get_or labels k d).items
label_of-get [] k d inside = absurd (omega arith)
label_of-get (label ∷ labels) zero d inside = refl
label_of-get (label ∷ labels) (suc k) d inside = label_of-get labels k d (omega arith)

first_entry : (P : List Move → Type 0) (forbidden : List Forbidden) → All (λ entry. P entry.string.items) forbidden → (k : ℕ) → k < length forbidden
    → P (string_of forbidden k)
first_entry P [] each k inside = absurd (omega arith)
first_entry P (entry ∷ forbidden) each zero inside = each 0 entry inside
first_entry P (entry ∷ forbidden) each (suc k) inside = first_entry P forbidden (λ j d low. each (suc j) d (omega arith)) k (omega arith)

is_state : (steps : List ℕ) (states s : ℕ) → length steps ≡ 4 * states → s < states → IsState steps s
is_state steps states s long inside m = let few = rank_of-few m in omega arith

state_is : (steps : List ℕ) (states s : ℕ) → length steps ≡ 4 * states → IsState steps s → s < states
state_is steps states s long is = let last : 4 * s + 0 < length steps = is Up in omega arith

number_right : {Z : Type 0} → (labels : List (Vec Move Z)) (forbidden : List Forbidden) (moves : List Move) (step : Transition)
    → IsRightStep labels forbidden moves step
    → IsRight (label_of labels) (length labels) (string_of forbidden) (length forbidden) moves (number_of step)
number_right labels forbidden moves (To state) right = inl (right.0, right.1)
number_right labels forbidden moves (LeftOut number) right = inr (refl, number, right.0, right.1)

moves_at-place : {Z : Type 0} → (labels : List (Vec Move Z)) (s : ℕ) (m : Move) → moves_at labels (4 * s + rank_of m) ≡ label_of labels s ++ m ∷ []
moves_at-place labels s m =
    ap₂ (λ k r. label_of labels k ++ move_of_rank r ∷ []) (state_of_place s m) (rank_of_place s m) ∙
    ap (λ k. label_of labels s ++ k ∷ []) (move_of_rank-rank_of m)

-- the automaton of a draft that is right
pub IsAutomaton-right : (n : ℕ) (draft : Draft) → IsRightDraft n draft → IsAutomaton (automaton_of n draft)
IsAutomaton-right n draft is = record {
  first = is_state steps states 0 long is.some;
  next = λ s m leads on. elim (right s m (state_is steps states s long leads)) [
    | inl to ↦ is_state steps states (next_at steps s m) long to.0
    | inr out ↦ absurd (on out.0)
  ];
  refused = λ moves refused.
      refused_from n (label_of draft.labels.items) states (string_of draft.forbidden.items) (length draft.forbidden.items) steps is.few
      (λ number low. first_entry (IsForbidden n) draft.forbidden.items
      (λ k d inside. record { witness = (get_or draft.forbidden.items k d).witness.items; is = is.witnesses k d inside }) number low)
      right moves 0 [] is.some ([], sym is.first) refused;
}
  where
    states : ℕ
    states = length draft.labels.items

    steps : List ℕ
    steps = map number_of draft.steps.items

    long : length (map number_of draft.steps.items) ≡ 4 * length draft.labels.items
    long = length-map draft.steps.items number_of ∙ is.four

    right : (s : ℕ) (m : Move) → s < states → IsRight (label_of draft.labels.items) states (string_of draft.forbidden.items)
        (length draft.forbidden.items) (label_of draft.labels.items s ++ m ∷ []) (next_at steps s m)
    right s m inside =
        let few_ranks = rank_of-few m in
        let four = is.four in
        let there : 4 * s + rank_of m < length draft.steps.items = omega arith in
        subst (λ k. IsRight (label_of draft.labels.items) states (string_of draft.forbidden.items) (length draft.forbidden.items) k
        (next_at steps s m)) (moves_at-place draft.labels.items s m)
        (subst (IsRight (label_of draft.labels.items) states (string_of draft.forbidden.items) (length draft.forbidden.items)
        (moves_at draft.labels.items (4 * s + rank_of m)))
        (sym (get_or-map number_of draft.steps.items (4 * s + rank_of m) (To 0) 0 there))
        (number_right draft.labels.items draft.forbidden.items (moves_at draft.labels.items (4 * s + rank_of m))
        (get_or draft.steps.items (4 * s + rank_of m) (To 0)) (is.steps (4 * s + rank_of m) (To 0) there)))

-- ---- what is read of a draft

-- what is read of the labels at a state's number is the label of the state
pub label_of-read : {Z : Type 0} → (labels : List (Vec Move Z)) (k : ℕ) (label : Vec Move Z) → k < length labels → label ≡ get_or labels k label
    → label.items ≡ label_of labels k
label_of-read labels k label inside is = ap (λ v. v.items) is ∙ sym (label_of-get labels k label inside)

-- what is read of the forbidden strings at a number is the string with it
pub string_of-read : (forbidden : List Forbidden) (k : ℕ) (d : Forbidden) → k < length forbidden → (get_or forbidden k d).string.items ≡ string_of forbidden k
string_of-read forbidden k d inside = sym (string_of-get forbidden k d inside)

-- a test of ends, told of what the moves and the string are
pub ends_as : (label other : List Move) (m k : Move) (string shown : List Move) → label ≡ other → m ≡ k → string ≡ shown
    → (t : Bool) → IsTrue t ↔ EndsWith (label ++ m ∷ []) string → IsTrue t ↔ EndsWith (other ++ k ∷ []) shown
ends_as label other m k string shown e f g t ends =
    subst (λ ls. IsTrue t ↔ EndsWith (ls ++ k ∷ []) shown) e
    (subst (λ x. IsTrue t ↔ EndsWith (label ++ x ∷ []) shown) f (subst (λ s. IsTrue t ↔ EndsWith (label ++ m ∷ []) s) g ends))

-- a step to a state is right exactly where the moves that it completes end with the state's label
pub right_to : {Z : Type 0} → (labels : List (Vec Move Z)) (forbidden : List Forbidden) (place state : ℕ) (step : Transition) → step ≡ To state
    → state < length labels
    → {t : Bool} → IsTrue t ↔ EndsWith (moves_at labels place) (label_of labels state) → IsTrue t ↔ IsRightStep labels forbidden (moves_at labels place) step
right_to labels forbidden place state step is inside {t} ends =
    subst (λ s. IsTrue t ↔ IsRightStep labels forbidden (moves_at labels place) s) (sym is) (λ holds. (inside, ends.0 holds), λ right. ends.1 right.1)

-- a step that is left out is right exactly where the moves that it completes end with its string
pub right_left_out : {Z : Type 0} → (labels : List (Vec Move Z)) (forbidden : List Forbidden) (place number : ℕ) (step : Transition)
    → step ≡ LeftOut number → number < length forbidden
    → {t : Bool} → IsTrue t ↔ EndsWith (moves_at labels place) (string_of forbidden number) → IsTrue t
    ↔ IsRightStep labels forbidden (moves_at labels place) step
right_left_out labels forbidden place number step is inside {t} ends =
    subst (λ s. IsTrue t ↔ IsRightStep labels forbidden (moves_at labels place) s) (sym is) (λ holds. (inside, ends.0 holds), λ right. ends.1 right.1)

-- any moves end with a string without moves
pub ends_with_none : (moves string : List Move) → length string ≡ 0 → EndsWith moves string
ends_with_none moves [] none = (moves, sym (append_none moves))
  where
    append_none : (ms : List Move) → ms ++ [] ≡ ms
    append_none [] = refl
    append_none (m ∷ ms) = ap (λ ks. m ∷ ks) (append_none ms)
ends_with_none moves (m ∷ string) none = absurd (omega arith)

-- a list of moves whose length is 0 is empty
pub nothing : (moves : List Move) → length moves ≡ 0 → moves ≡ []
nothing [] none = refl
nothing (m ∷ moves) none = absurd (omega arith)
