-- Which flags stand in words that parse.
use Rattle.std.proofs.Common.{◌≡◌, ◌≢◌, ◌∙◌, ◌⊎◌, arith, inl, inr, refl, sym, ap, ℕ, Bool, false, List, [], ◌∷◌, ◌++◌, Option, Some, None, codes}
use Rattle.std.specs.List.{All}
use Rattle.std.specs.Prelude.{IfSome}
use Rattle.std.specs.Str.{bytes_eq}
use Rattle.std.proofs.lemmas.Bool.{cases_Bool}
use Rattle.std.proofs.lemmas.List.Elements.{All-head, All-tail}
use Rattle.clap.specs.Faults.{long_fault, walk_fault}
use Rattle.clap.specs.Lexer.{long_of}
use Rattle.clap.specs.Simple.{Shape, filled, help_rule}
use Rattle.clap.specs.Walk.{Held, Rule, Text, Walk, arg_by_index, arg_by_long, nothing_held, walk_from, walked}
use Rattle.pdb_words.specs.CommandLine.{Parses}
use Rattle.pdb_words.specs.Commands.{IsCommand, IsOneOf, commands}
use Rattle.pdb_words.proofs.CommandLemmas.{leaf, none_wrong, parse_faults_behind, parse_right}
use Rattle.pdb_words.proofs.TextLemmas.{each_holds, same_text}
use Rattle.word_laws.specs.Flags.{IsLongFlag, TakesFlag, boarding_commands}

-- no argument takes all words that follow
abbrev NoneTrails : Shape → Type 0
NoneTrails s = (place : ℕ) → IfSome (arg_by_index s.rules place) (λ a. a.trailing_var_arg ≡ false)

-- words are read, and none of them as what stands behind a `--`
abbrev IsGoing : Walk → Type 0
IsGoing w = (w.is_trailing ≡ false) × (w.stopped ≡ None)

walked_going : (s : Shape) → NoneTrails s → (w : Walk) (word : Text) → IsGoing w → word ≢ codes "--" → IsGoing (walked s.rules [] w word)
unfolding walked
walked_going s none w word going apart = grind (arith, none w.position, same_text word (codes "--"))

-- where nothing is wrong with words, nothing is with a flag among them, before which no `--` stands
flag_right : (s : Shape) → NoneTrails s → (w : Walk) (before : List Text) (flag name : Text) (v : Option Text) (after : List Text) → IsGoing w
    → All (λ word. word ≢ codes "--") before
    → long_of flag ≡ Some (name, v) → walk_fault s [] w (before ++ flag ∷ after) ≡ [] → (h : Held)
    × (long_fault s.rules s.args_override_self (arg_by_long s.rules name) v h ≡ [])
unfolding walk_fault
flag_right s none w [] flag name v after going all is right = (w.held, grind (arith, same_text flag (codes "--")))
flag_right s none w (word ∷ before) flag name v after going all is right =
    flag_right s none (walked s.rules [] w word) before flag name v after
    (walked_going s none w word going (All-head (λ word. word ≢ codes "--") word before all))
    (All-tail (λ word. word ≢ codes "--") word before all) is (none_wrong _ _ right).1

-- the flag `--help` and no other, as it is built
abbrev help_alone : List Rule
help_alone = filled help_rule ∷ []

help_wrong : (again : Bool) (c : List Rule) (name : Text) (v : Option Text) (h : Held) → long_fault c again (arg_by_long help_alone name) v h ≢ []
help_wrong again c name v h = grind arith

-- the command takes the flag, or knows it no better than if it had `--help` alone
abbrev KnowsItsFlags : Text → Type 0
KnowsItsFlags command = (name : Text) → (arg_by_long (leaf command).rules name ≡ arg_by_long help_alone name) ⊎ TakesFlag command name

-- `--goal`, or another flag of the command
goal_or : (command : Text) → IsOneOf boarding_commands command
    → ((name : Text) → bytes_eq (codes "goal") name ≡ false → (arg_by_long (leaf command).rules name ≡ arg_by_long help_alone name) ⊎ TakesFlag command name)
    → KnowsItsFlags command
goal_or command boards others name = elim (cases_Bool (bytes_eq (codes "goal") name)) [
  | inl g ↦ inr (inr (inr (inr (inr (boards, sym (same_text (codes "goal") name g))))))
  | inr g ↦ others name g
]

replay_knows : KnowsItsFlags (codes "replay")
replay_knows = goal_or (codes "replay") (inl refl) (λ name g. rw g (grind arith))

bound_knows : KnowsItsFlags (codes "bound")
bound_knows = goal_or (codes "bound") (inr (inl refl)) (λ name g. rw g (grind arith))

optimal_knows : KnowsItsFlags (codes "optimal")
optimal_knows = goal_or (codes "optimal") (inr (inr (inl refl))) (λ name g. rw g (grind arith))

parts_knows : KnowsItsFlags (codes "parts")
parts_knows = goal_or (codes "parts") (inr (inr (inr (inr (inr (inl refl)))))) (λ name g. rw g (grind arith))

solve_knows : KnowsItsFlags (codes "solve")
solve_knows = goal_or (codes "solve") (inr (inr (inr (inl refl)))) (λ name g. elim (cases_Bool (bytes_eq (codes "budget") name)) [
  | inl e ↦ inr (inr (inr (inl (inl refl, sym (same_text (codes "budget") name e)))))
  | inr e ↦ elim (cases_Bool (bytes_eq (codes "replace") name)) [
    | inl r ↦ inr (inr (inr (inr (inl (inr (inl refl), sym (same_text (codes "replace") name r))))))
    | inr r ↦ elim (cases_Bool (bytes_eq (codes "fold") name)) [
      | inl f ↦ inr (inr (inl (inr (inr (inl refl)), sym (same_text (codes "fold") name f))))
      | inr f ↦ rw (g, e, r, f) (grind arith)
    ]
  ]
])

make_table_knows : KnowsItsFlags (codes "make-table")
make_table_knows name = elim (cases_Bool (bytes_eq (codes "replace") name)) [
  | inl r ↦ inr (inr (inr (inr (inl (inl refl, sym (same_text (codes "replace") name r))))))
  | inr r ↦ rw r (grind arith)
]

prove_knows : KnowsItsFlags (codes "prove")
prove_knows = goal_or (codes "prove") (inr (inr (inr (inr (inl refl))))) (λ name g. elim (cases_Bool (bytes_eq (codes "budget") name)) [
  | inl e ↦ inr (inr (inr (inl (inr (inl refl), sym (same_text (codes "budget") name e)))))
  | inr e ↦ elim (cases_Bool (bytes_eq (codes "fold") name)) [
    | inl f ↦ inr (inr (inl (inr (inr (inr (inl refl))), sym (same_text (codes "fold") name f))))
    | inr f ↦ rw (g, e, f) (grind arith)
  ]
])

all_know : (command : Text) → IsCommand command → KnowsItsFlags command
all_know = each_holds KnowsItsFlags commands (
  replay_knows,
  (λ name. grind arith, (bound_knows, (optimal_knows, (make_table_knows, (solve_knows, (prove_knows, (parts_knows, tt))))))),
)

-- behind a command's name, and no `--`, there are no flags but these
pub flags_known : (command name flag : Text) (before after : List Text) → IsCommand command → All (λ word. word ≢ codes "--") before → IsLongFlag name flag
    → Parses (command ∷ before ++ flag ∷ after) → TakesFlag command name
flags_known command name flag before after is all is_flag parses =
    let s = leaf command in
    let none = each_holds (λ c. NoneTrails (leaf c)) commands (
      λ place. grind arith,
      (
        λ place. grind arith,
        (
          λ place. grind arith,
          (λ place. grind arith, (λ place. grind arith, (λ place. grind arith, (λ place. grind arith, (λ place. grind arith, tt))))),
        ),
      ),
    ) command is in
    let behind = none_wrong _ _ (none_wrong _ _ (sym (parse_faults_behind command is (before ++ flag ∷ after))
    ∙ parse_right (command ∷ before ++ flag ∷ after) parses)).0 in
    let met = flag_right s none (walk_from nothing_held) before flag name is_flag.0 after (refl, refl) all is_flag.1 behind.0 in
    elim (all_know command is name) [
      | inr taken ↦ taken
      | inl help ↦ absurd (help_wrong s.args_override_self s.rules name is_flag.0 met.0
          (ap (λ (found : Option Rule). long_fault s.rules s.args_override_self found is_flag.0 met.0) (sym help) ∙ met.1))
    ]
