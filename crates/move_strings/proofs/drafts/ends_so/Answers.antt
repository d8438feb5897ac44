use Rattle.std.proofs.Common.{◌++◌, ◌∷◌, [], refl}
use Rattle.move_strings.proofs.AutomatonLemmas.{ends_with_none}
use Rattle.move_strings.proofs.drafts.ends_so.Goals as goal

-- a label and a move end with a string that has no moves
pub returns-in-None : goal.returns-in-None
returns-in-None c = (λ t. ends_with_none (c.args.label.now ++ c.args.mv ∷ []) c.args.string.now c.in-None.ensures.cases, λ ends. refl)
