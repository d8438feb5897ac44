use Rattle.std.proofs.Common.{◌≡◌, ◌∙◌, ℕ, List, ap, rules, subst, sym}
use Rattle.pdb_words.specs.Faults.{unreadable_word}
use Rattle.pdb_program.specs.Refusals.{AppendsWholeOrFront}
use Rattle.pdb_program.specs.declared.hosts.ArgumentFault.TheVariants.{Unreadable}
use Rattle.pdb_program.proofs.starts.without_words.Goals as goal

same_place : (m n : ℕ) → Unreadable m ≡ Unreadable n → m ≡ n
same_place m n e = cc

-- where a word is no text, this is said of its place and nothing of it on the output
pub returns-in-Unreadable-clause-unreadable : goal.returns-in-Unreadable-clause-unreadable
returns-in-Unreadable-clause-unreadable g c = λ place is.
    let same = same_place c.in-Unreadable.place place (sym c.in-Unreadable.is ∙ is) in
    let text : c.as_str.result.now ≡ unreadable_word place = c.as_str.ensures.value ∙ c.unreadable_word.ensures ∙ ap unreadable_word same in (
      search rules,
      subst (λ (t : List ℕ). AppendsWholeOrFront t (g.E.Write.contents c.args.err.now) (g.E.Write.contents c.tell.new.err)) text c.tell.ensures.told,
      c.tell.ensures.status,
    )
