use Rattle.std.proofs.Common.{◌≡◌, IfOk, map, refl, string_bytes, subst, true}
use Rattle.std.proofs.lemmas.Result.{IfOk-weaker}
use Rattle.clap.specs.Words.{App, FailsBy, HasMatchesOf, fault_of, is_simple_and_free}
use Rattle.clap.specs.declared.ArgMatches.{ArgMatches}
use Rattle.pdb_words.specs.CommandLine.{command_line}
use Rattle.pdb_words.proofs.CommandLemmas.{command_found}
use Rattle.pdb_words.proofs.command_line.matches_of.Goals as goal

-- where the words match, the command found and its rows are those of the described command line
pub returns-clause-rows : goal.returns-clause-rows
returns-clause-rows c = IfOk-weaker _ _ _ (λ (m : ArgMatches) (h : HasMatchesOf command_line (map string_bytes c.args.words.now) m). (h refl).1)
    (subst (λ (a : App). IfOk c.try_get_matches_from.result (HasMatchesOf a (map string_bytes c.args.words.now))) c.in_ok-command_line.ensures
    c.try_get_matches_from.ensures.matches)

-- words match where nothing is wrong with them, and else fail by what is wrong, or for want of memory
pub returns-clause-kinds : goal.returns-clause-kinds
returns-clause-kinds c = subst (λ (a : App). is_simple_and_free a ≡ true
    → FailsBy (fault_of a (map string_bytes c.args.words.now)) c.try_get_matches_from.result)
    c.in_ok-command_line.ensures c.try_get_matches_from.ensures.kinds refl

-- a subcommand that is found in the words is a command of the program
pub returns-clause-command : goal.returns-clause-command
returns-clause-command c = command_found (map string_bytes c.args.words.now) c.try_get_matches_from.result (returns-clause-kinds c) (returns-clause-rows c)
