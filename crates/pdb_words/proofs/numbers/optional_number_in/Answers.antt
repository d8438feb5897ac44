use Rattle.std.proofs.Common.{arith}
use Rattle.std.proofs.lemmas.Bool.Decides.{nat_tests}
use Rattle.pdb_words.proofs.NumberLemmas.{number_read}
use Rattle.pdb_words.proofs.numbers.optional_number_in.Goals as goal

-- a number from low to high that is found under an id is the one asked for
pub returns-in-Some-clause-asked : goal.returns-in-Some-clause-asked
returns-in-Some-clause-asked c = grind (arith, nat_tests, number_read c.args.low _ c.ranges.high.fits _ _ _ c.get_one.ensures.none c.get_one.ensures.value)

-- a number found under an id that is past one end of low to high is none that is asked for
pub returns-in_default-clause-asked : goal.returns-in_default-clause-asked
returns-in_default-clause-asked c = grind (arith, nat_tests, number_read c.args.low _ c.ranges.high.fits _ _ _ c.get_one.ensures.none c.get_one.ensures.value)

-- a number found under an id that is past the other end of low to high is none that is asked for
pub returns-in_default-2-clause-asked : goal.returns-in_default-2-clause-asked
returns-in_default-2-clause-asked c = grind (arith, nat_tests, number_read c.args.low _ c.ranges.high.fits _ _ _ c.get_one.ensures.none c.get_one.ensures.value)

-- where no number is found under an id, none is asked for
pub returns-in_default-3-clause-asked : goal.returns-in_default-3-clause-asked
returns-in_default-3-clause-asked c = grind (arith, number_read c.args.low c.args.high c.ranges.high.fits _ _ _ c.get_one.ensures.none c.get_one.ensures.value)
