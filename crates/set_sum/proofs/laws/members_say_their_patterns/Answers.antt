use Rattle.set_sum.proofs.MemberLemmas.{member_pattern}
use Rattle.set_sum.proofs.laws.members_say_their_patterns.Goals as goal

-- what a member says of a board is what a table of its pattern, transposed or not, says of it
pub returns : goal.returns
returns c n tables m pat b good count says = member_pattern n b good tables m pat count says
