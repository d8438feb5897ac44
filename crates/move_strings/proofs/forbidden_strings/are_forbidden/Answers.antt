use Rattle.std.proofs.Common.{get_or}
use Rattle.move_strings.proofs.EffectLemmas.{HasSameEffect-from}
use Rattle.move_strings.proofs.forbidden_strings.are_forbidden.Goals as goal

-- once the witnesses come before their strings, equal effects are all that is asked of them
pub returns-then-are_before : goal.returns-then-are_before
returns-then-are_before c = (
  λ holds k d inside.
      let entry = get_or c.args.forbidden.now k d in
      record {
        before = c.are_before.ensures.0 c.if-are_before.true k d inside;
        same = HasSameEffect-from c.args.side entry.string.items entry.witness.items (λ cell low. c.are_same.ensures.0 holds cell low k d inside);
      },
  λ all. c.are_same.ensures.1 (λ cell low k d inside b good there end leads. (all k d inside).same b end good leads),
)
