use Rattle.std.proofs.Common.{◌≡◌, ◌≢◌, ◌^◌, ◌<◌, sym, ◌∙◌, ap, arith, slice_index}
use Rattle.std.specs.Int.{bit_at}
use Rattle.puz_board.proofs.BitLemmas.{both_in, in_below}
use Rattle.set_sum.proofs.KnownLemmas.{joined_more, joined_none}
use Rattle.set_sum.proofs.known.joined.Goals as goal

-- before the first place is taken over, what is known is as it was
pub loop-fresh-init : goal.loop-fresh-init
loop-fresh-init c = record {
  joined = joined_none c.args.places c.args.other.now c.args.known.now (omega arith);
  fresh = λ p set. (both_in c.args.places _ p set).0;
}

-- taking over one place more leaves what is known joined with what is known elsewhere
pub loop-fresh-preserved : goal.loop-fresh-preserved
loop-fresh-preserved c =
    let place = c.first_of-place.result in
    let rest = c.without-fresh.result in
    let fits : rest < 2 ^ 32 = c.without-fresh.type_inv in
    record {
      joined = joined_more c.args.places place _ c.args.other.now c.args.known.now c.loop-fresh.now c.note.new.known c.loop-fresh.invariant.joined
          c.note.ensures
          (c.loop-fresh.invariant.fresh place c.first_of-place.ensures.here) (ap (slice_index c.args.other.now.entries) c.from.ensures);
      fresh = λ p set.
          let other : p ≢ place = λ e. let here : bit_at rest p ≡ 0 = ap (bit_at rest) e ∙ c.without-fresh.ensures.here in omega arith in
          c.loop-fresh.invariant.fresh p (sym (c.without-fresh.ensures.others p (in_below rest 32 p fits set) other) ∙ set);
    }
