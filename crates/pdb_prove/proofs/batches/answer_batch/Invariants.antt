use Rattle.std.proofs.Common.{◌≡◌, ◌+◌, None}
use Rattle.pdb_run.specs.Runs.{World}
use Rattle.puz_search.specs.StoredGuides.{bundle_of}
use Rattle.pdb_prove.specs.Steps.{IsSameAsked, IsToldTo}
use Rattle.pdb_prove.proofs.batches.answer_batch.Given as goal

-- the claims before were told, and no words are wanted
abbrev pub invariant-loop-place : goal.invariant-loop-place
invariant-loop-place g l =
    let v = bundle_of l.fn.help.sets in record {
      next : l.asked.told ≡ l.fn.asked.told + l.place;
      same : IsSameAsked l.fn.asked l.asked;
      sets : l.help.sets ≡ l.fn.help.sets;
      unprepared : l.help.words ≡ None;
      goes_on : l.fn.help.before_words ≡ None → l.help.before_words ≡ None;
      streams : g.I.Io.streams l.io ≡ g.I.Io.streams l.fn.io;
      told : (begun : World) → IsToldTo v begun (g.I.Io.world l.fn.io) l.fn.asked → IsToldTo v begun (g.I.Io.world l.io) l.asked;
    }
