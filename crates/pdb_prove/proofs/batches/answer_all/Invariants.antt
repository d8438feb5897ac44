use Rattle.std.proofs.Common.{◌≡◌, ◌-◌, None, length}
use Rattle.pdb_run.specs.Runs.{World}
use Rattle.puz_search.specs.StoredGuides.{bundle_of}
use Rattle.pdb_prove.specs.Steps.{IsSameAsked, IsToldTo}
use Rattle.pdb_prove.proofs.batches.answer_all.Given as goal

-- how many claims are left to answer gets less with each batch
abbrev pub decreases-loop-asked : goal.decreases-loop-asked
decreases-loop-asked g l = length l.asked.claims.items - l.asked.told

-- the claims before were told, and no words are wanted
abbrev pub invariant-loop-asked : goal.invariant-loop-asked
invariant-loop-asked g l =
    let v = bundle_of l.fn.help.sets in record {
      same : IsSameAsked l.fn.asked l.asked;
      sets : l.help.sets ≡ l.fn.help.sets;
      unprepared : l.help.words ≡ None;
      goes_on : l.fn.help.before_words ≡ None → l.help.before_words ≡ None;
      streams : g.I.Io.streams l.io ≡ g.I.Io.streams l.fn.io;
      told : (begun : World) → IsToldTo v begun (g.I.Io.world l.fn.io) l.fn.asked → IsToldTo v begun (g.I.Io.world l.io) l.asked;
    }
