use Rattle.std.proofs.Common.{refl, rules}
use Rattle.log_file.proofs.FileLemmas.{IsLogFile-read}
use Rattle.log_file.proofs.views.read_log.Goals as goal

-- the version and the side of the header, with the lemmas listed, are a log
pub invariant_of-result : goal.invariant_of-result
invariant_of-result c =
    (IsLogFile-read c.in-Some.header.version c.in-Some.header.side c.in-Some.header.count c.args.file.now c.in-Some.ensures.some.0
    c.in-Some.ensures.some.1 c.in-Some.ensures.some.2 _ (search rules) (search rules) c.in-Ok.ensures.lemmas).is_log

-- the bytes are the file of the log that is viewed
pub returns-in-Ok-clause-ok : goal.returns-in-Ok-clause-ok
returns-in-Ok-clause-ok c =
    IsLogFile-read c.in-Some.header.version c.in-Some.header.side c.in-Some.header.count c.args.file.now c.in-Some.ensures.some.0
    c.in-Some.ensures.some.1 c.in-Some.ensures.some.2 _ (search rules) (search rules) c.in-Ok.ensures.lemmas

-- where memory for the list is wanting, the bytes are the file of a log
pub returns-in-Err-clause-memory : goal.returns-in-Err-clause-memory
returns-in-Err-clause-memory c =
    λ _. (
      _,
      IsLogFile-read c.in-Some.header.version c.in-Some.header.side c.in-Some.header.count c.args.file.now c.in-Some.ensures.some.0
          c.in-Some.ensures.some.1 c.in-Some.ensures.some.2 _ (search rules) (search rules) refl,
    )
