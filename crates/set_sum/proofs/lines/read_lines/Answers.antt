use Rattle.std.proofs.Common.{List, map}
use Rattle.std.specs.Prelude.{option_map}
use Rattle.set_sum.specs.declared.members.Member.{Member}
use Rattle.set_sum.proofs.LinesReadLemmas.{lines_end, lines_next, lines_room, nothing_left, something_left}
use Rattle.set_sum.proofs.lines.read_lines.Goals as goal

-- where nothing is left behind a line, the text is the lines that were read
pub returns-then-is_empty-clause-ok : goal.returns-then-is_empty-clause-ok
returns-then-is_empty-clause-ok c =
    let old = c.lines.lines in
    let new = c.push.new.self in
    let kept : List (List Member) = map (λ set. set.items) old.sets.items in
    let next : List (List Member) = map (λ set. set.items) new.sets.items in
    let set = option_map (λ set. set.items) c.in-Some.line.set in
    let has = c.lines.invariant.has in
    let read = c.in-Some.ensures.some in
    let are = c.push.ensures c.args.tables has.lines read.members has.are_read read.is_read in
    lines_end c.args.tables c.args.text.now c.lines.rest.now old.count old.missing kept has set c.in-Some.line.rest.now read new.count new.missing next are
    (nothing_left c.in-Some.line.rest.now c.is_empty.result c.is_empty.ensures c.if-is_empty.true)

-- a line with something behind it is one more of those read
pub lines-preserved : goal.lines-preserved
lines-preserved c =
    let old = c.lines.lines in
    let new = c.push.new.self in
    let kept : List (List Member) = map (λ set. set.items) old.sets.items in
    let next : List (List Member) = map (λ set. set.items) new.sets.items in
    let set = option_map (λ set. set.items) c.in-Some.line.set in
    let has = c.lines.invariant.has in
    let read = c.in-Some.ensures.some in
    let are = c.push.ensures c.args.tables has.lines read.members has.are_read read.is_read in
    record {
      has = lines_next c.args.tables c.args.text.now c.lines.rest.now old.count old.missing kept has set c.in-Some.line.rest.now read new.count
          new.missing next are
          (something_left c.in-Some.line.rest.now c.is_empty.result c.is_empty.ensures c.if-is_empty.false);
      room = lines_room c.args.tables c.args.text.now c.lines.rest.now old.count old.missing kept has set c.in-Some.line.rest.now read new.count
          new.missing next are c.lines.invariant.room;
    }
