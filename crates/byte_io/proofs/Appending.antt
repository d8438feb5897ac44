-- Reads and writes in a row.
use Rattle.std.proofs.Common.{◌≡◌, ◌∙◌, ◌≤◌, ◌+◌, ◌-◌, ℕ, ◌++◌, Option, Result, Ok, Err, length, length-append, take, drop, sym, ap, arith, subst}
use Rattle.std.proofs.KnownBytes.{Appends-trans, Consumes-trans}
use Rattle.std.proofs.Math.Seq.{take-add, take-append-add}
use Rattle.std.proofs.lemmas.Grind.{common_steps}
use Rattle.std.proofs.lemmas.List.{places, take-append-le, with_items_is}
use borrow.Rule.Slice.PartMut.{take_put}
use Rattle.byte_io.specs.Shelf.{Bytes}
use Rattle.byte_io.specs.Streams.{AppendsFront, Output, Writes, WritesAll, WritesFront}

-- bytes that were written, and a write behind them
pub writes_behind : {E : Type 0} (a b c : Output) (xs ys : Bytes) (r : Result (Unit {0}) E) → WritesAll a b xs → Writes b c ys r → Writes a c (xs ++ ys) r
writes_behind a b c xs ys (Ok v) p q = (Appends-trans a.bytes b.bytes c.bytes xs ys p.0 q.0, q.1 ∙ p.1)
writes_behind a b c xs ys (Err e) p q =
    let front = q.0 in
    ((length xs + front.0, omega (arith, length-append xs ys, front.1), rw take-append-add (Appends-trans a.bytes b.bytes c.bytes xs _ p.0 front.2)), q.1)

-- a proper front of some bytes is one of more bytes
front_grows : (a b : Option Bytes) (xs ys : Bytes) → AppendsFront a b xs → AppendsFront a b (xs ++ ys)
front_grows a b xs ys p = (p.0, grind (arith, common_steps), grind (arith, common_steps))

-- what writes a front of some bytes writes a front of them with more behind
pub front_of_more : (a b : Output) (xs ys : Bytes) → WritesFront a b xs → WritesFront a b (xs ++ ys)
front_of_more a b xs ys p = (front_grows a.bytes b.bytes xs ys p.0, p.1)

-- with the room of one list, into which reads go
pub ruleset stream_steps = (common_steps, places, Appends-trans, Consumes-trans, take-add, take_put, with_items_is)
