-- Each step reads a part, or stops.
use Rattle.std.proofs.Common.{◌-◌, ◌+◌, arith}
use Rattle.std.proofs.lemmas.Result.{err_from_is_err_and}
use Rattle.packet_code.specs.Reading.{times}
use Rattle.packet_code.proofs.Repeats.{found_ends, found_added, found_fails}
use Rattle.packet_code.proofs.repeated.times.Goals as goal

pub returns-in_err-add : goal.returns-in_err-add
returns-in_err-add g c =
    let p = err_from_is_err_and c.from_residual-in_err-add.result c.from_residual-in_err-add.ensures.1 in
    rw (p.1, p.2) (found_fails g.P.Piece.reading c.loop.found.items (c.args.count - (c.loop.counter + 1)) (c.args.count - c.loop.counter) c.loop.bytes
    c.in_err-add.field-0.0 (times c.args.count g.P.Piece.reading c.args.bytes.now) c.loop.invariant.left (omega (arith, c.loop-test.true)) c.in_err-add.ensures.added)

pub loop-preserved : goal.loop-preserved
loop-preserved g c = record {
  left = found_added g.P.Piece.reading c.loop.found.items c.add.new.found.items (c.args.count - (c.loop.counter + 1)) (c.args.count - c.loop.counter) c.loop.bytes c.add.new.bytes
      (times c.args.count g.P.Piece.reading c.args.bytes.now) c.loop.invariant.left (omega (arith, c.loop-test.true)) c.in_ok-add.ensures.added;
  found = omega (arith, c.in_ok-add.ensures.number, c.loop.invariant.found);
  room = omega (arith, c.in_ok-add.ensures.room, c.loop.invariant.room);
}

pub returns : goal.returns
returns g c = rw c.from_vec.ensures
    (found_ends g.P.Piece.reading c.loop.found.items (c.args.count - c.loop.counter) c.loop.bytes (times c.args.count g.P.Piece.reading c.args.bytes.now)
    c.loop.invariant.left (omega (arith, c.loop-test.false)))
