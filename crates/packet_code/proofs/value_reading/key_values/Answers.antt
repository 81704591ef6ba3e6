-- Each step reads a value, or stops.
use Rattle.std.proofs.Common.{◌-◌, ◌+◌, [], ap, length, arith}
use Rattle.std.proofs.lemmas.List.{length-append}
use Rattle.std.proofs.lemmas.Result.{err_from_is_err_and}
use Rattle.packet_code.specs.Forms.{value}
use Rattle.packet_code.specs.Reading.{times}
use Rattle.packet_code.proofs.Repeats.{with_found-none, found_ends, found_more, found_fails}
use Rattle.packet_code.proofs.value_reading.key_values.Goals as goal

pub returns-in_err-value : goal.returns-in_err-value
returns-in_err-value c =
    let all = times c.args.count value c.args.bytes.now in
    let p = err_from_is_err_and c.from_residual.result c.from_residual.ensures.1 in
    rw (p.1, p.2) (found_fails value [] (c.args.count - 1) c.args.count c.args.bytes.now c.in_err-value.field-0.0 all (with_found-none value all)
    (omega (arith, c.requires.some)) c.in_err-value.ensures)

pub loop-init : goal.loop-init
loop-init c =
    let all = times c.args.count value c.args.bytes.now in (
      found_more value [] c.first.result (c.args.count - 1) c.args.count c.args.bytes.now c.value.new.bytes c.in_ok-value.field-0 all (with_found-none value all)
          (omega (arith, c.requires.some)) c.in_ok-value.ensures c.first.ensures,
      ap length c.first.ensures,
    )

pub returns-in_err-value-2 : goal.returns-in_err-value-2
returns-in_err-value-2 c =
    let p = err_from_is_err_and c.from_residual-in_err-value-2.result c.from_residual-in_err-value-2.ensures.1 in
    rw (p.1, p.2) (found_fails value c.loop.into (c.args.count - (c.loop.counter + 1)) (c.args.count - c.loop.counter) c.loop.bytes c.in_err-value-2.field-0.0
    (times c.args.count value c.args.bytes.now) c.loop.invariant.0 (omega (arith, c.loop-test.true)) c.in_err-value-2.ensures)

pub loop-preserved : goal.loop-preserved
loop-preserved c = (
  found_more value c.loop.into c.push.new.self (c.args.count - (c.loop.counter + 1)) (c.args.count - c.loop.counter) c.loop.bytes c.value-in-loop.new.bytes
      c.in_ok-value-2.field-0 (times c.args.count value c.args.bytes.now) c.loop.invariant.0 (omega (arith, c.loop-test.true)) c.in_ok-value-2.ensures c.push.ensures,
  rw (c.push.ensures, length-append) (omega (arith, c.loop.invariant.1)),
)

pub returns : goal.returns
returns c =
    found_ends value c.loop.into (c.args.count - c.loop.counter) c.loop.bytes (times c.args.count value c.args.bytes.now) c.loop.invariant.0
    (omega (arith, c.loop-test.false))
