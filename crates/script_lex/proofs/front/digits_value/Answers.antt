-- At most 16 digits write a number below 2^64.
use Rattle.std.proofs.Common.{◌≤◌, ◌^◌, arith, lit<}
use Rattle.std.proofs.Math.Nat.{pow-le-pow_right}
use Rattle.script_lex.proofs.front.digits_value.Goals as goal

pub overflow_mul-size : goal.overflow_mul-size
overflow_mul-size c =
    let short : c.loop-digit.digit-index ≤ 15 = omega arith in
    let most : 10 ^ c.loop-digit.digit-index ≤ 10 ^ 15 = pow-le-pow_right (lit< tt) short in
    omega (arith, c.loop-digit.invariant.bound)

pub overflow_add-size : goal.overflow_add-size
overflow_add-size c =
    let short : c.loop-digit.digit-index ≤ 15 = omega arith in
    let most : 10 ^ c.loop-digit.digit-index ≤ 10 ^ 15 = pow-le-pow_right (lit< tt) short in
    omega (arith, c.loop-digit.invariant.bound)
