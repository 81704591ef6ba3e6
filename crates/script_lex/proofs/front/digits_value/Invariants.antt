-- Digits read one by one.
use Rattle.std.proofs.Common.{◌≡◌, ◌≤◌, ◌^◌, ◌+◌, ◌*◌, drop}
use Rattle.script_lex.specs.Tokens.{digits_value}
use Rattle.script_lex.proofs.front.digits_value.Given as goal

-- a byte that is no digit counts for at most 207, which is 9 * 23
abbrev pub invariant-loop-digit : goal.invariant-loop-digit
invariant-loop-digit l = record {
  rest : digits_value l.size (drop l.digit-index l.digits) ≡ digits_value 0 l.digits;
  bound : l.size + 23 ≤ 23 * 10 ^ l.digit-index;
}
