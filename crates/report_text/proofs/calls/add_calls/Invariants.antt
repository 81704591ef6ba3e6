-- Adding calls one by one.
use Rattle.std.proofs.Common.{◌≡◌, ◌+◌, ◌++◌, drop}
use Rattle.report_text.specs.Sheet.{StandBefore}
use Rattle.report_text.specs.Calls.{calls_from, calls_text}
use Rattle.report_text.proofs.calls.add_calls.Given as goal

-- the calls so far and those to come are all lines, and what stood there is kept
abbrev pub invariant-loop-place : goal.invariant-loop-place
invariant-loop-place l = record {
  text : l.lines.bytes ++ calls_from l.schema (l.place + 1) (drop l.place l.txn.calls) ≡ l.fn.lines.bytes ++ calls_text l.schema l.txn.calls;
  front : StandBefore l.fn.lines.bytes l.lines.bytes;
}
