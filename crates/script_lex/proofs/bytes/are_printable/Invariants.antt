-- All bytes looked at.
use Rattle.std.proofs.Common.{◌≡◌, ◌&&◌, drop}
use Rattle.std.specs.List.{list_all}
use Rattle.rep_values.specs.Bytes.{is_printable}
use Rattle.script_lex.proofs.bytes.are_printable.Given as goal

abbrev pub invariant-loop-byte : goal.invariant-loop-byte
invariant-loop-byte l = (l.all && list_all is_printable (drop l.byte-index l.line)) ≡ list_all is_printable l.line
