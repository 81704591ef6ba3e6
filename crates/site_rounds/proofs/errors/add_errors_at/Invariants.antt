-- The errors at the positions so far, and those at the positions that are left.
use Rattle.std.proofs.Common.{◌≡◌, ◌++◌}
use Rattle.std.specs.Prelude.{flat_map}
use Rattle.report_text.specs.Sheet.{StandBefore}
use Rattle.site_rounds.specs.NewErrors.{text_at}
use Rattle.site_rounds.proofs.errors.add_errors_at.Given as goal

abbrev pub invariant-loop-position : goal.invariant-loop-position
invariant-loop-position l = record {
  text : l.lines.bytes ++ flat_map (text_at l.errors.list.entries) l.position-iterator ≡ l.fn.lines.bytes ++ flat_map (text_at l.errors.list.entries) l.positions.keys;
  front : StandBefore l.fn.lines.bytes l.lines.bytes;
}
