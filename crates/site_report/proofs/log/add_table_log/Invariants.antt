-- Adding keys one by one.
use Rattle.std.proofs.Common.{◌≡◌, ◌++◌, drop}
use Rattle.std.specs.Prelude.{flat_map}
use Rattle.report_text.specs.Sheet.{StandBefore}
use Rattle.site_report.specs.Shows.{noted_text, table_log_text}
use Rattle.site_report.proofs.log.add_table_log.Given as goal

-- the keys so far and those to come are all of them, and what stood there is kept
abbrev pub invariant-loop-place : goal.invariant-loop-place
invariant-loop-place l = record {
  text : l.lines.bytes ++ flat_map noted_text (drop l.place l.log.log.keys) ≡ l.fn.lines.bytes ++ table_log_text l.schema l.log.log;
  front : StandBefore l.fn.lines.bytes l.lines.bytes;
}
