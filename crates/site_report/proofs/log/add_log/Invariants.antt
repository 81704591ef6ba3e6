-- Adding logs one by one.
use Rattle.std.proofs.Common.{◌≡◌, ◌++◌, drop}
use Rattle.std.specs.Prelude.{flat_map}
use Rattle.report_text.specs.Sheet.{StandBefore}
use Rattle.site_report.specs.Shows.{table_log_text, log_text}
use Rattle.site_report.proofs.log.add_log.Given as goal

-- the logs so far and those to come are all of them, and what stood there is kept
abbrev pub invariant-loop-place : goal.invariant-loop-place
invariant-loop-place g l = record {
  text : l.lines.bytes ++ flat_map (table_log_text l.site.schema) (drop l.place l.notes.logs) ≡ l.fn.lines.bytes ++ log_text l.name.0 l.site;
  front : StandBefore l.fn.lines.bytes l.lines.bytes;
}
