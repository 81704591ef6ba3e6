-- Adding entries one by one.
use Rattle.std.proofs.Common.{◌≡◌, ◌++◌, drop, reverse}
use Rattle.std.specs.Prelude.{flat_map}
use Rattle.report_text.specs.Sheet.{StandBefore}
use Rattle.site_report.specs.Shows.{entry_text, journal_text}
use Rattle.site_report.proofs.journal.add_journal.Given as goal

-- the entries so far and those to come are all of them, and what stood there is kept
abbrev pub invariant-loop-place : goal.invariant-loop-place
invariant-loop-place g l = record {
  text : l.lines.bytes ++ flat_map entry_text (drop l.place (reverse l.site.journal)) ≡ l.fn.lines.bytes ++ journal_text l.name.0 l.site;
  front : StandBefore l.fn.lines.bytes l.lines.bytes;
}
