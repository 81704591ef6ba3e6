-- Adding senders one by one.
use Rattle.std.proofs.Common.{◌≡◌, ◌++◌, drop}
use Rattle.std.specs.Prelude.{flat_map}
use Rattle.report_text.specs.Sheet.{StandBefore}
use Rattle.site_report.specs.Shows.{sender_text}
use Rattle.site_report.proofs.marks.add_senders.Given as goal

-- the senders so far and those to come are all of them, and what stood there is kept
abbrev pub invariant-loop-origin : goal.invariant-loop-origin
invariant-loop-origin g l = record {
  text : l.lines.bytes ++ flat_map (sender_text l.site) (drop l.origin-index l.senders) ≡ l.fn.lines.bytes ++ flat_map (sender_text l.site) l.senders;
  front : StandBefore l.fn.lines.bytes l.lines.bytes;
}
