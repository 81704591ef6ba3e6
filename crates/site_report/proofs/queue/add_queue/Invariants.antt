-- Adding queued transactions one by one.
use Rattle.std.proofs.Common.{◌≡◌, ◌++◌, drop, reverse}
use Rattle.std.specs.Prelude.{flat_map}
use Rattle.deferred_queue.specs.Streams.{numbered}
use Rattle.report_text.specs.Sheet.{StandBefore}
use Rattle.site_state.specs.Deferrals.{deferred_of}
use Rattle.site_report.specs.Shows.{queued_text, queue_text}
use Rattle.site_report.proofs.queue.add_queue.Given as goal

-- the transactions so far and those to come are all of them, and what stood there is kept
abbrev pub invariant-loop-place : goal.invariant-loop-place
invariant-loop-place g l = record {
  text :
      l.lines.bytes ++ flat_map (queued_text l.destinations l.site) (drop l.place (reverse (numbered (deferred_of l.site))))
      ≡ l.fn.lines.bytes ++ queue_text l.name.0 l.destinations l.site;
  front : StandBefore l.fn.lines.bytes l.lines.bytes;
}
