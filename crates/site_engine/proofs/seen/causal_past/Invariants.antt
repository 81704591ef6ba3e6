-- What is seen of the senders from the place on.
use Rattle.std.proofs.Common.{◌≡◌, drop}
use Rattle.site_engine.specs.Seen.{past_from}
use Rattle.site_engine.proofs.seen.causal_past.Given as goal

abbrev pub invariant-loop-place : goal.invariant-loop-place
invariant-loop-place l = record {
  so_far : l.past.items ≡ past_from l.schema (drop l.place l.inboxes);
}
