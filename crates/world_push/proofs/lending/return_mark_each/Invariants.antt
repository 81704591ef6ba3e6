-- One site after another.
use Rattle.std.proofs.Common.{◌≡◌, drop}
use Rattle.world_state.specs.World.{WorldState}
use Rattle.world_push.specs.Lending.{answered_to, PushEachInPart, AreLinkedTo}
use Rattle.world_push.proofs.lending.return_mark_each.Given as goal

-- to answer the others leads to where answering all leads; so does a part of it; and all are linked
abbrev pub invariant-loop-to : goal.invariant-loop-to
invariant-loop-to l = record {
  left : answered_to (drop l.to-index l.names) l.name l.parts ≡ answered_to l.names l.name l.fn.parts;
  part : (y : WorldState) → PushEachInPart (drop l.to-index l.names) l.name l.parts y → PushEachInPart l.names l.name l.fn.parts y;
  linked : AreLinkedTo l.names l.name l.parts;
}
