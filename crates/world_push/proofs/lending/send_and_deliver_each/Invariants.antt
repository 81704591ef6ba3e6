-- One site after another.
use Rattle.std.proofs.Common.{◌≡◌, drop}
use Rattle.world_state.specs.World.{WorldState}
use Rattle.world_push.specs.Lending.{brought_from, PushEachInPart, AreLinkedTo}
use Rattle.world_push.proofs.lending.send_and_deliver_each.Given as goal

-- to bring what the others sent leads to where bringing all leads; so does a part of it; and all are linked
abbrev pub invariant-loop-from : goal.invariant-loop-from
invariant-loop-from l = record {
  left : brought_from (drop l.from-index l.names) l.name l.parts ≡ brought_from l.names l.name l.fn.parts;
  part : (y : WorldState) → PushEachInPart (drop l.from-index l.names) l.name l.parts y → PushEachInPart l.names l.name l.fn.parts y;
  linked : AreLinkedTo l.names l.name l.parts;
}
