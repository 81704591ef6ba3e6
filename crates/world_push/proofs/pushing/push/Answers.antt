-- The line of a push.
use Rattle.std.proofs.Common.{inl}
use Rattle.world_push.proofs.Whole.{behind, receiver_there, linked, linked_back, push_done, push_short}
use Rattle.world_push.proofs.pushing.push.Goals as goal

pub push_linked-requires : goal.push_linked-requires
push_linked-requires g c =
    let from = c.args.from.now in
    let to = c.args.to.now in
    let w = c.args.parts.now in
    record {
      able = c.requires.able;
      built = c.requires.built;
      behind = behind from to c.args.count w c.requires.passes;
      there = receiver_there from to c.args.count w c.requires.passes;
      linked = linked from to c.args.count w c.requires.passes c.requires.built;
      back = linked_back from to c.args.count w c.requires.passes c.requires.built;
    }

pub returns-in-Ok : goal.returns-in-Ok
returns-in-Ok g c number = push_done c.args.from.now c.args.to.now c.args.count c.args.parts.now c.requires.passes number _ _ c.in-Ok.ensures.ok c.in-Ok.ensures.text c.in-Ok.ensures.outcome

pub returns-in-Err : goal.returns-in-Err
returns-in-Err g c number = inl (push_short c.args.from.now c.args.to.now c.args.count c.args.parts.now c.requires.passes number _ c.push_linked.ensures.part)
