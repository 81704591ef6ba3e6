-- The line of a push of calls.
use Rattle.std.proofs.Common.{◌≡◌, true, sym, subst}
use Rattle.std.specs.Prelude.{is_some}
use Rattle.net_plan.specs.Directions.{HasDirection}
use Rattle.world_state.specs.World.{WorldState}
use Rattle.world_state.specs.Procs.{proc_of}
use Rattle.world_calls.proofs.Whole.{push_linked}
use Rattle.world_calls.proofs.pushing.push_calls.Goals as goal

pub is_up-is_up-requires : goal.is_up-is_up-requires
is_up-is_up-requires c =
    let from = c.args.from.now in
    let to = c.args.to.now in
    subst (λ (w : WorldState). HasDirection w.net to from) (sym c.parts.view_is) (push_linked from to c.args.parts.now c.requires.passes c.requires.built).back

pub push_linked-requires : goal.push_linked-requires
push_linked-requires c =
    let from = c.args.from.now in
    let to = c.args.to.now in
    let linked = push_linked from to c.args.parts.now c.requires.passes c.requires.built in
    record {
      there = subst (λ (w : WorldState). is_some (proc_of to w.procs.sites) ≡ true) (sym c.parts.view_is) linked.receiver;
      linked = subst (λ (w : WorldState). HasDirection w.procs.net from to) (sym c.parts.view_is) linked.calls_there;
      back = subst (λ (w : WorldState). HasDirection w.procs.net to from) (sym c.parts.view_is) linked.calls_back;
    }
