use Rattle.std.proofs.Common.{ap, ◌∙◌, Some, reverse}
use Rattle.proc_calls.specs.ProcSiteInvariant.{state_of}
use Rattle.proc_calls.proofs.ProcSiteSteps.{queue_is}
use Rattle.proc_calls.proofs.Sending.{no_packet, packet_is, can_be_carried, is_past}
use Rattle.proc_calls.proofs.site.ProcSite.packet.Goals as goal

pub returns-in_default : goal.returns-in_default
returns-in_default c =
    let s = c.self.inside in
    let x = state_of s.store.schema s.procedures s.me (reverse s.journal.items) s.inboxes.items s.outbox in
    rw (← c.self.view_is) (no_packet x s.outbox.deferred (queue_is _ _ _ _ _ _ _ _ c.self.invariant) c.args.to.now c.args.position c.in_default.ensures.sent)

pub seal_body-requires-clause-carries : goal.seal_body-requires-clause-carries
seal_body-requires-clause-carries c =
    let s = c.self.inside in
    let x = state_of s.store.schema s.procedures s.me (reverse s.journal.items) s.inboxes.items s.outbox in
    let queued = queue_is _ _ _ _ _ _ _ _ c.self.invariant in (
      _,
      _,
      record {
        body = c.in-Some.ensures.body;
        seen = is_past x s.outbox.deferred queued c.args.to.now c.args.position _ _ _ _ c.in-Some.ensures.sent;
        plain = can_be_carried x s.outbox.deferred queued c.args.to.now c.args.position _ _ _ _ c.in-Some.ensures.sent c.self.invariant.journal;
      },
    )

pub returns : goal.returns
returns c =
    let s = c.self.inside in
    let x = state_of s.store.schema s.procedures s.me (reverse s.journal.items) s.inboxes.items s.outbox in
    let queued = queue_is _ _ _ _ _ _ _ _ c.self.invariant in
    let sealed = c.in_ok-sealed.ensures _ _ (record {
      body = c.in-Some.ensures.body;
      seen = is_past x s.outbox.deferred queued c.args.to.now c.args.position _ _ _ _ c.in-Some.ensures.sent;
      plain = can_be_carried x s.outbox.deferred queued c.args.to.now c.args.position _ _ _ _ c.in-Some.ensures.sent c.self.invariant.journal;
    }) in
    rw (← c.self.view_is) (ap Some sealed ∙ packet_is x s.outbox.deferred queued c.args.to.now c.args.position _ _ _ _ c.in-Some.ensures.sent)
