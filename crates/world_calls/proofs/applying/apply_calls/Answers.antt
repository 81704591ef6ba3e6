-- One sender after the other.
use Rattle.std.proofs.Common.{◌≡◌, ◌≤◌, length, take, ap, ◌∙◌, arith}
use Rattle.site_state.specs.State.{arrivals}
use Rattle.proc_state.specs.State.{ProcState, as_site}
use Rattle.world_calls.proofs.Passing.{partly_then, partly_each, passes_so_far_first, passes_so_far_more, passes_so_far_end, proc_pass-senders}
use Rattle.world_calls.proofs.applying.apply_calls.Goals as goal

pub returns-in_err-pass-clause-part : goal.returns-in_err-pass-clause-part
returns-in_err-pass-clause-part c =
    let x = c.args.site.now in
    let origin = c.args.origin.now in
    let stopped = c.in_err-pass.ensures.err in
    partly_each origin (take stopped.0 (arrivals origin (as_site x))) x _ stopped.1

pub loop-place-init : goal.loop-place-init
loop-place-init c = passes_so_far_first c.args.origin.now c.args.site.now _ c.in_ok-pass.ensures.ok

pub sender_at-requires : goal.sender_at-requires
sender_at-requires c =
    let first : length c.pass.new.self.senders ≡ length c.args.site.now.senders = ap length (ap (λ (v : ProcState). v.senders) c.in_ok-pass.ensures.ok ∙ proc_pass-senders c.args.origin.now c.args.site.now) in
    omega (arith, c.loop-place-test.true, c.sender_count-place-end.ensures, first, ap length c.loop-place.invariant.senders)

pub returns-in_err-pass-2-clause-part : goal.returns-in_err-pass-2-clause-part
returns-in_err-pass-2-clause-part c =
    let y = c.loop-place.site in
    let next = c.sender_at.result.now in
    let stopped = c.in_err-pass-2.ensures.err in
    partly_then c.args.site.now y _ c.loop-place.invariant.partly (partly_each next (take stopped.0 (arrivals next (as_site y))) y _ stopped.1)

pub loop-place-preserved : goal.loop-place-preserved
loop-place-preserved c =
    passes_so_far_more c.args.origin.now c.args.site.now c.loop-place.place c.loop-place.site _ c.sender_at.result.now c.sender_at.ensures c.in_ok-pass-2.ensures.ok c.loop-place.invariant

pub returns-clause-ok : goal.returns-clause-ok
returns-clause-ok c =
    let first : length c.pass.new.self.senders ≡ length c.args.site.now.senders = ap length (ap (λ (v : ProcState). v.senders) c.in_ok-pass.ensures.ok ∙ proc_pass-senders c.args.origin.now c.args.site.now) in
    let past : length c.args.site.now.senders ≤ c.loop-place.place = omega (arith, c.loop-place-test.false, c.sender_count-place-end.ensures, first) in
    passes_so_far_end c.args.origin.now c.args.site.now c.loop-place.place c.loop-place.site past c.loop-place.invariant

pub returns-clause-part : goal.returns-clause-part
returns-clause-part c = c.loop-place.invariant.partly
