use Rattle.std.proofs.Common.{◌<◌, ◌∙◌, length, refl, sym}
use Rattle.std.proofs.lemmas.List.{drop_all}
use Rattle.rep_lists.proofs.Places.{found_at}
use Rattle.site_state.specs.State.{arrivals}
use Rattle.proc_state.specs.State.{as_site}
use Rattle.proc_calls.proofs.Passing.{ready_starts, none_more, one_is}
use Rattle.proc_calls.proofs.site.ProcSite.has_ready.Goals as goal

pub loop-place-init : goal.loop-place-init
loop-place-init c =
    let first = rw c.mark.ensures at c.arrivals_above-start.ensures.place in
    record { so_far = ready_starts c.args.origin.now c.args.self.now c.arrivals_above-start.result first c.arrivals_above-start.ensures.from_one }

pub position_at-position-requires : goal.position_at-position-requires
position_at-position-requires c = rw c.arrived-place-end.ensures at c.loop-place-test.true

pub returns-in_default : goal.returns-in_default
returns-in_default c =
    let x = c.args.self.now in
    let all = arrivals c.args.origin.now (as_site x) in
    let place = c.loop-place.place in
    let below : place < length all = rw c.arrived-place-end.ensures at c.loop-place-test.true in
    let here = found_at all place below in
    let p = c.position_at-position.ensures here.0 here.1 in
    sym (c.loop-place.invariant.so_far ∙ one_is c.args.origin.now x all place here.0 here.1 (rw p at c.in_default.ensures))

pub loop-place-preserved : goal.loop-place-preserved
loop-place-preserved c =
    let x = c.args.self.now in
    let all = arrivals c.args.origin.now (as_site x) in
    let place = c.loop-place.place in
    let below : place < length all = rw c.arrived-place-end.ensures at c.loop-place-test.true in
    let here = found_at all place below in
    let p = c.position_at-position.ensures here.0 here.1 in
    record { so_far = c.loop-place.invariant.so_far ∙ none_more c.args.origin.now x all place here.0 here.1 c.in-Some.field-0 (rw p at c.in-Some.ensures) }

pub returns : goal.returns
returns c =
    let all = arrivals c.args.origin.now (as_site c.args.self.now) in
    let past = rw c.arrived-place-end.ensures at c.loop-place-test.false in
    sym (c.loop-place.invariant.so_far ∙ rw (drop_all c.loop-place.place all past) refl)
