use Rattle.std.proofs.Common.{◌∙◌, sym, arith}
use Rattle.site_state.specs.State.{arrivals}
use Rattle.site_engine.proofs.Passing.{ready_from, above_at}
use Rattle.site_engine.proofs.Waiting.{first_next, first_none}
use Rattle.site_engine.proofs.site.Site.lowest_ready.Goals as goal

pub returns-in_err-next : goal.returns-in_err-next
returns-in_err-next g c =
    let x = c.args.self.now in
    let start = c.arrivals_above-start.result in
    let first = rw (c.max.ensures, c.mark.ensures) at c.arrivals_above-start.ensures.place in
    rw c.from_residual.ensures
    (sym (ready_from c.args.origin.now c.args.above x start c.arrivals_above-start.ensures.from_one first ∙ first_none c.args.origin.now x c.args.above start first.within c.in_err-next.ensures.none))

pub returns : goal.returns
returns g c =
    let x = c.args.self.now in
    let start = c.arrivals_above-start.result in
    let next = c.in_ok-next.next in
    let is = c.in_ok-next.ensures.some in
    let first = rw (c.max.ensures, c.mark.ensures) at c.arrivals_above-start.ensures.place in
    let higher = above_at _ (arrivals c.args.origin.now x) start is.place is.here.arrival first is.after is.here.there in
    sym (ready_from c.args.origin.now c.args.above x start c.arrivals_above-start.ensures.from_one first ∙ first_next c.args.origin.now x c.args.above start next is (omega (arith, higher, is.here.position_is)))
