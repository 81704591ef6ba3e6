-- The queue's mark of a destination is how far it has acknowledged.
use Rattle.std.proofs.Common.{◌≡◌, ap, ◌∙◌, subst}
use Rattle.deferred_queue.specs.Streams.{acked_by}
use Rattle.site_state.specs.State.{SiteState, acked_of}
use Rattle.site_state.proofs.Deferring.{acked_by-marks}
use Rattle.office.proofs.desk.Office.acked.Goals as goal

pub returns : goal.returns
returns c =
    let to = c.args.to.now in
    subst (λ (x : SiteState). c.acked.result ≡ acked_of to x) c.self.view_is (c.acked.ensures ∙ ap (acked_by to) c.queue.ensures.marks ∙ acked_by-marks to c.self.inside.site.destinations)
