-- A master is counted, and any other site is passed over.
use Rattle.std.proofs.Common.{◌≡◌, List, [], ◌++◌, drop, sym, ap, ◌∙◌}
use Rattle.std.proofs.lemmas.List.{append-nil, drop_all}
use Rattle.site_state.specs.State.{SiteState}
use Rattle.site_events.specs.Joins.{queue_counts}
use Rattle.world_commands.proofs.QueueCounts.{counted, not_counted}
use Rattle.world_commands.proofs.joins.queue_counts.Goals as goal
use Rattle.world_commands.proofs.joins.queue_counts.Goals.{then-is_master+in_ok-push, else-is_master}

pub loop-other-preserved : goal.loop-other-preserved
loop-other-preserved c =
    let sites = c.args.sites.now in
    let place = c.loop-other.other-index in
    let x = c.other-item.result in
    elim c.if-is_master.branch [
      | then-is_master+in_ok-push w ↦ counted sites place x c.loop-other-test.true c.other-item.is c.loop-other.counts c.if-is_master.counts w.count_at.result (sym c.is_master.ensures ∙ w.if-is_master.true)
          w.count_at.ensures (w.counts-is ∙ w.in_ok-push.ensures.ok) c.loop-other.invariant
      | else-is_master w ↦ not_counted sites place x c.loop-other-test.true c.other-item.is c.loop-other.counts c.if-is_master.counts (sym c.is_master.ensures ∙ w.if-is_master.false) w.counts-is c.loop-other.invariant
    ]

pub returns : goal.returns
returns c =
    let sites = c.args.sites.now in
    let none : drop c.loop-other.other-index sites ≡ [] = drop_all c.loop-other.other-index sites c.loop-other-test.false in
    sym (append-nil c.loop-other.counts) ∙ ap (λ (left : List SiteState). c.loop-other.counts ++ queue_counts left) (sym none) ∙ sym c.loop-other.invariant
