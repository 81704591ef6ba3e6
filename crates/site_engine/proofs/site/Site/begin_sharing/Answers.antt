use Rattle.site_engine.proofs.Beginning.{can_stand_alone, work_is}
use Rattle.site_engine.proofs.site.Site.begin_sharing.Goals as goal

pub sharing-requires-clause-alone : goal.sharing-requires-clause-alone
sharing-requires-clause-alone g c κs lives =
    let sound = rw (← c.self.view_is) at c.requires.sound in
    let plain = rw (← c.self.view_is) at c.requires.plain in
    let there = rw (← c.self.view_is) at c.ready_arrival-arrival.ensures in
    can_stand_alone _ _ _ _ _ _ _ c.self.invariant c.args.origin.now c.args.position c.ready_arrival-arrival.result.now there sound plain

pub returns : goal.returns
returns g c =
    let there = rw (← c.self.view_is) at c.ready_arrival-arrival.ensures in
    let w = c.in_ok-work.ensures in
    rw (← c.self.view_is) (work_is _ _ _ _ _ _ _ c.self.invariant c.args.origin.now c.args.position c.ready_arrival-arrival.result.now there c.in_ok-work.work w.origin w.position w.txn w.schema w.agree)
