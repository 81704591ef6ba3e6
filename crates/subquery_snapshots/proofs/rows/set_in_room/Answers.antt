use Rattle.subquery_snapshots.proofs.Renewing.{renews-put, renews-take}
use Rattle.subquery_snapshots.proofs.rows.set_in_room.Goals as goal

pub returns-in-Some : goal.returns-in-Some
returns-in-Some c =
    rw (c.in-Some.is, c.put_in.ensures) (renews-put c.args.columns.now c.args.key.now c.in-Some.row c.args.rows.now.items c.requires.rising (rw c.in-Some.is at c.requires.own))

pub returns-in-None : goal.returns-in-None
returns-in-None c = rw (c.in-None.is, c.take_out.ensures) (renews-take c.args.columns.now c.args.key.now c.args.rows.now.items c.requires.rising)
