use Rattle.change_logs.specs.Noted.{without_query}
use Rattle.change_logs.proofs.Lending.{length-at_place, lent_return, query_stays}
use Rattle.refreshes.proofs.to_rows.refresh_at.Goals as goal

pub take_back-requires : goal.take_back-requires
take_back-requires g c = rw (c.lend_snapshot-lent.ensures.snapshots, length-at_place c.args.place without_query c.args.notes.now.snapshots) c.requires.place

-- the query comes back as it was lent
pub returns-clause-snapshots : goal.returns-clause-snapshots
returns-clause-snapshots g c =
    let lent = c.lend_snapshot-lent.result in
    let query = query_stays c.args.moment lent c.refresh_complete-refreshed.new.snap c.refresh_complete-refreshed.result c.refresh_complete-refreshed.ensures.renewed c.refresh_complete-refreshed.ensures.same in
    rw (c.take_back.ensures.snapshots, query, c.lend_snapshot-lent.ensures.snapshots) (lent_return c.args.place lent c.args.notes.now.snapshots c.lend_snapshot-lent.ensures.lent)
