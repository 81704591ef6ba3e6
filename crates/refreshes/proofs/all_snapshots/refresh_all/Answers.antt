use Rattle.std.proofs.Common.{◌≡◌, ◌∙◌}
use Rattle.site_state.specs.Refreshes.{with_tables}
use Rattle.refreshes.proofs.Outcomes.{OnOk-both, OnErr-then}
use Rattle.refreshes.proofs.all_snapshots.refresh_all.Goals as goal

-- the changes led from the tables at first
pub finish-requires-clause-led : goal.finish-requires-clause-led
finish-requires-clause-led g c κs within = record {
  earlier = g.R.RowStore.tables c.args.store.now;
  are = rw c.refresh_each-counted.ensures.schema c.holds_tables.ensures;
  lead = c.refresh_each-counted.ensures.done.lead;
}

pub finish-requires-clause-room : goal.finish-requires-clause-room
finish-requires-clause-room g c κs within = c.refresh_each-counted.ensures.done.room

pub returns-clause-tables : goal.returns-clause-tables
returns-clause-tables g c =
    let tables = g.R.RowStore.tables in
    let each = c.refresh_each-counted in
    let stay = tables c.finish.new.store ≡ tables each.new.store in
    let wanted = with_tables c.args.rows.now (tables c.args.store.now) in
    rw c.finish.ensures.counted
    (OnOk-both stay (tables each.new.store ≡ wanted) (tables c.finish.new.store ≡ wanted) each.result (λ now then. now ∙ then) c.finish.ensures.tables each.ensures.tables)

pub returns-clause-count : goal.returns-clause-count
returns-clause-count g c = rw c.finish.ensures.counted c.refresh_each-counted.ensures.count

pub returns-clause-renewed : goal.returns-clause-renewed
returns-clause-renewed g c = rw (c.finish.ensures.counted, ← c.refresh_each-counted.ensures.snapshots) c.finish.ensures.renewed

-- what was done is taken back
pub returns-clause-kept : goal.returns-clause-kept
returns-clause-kept g c =
    let first = g.R.RowStore.tables c.args.store.now in
    let each = c.refresh_each-counted in
    rw c.finish.ensures.counted
    (OnErr-then _ (g.R.RowStore.tables c.finish.new.store ≡ first) each.result (λ back. back first (rw each.ensures.schema c.holds_tables.ensures) each.ensures.done.lead) c.finish.ensures.earlier)

pub returns-clause-same : goal.returns-clause-same
returns-clause-same g c = rw (c.finish.ensures.counted, ← c.refresh_each-counted.ensures.snapshots) c.finish.ensures.same
