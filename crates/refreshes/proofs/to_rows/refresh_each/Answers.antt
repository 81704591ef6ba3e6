use Rattle.std.proofs.Common.{◌≡◌, ◌+◌, ◌≤◌, length, drop, refl, ap, ◌∙◌, arith}
use Rattle.std.proofs.lemmas.List.{drop_all}
use Rattle.rep_lists.proofs.Places.{drop_from_place}
use Rattle.rep_lists.proofs.Each.{each_at}
use Rattle.std.specs.Prelude.{Any}
use Rattle.rep_schema.specs.Tables.{IsTable}
use Rattle.rep_schema.specs.Putting.{StoreState}
use Rattle.snapshot_query.specs.declared.snapshot.Snapshot.{Snapshot}
use Rattle.site_state.specs.declared.rows.TableRows.{TableRows}
use Rattle.site_state.specs.Refreshes.{with_tables}
use Rattle.refreshes.proofs.OneMore.{HaveDone-err, HaveDone-ok}
use Rattle.refreshes.proofs.Left.{none_changed, RowsLeft-next, row_count-cons}
use Rattle.refreshes.proofs.Outcomes.{count_is}
use Rattle.refreshes.proofs.to_rows.refresh_each.Goals as goal

pub loop-given-init : goal.loop-given-init
loop-given-init g c = record {
  snapshots = refl;
  logs = refl;
  schema = refl;
  done = rw c.requires.none (record { lead = refl; room = λ t. omega arith });
  left = rw c.requires.none (record { once = c.requires.rows.once; unchanged = none_changed (λ (t : TableRows). t.table) c.args.rows.now });
  tables = refl;
  keys = refl;
  rows = omega arith;
  capacity = refl;
  place = c.requires.room;
}

-- the table has a snapshot
pub place_of-place-requires : goal.place_of-place-requires
place_of-place-requires g c =
    let rows = c.args.rows.now in
    let given = c.given-item.result in
    rw (c.loop-given.invariant.snapshots, c.given-item.is) (each_at (λ (t : TableRows). Any (λ (s : Snapshot). s.table ≡ t.table) c.args.notes.now.snapshots) rows c.loop-given.given-index given c.loop-given-test.true c.requires.rows.others)

pub refresh_at-requires-clause-keyed : goal.refresh_at-requires-clause-keyed
refresh_at-requires-clause-keyed g c κs within = rw c.loop-given.invariant.schema c.requires.keyed

pub refresh_at-requires-clause-within : goal.refresh_at-requires-clause-within
refresh_at-requires-clause-within g c κs within = rw (c.loop-given.invariant.snapshots, c.loop-given.invariant.schema) c.requires.within

pub refresh_at-requires-clause-rows : goal.refresh_at-requires-clause-rows
refresh_at-requires-clause-rows g c κs within =
    rw (c.loop-given.invariant.schema, c.given-item.is) (each_at (λ (t : TableRows). IsTable (g.R.RowStore.schema c.args.store.now) t.table t.rows) c.args.rows.now c.loop-given.given-index c.given-item.result c.loop-given-test.true c.requires.rows.tables)

pub returns-in_err-changes-clause-done : goal.returns-in_err-changes-clause-done
returns-in_err-changes-clause-done g c =
    let given = c.given-item.result in
    let old : StoreState = record { schema = g.R.RowStore.schema c.loop-given.store; tables = g.R.RowStore.tables c.loop-given.store; spare = g.R.RowStore.spare c.loop-given.store } in
    let new : StoreState = record { schema = g.R.RowStore.schema c.refresh_at.new.store; tables = g.R.RowStore.tables c.refresh_at.new.store; spare = g.R.RowStore.spare c.refresh_at.new.store } in
    HaveDone-err given.table given.rows old new c.loop-given.done.items (g.R.RowStore.tables c.args.store.now) _ c.in_err-changes.ensures.refreshed c.loop-given.invariant.done

pub returns-in_err-changes-clause-snapshots : goal.returns-in_err-changes-clause-snapshots
returns-in_err-changes-clause-snapshots g c = c.refresh_at.ensures.snapshots ∙ c.loop-given.invariant.snapshots

pub returns-in_err-changes-clause-logs : goal.returns-in_err-changes-clause-logs
returns-in_err-changes-clause-logs g c = c.refresh_at.ensures.logs ∙ c.loop-given.invariant.logs

pub returns-in_err-changes-clause-schema : goal.returns-in_err-changes-clause-schema
returns-in_err-changes-clause-schema g c = c.refresh_at.ensures.refreshed.schema ∙ c.loop-given.invariant.schema

pub push_reserved-requires : goal.push_reserved-requires
push_reserved-requires g c =
    let inv = c.loop-given.invariant in
    let here = drop_from_place c.args.rows.now c.loop-given.given-index c.given-item.result c.loop-given-test.true c.given-item.is in
    omega (arith, inv.place, inv.capacity, ap length here)

pub returns-in_err-count-clause-done : goal.returns-in_err-count-clause-done
returns-in_err-count-clause-done g c =
    let inv = c.loop-given.invariant in
    let given = c.given-item.result in
    let left = rw (drop_from_place c.args.rows.now c.loop-given.given-index given c.loop-given-test.true c.given-item.is) at inv.left in
    let old : StoreState = record { schema = g.R.RowStore.schema c.loop-given.store; tables = g.R.RowStore.tables c.loop-given.store; spare = g.R.RowStore.spare c.loop-given.store } in
    let new : StoreState = record { schema = g.R.RowStore.schema c.refresh_at.new.store; tables = g.R.RowStore.tables c.refresh_at.new.store; spare = g.R.RowStore.spare c.refresh_at.new.store } in
    rw c.push_reserved.ensures.items (HaveDone-ok given.table given.rows old new c.in_ok-changes.changes c.in_ok-changes.ensures.refreshed c.loop-given.done.items (g.R.RowStore.tables c.args.store.now) left.unchanged.0 inv.done)

pub returns-in_err-count-clause-snapshots : goal.returns-in_err-count-clause-snapshots
returns-in_err-count-clause-snapshots g c = c.refresh_at.ensures.snapshots ∙ c.loop-given.invariant.snapshots

pub returns-in_err-count-clause-logs : goal.returns-in_err-count-clause-logs
returns-in_err-count-clause-logs g c = c.refresh_at.ensures.logs ∙ c.loop-given.invariant.logs

pub returns-in_err-count-clause-schema : goal.returns-in_err-count-clause-schema
returns-in_err-count-clause-schema g c = c.refresh_at.ensures.refreshed.schema ∙ c.loop-given.invariant.schema

pub loop-given-preserved : goal.loop-given-preserved
loop-given-preserved g c =
    let inv = c.loop-given.invariant in
    let place = c.loop-given.given-index in
    let given = c.given-item.result in
    let done = c.loop-given.done.items in
    let first = g.R.RowStore.tables c.args.store.now in
    let rest = drop (place + 1) c.args.rows.now in
    let next = drop_from_place c.args.rows.now place given c.loop-given-test.true c.given-item.is in
    let left = rw next at inv.left in
    let old : StoreState = record { schema = g.R.RowStore.schema c.loop-given.store; tables = g.R.RowStore.tables c.loop-given.store; spare = g.R.RowStore.spare c.loop-given.store } in
    let new : StoreState = record { schema = g.R.RowStore.schema c.refresh_at.new.store; tables = g.R.RowStore.tables c.refresh_at.new.store; spare = g.R.RowStore.spare c.refresh_at.new.store } in
    let changes = c.in_ok-changes.changes in
    let refreshed = c.in_ok-changes.ensures.refreshed in
    let counted = rw next at inv.rows in
    record {
      snapshots = c.refresh_at.ensures.snapshots ∙ inv.snapshots;
      logs = c.refresh_at.ensures.logs ∙ inv.logs;
      schema = refreshed.schema ∙ inv.schema;
      done = rw c.push_reserved.ensures.items (HaveDone-ok given.table given.rows old new changes refreshed done first left.unchanged.0 inv.done);
      left = rw c.push_reserved.ensures.items (RowsLeft-next given old new changes done rest refreshed left);
      tables = ap (with_tables rest) refreshed.tables ∙ (rw next at inv.tables);
      keys = rw c.in_ok-count.ensures (omega (arith, inv.keys));
      rows = rw c.in_ok-count.ensures (omega (arith, counted, c.len.ensures, row_count-cons given rest));
      capacity = c.push_reserved.ensures.capacity ∙ inv.capacity;
      place = omega (arith, inv.place, ap length next, c.push_reserved.ensures.len);
    }

pub returns-clause-done : goal.returns-clause-done
returns-clause-done g c = c.loop-given.invariant.done

-- none is left
pub returns-clause-tables : goal.returns-clause-tables
returns-clause-tables g c =
    let rows = c.args.rows.now in
    let past : length rows ≤ c.loop-given.given-index = omega (arith, c.loop-given-test.false) in
    rw (drop_all c.loop-given.given-index rows past) at c.loop-given.invariant.tables

pub returns-clause-count : goal.returns-clause-count
returns-clause-count g c =
    let all = c.args.rows.now in
    let past : length all ≤ c.loop-given.given-index = omega (arith, c.loop-given-test.false) in
    let rows = rw (drop_all c.loop-given.given-index all past) at c.loop-given.invariant.rows in
    count_is c.loop-given.count _ _ c.loop-given.invariant.keys (omega (arith, rows))

pub returns-clause-snapshots : goal.returns-clause-snapshots
returns-clause-snapshots g c = c.loop-given.invariant.snapshots

pub returns-clause-logs : goal.returns-clause-logs
returns-clause-logs g c = c.loop-given.invariant.logs

pub returns-clause-schema : goal.returns-clause-schema
returns-clause-schema g c = c.loop-given.invariant.schema
