use Rattle.std.proofs.Common.{◌≡◌, ◌+◌, ◌<◌, ◌≤◌, [], length, drop, refl, ap, ◌∙◌, arith}
use Rattle.std.specs.Prelude.{Some, slice_get}
use Rattle.std.proofs.lemmas.List.{drop_all, get_or-set_same}
use Rattle.rep_lists.proofs.Places.{found_at, drop_from_found}
use Rattle.rep_lists.proofs.Each.{each_found}
use Rattle.rep_schema.specs.Tables.{Rows, rows_of}
use Rattle.rep_schema.specs.Putting.{StoreState}
use Rattle.rep_schema.proofs.Leading.{AreTables-led}
use Rattle.snapshot_query.specs.declared.snapshot.Snapshot.{Snapshot}
use Rattle.snapshot_query.specs.Queries.{query_rows}
use Rattle.change_logs.specs.Noting.{pending_keys}
use Rattle.site_state.specs.Refreshes.{rows_shown, with_tables}
use Rattle.change_logs.specs.RoomyNotes.{snapshot_in}
use Rattle.refreshes.specs.Done.{all_changes}
use Rattle.refreshes.proofs.OneMore.{HaveDone-err, HaveDone-ok}
use Rattle.refreshes.proofs.Left.{none_changed, SnapshotsLeft-next, pending_count-cons, row_count-cons}
use Rattle.refreshes.proofs.AtPlace.{same_there}
use Rattle.refreshes.proofs.Outcomes.{count_is}
use Rattle.refreshes.proofs.by_keys.refresh_each.Goals as goal

pub loop-place-init : goal.loop-place-init
loop-place-init g c = record {
  snapshots = refl;
  logs = refl;
  schema = refl;
  done = rw c.requires.none (record { lead = refl; room = λ t. omega arith });
  left = rw c.requires.none (record { apart = c.requires.apart; unchanged = none_changed (λ (s : Snapshot). s.table) c.args.notes.now.snapshots; others = c.requires.others });
  tables = refl;
  keys = omega arith;
  rows = omega arith;
  capacity = refl;
  place = c.requires.room;
  master_schema = refl;
  master_tables = refl;
  rise = omega arith;
  lookups = omega arith;
}

pub pending_at-requires : goal.pending_at-requires
pending_at-requires g c = rw c.loop-place.invariant.snapshots (omega (arith, c.loop-place-test.true, c.snapshot_count-place-end.ensures))

pub returns-in_err-keys-clause-done : goal.returns-in_err-keys-clause-done
returns-in_err-keys-clause-done g c = c.loop-place.invariant.done

pub returns-in_err-keys-clause-snapshots : goal.returns-in_err-keys-clause-snapshots
returns-in_err-keys-clause-snapshots g c = c.loop-place.invariant.snapshots

pub returns-in_err-keys-clause-logs : goal.returns-in_err-keys-clause-logs
returns-in_err-keys-clause-logs g c = c.loop-place.invariant.logs

pub returns-in_err-keys-clause-schema : goal.returns-in_err-keys-clause-schema
returns-in_err-keys-clause-schema g c = c.loop-place.invariant.schema

pub returns-in_err-keys-clause-master_schema : goal.returns-in_err-keys-clause-master_schema
returns-in_err-keys-clause-master_schema g c = c.loop-place.invariant.master_schema

pub returns-in_err-keys-clause-master_tables : goal.returns-in_err-keys-clause-master_tables
returns-in_err-keys-clause-master_tables g c = c.loop-place.invariant.master_tables

pub returns-in_err-keys-clause-rise : goal.returns-in_err-keys-clause-rise
returns-in_err-keys-clause-rise g c = c.loop-place.invariant.rise

pub returns-in_err-keys-clause-lookups : goal.returns-in_err-keys-clause-lookups
returns-in_err-keys-clause-lookups g c = omega (arith, c.loop-place.invariant.lookups, c.loop-place.invariant.keys)

pub refresh_at-requires-clause-place : goal.refresh_at-requires-clause-place
refresh_at-requires-clause-place g c κs within = rw c.loop-place.invariant.snapshots (omega (arith, c.loop-place-test.true, c.snapshot_count-place-end.ensures))

pub refresh_at-requires-clause-keyed : goal.refresh_at-requires-clause-keyed
refresh_at-requires-clause-keyed g c κs within = rw c.loop-place.invariant.schema c.requires.keyed

pub refresh_at-requires-clause-within : goal.refresh_at-requires-clause-within
refresh_at-requires-clause-within g c κs within = rw (c.loop-place.invariant.snapshots, c.loop-place.invariant.schema) c.requires.within

pub refresh_at-requires-clause-schema : goal.refresh_at-requires-clause-schema
refresh_at-requires-clause-schema g c κs within = rw c.loop-place.invariant.schema (c.loop-place.invariant.master_schema ∙ c.requires.schema)

pub refresh_at-requires-clause-master : goal.refresh_at-requires-clause-master
refresh_at-requires-clause-master g c κs within = rw (c.loop-place.invariant.schema, c.loop-place.invariant.master_tables) c.requires.master

-- the snapshot is the first of those that are left
pub refresh_at-requires-clause-others : goal.refresh_at-requires-clause-others
refresh_at-requires-clause-others g c κs within = λ s there.
    let inv = c.loop-place.invariant in
    let here = drop_from_found c.args.notes.now.snapshots c.loop-place.place s (rw inv.snapshots at there) in
    let left = rw here at inv.left in
    rw (inv.schema, inv.master_tables, c.as_slice.ensures, c.in_ok-keys.ensures s there) left.others.0

pub returns-in_err-changes-clause-done : goal.returns-in_err-changes-clause-done
returns-in_err-changes-clause-done g c =
    let inv = c.loop-place.invariant in
    let all = c.args.notes.now.snapshots in
    let here = found_at all c.loop-place.place (omega (arith, c.loop-place-test.true, c.snapshot_count-place-end.ensures)) in
    let there : slice_get c.loop-place.notes.snapshots c.loop-place.place ≡ Some here.0 = rw inv.snapshots here.1 in
    let old : StoreState = record { schema = g.R.RowStore.schema c.loop-place.store; tables = g.R.RowStore.tables c.loop-place.store; spare = g.R.RowStore.spare c.loop-place.store } in
    let new : StoreState = record { schema = g.R.RowStore.schema c.refresh_at.new.store; tables = g.R.RowStore.tables c.refresh_at.new.store; spare = g.R.RowStore.spare c.refresh_at.new.store } in
    let rows : Rows = query_rows here.0.query (rows_of (g.M.MasterView.tables c.loop-place.master) here.0.table) in
    HaveDone-err here.0.table rows old new c.loop-place.done.items (g.R.RowStore.tables c.args.store.now) _ (c.in_err-changes.ensures.refreshed here.0 there) inv.done

pub returns-in_err-changes-clause-snapshots : goal.returns-in_err-changes-clause-snapshots
returns-in_err-changes-clause-snapshots g c = c.refresh_at.ensures.snapshots ∙ c.loop-place.invariant.snapshots

pub returns-in_err-changes-clause-logs : goal.returns-in_err-changes-clause-logs
returns-in_err-changes-clause-logs g c = c.refresh_at.ensures.logs ∙ c.loop-place.invariant.logs

pub returns-in_err-changes-clause-schema : goal.returns-in_err-changes-clause-schema
returns-in_err-changes-clause-schema g c =
    let inv = c.loop-place.invariant in
    let here = found_at c.args.notes.now.snapshots c.loop-place.place (omega (arith, c.loop-place-test.true, c.snapshot_count-place-end.ensures)) in
    let refreshed = c.refresh_at.ensures.refreshed here.0 (rw inv.snapshots here.1) in
    refreshed.schema ∙ inv.schema

pub returns-in_err-changes-clause-master_schema : goal.returns-in_err-changes-clause-master_schema
returns-in_err-changes-clause-master_schema g c = c.refresh_at.ensures.schema ∙ c.loop-place.invariant.master_schema

pub returns-in_err-changes-clause-master_tables : goal.returns-in_err-changes-clause-master_tables
returns-in_err-changes-clause-master_tables g c = c.refresh_at.ensures.tables ∙ c.loop-place.invariant.master_tables

pub returns-in_err-changes-clause-rise : goal.returns-in_err-changes-clause-rise
returns-in_err-changes-clause-rise g c = omega (arith, c.refresh_at.ensures.rise, c.loop-place.invariant.rise)

pub returns-in_err-changes-clause-lookups : goal.returns-in_err-changes-clause-lookups
returns-in_err-changes-clause-lookups g c =
    let inv = c.loop-place.invariant in
    let all = c.args.notes.now.snapshots in
    let place = c.loop-place.place in
    let here = found_at all place (omega (arith, c.loop-place-test.true, c.snapshot_count-place-end.ensures)) in
    let there : slice_get c.loop-place.notes.snapshots place ≡ Some here.0 = rw inv.snapshots here.1 in
    let more : length c.as_slice.result.now ≡ length (pending_keys c.args.logs.now.logs here.0) = ap length (c.as_slice.ensures ∙ c.in_ok-keys.ensures here.0 there) in
    let keys = rw (drop_from_found all place here.0 here.1) at inv.keys in
    omega (arith, c.refresh_at.ensures.lookups, more, inv.lookups, keys, pending_count-cons c.args.logs.now.logs here.0 (drop (place + 1) all))

pub push_reserved-requires : goal.push_reserved-requires
push_reserved-requires g c =
    let inv = c.loop-place.invariant in
    let all = c.args.notes.now.snapshots in
    let here = found_at all c.loop-place.place (omega (arith, c.loop-place-test.true, c.snapshot_count-place-end.ensures)) in
    omega (arith, inv.place, inv.capacity, ap length (drop_from_found all c.loop-place.place here.0 here.1))

pub snapshot_at-requires : goal.snapshot_at-requires
snapshot_at-requires g c = rw (c.refresh_at.ensures.snapshots, c.loop-place.invariant.snapshots) (omega (arith, c.loop-place-test.true, c.snapshot_count-place-end.ensures))

pub count-rows-requires : goal.count-rows-requires
count-rows-requires g c =
    let inv = c.loop-place.invariant in
    let all = c.args.notes.now.snapshots in
    let here = each_found (λ (s : Snapshot). s.table < length (g.R.RowStore.schema c.args.store.now).tables) all c.loop-place.place (omega (arith, c.loop-place-test.true, c.snapshot_count-place-end.ensures)) c.requires.within in
    let refreshed = c.refresh_at.ensures.refreshed here.0 (rw inv.snapshots here.1) in
    let same = same_there all c.loop-place.place (snapshot_in c.snapshot_at.result.now) here.0 (rw (c.refresh_at.ensures.snapshots, inv.snapshots) at c.snapshot_at.ensures) here.1 in
    let table : c.table.result ≡ here.0.table = c.table.ensures ∙ ap (λ (s : Snapshot). s.table) same in
    rw (table, refreshed.schema, inv.schema) here.2

pub returns-in_err-count-clause-done : goal.returns-in_err-count-clause-done
returns-in_err-count-clause-done g c =
    let inv = c.loop-place.invariant in
    let all = c.args.notes.now.snapshots in
    let here = found_at all c.loop-place.place (omega (arith, c.loop-place-test.true, c.snapshot_count-place-end.ensures)) in
    let there : slice_get c.loop-place.notes.snapshots c.loop-place.place ≡ Some here.0 = rw inv.snapshots here.1 in
    let left = rw (drop_from_found all c.loop-place.place here.0 here.1) at inv.left in
    let old : StoreState = record { schema = g.R.RowStore.schema c.loop-place.store; tables = g.R.RowStore.tables c.loop-place.store; spare = g.R.RowStore.spare c.loop-place.store } in
    let new : StoreState = record { schema = g.R.RowStore.schema c.refresh_at.new.store; tables = g.R.RowStore.tables c.refresh_at.new.store; spare = g.R.RowStore.spare c.refresh_at.new.store } in
    let rows : Rows = query_rows here.0.query (rows_of (g.M.MasterView.tables c.loop-place.master) here.0.table) in
    rw c.push_reserved.ensures.items (HaveDone-ok here.0.table rows old new c.in_ok-changes.changes (c.in_ok-changes.ensures.refreshed here.0 there) c.loop-place.done.items (g.R.RowStore.tables c.args.store.now) left.unchanged.0 inv.done)

pub returns-in_err-count-clause-snapshots : goal.returns-in_err-count-clause-snapshots
returns-in_err-count-clause-snapshots g c = c.refresh_at.ensures.snapshots ∙ c.loop-place.invariant.snapshots

pub returns-in_err-count-clause-logs : goal.returns-in_err-count-clause-logs
returns-in_err-count-clause-logs g c = c.refresh_at.ensures.logs ∙ c.loop-place.invariant.logs

pub returns-in_err-count-clause-schema : goal.returns-in_err-count-clause-schema
returns-in_err-count-clause-schema g c =
    let inv = c.loop-place.invariant in
    let here = found_at c.args.notes.now.snapshots c.loop-place.place (omega (arith, c.loop-place-test.true, c.snapshot_count-place-end.ensures)) in
    let refreshed = c.refresh_at.ensures.refreshed here.0 (rw inv.snapshots here.1) in
    refreshed.schema ∙ inv.schema

pub returns-in_err-count-clause-master_schema : goal.returns-in_err-count-clause-master_schema
returns-in_err-count-clause-master_schema g c = c.refresh_at.ensures.schema ∙ c.loop-place.invariant.master_schema

pub returns-in_err-count-clause-master_tables : goal.returns-in_err-count-clause-master_tables
returns-in_err-count-clause-master_tables g c = c.refresh_at.ensures.tables ∙ c.loop-place.invariant.master_tables

pub returns-in_err-count-clause-rise : goal.returns-in_err-count-clause-rise
returns-in_err-count-clause-rise g c = omega (arith, c.refresh_at.ensures.rise, c.loop-place.invariant.rise)

pub returns-in_err-count-clause-lookups : goal.returns-in_err-count-clause-lookups
returns-in_err-count-clause-lookups g c =
    let inv = c.loop-place.invariant in
    let all = c.args.notes.now.snapshots in
    let place = c.loop-place.place in
    let here = found_at all place (omega (arith, c.loop-place-test.true, c.snapshot_count-place-end.ensures)) in
    let there : slice_get c.loop-place.notes.snapshots place ≡ Some here.0 = rw inv.snapshots here.1 in
    let more : length c.as_slice.result.now ≡ length (pending_keys c.args.logs.now.logs here.0) = ap length (c.as_slice.ensures ∙ c.in_ok-keys.ensures here.0 there) in
    let keys = rw (drop_from_found all place here.0 here.1) at inv.keys in
    omega (arith, c.refresh_at.ensures.lookups, more, inv.lookups, keys, pending_count-cons c.args.logs.now.logs here.0 (drop (place + 1) all))

pub loop-place-preserved : goal.loop-place-preserved
loop-place-preserved g c =
    let inv = c.loop-place.invariant in
    let schema = g.R.RowStore.schema c.args.store.now in
    let logs = c.args.logs.now.logs in
    let master = g.M.MasterView.tables c.args.master.now in
    let all = c.args.notes.now.snapshots in
    let place = c.loop-place.place in
    let done = c.loop-place.done.items in
    let first = g.R.RowStore.tables c.args.store.now in
    let tables = g.R.RowStore.tables c.loop-place.store in
    let here = each_found (λ (s : Snapshot). s.table < length schema.tables) all place (omega (arith, c.loop-place-test.true, c.snapshot_count-place-end.ensures)) c.requires.within in
    let s = here.0 in
    let rest = drop (place + 1) all in
    let next = drop_from_found all place s here.1 in
    let there : slice_get c.loop-place.notes.snapshots place ≡ Some s = rw inv.snapshots here.1 in
    let left = rw next at inv.left in
    let old : StoreState = record { schema = g.R.RowStore.schema c.loop-place.store; tables = tables; spare = g.R.RowStore.spare c.loop-place.store } in
    let new : StoreState = record { schema = g.R.RowStore.schema c.refresh_at.new.store; tables = g.R.RowStore.tables c.refresh_at.new.store; spare = g.R.RowStore.spare c.refresh_at.new.store } in
    let rows : Rows = query_rows s.query (rows_of master s.table) in
    let changes = c.in_ok-changes.changes in
    let refreshed = rw inv.master_tables at (c.in_ok-changes.ensures.refreshed s there) in
    let are = AreTables-led schema (all_changes done) first tables c.holds_tables.ensures (rw inv.schema at inv.done.lead) in
    let same = same_there all place (snapshot_in c.snapshot_at.result.now) s (rw (c.refresh_at.ensures.snapshots, inv.snapshots) at c.snapshot_at.ensures) here.1 in
    let table : c.table.result ≡ s.table = c.table.ensures ∙ ap (λ (t : Snapshot). t.table) same in
    let rows_now : rows_of new.tables s.table ≡ rows = ap (λ ts. rows_of ts s.table) refreshed.tables ∙ get_or-set_same tables s.table rows [] (omega (arith, here.2, are.number)) in
    let counted_rows : c.count-rows.result ≡ length rows = c.count-rows.ensures ∙ ap (λ t. length (rows_of new.tables t)) table ∙ ap length rows_now in
    let keys_now = c.in_ok-keys.ensures s there in
    let more : c.len.result ≡ length (pending_keys logs s) = c.len.ensures ∙ ap length keys_now in
    let looked : length c.as_slice.result.now ≡ length (pending_keys logs s) = ap length (c.as_slice.ensures ∙ keys_now) in
    let keys = rw next at inv.keys in
    let counted = rw next at inv.rows in
    record {
      snapshots = c.refresh_at.ensures.snapshots ∙ inv.snapshots;
      logs = c.refresh_at.ensures.logs ∙ inv.logs;
      schema = refreshed.schema ∙ inv.schema;
      done = rw c.push_reserved.ensures.items (HaveDone-ok s.table rows old new changes refreshed done first left.unchanged.0 inv.done);
      left = rw c.push_reserved.ensures.items (SnapshotsLeft-next schema logs master s rows old new changes done rest refreshed left);
      tables = ap (with_tables (rows_shown master rest)) refreshed.tables ∙ (rw next at inv.tables);
      keys = rw c.in_ok-count.ensures (omega (arith, keys, more, pending_count-cons logs s rest));
      rows = rw c.in_ok-count.ensures (omega (arith, counted, counted_rows, row_count-cons (record { table = s.table; rows = rows }) (rows_shown master rest)));
      capacity = c.push_reserved.ensures.capacity ∙ inv.capacity;
      place = omega (arith, inv.place, ap length next, c.push_reserved.ensures.len);
      master_schema = c.refresh_at.ensures.schema ∙ inv.master_schema;
      master_tables = c.refresh_at.ensures.tables ∙ inv.master_tables;
      rise = omega (arith, c.refresh_at.ensures.rise, inv.rise);
      lookups = rw c.in_ok-count.ensures (omega (arith, c.refresh_at.ensures.lookups, inv.lookups, looked, more));
    }

pub returns-clause-done : goal.returns-clause-done
returns-clause-done g c = c.loop-place.invariant.done

-- none is left
pub returns-clause-tables : goal.returns-clause-tables
returns-clause-tables g c =
    let all = c.args.notes.now.snapshots in
    let past : length all ≤ c.loop-place.place = omega (arith, c.loop-place-test.false, c.snapshot_count-place-end.ensures) in
    rw (drop_all c.loop-place.place all past) at c.loop-place.invariant.tables

pub returns-clause-count : goal.returns-clause-count
returns-clause-count g c =
    let all = c.args.notes.now.snapshots in
    let past : length all ≤ c.loop-place.place = omega (arith, c.loop-place-test.false, c.snapshot_count-place-end.ensures) in
    let none = drop_all c.loop-place.place all past in
    let keys = rw none at c.loop-place.invariant.keys in
    let rows = rw none at c.loop-place.invariant.rows in
    count_is c.loop-place.count _ _ (omega (arith, keys)) (omega (arith, rows))

pub returns-clause-snapshots : goal.returns-clause-snapshots
returns-clause-snapshots g c = c.loop-place.invariant.snapshots

pub returns-clause-logs : goal.returns-clause-logs
returns-clause-logs g c = c.loop-place.invariant.logs

pub returns-clause-schema : goal.returns-clause-schema
returns-clause-schema g c = c.loop-place.invariant.schema

pub returns-clause-master_schema : goal.returns-clause-master_schema
returns-clause-master_schema g c = c.loop-place.invariant.master_schema

pub returns-clause-master_tables : goal.returns-clause-master_tables
returns-clause-master_tables g c = c.loop-place.invariant.master_tables

pub returns-clause-rise : goal.returns-clause-rise
returns-clause-rise g c = c.loop-place.invariant.rise

pub returns-clause-lookups : goal.returns-clause-lookups
returns-clause-lookups g c =
    let all = c.args.notes.now.snapshots in
    let past : length all ≤ c.loop-place.place = omega (arith, c.loop-place-test.false, c.snapshot_count-place-end.ensures) in
    let keys = rw (drop_all c.loop-place.place all past) at c.loop-place.invariant.keys in
    omega (arith, c.loop-place.invariant.lookups, keys)
