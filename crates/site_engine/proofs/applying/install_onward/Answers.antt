use Rattle.conflict_detect.proofs.LedCalls.{ChangeFits-led}
use Rattle.txn_apply.proofs.Room.{each_in_schema}
use Rattle.site_engine.proofs.applying.install_onward.Goals as goal

pub make_room-requires-after_bounds : goal.make_room-requires-after_bounds
make_room-requires-after_bounds g c κs within = each_in_schema _ _ _ _ c.requires.leads

pub send_onward-requires-clause-fits : goal.send_onward-requires-clause-fits
send_onward-requires-clause-fits g c =
    rw (c.schema.ensures.value, c.make_room.ensures.schema, c.as_slice.ensures)
    (ChangeFits-led (g.R.RowStore.schema c.args.store.now) c.args.changes.rows (g.R.RowStore.tables c.args.store.now) _ c.holds_tables.ensures c.requires.leads c.requires.differ)

pub note-requires-clause-fits : goal.note-requires-clause-fits
note-requires-clause-fits g c =
    rw (c.schema-2.ensures.value, c.make_room.ensures.schema, c.as_slice-2.ensures)
    (ChangeFits-led (g.R.RowStore.schema c.args.store.now) c.args.changes.rows (g.R.RowStore.tables c.args.store.now) _ c.holds_tables.ensures c.requires.leads c.requires.differ)

pub returns-clause-noted : goal.returns-clause-noted
returns-clause-noted g c = record {
  logs = rw (c.schema-2.ensures.value, c.make_room.ensures.schema, c.as_slice-2.ensures) at c.note.ensures.logs;
  snapshots = rw (c.schema-2.ensures.value, c.make_room.ensures.schema, c.as_slice-2.ensures) at c.note.ensures.snapshots;
}
