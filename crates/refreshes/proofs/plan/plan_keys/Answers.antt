use Rattle.std.proofs.Common.{◌+◌, length, drop, ap, ◌∙◌, arith}
use Rattle.std.proofs.lemmas.List.{append_assoc}
use Rattle.rep_lists.proofs.Places.{drop_from_place}
use Rattle.rep_schema.specs.Tables.{columns_of, find_row, rows_of}
use Rattle.rep_schema.proofs.FilteredRows.{find_row-filter}
use Rattle.snapshot_query.specs.Queries.{matches, query_rows}
use Rattle.refreshes.specs.Planned.{gone_here, coming_here, gone_keys, coming_rows}
use Rattle.refreshes.proofs.plan.plan_keys.Goals as goal

pub loop-key-preserved : goal.loop-key-preserved
loop-key-preserved g c =
    let inv = c.loop-key.invariant in
    let columns = columns_of (g.R.RowStore.schema c.args.store.now) c.args.table in
    let master = rows_of (g.M.MasterView.tables c.args.master.now) c.args.table in
    let rows = rows_of (g.R.RowStore.tables c.args.store.now) c.args.table in
    let wanted = query_rows c.args.query.now master in
    let here = drop_from_place c.args.keys.now c.loop-key.key-index c.key-item.result c.loop-key-test.true c.key-item.is in
    let sees = find_row-filter columns (matches c.args.query.now) c.key-item.result master c.requires.rising in
    let gone = rw (inv.tables, ← sees) at c.in_ok-look_up.ensures.gone in
    let come = rw (inv.tables, ← sees) at c.in_ok-look_up.ensures.come in
    record {
      schema = c.look_up.ensures.schema ∙ inv.schema;
      tables = c.look_up.ensures.tables ∙ inv.tables;
      gone = rw gone (append_assoc c.loop-key.plan.gone.items (gone_here c.key-item.result (find_row columns c.key-item.result rows) (find_row columns c.key-item.result wanted)) (gone_keys columns rows wanted (drop (c.loop-key.key-index + 1) c.args.keys.now)) ∙ (rw here at inv.gone));
      come = rw come (append_assoc c.loop-key.plan.come.items (coming_here (find_row columns c.key-item.result rows) (find_row columns c.key-item.result wanted)) (coming_rows columns rows wanted (drop (c.loop-key.key-index + 1) c.args.keys.now)) ∙ (rw here at inv.come));
      rise = omega (arith, c.look_up.ensures.rise, inv.rise);
      lookups = omega (arith, c.look_up.ensures.lookups, inv.lookups, ap length here);
    }
