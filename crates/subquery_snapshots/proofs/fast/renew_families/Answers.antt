-- Making rows anew parent by parent.
use Rattle.std.proofs.Common.{List, ◌∷◌, ◌+◌, ◌≤◌, map, length, drop, refl, ap, ◌∙◌, arith}
use Rattle.std.proofs.lemmas.List.{drop_all}
use Rattle.rep_lists.proofs.Places.{drop_from_place}
use Rattle.rep_schema.specs.Tables.{Cells, columns_of, key_of, rows_of}
use Rattle.snapshot_query.specs.Parents.{has_parent}
use Rattle.subquery_snapshots.specs.Rules.{rows_of_parents}
use Rattle.subquery_snapshots.specs.Children.{children, child_count}
use Rattle.subquery_snapshots.proofs.Renewing.{shown, goes_on, gone_on}
use Rattle.subquery_snapshots.proofs.Families.{one_family_more, child_count-cons, rows_of_parents-none}
use Rattle.subquery_snapshots.proofs.fast.renew_families.Goals as goal

pub loop-key-init : goal.loop-key-init
loop-key-init g c = record {
  schema = refl;
  tables = refl;
  rising = c.requires.rising;
  renewed = λ last renews. renews;
  rise = omega arith;
  lookups = omega arith;
}

pub renew_children-requires-clause-master : goal.renew_children-requires-clause-master
renew_children-requires-clause-master g c = rw c.loop-key.invariant.tables c.requires.master

pub loop-key-preserved : goal.loop-key-preserved
loop-key-preserved g c =
    let inv = c.loop-key.invariant in
    let schema = c.args.schema.now in
    let tables = g.M.MasterView.tables c.args.master.now in
    let columns = columns_of schema c.args.table in
    let rows = rows_of tables c.args.table in
    let parent = c.args.parent.now in
    let key = c.key-item.result in
    let rest = drop (c.loop-key.key-index + 1) c.args.keys.now in
    let here = drop_from_place c.args.keys.now c.loop-key.key-index key c.loop-key-test.true c.key-item.is in
    let step = rw inv.tables at c.in_ok-renew_children.ensures.renewed in
    let lookups = rw inv.tables at c.renew_children.ensures.lookups in
    record {
      schema = c.renew_children.ensures.schema ∙ inv.schema;
      tables = c.renew_children.ensures.tables ∙ inv.tables;
      rising = step.rising;
      renewed = goes_on columns (shown columns (has_parent schema tables parent) rows) (map (key_of columns) (children parent.columns key rows)) (map (key_of columns) (rows_of_parents parent rest rows))
          (map (key_of columns) (rows_of_parents parent (key ∷ rest) rows)) (map (key_of columns) (rows_of_parents parent c.args.keys.now rows))
          c.args.rows.now.items c.loop-key.rows.items c.renew_children.new.rows.items (λ k. one_family_more columns parent key rest rows k) (rw here at inv.renewed) step;
      rise = omega (arith, c.renew_children.ensures.rise, inv.rise);
      lookups = omega (arith, lookups, inv.lookups, ap length here, ap (λ (ks : List Cells). child_count parent.columns ks rows) here, child_count-cons parent.columns key rest rows);
    }

pub returns-in_err-renew_children-clause-lookups : goal.returns-in_err-renew_children-clause-lookups
returns-in_err-renew_children-clause-lookups g c =
    let inv = c.loop-key.invariant in
    let rows = rows_of (g.M.MasterView.tables c.args.master.now) c.args.table in
    let places = c.args.parent.now.columns in
    let key = c.key-item.result in
    let rest = drop (c.loop-key.key-index + 1) c.args.keys.now in
    let here = drop_from_place c.args.keys.now c.loop-key.key-index key c.loop-key-test.true c.key-item.is in
    let lookups = rw inv.tables at c.renew_children.ensures.lookups in
    omega (arith, lookups, inv.lookups, ap length here, ap (λ (ks : List Cells). child_count places ks rows) here, child_count-cons places key rest rows)

-- no parent is left, so no child is
pub returns-clause-renewed : goal.returns-clause-renewed
returns-clause-renewed g c =
    let inv = c.loop-key.invariant in
    let schema = c.args.schema.now in
    let tables = g.M.MasterView.tables c.args.master.now in
    let columns = columns_of schema c.args.table in
    let rows = rows_of tables c.args.table in
    let parent = c.args.parent.now in
    let past : length c.args.keys.now ≤ c.loop-key.key-index = c.loop-key-test.false in
    gone_on columns (shown columns (has_parent schema tables parent) rows) (map (key_of columns) (rows_of_parents parent c.args.keys.now rows))
    c.args.rows.now.items c.loop-key.rows.items (rw (drop_all c.loop-key.key-index c.args.keys.now past, rows_of_parents-none parent rows) at inv.renewed) inv.rising
