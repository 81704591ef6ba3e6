-- Making rows anew child by child.
use Rattle.std.proofs.Common.{[], ◌∷◌, map, length, Some, sym, ap, ◌∙◌, arith}
use Rattle.rep_schema.specs.Tables.{columns_of, key_of, rows_of, RowFits}
use Rattle.snapshot_query.specs.Parents.{has_parent}
use Rattle.subquery_snapshots.specs.Children.{children, rows_above}
use Rattle.subquery_snapshots.proofs.Renewing.{shown, own-then_some, shown-found, renews_wanted, one_more, goes_on, gone_on}
use Rattle.subquery_snapshots.proofs.Walking.{rows_above-none, no_child, children_left, child_holds, child_found, child_is, has_parent-child}
use Rattle.subquery_snapshots.proofs.fast.renew_children.Goals as goal

pub matches_at-matched-requires : goal.matches_at-matched-requires
matches_at-matched-requires g c = rw c.requires.schema c.requires.parent

pub children-init : goal.children-init
children-init g c =
    let columns = columns_of c.args.schema.now c.args.table in
    let all = children c.args.parent.now.columns c.args.key.now (rows_of (g.M.MasterView.tables c.args.master.now) c.args.table) in
    let whole = rows_above-none columns all in
    record {
      schema = c.matches_at-matched.ensures.schema;
      tables = c.matches_at-matched.ensures.tables;
      rising = c.requires.rising;
      renewed = λ last renews. rw whole at renews;
      rise = c.matches_at-matched.ensures.rise;
      lookups = omega (arith, c.matches_at-matched.ensures.lookups, ap length whole);
    }

pub next_child-requires : goal.next_child-requires
next_child-requires g c = rw (c.children.invariant.schema ∙ c.requires.schema) c.requires.table.within

-- no child is left
pub returns-in_default-clause-renewed : goal.returns-in_default-clause-renewed
returns-in_default-clause-renewed g c =
    let inv = c.children.invariant in
    let schema = c.args.schema.now in
    let tables = g.M.MasterView.tables c.args.master.now in
    let columns = columns_of schema c.args.table in
    let rows = rows_of tables c.args.table in
    let places = c.args.parent.now.columns in
    let next = rw (inv.schema ∙ c.requires.schema, inv.tables, c.as_slice-columns.ensures, c.as_ref.ensures.value) at c.in_ok-child.ensures.child in
    let none = no_child columns places c.args.key.now c.children.above rows (sym next ∙ c.in_default.is) in
    gone_on columns (shown columns (has_parent schema tables c.args.parent.now) rows) (map (key_of columns) (children places c.args.key.now rows))
    c.args.rows.now.items c.children.rows.items (rw none at inv.renewed) inv.rising

pub key_in-own-requires-clause-fits : goal.key_in-own-requires-clause-fits
key_in-own-requires-clause-fits g c =
    let inv = c.children.invariant in
    let columns = columns_of c.args.schema.now c.args.table in
    let rows = rows_of (g.M.MasterView.tables c.args.master.now) c.args.table in
    let is = c.requires.master.each c.args.table c.requires.table.within in
    let next = rw (inv.schema ∙ c.requires.schema, inv.tables, c.as_slice-columns.ensures, c.as_ref.ensures.value) at c.in_ok-child.ensures.child in
    child_holds columns c.args.parent.now.columns c.args.key.now c.children.above rows is.rising c.in-Some.child (sym next ∙ c.in-Some.is) (RowFits columns) is.fit

pub set_row-requires-clause-rising : goal.set_row-requires-clause-rising
set_row-requires-clause-rising g c = rw c.columns_of.ensures c.children.invariant.rising

-- whether the child is put or taken, its own key is made anew
pub set_row-requires-clause-own : goal.set_row-requires-clause-own
set_row-requires-clause-own g c =
    rw (c.columns_of.ensures, c.values.ensures.value, c.key_in-own.ensures) (own-then_some (columns_of c.args.schema.now c.args.table) c.in-Some.child _ c.then_some-row.result c.then_some-row.ensures)

pub children-smaller : goal.children-smaller
children-smaller g c =
    let inv = c.children.invariant in
    let columns = columns_of c.args.schema.now c.args.table in
    let rows = rows_of (g.M.MasterView.tables c.args.master.now) c.args.table in
    let is = c.requires.master.each c.args.table c.requires.table.within in
    let next = rw (inv.schema ∙ c.requires.schema, inv.tables, c.as_slice-columns.ensures, c.as_ref.ensures.value) at c.in_ok-child.ensures.child in
    let left = children_left columns c.args.parent.now.columns c.args.key.now c.children.above rows is.rising c.in-Some.child (sym next ∙ c.in-Some.is) in
    rw c.key_in-own.ensures (omega (arith, ap length left))

pub children-preserved : goal.children-preserved
children-preserved g c =
    let inv = c.children.invariant in
    let schema = c.args.schema.now in
    let tables = g.M.MasterView.tables c.args.master.now in
    let columns = columns_of schema c.args.table in
    let rows = rows_of tables c.args.table in
    let places = c.args.parent.now.columns in
    let child = c.in-Some.child in
    let all = children places c.args.key.now rows in
    let test = has_parent schema tables c.args.parent.now in
    let is = c.requires.master.each c.args.table c.requires.table.within in
    let next = rw (inv.schema ∙ c.requires.schema, inv.tables, c.as_slice-columns.ensures, c.as_ref.ensures.value) at c.in_ok-child.ensures.child in
    let found = sym next ∙ c.in-Some.is in
    let left = children_left columns places c.args.key.now c.children.above rows is.rising child found in
    let picked = (rw c.requires.schema at c.matches_at-matched.ensures.value) ∙ has_parent-child schema tables c.args.parent.now c.args.key.now child (child_is columns places c.args.key.now c.children.above rows is.rising child found) in
    let row = c.then_some-row.ensures ∙ shown-found columns test rows (key_of columns child) child c.matches_at-matched.result (child_found columns places c.args.key.now c.children.above rows is.rising child found) picked in
    let set = rw (c.columns_of.ensures, c.values.ensures.value, c.key_in-own.ensures) at c.in_ok-set_row.ensures in
    let step = renews_wanted columns (shown columns test rows) (key_of columns child) c.then_some-row.result c.children.rows.items c.set_row.new.rows.items row set in
    let rest = map (key_of columns) (rows_above columns (Some (key_of columns child)) all) in
    rw c.key_in-own.ensures (record {
      schema = c.next_child.ensures.schema ∙ inv.schema;
      tables = c.next_child.ensures.tables ∙ inv.tables;
      rising = step.rising;
      renewed = goes_on columns (shown columns test rows) (key_of columns child ∷ []) rest (key_of columns child ∷ rest) (map (key_of columns) all)
          c.args.rows.now.items c.children.rows.items c.set_row.new.rows.items (λ k. one_more k (key_of columns child) rest) (rw left at inv.renewed) step;
      rise = omega (arith, c.next_child.ensures.rise, inv.rise);
      lookups = omega (arith, c.next_child.ensures.lookups, inv.lookups, ap length left);
    })
