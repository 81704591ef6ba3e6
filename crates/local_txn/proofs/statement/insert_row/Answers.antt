-- Inserting a row.
use Rattle.std.proofs.Common.{◌≡◌, true, inr, sym, ap, ◌∙◌, subst}
use Rattle.std.specs.Prelude.{None, Some}
use Rattle.rep_values.specs.RefusalSteps.{first_refusal}
use Rattle.rep_schema.specs.Tables.{columns_of, rows_of, RowFits, IsUniqueRow}
use Rattle.rep_schema.specs.Changes.{row_like}
use Rattle.rep_schema.proofs.Shapes.{length-columns_of}
use Rattle.txn_effects.specs.declared.row_made.RowMade.{RowMade}
use Rattle.txn_effects.specs.Literals.{literals_fit, values_of}
use Rattle.txn_effects.specs.Filled.{written_columns, row_written}
use Rattle.local_txn.specs.Running.{inserted_capped, block_state_of, progress_after}
use Rattle.txn_effects.specs.NewRows.{FitsButForRange}
use Rattle.txn_effects.specs.Statements.{new_row_steps}
use Rattle.local_txn.proofs.StatementSteps.{IsRowLen-able, length-literals_fit, length-written, IsKindly-inserted, insert_refusal, RowFits-inserted, IsUniqueRow-inserted, RunsAs-inserted}
use Rattle.local_txn.proofs.statement.insert_row.Goals as goal

pub row_written-requires-clause-some : goal.row_written-requires-clause-some
row_written-requires-clause-some g c =
    rw (c.columns_of-columns.ensures, c.schema.ensures.value) (IsRowLen-able (g.R.RowStore.schema c.args.store.now) (g.R.RowStore.tables c.args.store.now) c.args.table c.requires.able)

pub row_written-requires-clause-long : goal.row_written-requires-clause-long
row_written-requires-clause-long g c =
    let schema = g.R.RowStore.schema c.args.store.now in
    let fits : literals_fit schema (written_columns (columns_of schema c.args.table)) c.args.values.now ≡ true = sym (rw (c.schema-2.ensures.value, c.columns_of-columns.ensures, c.schema.ensures.value) at c.written_fit.ensures) ∙ c.if-not-written_fit.false in
    rw (c.columns_of-columns.ensures, c.schema.ensures.value) (length-literals_fit schema (written_columns (columns_of schema c.args.table)) c.args.values.now fits)

pub inserted-made-requires-clause-few : goal.inserted-made-requires-clause-few
inserted-made-requires-clause-few g c = rw (c.columns_of-columns.ensures, c.schema.ensures.value) (length-columns_of (g.R.RowStore.schema c.args.store.now) c.requires.able.shape c.args.table)

pub inserted-made-requires-clause-long : goal.inserted-made-requires-clause-long
inserted-made-requires-clause-long g c =
    let schema = g.R.RowStore.schema c.args.store.now in
    let fits : literals_fit schema (written_columns (columns_of schema c.args.table)) c.args.values.now ≡ true = sym (rw (c.schema-2.ensures.value, c.columns_of-columns.ensures, c.schema.ensures.value) at c.written_fit.ensures) ∙ c.if-not-written_fit.false in
    rw (c.in_ok-row.ensures, c.columns_of-columns.ensures, c.schema.ensures.value)
    (length-written schema c.args.footing.now (g.R.RowStore.tables c.args.store.now) c.args.table c.requires.able c.args.values.now fits)

pub new_row_refusal-requires-clause-kindly : goal.new_row_refusal-requires-clause-kindly
new_row_refusal-requires-clause-kindly g c κs within =
    let schema = g.R.RowStore.schema c.args.store.now in
    let fits : literals_fit schema (written_columns (columns_of schema c.args.table)) c.args.values.now ≡ true = sym (rw (c.schema-2.ensures.value, c.columns_of-columns.ensures, c.schema.ensures.value) at c.written_fit.ensures) ∙ c.if-not-written_fit.false in
    let made : c.inserted-made.result ≡ inserted_capped (columns_of schema c.args.table) c.args.footing.now.here.site c.args.footing.now.stamps (row_written (columns_of schema c.args.table) (values_of c.args.values.now)) =
    rw (c.in_ok-row.ensures, c.columns_of-columns.ensures, c.schema.ensures.value) at c.inserted-made.ensures in
    subst (λ (one : RowMade). FitsButForRange schema c.args.table one.row) (sym made)
    (IsKindly-inserted schema c.args.footing.now (g.R.RowStore.tables c.args.store.now) c.args.table c.requires.able c.args.values.now fits)

pub returns-in-Some-clause-err : goal.returns-in-Some-clause-err
returns-in-Some-clause-err g c =
    let schema = g.R.RowStore.schema c.args.store.now in
    let tables = g.R.RowStore.tables c.args.store.now in
    let footing = c.args.footing.now in
    let fits : literals_fit schema (written_columns (columns_of schema c.args.table)) c.args.values.now ≡ true = sym (rw (c.schema-2.ensures.value, c.columns_of-columns.ensures, c.schema.ensures.value) at c.written_fit.ensures) ∙ c.if-not-written_fit.false in
    let made : c.inserted-made.result ≡ inserted_capped (columns_of schema c.args.table) c.args.footing.now.here.site c.args.footing.now.stamps (row_written (columns_of schema c.args.table) (values_of c.args.values.now)) =
    rw (c.in_ok-row.ensures, c.columns_of-columns.ensures, c.schema.ensures.value) at c.inserted-made.ensures in
    inr (sym (insert_refusal schema footing tables c.args.table c.requires.able c.args.values.now fits)
    ∙ subst (λ (one : RowMade). first_refusal (new_row_steps schema footing.here (block_state_of footing tables) c.args.table one.row) ≡ Some c.in-Some.refusal) made (sym c.new_row_refusal.ensures ∙ c.in-Some.is))

pub put_with_change-requires-clause-fits : goal.put_with_change-requires-clause-fits
put_with_change-requires-clause-fits g c κs within =
    let schema = g.R.RowStore.schema c.args.store.now in
    let tables = g.R.RowStore.tables c.args.store.now in
    let footing = c.args.footing.now in
    let fits : literals_fit schema (written_columns (columns_of schema c.args.table)) c.args.values.now ≡ true = sym (rw (c.schema-2.ensures.value, c.columns_of-columns.ensures, c.schema.ensures.value) at c.written_fit.ensures) ∙ c.if-not-written_fit.false in
    let made : c.inserted-made.result ≡ inserted_capped (columns_of schema c.args.table) c.args.footing.now.here.site c.args.footing.now.stamps (row_written (columns_of schema c.args.table) (values_of c.args.values.now)) =
    rw (c.in_ok-row.ensures, c.columns_of-columns.ensures, c.schema.ensures.value) at c.inserted-made.ensures in
    let none = subst (λ (one : RowMade). first_refusal (new_row_steps schema footing.here (block_state_of footing tables) c.args.table one.row) ≡ None) made (sym c.new_row_refusal.ensures ∙ c.in_default.is) in
    subst (λ (one : RowMade). RowFits (columns_of schema c.args.table) one.row) (sym made) (RowFits-inserted schema footing tables c.args.table c.requires.able c.args.values.now fits none)

pub put_with_change-requires-clause-unique : goal.put_with_change-requires-clause-unique
put_with_change-requires-clause-unique g c κs within =
    let schema = g.R.RowStore.schema c.args.store.now in
    let tables = g.R.RowStore.tables c.args.store.now in
    let footing = c.args.footing.now in
    let fits : literals_fit schema (written_columns (columns_of schema c.args.table)) c.args.values.now ≡ true = sym (rw (c.schema-2.ensures.value, c.columns_of-columns.ensures, c.schema.ensures.value) at c.written_fit.ensures) ∙ c.if-not-written_fit.false in
    let made : c.inserted-made.result ≡ inserted_capped (columns_of schema c.args.table) c.args.footing.now.here.site c.args.footing.now.stamps (row_written (columns_of schema c.args.table) (values_of c.args.values.now)) =
    rw (c.in_ok-row.ensures, c.columns_of-columns.ensures, c.schema.ensures.value) at c.inserted-made.ensures in
    let none = subst (λ (one : RowMade). first_refusal (new_row_steps schema footing.here (block_state_of footing tables) c.args.table one.row) ≡ None) made (sym c.new_row_refusal.ensures ∙ c.in_default.is) in
    subst (λ (one : RowMade). IsUniqueRow schema c.args.table one.row (rows_of tables c.args.table)) (sym made) (IsUniqueRow-inserted schema footing tables c.args.table c.requires.able c.args.values.now fits none)

pub returns-clause-ok : goal.returns-clause-ok
returns-clause-ok g c =
    let schema = g.R.RowStore.schema c.args.store.now in
    let tables = g.R.RowStore.tables c.args.store.now in
    let footing = c.args.footing.now in
    let fits : literals_fit schema (written_columns (columns_of schema c.args.table)) c.args.values.now ≡ true = sym (rw (c.schema-2.ensures.value, c.columns_of-columns.ensures, c.schema.ensures.value) at c.written_fit.ensures) ∙ c.if-not-written_fit.false in
    let made : c.inserted-made.result ≡ inserted_capped (columns_of schema c.args.table) c.args.footing.now.here.site c.args.footing.now.stamps (row_written (columns_of schema c.args.table) (values_of c.args.values.now)) =
    rw (c.in_ok-row.ensures, c.columns_of-columns.ensures, c.schema.ensures.value) at c.inserted-made.ensures in
    let none = subst (λ (one : RowMade). first_refusal (new_row_steps schema footing.here (block_state_of footing tables) c.args.table one.row) ≡ None) made (sym c.new_row_refusal.ensures ∙ c.in_default.is) in
    let put = c.in_ok-change.ensures.ok in
    let runs = RunsAs-inserted schema footing tables c.args.table c.requires.able c.args.values.now fits none c.in_ok-change.change
    (subst (λ (one : RowMade). c.in_ok-change.change ≡ record { table = c.args.table; before = row_like (columns_of schema c.args.table) one.row (rows_of tables c.args.table); after = Some one.row }) made put) in
    record {
      accepted = runs.accepted;
      changes = runs.changes;
      footing = rw c.schema-3.ensures.value at c.go_on.ensures ∙ ap (λ (one : RowMade). progress_after schema c.args.table one.last footing) made ∙ runs.footing;
    }
