-- The row that literals write, as its steps go by.
use Rattle.std.proofs.Common.{◌≡◌, true, false, None, sym, ◌∙◌, subst}
use Rattle.std.specs.Prelude.{◌&&◌, is_some}
use Rattle.rep_values.specs.RefusalSteps.{first_refusal}
use Rattle.rep_schema.specs.Tables.{columns_of, key_of}
use Rattle.rep_schema.specs.Fitting.{is_keyed}
use Rattle.txn_effects.specs.Literals.{literals_fit}
use Rattle.txn_effects.specs.Filled.{written_columns}
use Rattle.txn_effects.specs.Statements.{row_at, row_steps}
use Rattle.local_txn.specs.BaseRows.{base_row}
use Rattle.local_txn.proofs.BaseRefusals.{IsRowLen-base, length-base, IsKindly-base, IsBaseRow-accepted}
use Rattle.local_txn.proofs.base.base_row.Goals as goal

-- a table with a key has columns
pub row_written-requires-clause-some : goal.row_written-requires-clause-some
row_written-requires-clause-some g c =
    let schema = g.R.RowStore.schema c.args.store.now in
    let tables = g.R.RowStore.tables c.args.store.now in
    let table = c.args.table in
    let values = c.args.values.now in
    let passes : (is_keyed (columns_of schema table) && literals_fit schema (written_columns (columns_of schema table)) values) ≡ true = rw c.schema.ensures.value at (sym c.takes_values.ensures ∙ c.if-not-takes_values.false) in
    rw (c.columns_of.ensures, c.schema-2.ensures.value) (IsRowLen-base schema tables table values passes c.requires.shape c.holds_tables.ensures c.requires.table)

pub row_written-requires-clause-long : goal.row_written-requires-clause-long
row_written-requires-clause-long g c =
    let schema = g.R.RowStore.schema c.args.store.now in
    let tables = g.R.RowStore.tables c.args.store.now in
    let table = c.args.table in
    let values = c.args.values.now in
    let passes : (is_keyed (columns_of schema table) && literals_fit schema (written_columns (columns_of schema table)) values) ≡ true = rw c.schema.ensures.value at (sym c.takes_values.ensures ∙ c.if-not-takes_values.false) in
    rw (c.columns_of.ensures, c.schema-2.ensures.value) (length-base schema tables table values passes)

pub key_in-requires-clause-long : goal.key_in-requires-clause-long
key_in-requires-clause-long g c κs within =
    let schema = g.R.RowStore.schema c.args.store.now in
    let tables = g.R.RowStore.tables c.args.store.now in
    let table = c.args.table in
    let values = c.args.values.now in
    let passes : (is_keyed (columns_of schema table) && literals_fit schema (written_columns (columns_of schema table)) values) ≡ true = rw c.schema.ensures.value at (sym c.takes_values.ensures ∙ c.if-not-takes_values.false) in
    let row : c.in_ok-row.row ≡ base_row schema table values = rw (c.columns_of.ensures, c.schema-2.ensures.value) at c.in_ok-row.ensures in
    rw row (IsKindly-base schema tables table values passes).long

pub row_refusal-requires-clause-kindly : goal.row_refusal-requires-clause-kindly
row_refusal-requires-clause-kindly g c κs within =
    let schema = g.R.RowStore.schema c.args.store.now in
    let tables = g.R.RowStore.tables c.args.store.now in
    let table = c.args.table in
    let values = c.args.values.now in
    let passes : (is_keyed (columns_of schema table) && literals_fit schema (written_columns (columns_of schema table)) values) ≡ true = rw c.schema.ensures.value at (sym c.takes_values.ensures ∙ c.if-not-takes_values.false) in
    let row : c.in_ok-row.row ≡ base_row schema table values = rw (c.columns_of.ensures, c.schema-2.ensures.value) at c.in_ok-row.ensures in
    rw row (IsKindly-base schema tables table values passes)

-- its key is free, and none of the other steps refuses it
pub returns-clause-ok : goal.returns-clause-ok
returns-clause-ok g c =
    let schema = g.R.RowStore.schema c.args.store.now in
    let tables = g.R.RowStore.tables c.args.store.now in
    let table = c.args.table in
    let values = c.args.values.now in
    let passes : (is_keyed (columns_of schema table) && literals_fit schema (written_columns (columns_of schema table)) values) ≡ true = rw c.schema.ensures.value at (sym c.takes_values.ensures ∙ c.if-not-takes_values.false) in
    let row : c.in_ok-row.row ≡ base_row schema table values = rw (c.columns_of.ensures, c.schema-2.ensures.value) at c.in_ok-row.ensures in
    let free : is_some (row_at schema tables table (key_of (columns_of schema table) (base_row schema table values))) ≡ false = rw (c.key_in.ensures, row) at (sym c.has_row.ensures ∙ c.if-has_row.false) in
    let passed : first_refusal (row_steps schema tables table c.in_ok-row.row) ≡ None = sym c.row_refusal.ensures ∙ c.in_default.is in
    let none = subst (λ r. first_refusal (row_steps schema tables table r) ≡ None) row passed in
    rw row (IsBaseRow-accepted schema tables table values passes free c.holds_tables.ensures c.requires.table none)
