-- The steps of a row: its range, the constraints, the checks.
use Rattle.std.proofs.Common.{◌≡◌, true, refl, sym, ◌∙◌}
use Rattle.std.specs.Prelude.{None, Some}
use Rattle.rep_values.specs.RefusalSteps.{first_refusal}
use Rattle.rep_schema.specs.Kinds.{row_in_range}
use Rattle.txn_effects.specs.Statements.{unique_steps, check_step}
use Rattle.txn_effects.proofs.NewRows.{row_steps-parts}
use Rattle.local_txn.proofs.rows.row_refusal.Goals as goal

pub returns-in-Some : goal.returns-in-Some
returns-in-Some g c =
    let schema = g.R.RowStore.schema c.args.store.now in
    let tables = g.R.RowStore.tables c.args.store.now in
    let range : row_in_range c.args.row.now ≡ true = sym (rw c.values.ensures.value at c.row_in_range.ensures) ∙ c.if-not-row_in_range.false in
    let refuses : first_refusal (unique_steps schema tables c.args.table c.args.row.now) ≡ Some c.in-Some.refusal = sym c.unique_refusal.ensures ∙ c.in-Some.is in
    sym (row_steps-parts schema tables c.args.table c.args.row.now ∙ rw (range, refuses) refl)

pub returns : goal.returns
returns g c =
    let schema = g.R.RowStore.schema c.args.store.now in
    let tables = g.R.RowStore.tables c.args.store.now in
    let range : row_in_range c.args.row.now ≡ true = sym (rw c.values.ensures.value at c.row_in_range.ensures) ∙ c.if-not-row_in_range.false in
    let none : first_refusal (unique_steps schema tables c.args.table c.args.row.now) ≡ None = sym c.unique_refusal.ensures ∙ c.in_default.is in
    let checks : c.check_refusal.result ≡ check_step schema c.args.table c.args.row.now = rw c.schema.ensures.value at c.check_refusal.ensures in
    checks ∙ sym (row_steps-parts schema tables c.args.table c.args.row.now ∙ rw (range, none) refl)
