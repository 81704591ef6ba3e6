-- Changing a row by what an update sets.
use Rattle.std.proofs.Common.{◌≡◌, true, false, [], ◌∷◌, inr, refl, sym, ap, ◌∙◌}
use Rattle.std.specs.Prelude.{Some, None}
use Rattle.std.proofs.lemmas.Result.{err_from_is_err_and}
use Rattle.rep_values.specs.RefusalSteps.{first_refusal}
use Rattle.std.specs.Bool.{one_answer}
use Rattle.rep_schema.specs.Tables.{columns_of, rows_of}
use Rattle.rep_schema.specs.Groups.{are_same}
use Rattle.rep_schema.specs.Changes.{row_like}
use Rattle.rep_schema.proofs.ValuesAt.{are_same-Decides}
use Rattle.txn_effects.specs.Literals.{values_of}
use Rattle.txn_effects.specs.Statements.{row_at, row_steps}
use Rattle.local_txn.specs.Running.{AreInOrder, ChangesTo, block_state_of}
use Rattle.txn_effects.specs.ByColumn.{row_by}
use Rattle.local_txn.proofs.StatementSteps.{update_order, IsKeyLen-key, before_fits, update_refused, IsKindly-made, update_row_refused, RowFits-made, IsUniqueRow-made, row_like-made, RunsAs-updated}
use Rattle.local_txn.proofs.statement.update_row.Goals as goal

pub returns-in_err-found-clause-err : goal.returns-in_err-found-clause-err
returns-in_err-found-clause-err g c =
    let p = err_from_is_err_and c.from_residual.result c.from_residual.ensures.1 in
    rw (p.1, p.2) (inr (update_order (g.R.RowStore.schema c.args.store.now) c.args.footing.now.here (block_state_of c.args.footing.now (g.R.RowStore.tables c.args.store.now)) c.args.table c.args.key.now c.args.sets.now
    c.in_err-found.field-0.0 (rw c.schema.ensures.value at c.in_err-found.ensures.err)))

pub row_of_literals-requires-clause-key : goal.row_of_literals-requires-clause-key
row_of_literals-requires-clause-key g c κs within =
    let schema = g.R.RowStore.schema c.args.store.now in
    let order : AreInOrder schema c.args.table c.args.key.now c.args.sets.now c.in_ok-found.found = rw c.schema.ensures.value at c.in_ok-found.ensures.ok in
    IsKeyLen-key schema c.args.footing.now (g.R.RowStore.tables c.args.store.now) c.args.table c.requires.able c.args.key.now c.args.sets.now c.in_ok-found.found order

pub changed_row-requires-clause-fits : goal.changed_row-requires-clause-fits
changed_row-requires-clause-fits g c =
    let schema = g.R.RowStore.schema c.args.store.now in
    let tables = g.R.RowStore.tables c.args.store.now in
    let order : AreInOrder schema c.args.table c.args.key.now c.args.sets.now c.in_ok-found.found = rw c.schema.ensures.value at c.in_ok-found.ensures.ok in
    let there : row_at schema tables c.args.table (values_of c.args.key.now) ≡ Some c.in-Some.before.now = sym c.in-Some.ensures in
    rw c.schema-2.ensures.value (before_fits schema c.args.footing.now tables c.args.table c.requires.able c.args.key.now c.args.sets.now c.in_ok-found.found order c.in-Some.before.now there)

pub returns-in_err-made-clause-err : goal.returns-in_err-made-clause-err
returns-in_err-made-clause-err g c =
    let schema = g.R.RowStore.schema c.args.store.now in
    let tables = g.R.RowStore.tables c.args.store.now in
    let order : AreInOrder schema c.args.table c.args.key.now c.args.sets.now c.in_ok-found.found = rw c.schema.ensures.value at c.in_ok-found.ensures.ok in
    let there : row_at schema tables c.args.table (values_of c.args.key.now) ≡ Some c.in-Some.before.now = sym c.in-Some.ensures in
    let p = err_from_is_err_and c.from_residual-in_err-made.result c.from_residual-in_err-made.ensures.1 in
    rw (p.1, p.2) (update_refused schema c.args.footing.now tables c.args.table c.requires.able c.args.key.now c.args.sets.now c.in_ok-found.found order c.in-Some.before.now there
    c.in_err-made.field-0.0 (rw c.schema-2.ensures.value at c.in_err-made.ensures.err))

pub row_refusal-requires-clause-kindly : goal.row_refusal-requires-clause-kindly
row_refusal-requires-clause-kindly g c κs within =
    let schema = g.R.RowStore.schema c.args.store.now in
    let tables = g.R.RowStore.tables c.args.store.now in
    let order : AreInOrder schema c.args.table c.args.key.now c.args.sets.now c.in_ok-found.found = rw c.schema.ensures.value at c.in_ok-found.ensures.ok in
    let there : row_at schema tables c.args.table (values_of c.args.key.now) ≡ Some c.in-Some.before.now = sym c.in-Some.ensures in
    let change_to : ChangesTo schema c.args.footing.now c.args.table c.in-Some.before.now (row_by c.in_ok-found.found c.in-Some.before.now) c.in_ok-made.made = rw c.schema-2.ensures.value at c.in_ok-made.ensures.ok in
    IsKindly-made schema c.args.footing.now tables c.args.table c.requires.able c.args.key.now c.args.sets.now c.in_ok-found.found order c.in-Some.before.now there c.in_ok-made.made change_to

pub returns-in-Some-row_refusal-clause-err : goal.returns-in-Some-row_refusal-clause-err
returns-in-Some-row_refusal-clause-err g c =
    let schema = g.R.RowStore.schema c.args.store.now in
    let tables = g.R.RowStore.tables c.args.store.now in
    let footing = c.args.footing.now in
    let columns = columns_of schema c.args.table in
    let found = c.in_ok-found.found in
    let before = c.in-Some.before.now in
    let made = c.in_ok-made.made in
    let order : AreInOrder schema c.args.table c.args.key.now c.args.sets.now c.in_ok-found.found = rw c.schema.ensures.value at c.in_ok-found.ensures.ok in
    let there : row_at schema tables c.args.table (values_of c.args.key.now) ≡ Some c.in-Some.before.now = sym c.in-Some.ensures in
    let change_to : ChangesTo schema c.args.footing.now c.args.table c.in-Some.before.now (row_by c.in_ok-found.found c.in-Some.before.now) c.in_ok-made.made = rw c.schema-2.ensures.value at c.in_ok-made.ensures.ok in
    inr (update_row_refused schema footing tables c.args.table c.requires.able c.args.key.now c.args.sets.now found order before there made change_to c.in-Some-row_refusal.refusal (sym c.row_refusal.ensures ∙ c.in-Some-row_refusal.is))

pub returns-then-same_values-clause-ok : goal.returns-then-same_values-clause-ok
returns-then-same_values-clause-ok g c =
    let schema = g.R.RowStore.schema c.args.store.now in
    let tables = g.R.RowStore.tables c.args.store.now in
    let footing = c.args.footing.now in
    let columns = columns_of schema c.args.table in
    let found = c.in_ok-found.found in
    let before = c.in-Some.before.now in
    let made = c.in_ok-made.made in
    let order : AreInOrder schema c.args.table c.args.key.now c.args.sets.now c.in_ok-found.found = rw c.schema.ensures.value at c.in_ok-found.ensures.ok in
    let there : row_at schema tables c.args.table (values_of c.args.key.now) ≡ Some c.in-Some.before.now = sym c.in-Some.ensures in
    let change_to : ChangesTo schema c.args.footing.now c.args.table c.in-Some.before.now (row_by c.in_ok-found.found c.in-Some.before.now) c.in_ok-made.made = rw c.schema-2.ensures.value at c.in_ok-made.ensures.ok in
    let none : first_refusal (row_steps schema tables c.args.table made.row) ≡ None = sym c.row_refusal.ensures ∙ c.in_default-row_refusal.is in
    let same = rw (c.values.ensures.value, c.values-2.ensures.value) at c.same_values.ensures in
    let alike : are_same before made.row ≡ true = sym (one_answer _ _ same (are_same-Decides before made.row)) ∙ c.if-same_values.true in
    let runs = RunsAs-updated schema footing tables c.args.table c.requires.able c.args.key.now c.args.sets.now found order before there made change_to none [] (rw alike refl) in
    record { accepted = runs.accepted; changes = runs.changes; footing = rw c.schema-3.ensures.value at c.go_on.ensures ∙ runs.footing }

pub put_with_change-requires-clause-fits : goal.put_with_change-requires-clause-fits
put_with_change-requires-clause-fits g c κs within =
    let schema = g.R.RowStore.schema c.args.store.now in
    let tables = g.R.RowStore.tables c.args.store.now in
    let footing = c.args.footing.now in
    let columns = columns_of schema c.args.table in
    let found = c.in_ok-found.found in
    let before = c.in-Some.before.now in
    let made = c.in_ok-made.made in
    let order : AreInOrder schema c.args.table c.args.key.now c.args.sets.now c.in_ok-found.found = rw c.schema.ensures.value at c.in_ok-found.ensures.ok in
    let there : row_at schema tables c.args.table (values_of c.args.key.now) ≡ Some c.in-Some.before.now = sym c.in-Some.ensures in
    let change_to : ChangesTo schema c.args.footing.now c.args.table c.in-Some.before.now (row_by c.in_ok-found.found c.in-Some.before.now) c.in_ok-made.made = rw c.schema-2.ensures.value at c.in_ok-made.ensures.ok in
    let none : first_refusal (row_steps schema tables c.args.table made.row) ≡ None = sym c.row_refusal.ensures ∙ c.in_default-row_refusal.is in
    RowFits-made schema footing tables c.args.table c.requires.able c.args.key.now c.args.sets.now found order before there made change_to none

pub put_with_change-requires-clause-unique : goal.put_with_change-requires-clause-unique
put_with_change-requires-clause-unique g c κs within =
    let schema = g.R.RowStore.schema c.args.store.now in
    let tables = g.R.RowStore.tables c.args.store.now in
    let footing = c.args.footing.now in
    let columns = columns_of schema c.args.table in
    let found = c.in_ok-found.found in
    let before = c.in-Some.before.now in
    let made = c.in_ok-made.made in
    let order : AreInOrder schema c.args.table c.args.key.now c.args.sets.now c.in_ok-found.found = rw c.schema.ensures.value at c.in_ok-found.ensures.ok in
    let there : row_at schema tables c.args.table (values_of c.args.key.now) ≡ Some c.in-Some.before.now = sym c.in-Some.ensures in
    let change_to : ChangesTo schema c.args.footing.now c.args.table c.in-Some.before.now (row_by c.in_ok-found.found c.in-Some.before.now) c.in_ok-made.made = rw c.schema-2.ensures.value at c.in_ok-made.ensures.ok in
    let none : first_refusal (row_steps schema tables c.args.table made.row) ≡ None = sym c.row_refusal.ensures ∙ c.in_default-row_refusal.is in
    IsUniqueRow-made schema footing tables c.args.table c.requires.able c.args.key.now c.args.sets.now found order before there made change_to none

pub returns-clause-ok : goal.returns-clause-ok
returns-clause-ok g c =
    let schema = g.R.RowStore.schema c.args.store.now in
    let tables = g.R.RowStore.tables c.args.store.now in
    let footing = c.args.footing.now in
    let columns = columns_of schema c.args.table in
    let found = c.in_ok-found.found in
    let before = c.in-Some.before.now in
    let made = c.in_ok-made.made in
    let order : AreInOrder schema c.args.table c.args.key.now c.args.sets.now c.in_ok-found.found = rw c.schema.ensures.value at c.in_ok-found.ensures.ok in
    let there : row_at schema tables c.args.table (values_of c.args.key.now) ≡ Some c.in-Some.before.now = sym c.in-Some.ensures in
    let change_to : ChangesTo schema c.args.footing.now c.args.table c.in-Some.before.now (row_by c.in_ok-found.found c.in-Some.before.now) c.in_ok-made.made = rw c.schema-2.ensures.value at c.in_ok-made.ensures.ok in
    let none : first_refusal (row_steps schema tables c.args.table made.row) ≡ None = sym c.row_refusal.ensures ∙ c.in_default-row_refusal.is in
    let same = rw (c.values.ensures.value, c.values-2.ensures.value) at c.same_values.ensures in
    let other : are_same before made.row ≡ false = sym (one_answer _ _ same (are_same-Decides before made.row)) ∙ c.if-same_values.false in
    let was : row_like columns made.row (rows_of tables c.args.table) ≡ Some before = row_like-made schema footing tables c.args.table c.requires.able c.args.key.now c.args.sets.now found order before there made change_to c.requires.apart in
    let change : c.in_ok-change.change ≡ record { table = c.args.table; before = Some before; after = Some made.row } = rw was at c.in_ok-change.ensures.ok in
    let runs = RunsAs-updated schema footing tables c.args.table c.requires.able c.args.key.now c.args.sets.now found order before there made change_to none (c.in_ok-change.change ∷ []) (rw other (ap (λ one. one ∷ []) change)) in
    record { accepted = runs.accepted; changes = runs.changes; footing = rw c.schema-3.ensures.value at c.go_on.ensures ∙ runs.footing }

-- the row before has the key of the row after
pub row_refusal-requires-clause-before : goal.row_refusal-requires-clause-before
row_refusal-requires-clause-before g c κs within =
    let schema = g.R.RowStore.schema c.args.store.now in
    let tables = g.R.RowStore.tables c.args.store.now in
    let footing = c.args.footing.now in
    let found = c.in_ok-found.found in
    let before = c.in-Some.before.now in
    let made = c.in_ok-made.made in
    let order : AreInOrder schema c.args.table c.args.key.now c.args.sets.now c.in_ok-found.found = rw c.schema.ensures.value at c.in_ok-found.ensures.ok in
    let there : row_at schema tables c.args.table (values_of c.args.key.now) ≡ Some c.in-Some.before.now = sym c.in-Some.ensures in
    let change_to : ChangesTo schema c.args.footing.now c.args.table c.in-Some.before.now (row_by c.in_ok-found.found c.in-Some.before.now) c.in_ok-made.made = rw c.schema-2.ensures.value at c.in_ok-made.ensures.ok in
    row_like-made schema footing tables c.args.table c.requires.able c.args.key.now c.args.sets.now found order before there made change_to c.requires.apart
