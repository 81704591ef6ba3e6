-- Taking a row away.
use Rattle.std.proofs.Common.{◌≡◌, true, false, Some, sym, ◌∙◌}
use Rattle.std.specs.Bool.{one_answer}
use Rattle.rep_schema.specs.Tables.{columns_of, key_of, find_row, rows_of}
use Rattle.rep_schema.specs.Groups.{are_same}
use Rattle.rep_schema.proofs.ValuesAt.{are_same-Decides}
use Rattle.txn_apply.proofs.CallOutcomes.{call_effect-Delete, call_effect-Delete_other}
use Rattle.txn_apply.proofs.call.delete_row.Goals as goal

pub returns-then-not-same_values-clause-err : goal.returns-then-not-same_values-clause-err
returns-then-not-same_values-clause-err g c =
    let schema = g.R.RowStore.schema c.args.store.now in
    let tables = g.R.RowStore.tables c.args.store.now in
    let own : c.key_in-key.result ≡ key_of (columns_of schema c.args.table) c.args.row.now = rw c.schema.ensures.value at c.key_in-key.ensures in
    let found : find_row (columns_of schema c.args.table) (key_of (columns_of schema c.args.table) c.args.row.now) (rows_of tables c.args.table) ≡ Some c.in-Some.found.now =
    rw (← own) (sym c.in-Some.ensures) in
    let same = rw (c.values.ensures.value, c.values-2.ensures.value) at c.same_values.ensures in
    let other : are_same c.in-Some.found.now c.args.row.now ≡ false = sym (one_answer _ _ same (are_same-Decides c.in-Some.found.now c.args.row.now)) ∙ c.if-not-same_values.true in
    call_effect-Delete_other schema tables c.args.counters.now c.args.origin.now c.args.table c.args.row.now c.in-Some.found.now found other

pub returns-clause-ok : goal.returns-clause-ok
returns-clause-ok g c =
    let schema = g.R.RowStore.schema c.args.store.now in
    let tables = g.R.RowStore.tables c.args.store.now in
    let own : c.key_in-key.result ≡ key_of (columns_of schema c.args.table) c.args.row.now = rw c.schema.ensures.value at c.key_in-key.ensures in
    let found : find_row (columns_of schema c.args.table) (key_of (columns_of schema c.args.table) c.args.row.now) (rows_of tables c.args.table) ≡ Some c.in-Some.found.now =
    rw (← own) (sym c.in-Some.ensures) in
    let same = rw (c.values.ensures.value, c.values-2.ensures.value) at c.same_values.ensures in
    let there : are_same c.in-Some.found.now c.args.row.now ≡ true = sym (one_answer _ _ same (are_same-Decides c.in-Some.found.now c.args.row.now)) ∙ c.if-not-same_values.false in
    rw (c.take-before.ensures.taken, ← c.in-Some.ensures) (call_effect-Delete schema tables c.args.counters.now c.args.origin.now c.args.table c.args.row.now c.in-Some.found.now found there)
