-- Running a block: its changes fit, and so do their calls.
use Rattle.std.proofs.Common.{sym, subst}
use Rattle.std.specs.Prelude.{◌≡◌, map}
use Rattle.conflict_detect.specs.ChangeCalls.{call_of}
use Rattle.std.specs.List.{AllByRecursion}
use Rattle.rep_schema.specs.Changes.{ChangeFits}
use Rattle.conflict_detect.specs.Fits.{CallFits}
use Rattle.conflict_detect.proofs.LedCalls.{ChangeFits-led, CallFits-led}
use Rattle.txn_effects.proofs.OwnCalls.{calls_effect-own}
use Rattle.local_txn.proofs.run.run_local.Goals as goal

pub txn_of-requires-clause-fits : goal.txn_of-requires-clause-fits
txn_of-requires-clause-fits g c =
    let schema = g.R.RowStore.schema c.args.store.now in
    let done = c.in_ok-changes in
    rw (c.schema.ensures.value, done.ensures.schema, c.as_slice.ensures)
    (ChangeFits-led schema done.changes.rows (g.R.RowStore.tables c.args.store.now) (g.R.RowStore.tables c.run_statements.new.store) done.ensures.were done.ensures.leads done.ensures.differ)

pub returns-in-Ok-clause-fits : goal.returns-in-Ok-clause-fits
returns-in-Ok-clause-fits g c =
    let schema = g.R.RowStore.schema c.args.store.now in
    let done = c.in_ok-changes in
    let fit : AllByRecursion (ChangeFits schema) done.changes.rows = ChangeFits-led schema done.changes.rows (g.R.RowStore.tables c.args.store.now) (g.R.RowStore.tables c.run_statements.new.store) done.ensures.were done.ensures.leads done.ensures.differ in
    let are = rw (c.schema.ensures.value, done.ensures.schema, c.as_slice.ensures) at c.in-Ok.ensures in
    record { calls = subst (AllByRecursion (CallFits schema)) (sym are) (CallFits-led schema done.changes.rows c.requires.shape fit) }

pub returns-in-Ok-clause-applies : goal.returns-in-Ok-clause-applies
returns-in-Ok-clause-applies g c origin numbers =
    let schema = g.R.RowStore.schema c.args.store.now in
    let tables = g.R.RowStore.tables c.args.store.now in
    let done = c.in_ok-changes in
    let are : c.in-Ok.txn.calls ≡ map (call_of schema) done.changes.rows = rw (c.schema.ensures.value, done.ensures.schema, c.as_slice.ensures) at c.in-Ok.ensures in
    rw are (calls_effect-own schema origin numbers 1 done.changes.rows tables (g.R.RowStore.tables c.run_statements.new.store) c.requires.shape done.ensures.were done.ensures.leads done.ensures.differ done.ensures.checked)
