-- An insert is run by its literals.
use Rattle.std.proofs.Common.{List, IfOk, IfErr, subst}
use Rattle.rep_values.specs.declared.literal.Literal.{Literal}
use Rattle.rep_values.specs.RefusalSteps.{first_refusal}
use Rattle.rep_schema.specs.Putting.{changes_of}
use Rattle.txn_effects.specs.Statements.{insert_in, insert_steps}
use Rattle.local_txn.specs.Running.{block_state_of, RunsAs, StatementStopsAs}
use Rattle.local_txn.proofs.statement.run_in.Goals as goal

pub returns-in-Insert-clause-ok : goal.returns-in-Insert-clause-ok
returns-in-Insert-clause-ok g c =
    let schema = g.R.RowStore.schema c.args.store.now in
    let footing = c.args.footing.now in
    let standing = block_state_of footing (g.R.RowStore.tables c.args.store.now) in
    rw c.in-Insert.is
    (subst (λ (values : List Literal). IfOk c.insert_row.result (λ change. RunsAs schema c.args.table (first_refusal (insert_steps schema footing.here standing c.args.table values))
    (insert_in schema footing.here standing c.args.table values) (changes_of change) footing c.insert_row.new.footing)) c.as_slice.ensures c.insert_row.ensures.ok)

pub returns-in-Insert-clause-err : goal.returns-in-Insert-clause-err
returns-in-Insert-clause-err g c =
    let schema = g.R.RowStore.schema c.args.store.now in
    let footing = c.args.footing.now in
    let standing = block_state_of footing (g.R.RowStore.tables c.args.store.now) in
    rw c.in-Insert.is
    (subst (λ (values : List Literal). IfErr c.insert_row.result (StatementStopsAs (first_refusal (insert_steps schema footing.here standing c.args.table values)))) c.as_slice.ensures c.insert_row.ensures.err)
