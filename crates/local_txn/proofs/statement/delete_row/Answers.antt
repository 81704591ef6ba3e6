-- Taking a row away by its key.
use Rattle.std.proofs.Common.{◌≡◌, true, sym, ap, ◌∙◌}
use Rattle.std.specs.Prelude.{slice_set}
use Rattle.rep_schema.specs.Tables.{columns_of, find_row, rows_of}
use Rattle.txn_effects.specs.Literals.{key_literals_fit}
use Rattle.local_txn.proofs.StatementSteps.{there_is, IsKeyLen-fits, made_in-found, room_kept}
use Rattle.local_txn.proofs.statement.delete_row.Goals as goal

pub key_of_literals-key-requires : goal.key_of_literals-key-requires
key_of_literals-key-requires g c =
    let schema = g.R.RowStore.schema c.args.store.now in
    let fits : key_literals_fit schema (columns_of schema c.args.table) c.args.key.now ≡ true = sym (rw (c.schema.ensures.value, c.columns_of.ensures, c.schema-2.ensures.value) at c.key_literals_fit.ensures) ∙ c.if-not-key_literals_fit.false in
    IsKeyLen-fits schema (g.R.RowStore.tables c.args.store.now) c.args.table c.requires.able c.args.key.now fits

pub returns-clause-step : goal.returns-clause-step
returns-clause-step g c =
    let schema = g.R.RowStore.schema c.args.store.now in
    let tables = g.R.RowStore.tables c.args.store.now in
    let found = there_is (find_row (columns_of schema c.args.table) c.key_of_literals-key.result (rows_of tables c.args.table)) (sym c.has_row.ensures ∙ c.if-not-has_row.false) in
    record {
      tables = c.take-before.ensures.tables
          ∙ rw (c.take-before.ensures.taken, found.1) (ap (slice_set tables c.args.table) (sym (made_in-found (columns_of schema c.args.table) c.key_of_literals-key.result found.0 (rows_of tables c.args.table) found.1)));
      same = tt;
      same_room = tt;
      schema = c.take-before.ensures.schema;
      room = λ t. room_kept (g.R.RowStore.spare c.args.store.now) (g.R.RowStore.spare c.take-before.new.self) c.args.table t c.take-before.ensures.room c.take-before.ensures.others;
    }
