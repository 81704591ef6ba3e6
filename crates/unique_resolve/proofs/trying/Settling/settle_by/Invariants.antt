-- Trying method by method.
use Rattle.std.proofs.Common.{◌≡◌, drop}
use Rattle.rep_schema.specs.Tables.{columns_of, rows_of}
use Rattle.unique_resolve.specs.Settling.{settled_by}
use Rattle.unique_resolve.specs.Trying.{IsTestable}
use Rattle.unique_resolve.proofs.trying.Settling.settle_by.Given as goal

-- the methods from here on make of the row and the counter what all make of them at first
abbrev pub invariant-loop-method : goal.invariant-loop-method
invariant-loop-method g l =
    let schema = g.R.RowStore.schema l.self.store.now in
    let tables = g.R.RowStore.tables l.self.store.now in
    record {
      testable : IsTestable schema tables l.self.at.table l.self.at.place l.row;
      rest : settled_by (columns_of schema l.self.at.table) l.constraint (rows_of tables l.self.at.table) l.self.origin.now l.constraint.methods l.fn.row l.initial.number
          ≡ settled_by (columns_of schema l.self.at.table) l.constraint (rows_of tables l.self.at.table) l.self.origin.now (drop l.method-index l.constraint.methods) l.row l.number;
    }
