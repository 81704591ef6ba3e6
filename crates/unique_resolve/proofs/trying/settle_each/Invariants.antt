-- Settling constraint by constraint.
use Rattle.std.proofs.Common.{◌≡◌, take, drop}
use Rattle.std.specs.Prelude.{option_copied}
use Rattle.rep_schema.specs.Tables.{columns_of, constraints_of, rows_of, RowFits}
use Rattle.unique_resolve.specs.Settling.{settled_each}
use Rattle.unique_resolve.specs.Trying.{HasBefore}
use Rattle.unique_resolve.proofs.EachConstraint.{outcome_behind}
use Rattle.unique_resolve.proofs.trying.settle_each.Given as goal

-- the constraints from here on make of the row and the counters what all make of them at first
abbrev pub invariant-loop-place : goal.invariant-loop-place
invariant-loop-place g l =
    let schema = g.R.RowStore.schema l.store in
    let tables = g.R.RowStore.tables l.store in
    record {
      fits : RowFits (columns_of schema l.table) l.row;
      before : HasBefore schema tables l.table (option_copied l.before) l.row;
      rest : settled_each (columns_of schema l.table) (rows_of tables l.table) l.origin (constraints_of schema l.table) l.initial.numbers l.fn.row
          ≡ outcome_behind (take l.place l.numbers) (settled_each (columns_of schema l.table) (rows_of tables l.table) l.origin (drop l.place (constraints_of schema l.table)) (drop l.place l.numbers) l.row);
    }
