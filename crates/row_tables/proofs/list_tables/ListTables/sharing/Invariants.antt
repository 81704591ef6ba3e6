-- Making empty tables.
use Rattle.std.proofs.Common.{◌≡◌, [], replicate}
use Rattle.row_tables.specs.Stored.{rows_in}
use Rattle.row_tables.proofs.list_tables.ListTables.sharing.Given as goal

-- so many tables are there, all empty
abbrev pub invariant-loop : goal.invariant-loop
invariant-loop l = rows_in l.stored.items ≡ replicate l.counter []
