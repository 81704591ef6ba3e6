-- Picking the values of a key.
use Rattle.std.proofs.Common.{◌≡◌, ◌++◌}
use Rattle.rep_schema.specs.Tables.{key_of}
use Rattle.rep_schema.proofs.KeyWalk.{key_from}
use Rattle.table_cells.proofs.tables.key_values.Given as goal

-- those so far and those to come
abbrev pub invariant-loop-place : goal.invariant-loop-place
invariant-loop-place l = l.values.items ++ key_from l.columns l.row l.place ≡ key_of l.columns l.row
