-- The parts so far and those of the tables to come are all.
use Rattle.std.proofs.Common.{◌≡◌, ◌++◌, drop}
use Rattle.std.specs.Prelude.{flat_map}
use Rattle.schema_advice.specs.Broken.{table_parts, broken_parts}
use Rattle.schema_advice.proofs.broken.broken_parts.Given as goal

abbrev pub invariant-loop-table : goal.invariant-loop-table
invariant-loop-table l = l.found.items ++ flat_map (table_parts l.schema) (drop l.table-index l.tables) ≡ broken_parts l.schema
