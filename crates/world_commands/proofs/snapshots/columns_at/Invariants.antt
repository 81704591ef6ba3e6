-- Finding the places of columns one by one.
use Rattle.std.proofs.Common.{◌≡◌, ◌++◌, drop, map}
use Rattle.rep_declare.specs.Additions.{column_number}
use Rattle.world_commands.proofs.snapshots.columns_at.Given as goal

-- those so far, and those of the names to come
abbrev pub invariant-loop-name : goal.invariant-loop-name
invariant-loop-name l = l.places ++ map (column_number l.columns) (drop l.name-index l.names) ≡ map (column_number l.columns) l.names
