-- Adding up the rows of table after table.
use Rattle.std.proofs.Common.{◌≡◌, ◌+◌, length, drop}
use Rattle.std.specs.Prelude.{sum_by}
use Rattle.world_state.specs.Answers.{row_count}
use Rattle.world_commands.proofs.joins.row_count.Given as goal

-- with those of the tables that are left they are all
abbrev pub invariant-loop-table : goal.invariant-loop-table
invariant-loop-table l = l.rows + sum_by length (drop l.table l.store.tables) ≡ row_count l.store.tables
