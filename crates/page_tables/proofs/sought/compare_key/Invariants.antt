-- Comparing a row with a key column by column.
use Rattle.std.proofs.Common.{◌≡◌, length}
use Rattle.rep_schema.specs.Tables.{row_beside}
use Rattle.page_tables.proofs.sought.compare_key.Given as goal

-- what is left decides
abbrev pub invariant-loop-columns_left : goal.invariant-loop-columns_left
invariant-loop-columns_left l = row_beside l.columns l.key l.row ≡ row_beside l.columns_left l.key_left l.row_left

abbrev pub decreases-loop-columns_left : goal.decreases-loop-columns_left
decreases-loop-columns_left l = length l.columns_left
