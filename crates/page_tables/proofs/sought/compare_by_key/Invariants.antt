-- Comparing two rows column by column.
use Rattle.std.proofs.Common.{◌≡◌, length}
use Rattle.rep_schema.specs.Tables.{row_cmp}
use Rattle.page_tables.proofs.sought.compare_by_key.Given as goal

-- what is left decides
abbrev pub invariant-loop-columns_left : goal.invariant-loop-columns_left
invariant-loop-columns_left l = row_cmp l.columns l.a l.b ≡ row_cmp l.columns_left l.a_left l.b_left

abbrev pub decreases-loop-columns_left : goal.decreases-loop-columns_left
decreases-loop-columns_left l = length l.columns_left
