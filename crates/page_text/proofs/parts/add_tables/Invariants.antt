-- Putting tables one by one.
use Rattle.std.proofs.Common.{◌≡◌, ◌++◌, drop}
use Rattle.std.specs.List.{flat_map}
use Rattle.page_text.specs.Pages.{table_bytes}
use Rattle.page_text.proofs.parts.add_tables.Given as goal

-- what was put and those to come are the whole
abbrev pub invariant-loop-table : goal.invariant-loop-table
invariant-loop-table l = l.out.items ++ flat_map table_bytes (drop l.table-index l.tables) ≡ l.fn.out.items ++ flat_map table_bytes l.tables
