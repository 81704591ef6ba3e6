-- Putting rows one by one.
use Rattle.std.proofs.Common.{◌≡◌, ◌++◌, drop}
use Rattle.std.specs.List.{flat_map}
use Rattle.page_text.specs.Pages.{row_bytes}
use Rattle.page_text.proofs.parts.add_rows.Given as goal

-- what was put and those to come are the whole
abbrev pub invariant-loop-row : goal.invariant-loop-row
invariant-loop-row l = l.out.items ++ flat_map row_bytes (drop l.row-index l.rows) ≡ l.fn.out.items ++ flat_map row_bytes l.rows
