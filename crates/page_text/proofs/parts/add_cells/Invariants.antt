-- Putting cells one by one.
use Rattle.std.proofs.Common.{◌≡◌, ◌++◌, drop}
use Rattle.std.specs.List.{flat_map}
use Rattle.page_text.specs.Pages.{cell_bytes}
use Rattle.page_text.proofs.parts.add_cells.Given as goal

-- what was put and those to come are the whole
abbrev pub invariant-loop-cell : goal.invariant-loop-cell
invariant-loop-cell l = l.out.items ++ flat_map cell_bytes (drop l.cell-index l.cells) ≡ l.fn.out.items ++ flat_map cell_bytes l.cells
