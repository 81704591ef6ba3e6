-- Looking for a row with the same values.
use Rattle.std.proofs.Common.{◌≡◌, ◌≢◌, ℕ, ◌<◌, get_or}
use Rattle.rep_schema.specs.Tables.{Cells, key_of, picked}
use Rattle.row_tables.proofs.sorted_rows.is_held_elsewhere.Given as goal

-- none of the rows so far has them
abbrev pub invariant-loop-other : goal.invariant-loop-other
invariant-loop-other l = (k : ℕ) (d : Cells) → k < l.other-index → ¬ ((key_of l.columns (get_or l.rows k d) ≢ key_of l.columns l.row) × (picked l.places (get_or l.rows k d) ≡ picked l.places l.row))
