-- The cells of a table, row by row.
use Rattle.std.specs.Prelude.{ℕ, List, [], slice_index, slice_index_or}

-- the cell in a column of a row
abbrev pub cell_at : List (List ℕ) → ℕ → ℕ → ℕ
cell_at cells r c = slice_index (slice_index_or cells r []) c
