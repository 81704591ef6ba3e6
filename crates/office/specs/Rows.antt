-- The rows of a table by its name.
use Rattle.std.specs.Prelude.{ℕ, List, length, slice_get, Option, Some, None}
use Rattle.std.specs.Option.{option_map}
use Rattle.rep_values.specs.declared.name.TableName.{TableName}
use Rattle.rep_schema.specs.Tables.{Cells, columns_of, find_row, rows_of}
use Rattle.rep_schema.specs.Named.{table_place}
use Rattle.site_state.specs.State.{SiteState}
use Rattle.site_state.specs.Contents.{tables_of}

abbrev pub rows_at : SiteState → ℕ → List Cells
rows_at x place = rows_of (tables_of x) place

-- how many rows the table has
abbrev pub row_count : SiteState → TableName → Option ℕ
row_count x table = option_map (λ place. length (rows_at x place)) (table_place x.schema table)

abbrev pub got_at : SiteState → Option ℕ → ℕ → Option Cells
got_at x None place = None
got_at x (Some table) place = slice_get (rows_at x table) place

-- its row at a place in the order of keys
abbrev pub row_at : SiteState → TableName → ℕ → Option Cells
row_at x table place = got_at x (table_place x.schema table) place

abbrev pub found_in : SiteState → Option ℕ → Cells → Option Cells
found_in x None key = None
found_in x (Some table) key = find_row (columns_of x.schema table) key (rows_at x table)

-- its row with a key
abbrev pub row_with_key : SiteState → TableName → Cells → Option Cells
row_with_key x table key = found_in x (table_place x.schema table) key
