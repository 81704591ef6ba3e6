-- The cells of a table, and where masters show other values.
use Rattle.std.specs.Prelude.{ℕ, Bool, true, false, ◌&&◌, cond, nat_le, nat_lt, List, [], ◌∷◌, length, slice_get, Option, Some, None}
use Rattle.std.specs.Fmt.{signed_decimal}
use Rattle.std.specs.List.{list_all}
use Rattle.rep_values.specs.declared.value.Value.{Value}
use Rattle.rep_values.specs.declared.value.Value.TheVariants.{Num, Words}
use Rattle.rep_values.specs.Equality.{value_eq}
use Rattle.rep_schema.specs.declared.schema.Column.{Column}
use Rattle.rep_schema.specs.Tables.{Cells, key_of, columns_of, rows_of, find_row}
use Rattle.rep_schema.specs.Putting.{StoreState}
use Rattle.page_text.specs.declared.look.Look.{Look}
use Rattle.page_text.specs.declared.look.Look.TheVariants.{Same, Differs}
use Rattle.page_text.specs.declared.table.Cell.{Cell}

-- a value as a cell shows it: a number in decimal, or a text as it is
abbrev pub value_words : Value → List ℕ
value_words (Num z) = signed_decimal z
value_words (Words text) = text

abbrev pub cell_in : Option Cells → ℕ → Option Value
cell_in None column = None
cell_in (Some row) column = slice_get row column

abbrev pub is_value : Option Value → Value → Bool
is_value None v = false
is_value (Some u) v = value_eq u v

-- a store has this value in a column of the row with a key
abbrev pub shows : ℕ → Cells → ℕ → Value → StoreState → Bool
shows table key column v s = nat_lt table (length s.schema.tables) && is_value (cell_in (find_row (columns_of s.schema table) key (rows_of s.tables table)) column) v

-- a key of 1 to 4 values
abbrev pub is_key : Cells → Bool
is_key key = nat_lt 0 (length key) && nat_le (length key) 4

-- how a cell looks: marked exactly where a master shows another value under the row's key, or no row
abbrev pub look_of_cell : List StoreState → ℕ → Cells → ℕ → Value → Look
look_of_cell masters table key column v = cond (is_key key && list_all (shows table key column v) masters) Same Differs

-- the cell of a value
abbrev pub cell_of : List StoreState → ℕ → Cells → ℕ → Value → Cell
cell_of masters table key column v = record { look = look_of_cell masters table key column v; words = value_words v }

-- the cells of values from a column on
abbrev pub cells_from : List StoreState → ℕ → Cells → ℕ → Cells → List Cell
cells_from masters table key column [] = []
cells_from masters table key column (v ∷ vs) = cell_of masters table key column v ∷ cells_from masters table key (ℕ.suc column) vs

-- the cells of a row
abbrev pub row_cells : List StoreState → ℕ → List Column → Cells → List Cell
row_cells masters table columns row = cells_from masters table (key_of columns row) 0 row

-- a cell of this look isn't marked
abbrev pub is_unmarked : Look → Bool
is_unmarked Same = true
is_unmarked look = false
