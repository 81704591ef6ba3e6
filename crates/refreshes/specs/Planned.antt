-- Which rows of a table give way to others, and the changes that this makes, step by step.
use Rattle.std.specs.Prelude.{ℕ, cond, List, [], ◌∷◌, ◌++◌, map, Option, Some, None, is_none}
use Rattle.rep_schema.specs.declared.schema.Schema.{Schema}
use Rattle.rep_schema.specs.declared.schema.Column.{Column}
use Rattle.rep_schema.specs.declared.change.Change.{Change}
use Rattle.rep_schema.specs.Tables.{Cells, Rows, columns_of, key_of, find_row, put_row, take_row, RowFits, IsUniqueRow}
use Rattle.rep_schema.specs.Changes.{row_like}
use Rattle.rep_schema.specs.Putting.{is_unchanged}

-- a key, where its row has to go for the wanted one
abbrev pub gone_here : Cells → Option Cells → Option Cells → List Cells
gone_here key None wanted = []
gone_here key (Some row) wanted = cond (is_unchanged (Some row) wanted) [] (key ∷ [])

-- a wanted row, where it isn't there yet
abbrev pub coming_here : Option Cells → Option Cells → List Cells
coming_here present None = []
coming_here present (Some row) = cond (is_unchanged present (Some row)) [] (row ∷ [])

-- of these keys, those whose row has to go for the wanted rows
abbrev pub gone_keys : List Column → Rows → Rows → List Cells → List Cells
gone_keys columns rows wanted [] = []
gone_keys columns rows wanted (key ∷ keys) = gone_here key (find_row columns key rows) (find_row columns key wanted) ++ gone_keys columns rows wanted keys

-- of these keys, the wanted rows that aren't there yet
abbrev pub coming_rows : List Column → Rows → Rows → List Cells → Rows
coming_rows columns rows wanted [] = []
coming_rows columns rows wanted (key ∷ keys) = coming_here (find_row columns key rows) (find_row columns key wanted) ++ coming_rows columns rows wanted keys

-- the wanted rows whose key isn't there
abbrev pub absent_rows : List Column → Rows → Rows → Rows
absent_rows columns rows [] = []
absent_rows columns rows (row ∷ wanted) = cond (is_none (row_like columns row rows)) (row ∷ absent_rows columns rows wanted) (absent_rows columns rows wanted)

-- the keys of the rows and of the wanted ones
abbrev pub all_keys : List Column → Rows → Rows → List Cells
all_keys columns rows wanted = map (key_of columns) rows ++ map (key_of columns) (absent_rows columns rows wanted)

-- the rows without those of these keys
abbrev pub rows_left : List Column → List Cells → Rows → Rows
rows_left columns [] rows = rows
rows_left columns (key ∷ keys) rows = rows_left columns keys (take_row columns key rows)

-- the rows with these among them
abbrev pub rows_with : List Column → Rows → Rows → Rows
rows_with columns [] rows = rows
rows_with columns (row ∷ coming) rows = rows_with columns coming (put_row columns row rows)

-- the change of a row that was taken, where there was one
abbrev pub taking : ℕ → Option Cells → List Change
taking table None = []
taking table (Some row) = record { table = table; before = Some row; after = None } ∷ []

-- the changes of taking the rows of these keys
abbrev pub takings : ℕ → List Column → List Cells → Rows → List Change
takings table columns [] rows = []
takings table columns (key ∷ keys) rows = taking table (find_row columns key rows) ++ takings table columns keys (take_row columns key rows)

-- the changes of putting these rows
abbrev pub puttings : ℕ → List Column → Rows → Rows → List Change
puttings table columns [] rows = []
puttings table columns (row ∷ coming) rows = record { table = table; before = row_like columns row rows; after = Some row } ∷ puttings table columns coming (put_row columns row rows)

-- each of these rows fits, and is unique among those that are there when it comes
abbrev pub CanCome : Schema → ℕ → Rows → Rows → Type 0
CanCome schema table [] rows = Unit {0}
CanCome schema table (row ∷ coming) rows =
    RowFits (columns_of schema table) row × IsUniqueRow schema table row rows × CanCome schema table coming (put_row (columns_of schema table) row rows)
