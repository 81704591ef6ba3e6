-- What worked examples have in common: the tables PRICE of ID, ZONE and AMT, and STOCK of CODE, DAY and PIECES, procedures of
-- them, and calls.
use Rattle.std.specs.Prelude.{ℕ, codes, ℤ, true, false, List, [], ◌∷◌}
use Rattle.rep_values.specs.declared.value.Value.{Value}
use Rattle.rep_values.specs.declared.value.Value.TheVariants.{Num, Words}
use Rattle.rep_schema.specs.declared.schema.Schema.{Schema}
use Rattle.rep_schema.specs.declared.schema.TableEntry.{TableEntry}
use Rattle.rep_schema.specs.declared.schema.Column.{Column}
use Rattle.rep_schema.specs.declared.schema.Kind.{Kind}
use Rattle.rep_schema.specs.declared.schema.Kind.TheVariants as kind
use Rattle.rep_schema.specs.Tables.{Cells}
use Rattle.snapshot_query.specs.declared.query.Query.{Query}
use Rattle.snapshot_query.specs.declared.query.Op.{Op}
use Rattle.snapshot_query.specs.declared.query.Op.TheVariants.{Eq, Le, Ge}
use Rattle.site_state.proofs.WorkedSites.{a, b, c, master, n}
use Rattle.proc_state.specs.declared.procedure.Procedure.{Procedure}
use Rattle.proc_state.specs.declared.procedure.Action.{Action}
use Rattle.proc_state.specs.declared.procedure.Action.TheVariants.{Put, Add, Drop}
use Rattle.proc_state.specs.declared.call.ProcCall.{ProcCall}

-- ---- tables

abbrev pub key_column : List ℕ → Kind → Column
key_column name k = record { name = name; kind = k; key = true }

abbrev pub plain_column : List ℕ → Kind → Column
plain_column name k = record { name = name; kind = k; key = false }

abbrev pub table_of : List ℕ → List Column → TableEntry
table_of name columns = record { name = record { 0 = name }; columns = columns; groups = []; key_methods = []; constraints = []; checks = []; convergent = false }

abbrev pub price_columns : List Column
price_columns = key_column (codes "ID") kind.Number ∷ plain_column (codes "ZONE") kind.Number ∷ plain_column (codes "AMT") kind.Number ∷ []

abbrev pub stock_columns : List Column
stock_columns = key_column (codes "CODE") kind.Words ∷ plain_column (codes "DAY") kind.Date ∷ plain_column (codes "PIECES") kind.Number ∷ []

abbrev pub schema : Schema
schema = record {
  sites = master a ∷ master b ∷ master c ∷ [];
  tables = table_of (codes "PRICE") price_columns ∷ table_of (codes "STOCK") stock_columns ∷ [];
  priorities = [];
}

abbrev pub row : ℕ → ℕ → ℕ → Cells
row id zone amount = n id ∷ n zone ∷ n amount ∷ []

abbrev pub stock : List ℕ → ℕ → ℕ → Cells
stock code day pieces = Words code ∷ n day ∷ n pieces ∷ []

-- ---- procedures

abbrev pub query : ℕ → Op → Value → Query
query column op value = record { tests = record { column = column; op = op; value = value } ∷ [] }

abbrev pub every_row : Query
every_row = record { tests = [] }

abbrev pub of_zone_1 : Query
of_zone_1 = query 1 Eq (n 1)

abbrev pub at_most_100 : Query
at_most_100 = query 2 Le (n 100)

abbrev pub from_day_5 : Query
from_day_5 = query 1 Ge (n 5)

abbrev pub procedure : List ℕ → ℕ → Action → Procedure
procedure name table action = record { name = name; table = table; action = action }

abbrev pub procedures : List Procedure
procedures = procedure (codes "PUT") 0 Put ∷ procedure (codes "UP") 0 (Add 2 of_zone_1) ∷ procedure (codes "OUT") 0 (Drop of_zone_1)
    ∷ procedure (codes "ALL") 0 (Add 2 every_row) ∷ procedure (codes "STORE") 1 Put ∷ procedure (codes "MORE") 1 (Add 2 from_day_5) ∷ []

-- ---- calls

abbrev pub call_of : ℕ → Cells → ProcCall
call_of place values = record { procedure = place; values = values }

abbrev pub put : ℕ → ℕ → ℕ → ProcCall
put id zone amount = call_of 0 (row id zone amount)

abbrev pub up : ℤ → ProcCall
up amount = call_of 1 (Num amount ∷ [])

abbrev pub out : ProcCall
out = call_of 2 []

abbrev pub all_up : ℤ → ProcCall
all_up amount = call_of 3 (Num amount ∷ [])

abbrev pub store : List ℕ → ℕ → ℕ → ProcCall
store code day pieces = call_of 4 (stock code day pieces)

abbrev pub more : ℤ → ProcCall
more amount = call_of 5 (Num amount ∷ [])
