-- What worked sites have in common: names, a table T of ID and Q, statements and transactions.
use Rattle.std.specs.Prelude.{ℕ, codes, pos, true, false, List, [], ◌∷◌, Some, None}
use Rattle.rep_values.specs.declared.name.SiteName.{SiteName}
use Rattle.rep_values.specs.declared.literal.Literal.TheVariants as literal
use Rattle.rep_values.specs.declared.value.Value.{Value}
use Rattle.rep_values.specs.declared.value.Value.TheVariants.{Num}
use Rattle.rep_schema.specs.declared.schema.Schema.{Schema}
use Rattle.rep_schema.specs.declared.schema.SiteEntry.{SiteEntry}
use Rattle.rep_schema.specs.declared.schema.TableEntry.{TableEntry}
use Rattle.rep_schema.specs.declared.schema.Column.{Column}
use Rattle.rep_schema.specs.declared.schema.Group.{Group}
use Rattle.rep_schema.specs.declared.schema.Kind.TheVariants as kind
use Rattle.rep_schema.specs.declared.schema.Method.TheVariants as method
use Rattle.rep_schema.specs.Tables.{Cells, Rows}
use Rattle.rep_calls.specs.declared.call.Txn.{Txn}
use Rattle.rep_calls.specs.declared.call.Call.{Call}
use Rattle.rep_calls.specs.declared.call.Call.TheVariants as call
use Rattle.rep_calls.specs.declared.statement.Statement.{Statement}
use Rattle.rep_calls.specs.declared.statement.Statement.TheVariants.{Insert, Update, Delete}
use Rattle.rep_calls.specs.declared.statement.How.TheVariants.{To, Add}
use Rattle.site_state.specs.State.{SiteState}
use Rattle.site_state.specs.Making.{master_here, new_site}

-- ---- sites and tables

abbrev pub named : List ℕ → SiteName
named name = record { 0 = name }

abbrev pub a : SiteName
a = named (codes "A")

abbrev pub b : SiteName
b = named (codes "B")

abbrev pub c : SiteName
c = named (codes "C")

abbrev pub d : SiteName
d = named (codes "D")

abbrev pub s : SiteName
s = named (codes "S")

abbrev pub master : SiteName → SiteEntry
master site = record { name = site; master = None; level = None; late = false }

abbrev pub late_master : SiteName → SiteEntry
late_master site = record { name = site; master = None; level = None; late = true }

abbrev pub snapshot_of : SiteName → SiteName → SiteEntry
snapshot_of site master = record { name = site; master = Some master; level = None; late = false }

abbrev pub number_column : List ℕ → Column
number_column name = record { name = name; kind = kind.Number; key = false }

abbrev pub key_column : List ℕ → Column
key_column name = record { name = name; kind = kind.Number; key = true }

abbrev pub table_t : List Column → List Group → TableEntry
table_t columns groups = record { name = record { 0 = codes "T" }; columns = columns; groups = groups; key_methods = []; constraints = []; checks = []; convergent = false }

-- Q is the shadow group, in which every conflict is an error
abbrev pub plain : List SiteEntry → Schema
plain sites = record { sites = sites; tables = table_t (key_column (codes "ID") ∷ number_column (codes "Q") ∷ []) [] ∷ []; priorities = [] }

-- Q is a group of its own, and its amounts are added up
abbrev pub additive : List SiteEntry → Schema
additive sites = record {
  sites = sites;
  tables = table_t (key_column (codes "ID") ∷ number_column (codes "Q") ∷ []) (record { name = codes "q"; columns = 1 ∷ []; methods = method.Additive ∷ [] } ∷ []) ∷ [];
  priorities = [];
}

abbrev pub n : ℕ → Value
n k = Num (pos k)

abbrev pub row : ℕ → ℕ → Cells
row k q = n k ∷ n q ∷ []

-- a master with these rows, which logs the table
abbrev pub at_first : Schema → Rows → SiteName → SiteState
at_first schema rows site = new_site schema (master_here schema site) (true ∷ []) [] (rows ∷ [])

-- ---- statements and transactions

abbrev pub add : ℕ → ℕ → Statement
add k q = Update (record { 0 = codes "T" }) (literal.Num (pos k) ∷ []) (record { column = codes "Q"; how = Add (pos q) } ∷ [])

abbrev pub set_to : ℕ → ℕ → Statement
set_to k q = Update (record { 0 = codes "T" }) (literal.Num (pos k) ∷ []) (record { column = codes "Q"; how = To (literal.Num (pos q)) } ∷ [])

abbrev pub insert : ℕ → ℕ → Statement
insert k q = Insert (record { 0 = codes "T" }) (literal.Num (pos k) ∷ literal.Num (pos q) ∷ [])

abbrev pub delete : ℕ → Statement
delete k = Delete (record { 0 = codes "T" }) (literal.Num (pos k) ∷ [])

-- Q of a row, in its group, changed
abbrev pub moved : ℕ → ℕ → ℕ → ℕ → Call
moved group k old new = call.Update 0 (n k ∷ []) (record { group = group; old = n old ∷ []; new = n new ∷ [] } ∷ [])

abbrev pub of_calls : List Call → Txn
of_calls calls = record { calls = calls }
