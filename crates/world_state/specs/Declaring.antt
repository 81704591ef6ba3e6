-- What Setup's lines add: declarations, snapshots and rows.
use Rattle.std.specs.Prelude.{ℕ, ◌==◌, ◌&&◌, Bool, List, [], ◌∷◌, ◌++◌, map, Option, Some, None}
use Rattle.std.specs.List.{list_any}
use Rattle.rep_values.specs.declared.name.SiteName.{SiteName}
use Rattle.rep_values.specs.declared.name.TableName.{TableName}
use Rattle.rep_values.specs.declared.literal.Literal.{Literal}
use Rattle.rep_values.specs.Literal.{value_of_literal}
use Rattle.rep_schema.specs.declared.schema.Schema.{Schema}
use Rattle.rep_schema.specs.declared.schema.Column.{Column}
use Rattle.rep_schema.specs.Tables.{columns_of}
use Rattle.rep_schema.specs.Named.{table_place}
use Rattle.rep_declare.specs.declared.declaration.Declare.{Declare}
use Rattle.rep_declare.specs.Additions.{declared, column_number}
use Rattle.rep_declare.specs.Shaping.{rows_with}
use Rattle.rep_values.specs.SiteNames.{is_same_site}
use Rattle.local_txn.specs.BaseRows.{tables_with_row}
use Rattle.snapshot_query.specs.declared.query.Test.{Test}
use Rattle.snapshot_query.specs.declared.query.Query.{Query}
use Rattle.snapshot_query.specs.declared.parent.Parent.{Parent}
use Rattle.snapshot_query.specs.declared.query.Op.{Op}
use Rattle.snapshot_query.specs.declared.query.Op.TheVariants as op
use Rattle.rep_schema.specs.declared.check.Rel.{Rel}
use Rattle.rep_schema.specs.declared.check.Rel.TheVariants as rel
use Rattle.script_parse.specs.declared.command.ParentWords.{ParentWords}
use Rattle.script_parse.specs.declared.command.TestWords.{TestWords}
use Rattle.world_state.specs.declared.declared_snapshot.DeclaredSnapshot.{DeclaredSnapshot}
use Rattle.world_state.specs.World.{WorldState}

-- a declaration
abbrev pub with_declaration : Declare → WorldState → WorldState
with_declaration declaration w = record w { schema = declared declaration w.schema; base = rows_with declaration w.base }

-- ---- snapshots

-- a declared snapshot is one of this table at this site
abbrev pub is_snapshot_of : SiteName → ℕ → DeclaredSnapshot → Bool
is_snapshot_of site table s = is_same_site s.site site && s.table == table

-- a site has a snapshot of a table
abbrev pub has_snapshot : List DeclaredSnapshot → SiteName → ℕ → Bool
has_snapshot snapshots site table = list_any (is_snapshot_of site table) snapshots

-- the operator of a query that a relation is
abbrev pub op_of : Rel → Op
op_of rel.Eq = op.Eq
op_of rel.Ne = op.Ne
op_of rel.Lt = op.Lt
op_of rel.Le = op.Le
op_of rel.Gt = op.Gt
op_of rel.Ge = op.Ge

-- the test that these words mean in a table
abbrev pub test_of : List Column → TestWords → Test
test_of columns words = record { column = column_number columns words.column; op = op_of words.rel; value = value_of_literal words.value }

-- the tests of a snapshot; with none, every row passes
abbrev pub tests_in : Option (List TestWords) → List TestWords
tests_in None = []
tests_in (Some tests) = tests

-- these words as tests of a table's rows
abbrev pub query_of : List Column → List TestWords → Query
query_of columns tests = record { tests = map (test_of columns) tests }

abbrev pub parent_at : Schema → ℕ → Option ℕ → List (List ℕ) → List TestWords → Option Parent
parent_at schema table None columns tests = None
parent_at schema table (Some place) columns tests =
    Some (record { table = place; columns = map (column_number (columns_of schema table)) columns; tests = query_of (columns_of schema place) tests })

-- the parent that these words give a snapshot of a table, whose tests are of the parent's rows
abbrev pub parent_of : Schema → ℕ → Option ParentWords → List TestWords → Option Parent
parent_of schema table None tests = None
parent_of schema table (Some p) tests = parent_at schema table (table_place schema p.table) p.columns tests

-- the query of a snapshot of a table; with a parent it has no tests
abbrev pub own_query : Schema → ℕ → Option ParentWords → List TestWords → Query
own_query schema table None tests = query_of (columns_of schema table) tests
own_query schema table (Some p) tests = record { tests = [] }

-- a snapshot of a table at a site, as these words declare it
abbrev pub declared_snapshot : Schema → SiteName → ℕ → Option ParentWords → List TestWords → DeclaredSnapshot
declared_snapshot schema site table parent tests = record { site = site; table = table; query = own_query schema table parent tests; parent = parent_of schema table parent tests }

abbrev pub with_snapshot_at : SiteName → Option ℕ → Option ParentWords → List TestWords → WorldState → WorldState
with_snapshot_at site None parent tests w = w
with_snapshot_at site (Some table) parent tests w = record w { snapshots = w.snapshots ++ declared_snapshot w.schema site table parent tests ∷ [] }

-- a snapshot, behind those that are declared
abbrev pub with_snapshot : SiteName → TableName → Option ParentWords → List TestWords → WorldState → WorldState
with_snapshot site table parent tests w = with_snapshot_at site (table_place w.schema table) parent tests w

-- ---- rows

-- a row
abbrev pub with_row : TableName → List Literal → WorldState → WorldState
with_row table values w = record w { base = tables_with_row w.schema w.base table values }
