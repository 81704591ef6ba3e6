-- Which rows a query picks.
use Rattle.std.specs.Prelude.{Bool, false, filter, Option, Some, None, slice_get}
use Rattle.std.specs.List.{list_all}
use Rattle.rep_values.specs.declared.value.Value.{Value}
use Rattle.rep_values.specs.Order.{value_cmp}
use Rattle.rep_schema.specs.declared.check.Rel.{Rel}
use Rattle.rep_schema.specs.declared.check.Rel.TheVariants as rel
use Rattle.rep_schema.specs.Tables.{Cells, Rows}
use Rattle.rep_schema.specs.Checks.{relates}
use Rattle.snapshot_query.specs.declared.query.Query.{Query}
use Rattle.snapshot_query.specs.declared.query.Test.{Test}
use Rattle.snapshot_query.specs.declared.query.Op.{Op}
use Rattle.snapshot_query.specs.declared.query.Op.TheVariants.{Eq, Ne, Lt, Le, Gt, Ge}

-- the relation that a test asks for
abbrev pub rel_of : Op → Rel
rel_of Eq = rel.Eq
rel_of Ne = rel.Ne
rel_of Lt = rel.Lt
rel_of Le = rel.Le
rel_of Gt = rel.Gt
rel_of Ge = rel.Ge

abbrev pub passes_value : Test → Option Value → Bool
passes_value test None = false
passes_value test (Some value) = relates (rel_of test.op) (value_cmp value test.value)

-- a row passes a test: its value in the test's column is in the relation to the test's value
abbrev pub passes : Cells → Test → Bool
passes row test = passes_value test (slice_get row test.column)

-- a row passes every test of a query
abbrev pub matches : Query → Cells → Bool
matches query row = list_all (passes row) query.tests

-- the rows that a query picks, in their order
abbrev pub query_rows : Query → Rows → Rows
query_rows query rows = filter (matches query) rows
