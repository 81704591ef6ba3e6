-- What an action of a procedure leaves of the rows of a table, and of the tables.
use Rattle.std.specs.Prelude.{ℕ, cond, List, Result, Ok, slice_set}
use Rattle.std.specs.List.{remove}
use Rattle.rep_values.specs.declared.refusal.ApplyError.{ApplyError}
use Rattle.rep_schema.specs.Tables.{Cells, Rows}
use Rattle.txn_effects.specs.Parts.{result_then}
use Rattle.snapshot_query.specs.declared.query.Query.{Query}
use Rattle.snapshot_query.specs.Queries.{matches}

-- rows without the one at a place, where it passes the tests
abbrev pub left_at : Query → ℕ → Cells → Rows → Rows
left_at tests place row rows = cond (matches tests row) (remove rows place) rows

-- the tables with what an action leaves of one of them
abbrev pub with_rows : ℕ → List Rows → Result Rows ApplyError → Result (List Rows) ApplyError
with_rows table tables outcome = result_then outcome (λ rows. Ok (slice_set tables table rows))
