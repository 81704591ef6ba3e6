-- Tables in which the rows of one change step by step.
use Rattle.std.proofs.Common.{◌≡◌, ℕ, ◌<◌, List, [], length, set, sym, ap, ◌∙◌}
use Rattle.std.proofs.lemmas.List.{get_or-set_same, set-set, set-get_or}
use Rattle.rep_schema.specs.Tables.{Rows, rows_of}

-- after a step the table has the step's rows, and the others are what they were at first
pub tables_step : (first tables new : List Rows) (table : ℕ) (now next : Rows) → table < length first → tables ≡ set first table now → new ≡ set tables table next
    → (rows_of new table ≡ next) × (new ≡ set first table (rows_of new table))
tables_step first tables new table now next within is step =
    let whole : new ≡ set first table next = step ∙ ap (λ ts. set ts table next) is ∙ set-set first table now next in
    let rows : rows_of new table ≡ next = ap (λ ts. rows_of ts table) whole ∙ get_or-set_same first table next [] within in
    (rows, whole ∙ ap (set first table) (sym rows))

-- at first they are as they are
pub tables_first : (tables : List Rows) (table : ℕ) → tables ≡ set tables table (rows_of tables table)
tables_first tables table = sym (set-get_or tables table [])
