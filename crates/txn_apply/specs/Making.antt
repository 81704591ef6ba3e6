-- Room for changes that are to be made.
use Rattle.std.specs.Prelude.{ℕ, ◌==◌, List, count_by}
use Rattle.rep_schema.specs.declared.change.Change.{Change}

-- how many changes are in a table
abbrev pub changes_in : ℕ → List Change → ℕ
changes_in table changes = count_by (λ change. change.table == table) changes
