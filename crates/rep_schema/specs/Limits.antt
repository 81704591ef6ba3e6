-- How many of each thing a schema may have.
use Rattle.std.specs.Prelude.{ℕ}

-- master sites
abbrev pub most_masters : ℕ
most_masters = 8

-- snapshot sites
abbrev pub most_snapshots : ℕ
most_snapshots = 8

-- tables
abbrev pub most_tables : ℕ
most_tables = 32

-- columns of a table
abbrev pub most_columns : ℕ
most_columns = 32

-- key columns of a table
abbrev pub most_keys : ℕ
most_keys = 4

-- methods of a group or of a constraint, the key's among them
abbrev pub most_methods : ℕ
most_methods = 16

-- secondary constraints of a table
abbrev pub most_constraints : ℕ
most_constraints = 8

-- levels of a priority group
abbrev pub most_levels : ℕ
most_levels = 1000

-- checks of a table
abbrev pub most_checks : ℕ
most_checks = 8
