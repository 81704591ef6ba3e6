-- The log of a table.
use Rattle.std.specs.Prelude.{ℕ, List, Bool, [], filter, length, ◌==◌, nat_lt, cond, max}
use Rattle.rep_schema.specs.Tables.{Cells}
use Rattle.std.specs.List.{range_with_len}
use Rattle.rep_schema.specs.Sites.{has_table}

-- the key of a row that was changed, and the last moment at which it was
pub record LoggedKey : Type 0 where
  pub key : Cells
  pub moment : ℕ

-- the log of a table: its keys in rising order, and the greatest moment up to which it was purged, at first 0
pub record LogState : Type 0 where
  pub table : ℕ
  pub keys : List LoggedKey
  pub purged : ℕ

abbrev pub new_log : ℕ → LogState
new_log table = record { table = table; keys = []; purged = 0 }

-- the tables of a set
abbrev pub tables_in : List Bool → List ℕ
tables_in set = filter (has_table set) (range_with_len 0 (length set))

-- a log without the keys that have a moment up to this one
abbrev pub log_purged : ℕ → LogState → LogState
log_purged moment log = record { table = log.table; keys = filter (λ (logged : LoggedKey). nat_lt moment logged.moment) log.keys; purged = max log.purged moment }

abbrev pub purged_where : ℕ → ℕ → LogState → LogState
purged_where table moment log = cond (log.table == table) (log_purged moment log) log
