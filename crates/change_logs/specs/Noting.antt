-- What is noted of changed rows: at a master in its logs the keys with the moment, at a snapshot site the keys.
use Rattle.std.specs.Prelude.{ℕ, ◌==◌, Bool, nat_lt, cond, List, [], ◌∷◌, map, filter, Option, Some, None}
use Rattle.std.specs.declared.cmp.Ordering.{Ordering}
use Rattle.rep_lists.specs.Rising.{put_at}
use Rattle.rep_values.specs.Order.{key_cmp}
use Rattle.rep_schema.specs.declared.schema.Schema.{Schema}
use Rattle.rep_schema.specs.declared.change.Change.{Change}
use Rattle.rep_schema.specs.Tables.{Cells, columns_of, key_of}
use Rattle.snapshot_query.specs.declared.snapshot.Snapshot.{Snapshot}
use Rattle.change_logs.specs.LogState.{LoggedKey, LogState}

abbrev pub key_between : Schema → ℕ → Option Cells → Option Cells → Cells
key_between schema table None None = []
key_between schema table None (Some row) = key_of (columns_of schema table) row
key_between schema table (Some row) after = key_of (columns_of schema table) row

-- the key of a changed row
abbrev pub key_changed : Schema → Change → Cells
key_changed schema change = key_between schema change.table change.before change.after

-- the keys of a table's changed rows
abbrev pub keys_changed : Schema → ℕ → List Change → List Cells
keys_changed schema table changes = map (key_changed schema) (filter (λ (c : Change). c.table == table) changes)

-- where a logged key stands beside a key
abbrev pub beside_key : Cells → LoggedKey → Ordering
beside_key key logged = key_cmp logged.key key

-- keys are logged with a moment, which takes the place of an earlier one
abbrev pub logged_each : ℕ → List Cells → List LoggedKey → List LoggedKey
logged_each moment [] keys = keys
logged_each moment (key ∷ more) keys = logged_each moment more (put_at (beside_key key) (record { key = key; moment = moment }) keys)

-- a log after changes
abbrev pub logged_in : Schema → ℕ → List Change → LogState → LogState
logged_in schema moment changes log = record log { keys = logged_each moment (keys_changed schema log.table changes) log.keys }

-- keys with more keys among them, each once
abbrev pub with_keys : List Cells → List Cells → List Cells
with_keys [] keys = keys
with_keys (key ∷ more) keys = with_keys more (put_at (λ k. key_cmp k key) key keys)

-- a snapshot after changes at its site
abbrev pub touched_in : Schema → List Change → Snapshot → Snapshot
touched_in schema changes snapshot = record snapshot { touched = with_keys (keys_changed schema snapshot.table changes) snapshot.touched }

-- the log of a table
abbrev pub log_of : ℕ → List LogState → Option LogState
log_of table [] = None
log_of table (log ∷ logs) = cond (log.table == table) (Some log) (log_of table logs)

abbrev pub keys_in : Option LogState → List LoggedKey
keys_in None = []
keys_in (Some log) = log.keys

abbrev pub purged_in : Option LogState → ℕ
purged_in None = 0
purged_in (Some log) = log.purged

-- up to which moment the log of a table was purged
abbrev pub purged_of : ℕ → List LogState → ℕ
purged_of table logs = purged_in (log_of table logs)

-- the keys with a moment above a mark
abbrev pub logged_above : ℕ → List LoggedKey → List Cells
logged_above mark keys = map (λ (logged : LoggedKey). logged.key) (filter (λ (logged : LoggedKey). nat_lt mark logged.moment) keys)

-- the pending keys of a snapshot, by its master's logs: those logged above its mark, and those that its own site changed
-- since its last refresh, each once
abbrev pub pending_keys : List LogState → Snapshot → List Cells
pending_keys logs snapshot = with_keys (logged_above snapshot.mark (keys_in (log_of snapshot.table logs))) snapshot.touched

-- the log was purged above a snapshot's mark, so that it doesn't tell all that changed since
abbrev pub is_too_young : List LogState → Snapshot → Bool
is_too_young logs snapshot = nat_lt snapshot.mark (purged_of snapshot.table logs)

-- a snapshot as its refresh leaves it
abbrev pub renewed : ℕ → Snapshot → Snapshot
renewed moment s = record s { mark = moment; touched = [] }
