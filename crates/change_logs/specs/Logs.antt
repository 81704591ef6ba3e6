-- A log as contracts see it, and what is noted and found there.
use Rattle.std.specs.Prelude.{ℕ, nat_le, List, [], ◌∷◌, Option, option_map}
use Rattle.std.specs.declared.cmp.Ordering.{Ordering}
use Rattle.rep_lists.specs.Rising.{find_at}
use Rattle.rep_values.specs.Order.{key_cmp}
use Rattle.rep_schema.specs.Tables.{Cells}
use Rattle.change_logs.specs.LogState.{LoggedKey, LogState}
use Rattle.change_logs.specs.Noting.{beside_key, logged_each}
use Rattle.rep_lists.specs.Counting.{count_where}

-- the log of a table, and how many keys can be noted in it without memory
pub record RoomyLog : Type 0 where
  pub log : LogState
  pub spare : ℕ

-- two logged keys compared by key
abbrev pub by_key : LoggedKey → LoggedKey → Ordering
by_key a b = key_cmp a.key b.key

-- a log after one row was changed
abbrev pub key_noted : ℕ → Cells → LogState → LogState
key_noted moment key log = record log { keys = logged_each moment (key ∷ []) log.keys }

-- the last moment of a key, if the log has it
abbrev pub moment_in : Cells → LogState → Option ℕ
moment_in key log = option_map (λ (logged : LoggedKey). logged.moment) (find_at (beside_key key) log.keys)

-- how many keys have a moment up to a mark
abbrev pub count_up_to : ℕ → List LoggedKey → ℕ
count_up_to mark keys = count_where (λ (logged : LoggedKey). nat_le logged.moment mark) keys
