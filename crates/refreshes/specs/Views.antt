-- What contracts see of a master, and of a look-up there.
use Rattle.std.specs.Prelude.{◌≡◌, ℕ, ◌+◌, ◌-◌, ◌^◌, nat_lt, cond, List}
use Rattle.rep_schema.specs.declared.schema.Schema.{Schema}
use Rattle.rep_schema.specs.Tables.{Rows}

-- a master: its schema, the rows of each of its tables, and how many rows were looked up
pub record MasterState : Type 0 where
  pub schema : Schema
  pub tables : List Rows
  pub count : ℕ

-- one look-up more, where the count isn't at its greatest number
abbrev pub look_ups_raised : ℕ → ℕ
look_ups_raised count = cond (nat_lt count (2 ^ 64 - 1)) (count + 1) count

-- a row is looked up, and the master is as before
pub record LooksUp (old new : MasterState) : Type 0 where
  pub schema : new.schema ≡ old.schema
  pub tables : new.tables ≡ old.tables
  pub count : new.count ≡ look_ups_raised old.count
