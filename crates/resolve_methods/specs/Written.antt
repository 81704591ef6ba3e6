-- The value at one place of a row where a value is written at this place or another one.
use Rattle.std.specs.Prelude.{Bool, cond, Option, Some, None}
use Rattle.rep_values.specs.declared.value.Value.{Value}

-- a write at this place puts the value in the place of the one before, if there was one
abbrev pub written : Bool → Option Value → Value → Option Value
written here None value = None
written here (Some before) value = Some (cond here value before)
