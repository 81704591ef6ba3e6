-- The levels of a priority group: how they stand, and which one a value has.
use Rattle.std.specs.Prelude.{ℕ, ℤ, Option, Some, None, slice_get}
use Rattle.std.specs.List.{find}
use Rattle.std.specs.declared.cmp.Ordering.{Ordering}
use Rattle.rep_values.specs.declared.value.Value.{Value}
use Rattle.rep_values.specs.Equality.{value_eq}
use Rattle.rep_values.specs.Order.{value_cmp}
use Rattle.rep_schema.specs.declared.schema.Schema.{Schema}
use Rattle.rep_schema.specs.declared.schema.PriorityGroup.{PriorityGroup}
use Rattle.rep_schema.specs.declared.schema.PriorityLevel.{PriorityLevel}

-- levels by their values
abbrev pub by_value : PriorityLevel → PriorityLevel → Ordering
by_value a b = value_cmp a.value b.value

-- where a level stands beside a value
abbrev pub beside_value : Value → PriorityLevel → Ordering
beside_value value level = value_cmp level.value value

abbrev pub level_found : Option PriorityLevel → Option ℤ
level_found None = None
level_found (Some level) = Some level.level

abbrev pub level_among : Option PriorityGroup → Value → Option ℤ
level_among None value = None
level_among (Some group) value = level_found (find (λ level. value_eq value level.value) group.levels)

-- the level of a value in a priority group, where it has one
abbrev pub level_of : Schema → ℕ → Option Value → Option ℤ
level_of schema group None = None
level_of schema group (Some value) = level_among (slice_get schema.priorities group) value
