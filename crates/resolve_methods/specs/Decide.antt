-- What the methods of a group decide: the first that isn't undecided.
use Rattle.std.specs.Prelude.{ℕ, ◌==◌, ℤ, pos, ◌+ℤ◌, ◌-ℤ◌, int_div, cond, List, [], ◌∷◌, Option, Some, None, slice_get}
use Rattle.std.specs.Ordering.{int_cmp}
use Rattle.std.specs.declared.cmp.Ordering.{Ordering}
use Rattle.std.specs.declared.cmp.Ordering.TheVariants.{Less, Equal, Greater}
use Rattle.rep_values.specs.declared.value.Value.{Value}
use Rattle.rep_schema.specs.declared.schema.Schema.{Schema}
use Rattle.rep_schema.specs.declared.schema.Group.{Group}
use Rattle.rep_schema.specs.declared.schema.Method.{Method}
use Rattle.rep_schema.specs.declared.schema.Method.TheVariants as method
use Rattle.rep_schema.specs.Tables.{Cells}
use Rattle.rep_schema.specs.Fitting.{is_in_range}
use Rattle.rep_schema.specs.Levels.{level_of}
use Rattle.rep_schema.specs.Groups.{shadow_group, groups_of, group_values, with_group_values}
use Rattle.rep_calls.specs.declared.call.Part.{Part}
use Rattle.resolve_methods.specs.declared.decision.Decision.{Decision}
use Rattle.resolve_methods.specs.declared.decision.Decision.TheVariants.{TakeNew, TakeNumber, Keep, Undecided, Range}
use Rattle.resolve_methods.specs.Ranks.{number_of, site_level_of}

-- the greater one stays, by how the new one stands beside the current one
abbrev pub greater_stays : Ordering → Decision
greater_stays Less = Keep
greater_stays Equal = Undecided
greater_stays Greater = TakeNew

-- the lesser one stays
abbrev pub lesser_stays : Ordering → Decision
lesser_stays Less = TakeNew
lesser_stays Equal = Undecided
lesser_stays Greater = Keep

-- by the order of two numbers or levels, new and current; undecided where one of them isn't there
abbrev pub by_order : (Ordering → Decision) → Option ℤ → Option ℤ → Decision
by_order stays None current = Undecided
by_order stays (Some new) None = Undecided
by_order stays (Some new) (Some current) = stays (int_cmp new current)

-- the one value of a group of one column
abbrev pub only : Cells → Option Value
only [] = None
only (value ∷ []) = Some value
only (value ∷ other ∷ values) = None

-- a number is taken where it lies within ±10^15
abbrev pub taken_in_range : ℤ → Decision
taken_in_range n = cond (is_in_range n) (TakeNumber n) Range

-- the amount between old and new is added to the current number
abbrev pub added : Option ℤ → Option ℤ → Option ℤ → Decision
added None new current = Undecided
added (Some old) None current = Undecided
added (Some old) (Some new) None = Undecided
added (Some old) (Some new) (Some current) = taken_in_range (current +ℤ (new -ℤ old))

-- half the sum of the current and the new number, towards zero
abbrev pub averaged : Option ℤ → Option ℤ → Decision
averaged None current = Undecided
averaged (Some new) None = Undecided
averaged (Some new) (Some current) = TakeNumber (int_div (current +ℤ new) (pos 2))

-- the value in a column of the row that the part's new values would make, and of the current row
abbrev pub new_in : Schema → ℕ → Part → Cells → ℕ → Option Value
new_in schema table part current column = slice_get (with_group_values schema table part.group part.new current) column

-- what one method decides of a part of an update of a table, where the row is this one now
abbrev pub decided_by : Schema → ℕ → Part → Cells → Method → Decision
decided_by schema table part current (method.Latest column) = by_order greater_stays (number_of (new_in schema table part current column)) (number_of (slice_get current column))
decided_by schema table part current (method.Earliest column) = by_order lesser_stays (number_of (new_in schema table part current column)) (number_of (slice_get current column))
decided_by schema table part current method.Overwrite = TakeNew
decided_by schema table part current method.Discard = Keep
decided_by schema table part current method.Additive = added (number_of (only part.old)) (number_of (only part.new)) (number_of (only (group_values schema table part.group current)))
decided_by schema table part current method.Average = averaged (number_of (only part.new)) (number_of (only (group_values schema table part.group current)))
decided_by schema table part current (method.Maximum column) = by_order greater_stays (number_of (new_in schema table part current column)) (number_of (slice_get current column))
decided_by schema table part current (method.Minimum column) = by_order lesser_stays (number_of (new_in schema table part current column)) (number_of (slice_get current column))
decided_by schema table part current (method.Priority column group) = by_order greater_stays (level_of schema group (new_in schema table part current column)) (level_of schema group (slice_get current column))
decided_by schema table part current (method.SitePriority column) = by_order greater_stays (site_level_of schema (new_in schema table part current column)) (site_level_of schema (slice_get current column))

-- where a method is undecided, what the following ones decide
abbrev pub or_next : Decision → Decision → Decision
or_next TakeNew following = TakeNew
or_next (TakeNumber n) following = TakeNumber n
or_next Keep following = Keep
or_next Undecided following = following
or_next Range following = Range

-- what the first method decides that isn't undecided
abbrev pub first_decision : Schema → ℕ → Part → Cells → List Method → Decision
first_decision schema table part current [] = Undecided
first_decision schema table part current (m ∷ ms) = or_next (decided_by schema table part current m) (first_decision schema table part current ms)

abbrev pub methods_in : Option Group → List Method
methods_in None = []
methods_in (Some group) = group.methods

-- the methods of a group of a table, by the group's number; the shadow group has none
abbrev pub methods_of : Schema → ℕ → ℕ → List Method
methods_of schema table group = cond (group == shadow_group) [] (methods_in (slice_get (groups_of schema table) group))

-- what the group's methods decide
abbrev pub decision_of : Schema → ℕ → Part → Cells → Decision
decision_of schema table part current = first_decision schema table part current (methods_of schema table part.group)
