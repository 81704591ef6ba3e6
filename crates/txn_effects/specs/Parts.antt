-- How the parts of an update are settled against the row that is there.
use Rattle.std.specs.Prelude.{ℕ, cond, List, [], ◌∷◌, Result, Ok, Err}
use Rattle.rep_values.specs.declared.value.Value.TheVariants.{Num}
use Rattle.rep_values.specs.declared.refusal.ApplyError.{ApplyError}
use Rattle.rep_values.specs.declared.refusal.ApplyError.TheVariants.{UpdateConflict, ValueRange}
use Rattle.rep_schema.specs.declared.schema.Schema.{Schema}
use Rattle.rep_schema.specs.Tables.{Cells}
use Rattle.rep_schema.specs.Named.{group_name}
use Rattle.rep_schema.specs.Groups.{group_values, with_group_values}
use Rattle.rep_calls.specs.declared.call.Part.{Part}
use Rattle.conflict_detect.specs.Differing.{is_matched}
use Rattle.resolve_methods.specs.declared.decision.Decision.{Decision}
use Rattle.resolve_methods.specs.declared.decision.Decision.TheVariants.{TakeNew, TakeNumber, Keep, Undecided, Range}
use Rattle.resolve_methods.specs.Decide.{decision_of}

-- what follows where something came out
abbrev pub result_then : {A B E : Type 0} → Result A E → (A → Result B E) → Result B E
result_then (Ok a) following = following a
result_then (Err e) following = Err e

-- a group's values after a decision, of the new ones and the current ones
abbrev pub values_by : Decision → List ℕ → Cells → Cells → Result Cells ApplyError
values_by TakeNew name new current = Ok new
values_by (TakeNumber number) name new current = Ok (Num number ∷ [])
values_by Keep name new current = Ok current
values_by Undecided name new current = Err (UpdateConflict name)
values_by Range name new current = Err ValueRange

-- a group's values after a part: the new ones where the row has the old ones; else the group's methods decide
abbrev pub settled_values : Schema → ℕ → Part → Cells → Result Cells ApplyError
settled_values schema table part row = cond (is_matched schema table row part) (Ok part.new)
    (values_by (decision_of schema table part row) (group_name schema table part.group) part.new (group_values schema table part.group row))

-- the row after a part
abbrev pub settled_part : Schema → ℕ → Part → Cells → Result Cells ApplyError
settled_part schema table part row = result_then (settled_values schema table part row) (λ values. Ok (with_group_values schema table part.group values row))

-- the row after the parts in order, up to the first that isn't settled
abbrev pub settled_parts : Schema → ℕ → List Part → Cells → Result Cells ApplyError
settled_parts schema table [] row = Ok row
settled_parts schema table (part ∷ parts) row = result_then (settled_part schema table part row) (settled_parts schema table parts)
