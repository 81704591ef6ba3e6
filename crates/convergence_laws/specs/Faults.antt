-- How a call on a convergent table can fail.
use Rattle.std.specs.Prelude.{◌≡◌, ◌+ℤ◌, ℕ, Bool, true, false, List, [], Option, Some, None, Err}
use Rattle.rep_values.specs.declared.name.SiteName.{SiteName}
use Rattle.rep_values.specs.declared.refusal.ApplyError.{ApplyError}
use Rattle.rep_values.specs.declared.refusal.ApplyError.TheVariants as error
use Rattle.rep_schema.specs.declared.schema.Schema.{Schema}
use Rattle.rep_schema.specs.Tables.{Cells, Rows, AreTables}
use Rattle.rep_schema.specs.Fitting.{is_in_range}
use Rattle.schema_rules.specs.declared.forms.Form.TheVariants as form
use Rattle.rep_calls.specs.declared.call.Call.{Call}
use Rattle.rep_calls.specs.declared.call.Call.TheVariants.{Insert, Update, Delete}
use Rattle.rep_calls.specs.declared.call.Part.{Part}
use Rattle.conflict_detect.specs.Fits.{CallFits, table_of}
use Rattle.resolve_methods.specs.SequenceLaws.{group_number, move_of}
use Rattle.unique_resolve.specs.Numbers.{Numbers}
use Rattle.txn_effects.specs.Calls.{row_named, call_effect}
use Rattle.txn_effects.specs.Convergent.{is_convergent}
use Rattle.rep_laws.specs.Commuting.{IsSound}
use Rattle.rep_laws.specs.GroupForms.{form_at, KeepsForms}
use Rattle.convergence_laws.specs.Collections.{Among}

abbrev pub is_insert : Call → Bool
is_insert (Insert table row) = true
is_insert (Update table key parts) = false
is_insert (Delete table row) = false

abbrev pub parts_of : Call → List Part
parts_of (Insert table row) = []
parts_of (Update table key parts) = parts
parts_of (Delete table row) = []

-- one of a call's parts is of a group whose latest values stay
pub record ChangesLatest (schema : Schema) (call : Call) : Type 0 where
  pub part : Part
  pub among : Among part (parts_of call)
  pub stamp : ℕ
  pub site : ℕ
  pub latest : form_at schema (table_of call) part.group ≡ Some (form.Latest stamp site)

-- one of a call's parts is of a group that is summed up, and the row's number and what the part moves make a sum that isn't
-- within the range of numbers
pub record LeavesRange (schema : Schema) (call : Call) (before : Option Cells) : Type 0 where
  pub part : Part
  pub among : Among part (parts_of call)
  pub sum : form_at schema (table_of call) part.group ≡ Some form.Sum
  pub row : Cells
  pub there : before ≡ Some row
  pub leaves : is_in_range (group_number schema (table_of call) part.group row +ℤ move_of part) ≡ false

-- what an error says of the call and of the row that it names: there is no row; there is one already where one is inserted;
-- latest values tie; or a sum leaves the range of numbers
abbrev pub Tells : Schema → Call → Option Cells → ApplyError → Type 0
Tells schema call before error.NoRow = before ≡ None
Tells schema call before (error.UpdateConflict group) = ChangesLatest schema call
Tells schema call before error.DeleteConflict = ⊥
Tells schema call before (error.UniqueConflict constraint) = (is_insert call ≡ true) × ((row : Cells) × (before ≡ Some row))
Tells schema call before error.ValueRange = LeavesRange schema call before
Tells schema call before (error.CheckFailed check) = ⊥

-- a call on a convergent table that keeps the forms fails in no other way
abbrev pub ConvergentCallsFailSo : Type 0
ConvergentCallsFailSo = (schema : Schema) (tables : List Rows) (numbers : Numbers) (origin : SiteName) (call : Call) (why : ApplyError) → IsSound schema → AreTables schema tables
    → CallFits schema call → KeepsForms schema call → is_convergent schema (table_of call) ≡ true → call_effect schema tables numbers origin call ≡ Err why
    → Tells schema call (row_named schema tables call) why
