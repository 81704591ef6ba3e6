-- What excuses an error of a transaction on a convergent table.
use Rattle.std.specs.Prelude.{◌≡◌, ◌+ℤ◌, ℕ, ◌-◌, Bool, true, false, List, [], ◌∷◌, ◌++◌, take, None, Some, Err, slice_get}
use Rattle.std.specs.List.{list_any}
use Rattle.rep_values.specs.declared.name.SiteName.{SiteName}
use Rattle.rep_values.specs.declared.refusal.ApplyError.{ApplyError}
use Rattle.rep_values.specs.declared.refusal.ApplyError.TheVariants as error
use Rattle.rep_schema.specs.declared.schema.Schema.{Schema}
use Rattle.rep_schema.specs.Tables.{Cells, Rows, columns_of, find_row, rows_of}
use Rattle.rep_schema.specs.Fitting.{is_in_range}
use Rattle.schema_rules.specs.declared.forms.Form.TheVariants as form
use Rattle.rep_calls.specs.declared.call.Call.{Call}
use Rattle.rep_calls.specs.declared.call.Part.{Part}
use Rattle.rep_calls.specs.declared.call.Txn.{Txn}
use Rattle.conflict_detect.specs.Fits.{table_of}
use Rattle.resolve_methods.specs.SequenceLaws.{group_number, move_of, sum_of_moves}
use Rattle.conflict_detect.specs.KeysNamed.{key_named}
use Rattle.txn_effects.specs.Transactions.{Failure}
use Rattle.txn_effects.specs.Convergent.{is_convergent}
use Rattle.error_queue.specs.declared.entry.ErrorEntry.{ErrorEntry}
use Rattle.site_state.specs.declared.entry.Entry.{Entry}
use Rattle.site_state.specs.declared.entry.Entry.TheVariants.{Local, Done, Error, Executed, Dropped, Refreshed}
use Rattle.site_state.specs.State.{SiteState}
use Rattle.site_state.specs.Journal.{error_at}
use Rattle.site_state.specs.Errors.{effect_of_error}
use Rattle.convergence_laws.specs.Collections.{Among}
use Rattle.convergence_laws.specs.Faults.{parts_of, ChangesLatest}
use Rattle.rep_laws.specs.GroupForms.{form_at}
use Rattle.convergence_laws.specs.Joins.{parts_in, inserts_in, applied_parts, applied_inserts, first_row}

-- ---- each error of a site

-- what is said of a transaction that fails: of the journal behind it, the number of the call that fails, and why
abbrev pub OfFailures : Type 1
OfFailures = List Entry → ℕ → ApplyError → Txn → Type 0

abbrev pub EntryFailsSo : OfFailures → List Entry → Entry → Type 0
EntryFailsSo Says behind (Local number txn) = Unit {0}
EntryFailsSo Says behind (Done origin position onward txn) = Unit {0}
EntryFailsSo Says behind (Error origin position call why txn) = Says behind call why txn
EntryFailsSo Says behind (Executed origin position onward txn) = Unit {0}
EntryFailsSo Says behind (Dropped origin position) = Unit {0}
EntryFailsSo Says behind (Refreshed moment) = Unit {0}

-- it is so with each error of a journal and the entries behind it
abbrev pub ErrorsAreSo : OfFailures → List Entry → Type 0
ErrorsAreSo Says [] = Unit {0}
ErrorsAreSo Says (e ∷ es) = EntryFailsSo Says es e × ErrorsAreSo Says es

-- and with each execution of an error that is refused now
abbrev pub RefusalsAreSo : OfFailures → SiteState → Type 0
RefusalsAreSo Says x = (origin : SiteName) (position : ℕ) (e : ErrorEntry) (failure : Failure) → error_at origin position x.journal ≡ Some e
    → effect_of_error e x ≡ Err failure → Says x.journal failure.call failure.error e.txn

-- ---- excuses

-- the row that a call names is neither a base row nor one that the journal inserted
pub record IsMissing (schema : Schema) (base : List Rows) (journal : List Entry) (call : Call) : Type 0 where
  pub base_row : find_row (columns_of schema (table_of call)) (key_named schema call) (rows_of base (table_of call)) ≡ None
  pub inserted : applied_inserts schema (table_of call) (key_named schema call) journal ≡ []

-- where there is no row for a call on a convergent table, it was never there
abbrev pub NoRowIsMissing : Schema → List Rows → OfFailures
NoRowIsMissing schema base behind number why txn = why ≡ error.NoRow → (call : Call) → slice_get txn.calls (number - 1) ≡ Some call
    → is_convergent schema (table_of call) ≡ true → IsMissing schema base behind call

-- one of a call's parts is of a group that is summed up, and takes the row's number out of range: the first number, with all that
-- the journal and the earlier calls of the transaction moved it by
pub record SumLeavesRange (schema : Schema) (base : List Rows) (journal : List Entry) (earlier : List Call) (call : Call) : Type 0 where
  pub part : Part
  pub among : Among part (parts_of call)
  pub sum : form_at schema (table_of call) part.group ≡ Some form.Sum
  pub first : Cells
  pub begins : first_row (find_row (columns_of schema (table_of call)) (key_named schema call) (rows_of base (table_of call)))
      (applied_inserts schema (table_of call) (key_named schema call) journal ++ inserts_in schema (table_of call) (key_named schema call) earlier) ≡ Some first
  pub leaves : is_in_range ((group_number schema (table_of call) part.group first
      +ℤ sum_of_moves (applied_parts (table_of call) (key_named schema call) part.group journal
      ++ parts_in (table_of call) (key_named schema call) part.group earlier)) +ℤ move_of part) ≡ false

-- where a number leaves its range at a call on a convergent table, a sum does
abbrev pub RangeIsLeftBySum : Schema → List Rows → OfFailures
RangeIsLeftBySum schema base behind number why txn = why ≡ error.ValueRange → (call : Call) → slice_get txn.calls (number - 1) ≡ Some call
    → is_convergent schema (table_of call) ≡ true → SumLeavesRange schema base behind (take (number - 1) txn.calls) call

-- some call is on a convergent table
abbrev pub is_on_convergent : Schema → Txn → Bool
is_on_convergent schema txn = list_any (λ (call : Call). is_convergent schema (table_of call)) txn.calls

-- there is no row, or a number leaves its range
abbrev pub is_row_or_range : ApplyError → Bool
is_row_or_range error.NoRow = true
is_row_or_range error.DeleteConflict = false
is_row_or_range (error.UpdateConflict group) = false
is_row_or_range (error.UniqueConflict constraint) = false
is_row_or_range error.ValueRange = true
is_row_or_range (error.CheckFailed check) = false

-- a failure at a call is excused by the base rows and by the journal behind it: the row is missing, or a sum leaves the range of
-- numbers
pub record IsExcused (schema : Schema) (base : List Rows) (journal : List Entry) (number : ℕ) (why : ApplyError) (txn : Txn) : Type 0 where
  pub kind : is_row_or_range why ≡ true
  pub call : Call
  pub there : slice_get txn.calls (number - 1) ≡ Some call
  pub missing : why ≡ error.NoRow → IsMissing schema base journal call
  pub leaves : why ≡ error.ValueRange → SumLeavesRange schema base journal (take (number - 1) txn.calls) call

-- so it is with a transaction on convergent tables
abbrev pub IsExcusedOn : Schema → List Rows → OfFailures
IsExcusedOn schema base behind number why txn = is_on_convergent schema txn ≡ true → IsExcused schema base behind number why txn

-- there is no row, a latest value ties, or a number leaves its range
abbrev pub is_row_tie_or_range : ApplyError → Bool
is_row_tie_or_range error.NoRow = true
is_row_tie_or_range error.DeleteConflict = false
is_row_tie_or_range (error.UpdateConflict group) = true
is_row_tie_or_range (error.UniqueConflict constraint) = false
is_row_tie_or_range error.ValueRange = true
is_row_tie_or_range (error.CheckFailed check) = false

-- it is one of these, and a tie is one of a group whose latest values stay
pub record FailsByRowTieOrRange (schema : Schema) (number : ℕ) (why : ApplyError) (txn : Txn) : Type 0 where
  pub kind : is_row_tie_or_range why ≡ true
  pub tie : (group : List ℕ) → why ≡ error.UpdateConflict group → (call : Call) → slice_get txn.calls (number - 1) ≡ Some call → ChangesLatest schema call

-- so a transaction on convergent tables fails, and never by a key that is taken
abbrev pub NoKeyIsTaken : Schema → OfFailures
NoKeyIsTaken schema behind number why txn = is_on_convergent schema txn ≡ true → FailsByRowTieOrRange schema number why txn

-- ---- starts
