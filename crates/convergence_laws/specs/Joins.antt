-- What a group of a row comes to: the join of its first values and of the parts that were applied.
use Rattle.std.specs.Prelude.{◌≡◌, ◌+ℤ◌, ℕ, ◌==◌, ◌&&◌, Bool, true, not, cond, List, [], ◌∷◌, ◌++◌, map, filter, Option, Some, None}
use Rattle.std.specs.List.{list_any, list_all}
use Rattle.std.specs.Ordering.{is_gt}
use Rattle.rep_schema.specs.declared.schema.Schema.{Schema}
use Rattle.rep_schema.specs.Tables.{Cells, columns_of, key_of}
use Rattle.rep_schema.specs.Groups.{values_at, are_same}
use Rattle.schema_rules.specs.declared.forms.Form.{Form}
use Rattle.schema_rules.specs.declared.forms.Form.TheVariants as form
use Rattle.rep_calls.specs.declared.call.Part.{Part}
use Rattle.rep_calls.specs.declared.call.Call.{Call}
use Rattle.rep_calls.specs.declared.call.Call.TheVariants.{Insert, Update, Delete}
use Rattle.resolve_methods.specs.SequenceLaws.{one_group_number, sum_of_moves}
use Rattle.site_state.specs.declared.entry.Entry.{Entry}
use Rattle.site_state.specs.declared.entry.Entry.TheVariants.{Local, Done, Error, Executed, Dropped, Refreshed}
use Rattle.rep_laws.specs.GroupForms.{wins}

-- ---- what was applied to a row

-- a table and a key are those of another row
abbrev pub is_row : ℕ → Cells → ℕ → Cells → Bool
is_row table key other_table other = (other_table == table) && are_same other key

abbrev pub parts_for : ℕ → Cells → ℕ → Call → List Part
parts_for table key group (Insert t row) = []
parts_for table key group (Update t k parts) = cond (is_row table key t k) (filter (λ part. part.group == group) parts) []
parts_for table key group (Delete t row) = []

-- the parts for a group of a row, call by call
abbrev pub parts_in : ℕ → Cells → ℕ → List Call → List Part
parts_in table key group [] = []
parts_in table key group (call ∷ calls) = parts_for table key group call ++ parts_in table key group calls

abbrev pub inserts_for : Schema → ℕ → Cells → Call → List Cells
inserts_for schema table key (Insert t row) = cond (is_row table key t (key_of (columns_of schema t) row)) (row ∷ []) []
inserts_for schema table key (Update t k parts) = []
inserts_for schema table key (Delete t row) = []

-- the rows that are inserted with a key
abbrev pub inserts_in : Schema → ℕ → Cells → List Call → List Cells
inserts_in schema table key [] = []
inserts_in schema table key (call ∷ calls) = inserts_for schema table key call ++ inserts_in schema table key calls

-- the calls that an entry applied to the tables
abbrev pub calls_applied : Entry → List Call
calls_applied (Local number txn) = txn.calls
calls_applied (Done origin position onward txn) = txn.calls
calls_applied (Error origin position call error txn) = []
calls_applied (Executed origin position onward txn) = txn.calls
calls_applied (Dropped origin position) = []
calls_applied (Refreshed moment) = []

-- the parts for a group of a row that a journal applied; their order is of no account
abbrev pub applied_parts : ℕ → Cells → ℕ → List Entry → List Part
applied_parts table key group [] = []
applied_parts table key group (e ∷ es) = applied_parts table key group es ++ parts_in table key group (calls_applied e)

-- the rows that it inserted with a key
abbrev pub applied_inserts : Schema → ℕ → Cells → List Entry → List Cells
applied_inserts schema table key [] = []
applied_inserts schema table key (e ∷ es) = applied_inserts schema table key es ++ inserts_in schema table key (calls_applied e)

-- the base row, or else the inserted one
abbrev pub first_row : Option Cells → List Cells → Option Cells
first_row (Some row) inserted = Some row
first_row None [] = None
first_row None (row ∷ rows) = Some row

-- ---- their join

-- one of the candidates, and none of them wins against it
abbrev pub is_winner : Schema → List ℕ → Form → List Cells → Cells → Bool
is_winner schema columns f candidates now = list_any (λ values. are_same values now) candidates && list_all (λ values. not (is_gt (wins schema columns f values now))) candidates

-- the first values, and the new ones of parts
abbrev pub candidates_of : Cells → List Part → List Cells
candidates_of first parts = first ∷ map (λ part. part.new) parts

-- the first number and all that the parts move; the greatest; the least; the values with the greatest stamp and level
abbrev pub IsJoin : Schema → List ℕ → Form → Cells → List Part → Cells → Type 0
IsJoin schema columns form.Sum first parts now = one_group_number now ≡ one_group_number first +ℤ sum_of_moves parts
IsJoin schema columns (form.Greatest column) first parts now = is_winner schema columns (form.Greatest column) (candidates_of first parts) now ≡ true
IsJoin schema columns (form.Least column) first parts now = is_winner schema columns (form.Least column) (candidates_of first parts) now ≡ true
IsJoin schema columns (form.Latest stamp site) first parts now = is_winner schema columns (form.Latest stamp site) (candidates_of first parts) now ≡ true

-- a group of a row now, beside the first row and the applied parts: no row where there was none and no part was applied,
-- else the join
abbrev pub IsJoined : Schema → List ℕ → Form → Option Cells → List Part → Option Cells → Type 0
IsJoined schema columns f None parts None = parts ≡ []
IsJoined schema columns f None parts (Some row) = ⊥
IsJoined schema columns f (Some first) parts None = ⊥
IsJoined schema columns f (Some first) parts (Some row) = IsJoin schema columns f (values_at columns first) parts (values_at columns row)
