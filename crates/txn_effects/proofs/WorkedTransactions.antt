-- Calls and transactions at a table of one row, worked out by hand.
use Rattle.std.proofs.Common.{◌≡◌, ℕ, zero, suc, List, [], ◌∷◌, true, false, Ok, Err, refl, pos, arith}
use Rattle.std.specs.Prelude.{codes, Option, Some, None, Result}
use Rattle.rep_values.specs.declared.name.SiteName.{SiteName}
use Rattle.rep_values.specs.declared.value.Value.TheVariants.{Num}
use Rattle.rep_values.specs.declared.refusal.ApplyError.{ApplyError}
use Rattle.rep_values.specs.declared.refusal.ApplyError.TheVariants.{NoRow, UpdateConflict, DeleteConflict, UniqueConflict, CheckFailed}
use Rattle.rep_schema.specs.declared.schema.Schema.{Schema}
use Rattle.rep_schema.specs.declared.schema.TableEntry.{TableEntry}
use Rattle.rep_schema.specs.declared.schema.Column.{Column}
use Rattle.rep_schema.specs.declared.schema.Kind.TheVariants as kind
use Rattle.rep_schema.specs.declared.schema.Method.{Method}
use Rattle.rep_schema.specs.declared.schema.Method.TheVariants as method
use Rattle.rep_schema.specs.declared.schema.UniqueMethod.{UniqueMethod}
use Rattle.rep_schema.specs.declared.schema.UniqueMethod.TheVariants as unique
use Rattle.rep_schema.specs.declared.check.Rel.TheVariants as rel
use Rattle.rep_schema.specs.declared.change.Change.{Change}
use Rattle.rep_schema.specs.Tables.{Cells, Rows}
use Rattle.rep_schema.specs.Groups.{group_columns_of}
use Rattle.rep_calls.specs.declared.call.Call.{Call}
use Rattle.rep_calls.specs.declared.call.Call.TheVariants.{Insert, Update, Delete}
use Rattle.unique_resolve.specs.Numbers.{Numbers}
use Rattle.txn_effects.specs.Calls.{KeysStandAlone, Effect, call_effect}
use Rattle.conflict_detect.specs.KeysNamed.{HasKeys}
use Rattle.txn_effects.specs.Transactions.{Failure, txn_effect, tables_by}

-- the columns ID (the key) and Q, in the group g, which has no methods
abbrev columns : List Column
columns = record { name = codes "ID"; kind = kind.Number; key = true } ∷ record { name = codes "Q"; kind = kind.Number; key = false } ∷ []

abbrev table_t : List UniqueMethod → List ℕ → TableEntry
table_t key_methods grouped = record {
  name = record { 0 = codes "T" };
  columns = columns;
  groups = record { name = codes "g"; columns = grouped; methods = [] } ∷ [];
  key_methods = key_methods;
  constraints = [];
  checks = [];
  convergent = false;
}

abbrev schema_with : List UniqueMethod → Schema
schema_with key_methods = record { sites = []; tables = table_t key_methods (1 ∷ []) ∷ []; priorities = [] }

abbrev schema : Schema
schema = schema_with []

abbrev origin : SiteName
origin = record { 0 = codes "A" }

abbrev row : ℕ → ℕ → Cells
row id q = Num (pos id) ∷ Num (pos q) ∷ []

-- the table has one row
abbrev tables : List Rows
tables = (row 1 5 ∷ []) ∷ []

-- no constraint, and so no counter
abbrev numbers : Numbers
numbers = [] ∷ []

-- Q of a row from one number to another
abbrev update : ℕ → ℕ → ℕ → Call
update id old new = Update 0 (Num (pos id) ∷ []) (record { group = 0; old = Num (pos old) ∷ []; new = Num (pos new) ∷ [] } ∷ [])

abbrev change : Option Cells → Option Cells → Change
change before after = record { table = 0; before = before; after = after }

-- what a call does, and with which changes it succeeds
abbrev effect_of : Call → Result Effect ApplyError
effect_of call = call_effect schema tables numbers origin call

abbrev changed : {E : Type 0} → List Change → Result Effect E
changed changes = Ok (record { changes = changes; numbers = numbers })

-- the schema has keys, and they are in no group
keys_are_there : HasKeys schema
keys_are_there zero below = (omega arith, omega arith)
keys_are_there (suc table) below = absurd (omega (arith, below))

keys_are_in_no_group : KeysStandAlone schema
keys_are_in_no_group zero below zero = (refl, tt)
keys_are_in_no_group zero below (suc group) = tt
keys_are_in_no_group (suc table) below group = absurd (omega (arith, below))

key_in_a_group_is_seen : ¬ KeysStandAlone (record { sites = []; tables = table_t [] (0 ∷ 1 ∷ []) ∷ []; priorities = [] })
key_in_a_group_is_seen apart = let key = (apart 0 (omega arith) 0).0 in cc

-- inserts
free_key_is_inserted : effect_of (Insert 0 (row 2 6)) ≡ changed (change None (Some (row 2 6)) ∷ [])
free_key_is_inserted = refl

taken_key_is_a_conflict : effect_of (Insert 0 (row 1 6)) ≡ Err (UniqueConflict (codes "key"))
taken_key_is_a_conflict = refl

discard_changes_nothing : call_effect (schema_with (unique.Discard ∷ [])) tables numbers origin (Insert 0 (row 1 6)) ≡ changed []
discard_changes_nothing = refl

-- updates
old_value_matches : effect_of (update 1 5 6) ≡ changed (change (Some (row 1 5)) (Some (row 1 6)) ∷ [])
unfolding group_columns_of
old_value_matches = refl

old_value_differs : effect_of (update 1 4 6) ≡ Err (UpdateConflict (codes "g"))
unfolding group_columns_of
old_value_differs = refl

no_row_is_updated : effect_of (update 2 5 6) ≡ Err NoRow
no_row_is_updated = refl

-- deletes
whole_row_matches : effect_of (Delete 0 (row 1 5)) ≡ changed (change (Some (row 1 5)) None ∷ [])
whole_row_matches = refl

whole_row_differs : effect_of (Delete 0 (row 1 6)) ≡ Err DeleteConflict
whole_row_differs = refl

no_row_is_deleted : effect_of (Delete 0 (row 2 5)) ≡ Err NoRow
no_row_is_deleted = refl

-- transactions
abbrev txn_of : List Call → Result Effect Failure
txn_of calls = txn_effect schema origin (record { calls = calls }) tables numbers

-- a call sees what the calls before it did
abbrev moved : List Call
moved = Insert 0 (row 2 6) ∷ update 2 6 7 ∷ Delete 0 (row 1 5) ∷ []

calls_do_one_after_the_other : txn_of moved ≡ changed (change None (Some (row 2 6)) ∷ change (Some (row 2 6)) (Some (row 2 7)) ∷ change (Some (row 1 5)) None ∷ [])
unfolding group_columns_of
calls_do_one_after_the_other = refl

their_changes_lead_to_the_tables : tables_by schema (txn_of moved) tables ≡ (row 2 7 ∷ []) ∷ []
unfolding group_columns_of
their_changes_lead_to_the_tables = refl

-- the second of three calls fails, and the tables are as before
abbrev failing : List Call
failing = Insert 0 (row 2 6) ∷ update 1 4 6 ∷ Delete 0 (row 1 5) ∷ []

second_call_fails : txn_of failing ≡ Err (record { call = 2; error = UpdateConflict (codes "g") })
unfolding group_columns_of
second_call_fails = refl

nothing_is_changed : tables_by schema (txn_of failing) tables ≡ tables
unfolding group_columns_of
nothing_is_changed = refl

-- a table with checks: the columns ID (the key), Q, which has to be unique, and R, which has to be at most 9. Q and R are
-- the group g, whose methods are these, and so are those of the constraint u
abbrev checked_table : List Method → List UniqueMethod → TableEntry
checked_table methods unique_methods = record {
  name = record { 0 = codes "C" };
  columns = record { name = codes "ID"; kind = kind.Number; key = true }
      ∷ record { name = codes "Q"; kind = kind.Number; key = false }
      ∷ record { name = codes "R"; kind = kind.Number; key = false } ∷ [];
  groups = record { name = codes "g"; columns = 1 ∷ 2 ∷ []; methods = methods } ∷ [];
  key_methods = unique.Discard ∷ [];
  constraints = record { name = codes "u"; columns = 1 ∷ []; methods = unique_methods } ∷ [];
  checks = record { name = codes "low"; column = 2; rel = rel.Le; value = Num (pos 9) } ∷ [];
  convergent = false;
}

abbrev three : ℕ → ℕ → ℕ → Cells
three id q r = Num (pos id) ∷ Num (pos q) ∷ Num (pos r) ∷ []

-- of these rows the second one doesn't meet the check, since the definitions take any tables
abbrev checked_rows : List Rows
checked_rows = (three 1 5 0 ∷ three 2 6 10 ∷ []) ∷ []

-- one constraint, and so one counter
abbrev one_number : Numbers
one_number = (0 ∷ []) ∷ []

-- Q and R of a row from two numbers to others
abbrev update_both : ℕ → ℕ → ℕ → ℕ → ℕ → Call
update_both id q r q' r' = Update 0 (Num (pos id) ∷ []) (record { group = 0; old = Num (pos q) ∷ Num (pos r) ∷ []; new = Num (pos q') ∷ Num (pos r') ∷ [] } ∷ [])

abbrev checked_schema : List Method → List UniqueMethod → Schema
checked_schema methods unique_methods = record { sites = []; tables = checked_table methods unique_methods ∷ []; priorities = [] }

abbrev checked : List Method → List UniqueMethod → Call → Result Effect ApplyError
checked methods unique_methods call = call_effect (checked_schema methods unique_methods) checked_rows one_number origin call

abbrev fine : {E : Type 0} → List Change → Result Effect E
fine changes = Ok (record { changes = changes; numbers = one_number })

-- checks
row_at_the_limit_is_inserted : checked [] [] (Insert 0 (three 3 7 9)) ≡ fine (change None (Some (three 3 7 9)) ∷ [])
row_at_the_limit_is_inserted = refl

check_fails_at_an_insert : checked [] [] (Insert 0 (three 3 7 10)) ≡ Err (CheckFailed (codes "low"))
check_fails_at_an_insert = refl

check_fails_at_an_update : checked [] [] (update_both 1 5 0 5 10) ≡ Err (CheckFailed (codes "low"))
unfolding group_columns_of
check_fails_at_an_update = refl

-- the constraint comes first
constraint_fails_before_the_check_at_an_insert : checked [] [] (Insert 0 (three 3 5 10)) ≡ Err (UniqueConflict (codes "u"))
constraint_fails_before_the_check_at_an_insert = refl

constraint_fails_before_the_check_at_an_update : checked [] [] (update_both 1 5 0 6 10) ≡ Err (UniqueConflict (codes "u"))
unfolding group_columns_of
constraint_fails_before_the_check_at_an_update = refl

-- a row that is given up isn't tested
dropped_insert_isnt_tested : checked [] [] (Insert 0 (three 1 7 10)) ≡ fine []
dropped_insert_isnt_tested = refl

insert_dropped_for_its_constraint_isnt_tested : checked [] (unique.Discard ∷ []) (Insert 0 (three 3 5 10)) ≡ fine []
insert_dropped_for_its_constraint_isnt_tested = refl

dropped_update_isnt_tested : checked [] (unique.Discard ∷ []) (update_both 1 5 0 6 10) ≡ fine []
unfolding group_columns_of
dropped_update_isnt_tested = refl

-- a row that stays as it was is, and one that is taken away isn't
row_that_stays_is_tested : checked (method.Discard ∷ []) [] (update_both 2 6 1 6 2) ≡ Err (CheckFailed (codes "low"))
unfolding group_columns_of
row_that_stays_is_tested = refl

deleted_row_isnt_tested : checked [] [] (Delete 0 (three 2 6 10)) ≡ fine (change (Some (three 2 6 10)) None ∷ [])
deleted_row_isnt_tested = refl

-- the second call fails a check, and the tables are as before
abbrev failing_check : Result Effect Failure
failing_check = txn_effect (checked_schema [] []) origin (record { calls = Insert 0 (three 3 7 1) ∷ update_both 3 7 1 8 10 ∷ [] }) checked_rows one_number

second_call_fails_a_check : failing_check ≡ Err (record { call = 2; error = CheckFailed (codes "low") })
unfolding group_columns_of
second_call_fails_a_check = refl

nothing_is_kept : tables_by (checked_schema [] []) failing_check checked_rows ≡ checked_rows
unfolding group_columns_of
nothing_is_kept = refl
