-- What some calls do to rows and tables, and how they are carried, worked out by hand.
use Rattle.std.proofs.Common.{◌≡◌, pos, negsuc, true, false, List, [], ◌∷◌, Ok, Err, Some, None, refl}
use Rattle.std.specs.Prelude.{codes, Option, Result}
use Rattle.rep_values.specs.declared.value.Value.TheVariants.{Num, Words}
use Rattle.rep_values.specs.declared.refusal.ApplyError.{ApplyError}
use Rattle.rep_values.specs.declared.refusal.ApplyError.TheVariants.{ValueRange}
use Rattle.rep_schema.specs.Tables.{Cells, Rows}
use Rattle.rep_calls.specs.declared.call.Call.{Call}
use Rattle.rep_calls.specs.declared.call.Call.TheVariants.{Insert, Update, Delete}
use Rattle.rep_calls.specs.declared.call.Txn.{Txn}
use Rattle.txn_effects.specs.Transactions.{Failure}
use Rattle.site_state.proofs.WorkedSites.{n}
use Rattle.proc_state.specs.declared.procedure.Action.{Action}
use Rattle.proc_state.specs.declared.procedure.Action.TheVariants.{Put, Add, Drop}
use Rattle.proc_state.specs.declared.call.ProcCall.{ProcCall}
use Rattle.proc_state.specs.Actions.{rows_after}
use Rattle.proc_state.specs.Calls.{call_fits, calls_after, tables_by}
use Rattle.proc_state.specs.Carriers.{carried, carried_txn, call_in, txn_after, tables_after, shares, dependency_of}
use Rattle.proc_state.proofs.WorkedProcedures.{price_columns, stock_columns, schema, row, stock, every_row, of_zone_1, at_most_100, from_day_5, procedures, call_of, put, up, out, store, more}

-- ---- rows

-- one row of zone 1 and one of zone 2
abbrev rows : Rows
rows = row 1 1 100 ∷ row 2 2 100 ∷ []

abbrev after : Action → Cells → Rows → Result Rows ApplyError
after action values before = rows_after price_columns action values before

row_of_a_new_key_is_added : after Put (row 3 1 7) rows ≡ Ok (row 1 1 100 ∷ row 2 2 100 ∷ row 3 1 7 ∷ [])
row_of_a_new_key_is_added = refl

row_of_the_key_is_replaced : after Put (row 2 1 7) rows ≡ Ok (row 1 1 100 ∷ row 2 1 7 ∷ [])
row_of_the_key_is_replaced = refl

rows_that_match_are_raised : after (Add 2 of_zone_1) (n 5 ∷ []) rows ≡ Ok (row 1 1 105 ∷ row 2 2 100 ∷ [])
rows_that_match_are_raised = refl

amount_below_zero : after (Add 2 every_row) (Num (negsuc 99) ∷ []) rows ≡ Ok (row 1 1 0 ∷ row 2 2 0 ∷ [])
amount_below_zero = refl

nothing_matches : after (Add 2 of_zone_1) (n 5 ∷ []) (row 2 2 100 ∷ []) ≡ Ok (row 2 2 100 ∷ [])
nothing_matches = refl

-- the test reads the rows as they were before the call
column_that_the_test_reads : after (Add 2 at_most_100) (n 1 ∷ []) rows ≡ Ok (row 1 1 101 ∷ row 2 2 101 ∷ [])
column_that_the_test_reads = refl

number_at_the_limit : after (Add 2 of_zone_1) (n 999999999999900 ∷ []) rows ≡ Ok (row 1 1 1000000000000000 ∷ row 2 2 100 ∷ [])
number_at_the_limit = refl

-- of two rows that match the second can't rise, and so none does
one_row_leaves_the_range : after (Add 2 every_row) (n 1 ∷ []) (row 1 1 100 ∷ row 2 2 1000000000000000 ∷ []) ≡ Err ValueRange
one_row_leaves_the_range = refl

-- one that doesn't match may be at the limit
row_that_doesnt_match_is_at_the_limit : after (Add 2 of_zone_1) (n 1 ∷ []) (row 1 1 100 ∷ row 2 2 1000000000000000 ∷ []) ≡ Ok (row 1 1 101 ∷ row 2 2 1000000000000000 ∷ [])
row_that_doesnt_match_is_at_the_limit = refl

number_below_the_range : after (Add 2 every_row) (Num (negsuc 999999999999999) ∷ []) (row 1 1 100 ∷ []) ≡ Ok ((n 1 ∷ n 1 ∷ Num (negsuc 999999999999899) ∷ []) ∷ [])
number_below_the_range = refl

rows_that_match_are_dropped : after (Drop of_zone_1) [] rows ≡ Ok (row 2 2 100 ∷ [])
rows_that_match_are_dropped = refl

dates_and_texts : rows_after stock_columns (Add 2 from_day_5) (n 3 ∷ []) (stock (codes "a") 4 1 ∷ stock (codes "b") 5 1 ∷ []) ≡ Ok (stock (codes "a") 4 1 ∷ stock (codes "b") 5 4 ∷ [])
dates_and_texts = refl

-- ---- transactions

abbrev tables : List Rows
tables = rows ∷ [] ∷ []

abbrev calls : List ProcCall → Result (List Rows) Failure
calls made = calls_after schema procedures 1 made tables

each_call_sees_those_before : calls (put 3 1 7 ∷ up (pos 5) ∷ store (codes "a") 5 1 ∷ more (pos 2) ∷ []) ≡ Ok ((row 1 1 105 ∷ row 2 2 100 ∷ row 3 1 12 ∷ []) ∷ (stock (codes "a") 5 3 ∷ []) ∷ [])
each_call_sees_those_before = refl

-- the second of three calls fails, and the tables are as before
abbrev failing : List ProcCall
failing = put 3 1 7 ∷ up (pos 1000000000000000) ∷ out ∷ []

second_call_fails : calls failing ≡ Err (record { call = 2; error = ValueRange })
second_call_fails = refl

nothing_is_changed : tables_by (calls failing) tables ≡ tables
nothing_is_changed = refl

-- ---- calls that fit

fitting_put : call_fits schema procedures (put 1 1 100) ≡ true
fitting_put = refl

put_with_a_value_too_few : call_fits schema procedures (call_of 0 (n 1 ∷ n 1 ∷ [])) ≡ false
put_with_a_value_too_few = refl

put_with_a_text : call_fits schema procedures (call_of 0 (n 1 ∷ n 1 ∷ Words (codes "a") ∷ [])) ≡ false
put_with_a_text = refl

add_with_two_numbers : call_fits schema procedures (call_of 1 (n 1 ∷ n 1 ∷ [])) ≡ false
add_with_two_numbers = refl

add_out_of_range : call_fits schema procedures (up (pos 1000000000000001)) ≡ false
add_out_of_range = refl

drop_with_a_value : call_fits schema procedures (call_of 2 (n 1 ∷ [])) ≡ false
drop_with_a_value = refl

no_such_procedure : call_fits schema procedures (call_of 6 []) ≡ false
no_such_procedure = refl

-- ---- calls as they are carried

-- 0 as key, the place of the procedure, and the row
carried_put : carried schema procedures (put 1 1 100) ≡ Insert 0 (n 0 ∷ n 0 ∷ row 1 1 100)
carried_put = refl

-- the amount at its column, and 0 elsewhere
carried_add : carried schema procedures (up (pos 5)) ≡ Insert 0 (n 0 ∷ n 1 ∷ row 0 0 5)
carried_add = refl

-- or the empty text
carried_add_beside_a_text : carried schema procedures (more (pos 5)) ≡ Insert 1 (n 0 ∷ n 5 ∷ stock [] 0 5)
carried_add_beside_a_text = refl

carried_drop : carried schema procedures out ≡ Insert 0 (n 0 ∷ n 2 ∷ row 0 0 0)
carried_drop = refl

-- ---- and read back

abbrev read : Call → Option ProcCall
read call = call_in schema procedures call

put_comes_back : read (Insert 0 (n 0 ∷ n 0 ∷ row 1 1 100)) ≡ Some (put 1 1 100)
put_comes_back = refl

-- 0 in a put is a value
put_of_zeros : read (Insert 0 (n 0 ∷ n 0 ∷ row 0 0 0)) ≡ Some (put 0 0 0)
put_of_zeros = refl

put_of_blanks : read (Insert 1 (n 0 ∷ n 4 ∷ stock [] 0 0)) ≡ Some (store [] 0 0)
put_of_blanks = refl

add_comes_back : read (Insert 1 (n 0 ∷ n 5 ∷ stock [] 0 5)) ≡ Some (more (pos 5))
add_comes_back = refl

drop_comes_back : read (Insert 0 (n 0 ∷ n 2 ∷ row 0 0 0)) ≡ Some out
drop_comes_back = refl

add_with_a_value_elsewhere : read (Insert 0 (n 0 ∷ n 1 ∷ row 0 1 5)) ≡ None
add_with_a_value_elsewhere = refl

drop_with_an_amount : read (Insert 0 (n 0 ∷ n 2 ∷ row 0 0 5)) ≡ None
drop_with_an_amount = refl

amount_out_of_range : read (Insert 0 (n 0 ∷ n 1 ∷ row 0 0 1000000000000001)) ≡ None
amount_out_of_range = refl

amount_that_is_a_text : read (Insert 0 (n 0 ∷ n 1 ∷ n 0 ∷ n 0 ∷ Words [] ∷ [])) ≡ None
amount_that_is_a_text = refl

place_of_another_table : read (Insert 1 (n 0 ∷ n 1 ∷ row 0 0 5)) ≡ None
place_of_another_table = refl

place_of_no_procedure : read (Insert 0 (n 0 ∷ n 6 ∷ row 0 0 5)) ≡ None
place_of_no_procedure = refl

place_below_zero : read (Insert 0 (n 0 ∷ Num (negsuc 0) ∷ row 0 0 5)) ≡ None
place_below_zero = refl

key_that_isnt_zero : read (Insert 0 (n 1 ∷ n 0 ∷ row 1 1 100)) ≡ None
key_that_isnt_zero = refl

value_too_many : read (Insert 0 (n 0 ∷ n 0 ∷ n 1 ∷ row 1 1 100)) ≡ None
value_too_many = refl

no_place : read (Insert 0 (n 0 ∷ [])) ≡ None
no_place = refl

change_of_a_row : read (Update 0 (n 1 ∷ []) []) ≡ None
change_of_a_row = refl

deleted_row : read (Delete 0 (n 0 ∷ n 2 ∷ row 0 0 0)) ≡ None
deleted_row = refl

-- ---- transactions as they are carried

abbrev txn_of : List ProcCall → Txn
txn_of made = carried_txn schema procedures made

carried_calls_do_the_same : txn_after schema procedures (txn_of (put 3 1 7 ∷ up (pos 5) ∷ [])) tables ≡ calls (put 3 1 7 ∷ up (pos 5) ∷ [])
carried_calls_do_the_same = refl

failing_transaction_leaves_all : tables_after schema procedures (txn_of failing) tables ≡ tables
failing_transaction_leaves_all = refl

-- calls on one table share a token, whatever rows they are of
one_table : shares (txn_of (put 1 1 100 ∷ [])) (txn_of (out ∷ [])) ≡ true
one_table = refl

two_tables : shares (txn_of (put 1 1 100 ∷ [])) (txn_of (more (pos 1) ∷ [])) ≡ false
two_tables = refl

one_table_of_two : shares (txn_of (put 1 1 100 ∷ more (pos 1) ∷ [])) (txn_of (store (codes "a") 5 1 ∷ [])) ≡ true
one_table_of_two = refl

-- behind a call on the other table, of position 2, and one on the same table, of position 1
greatest_position_that_shares : dependency_of (txn_of (up (pos 5) ∷ [])) (txn_of (more (pos 1) ∷ []) ∷ txn_of (put 1 1 100 ∷ []) ∷ []) ≡ 1
greatest_position_that_shares = refl

none_that_shares : dependency_of (txn_of (up (pos 5) ∷ [])) (txn_of (more (pos 1) ∷ []) ∷ []) ≡ 0
none_that_shares = refl
