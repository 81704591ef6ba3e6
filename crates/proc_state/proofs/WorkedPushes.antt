-- Pushes of calls between three sites, worked out by hand: what is sent, lost and repeated, and what stands at the other side.
use Rattle.std.proofs.Common.{◌≡◌, ℕ, pos, List, [], ◌∷◌, Ok, Err, Some, None, refl}
use Rattle.std.specs.Prelude.{codes, Option}
use Rattle.rep_values.specs.declared.name.SiteName.{SiteName}
use Rattle.rep_values.specs.declared.refusal.ApplyError.TheVariants.{ValueRange}
use Rattle.rep_values.specs.declared.refusal.Refusal.TheVariants.{NoSuchError, StillFails}
use Rattle.rep_calls.specs.declared.call.Call.{Call}
use Rattle.rep_calls.specs.declared.call.Call.TheVariants.{Insert, Update}
use Rattle.rep_calls.specs.declared.call.Txn.{Txn}
use Rattle.packet_code.specs.declared.packet.Packet.{Packet}
use Rattle.packet_code.specs.declared.packet.Packet.TheVariants.{Carry, Mark}
use Rattle.deferred_queue.specs.Streams.{acked_by, last_position}
use Rattle.site_state.specs.declared.answers.Accepted.TheVariants as accepted
use Rattle.site_state.specs.declared.answers.Applied.TheVariants as applied
use Rattle.site_state.specs.declared.answers.Why.TheVariants as why
use Rattle.site_state.specs.Journal.{low_water}
use Rattle.site_state.proofs.WorkedSites.{named, a, b, c, n}
use Rattle.proc_state.specs.declared.call.ProcCall.{ProcCall}
use Rattle.proc_state.specs.Carriers.{carried_txn}
use Rattle.proc_state.specs.State.{ProcState, new_proc, proc_tables, proc_queue}
use Rattle.proc_state.specs.Calling.{proc_call, proc_call_answer}
use Rattle.proc_state.specs.Packets.{proc_packet, proc_mark, proc_accept, proc_accept_answer}
use Rattle.proc_state.specs.Passes.{proc_apply_answer, proc_pass, proc_pass_answer}
use Rattle.proc_state.specs.Errors.{proc_errors, proc_execute, proc_execute_refusal}
use Rattle.proc_state.proofs.WorkedProcedures.{schema, row, stock, procedures, put, up, out, all_up, store}

abbrev new : SiteName → List SiteName → ProcState
new me masters = new_proc schema procedures me masters

abbrev new_a : ProcState
new_a = new a (b ∷ c ∷ [])

abbrev new_b : ProcState
new_b = new b (a ∷ c ∷ [])

abbrev new_c : ProcState
new_c = new c (a ∷ b ∷ [])

abbrev txn_of : List ProcCall → Txn
txn_of calls = carried_txn schema procedures calls

-- the packet of a position comes, where there is one
abbrev come : Option Packet → ProcState → ProcState
come None x = x
come (Some packet) x = proc_accept packet x

abbrev comes : SiteName → ℕ → ProcState → ProcState → ProcState
comes to position from x = come (proc_packet to position from) x

-- ---- two rows go to B and C, and a rise to B alone

abbrev rows_put : List ProcCall
rows_put = put 1 1 100 ∷ put 2 2 100 ∷ []

abbrev raised : List ProcCall
raised = up (pos 5) ∷ []

abbrev one_called : ProcState
one_called = proc_call rows_put (b ∷ c ∷ []) new_a

abbrev two_called : ProcState
two_called = proc_call raised (b ∷ []) one_called

first_number : proc_call_answer rows_put new_a ≡ Ok 1
first_number = refl

second_number : proc_call_answer raised one_called ≡ Ok 2
second_number = refl

rows_at_a : proc_tables two_called ≡ (row 1 1 105 ∷ row 2 2 100 ∷ []) ∷ [] ∷ []
rows_at_a = refl

-- the first position depends on none, and the second one on the first
first_to_b : proc_packet b 1 two_called ≡ Some (Carry a b 1 1 0 [] (txn_of rows_put))
first_to_b = refl

second_to_b : proc_packet b 2 two_called ≡ Some (Carry a b 2 2 1 [] (txn_of raised))
second_to_b = refl

calls_in_carriers : txn_of raised ≡ record { calls = Insert 0 (n 0 ∷ n 1 ∷ row 0 0 5) ∷ [] }
calls_in_carriers = refl

first_to_c : proc_packet c 1 two_called ≡ Some (Carry a c 1 1 0 [] (txn_of rows_put))
first_to_c = refl

-- C gets nothing of the rise
none_to_c : proc_packet c 2 two_called ≡ None
none_to_c = refl

last_to_c : last_position c (proc_queue two_called) ≡ 1
last_to_c = refl

abbrev both_at_b : ProcState
both_at_b = comes b 2 two_called (comes b 1 two_called new_b)

pass_at_b : proc_pass_answer a both_at_b ≡ record { done = 2; errors = 0 }
pass_at_b = refl

abbrev passed_at_b : ProcState
passed_at_b = proc_pass a both_at_b

low_at_b : low_water a passed_at_b.journal ≡ 2
low_at_b = refl

rows_at_b : proc_tables passed_at_b ≡ (row 1 1 105 ∷ row 2 2 100 ∷ []) ∷ [] ∷ []
rows_at_b = refl

abbrev one_at_c : ProcState
one_at_c = comes c 2 two_called (comes c 1 two_called new_c)

pass_at_c : proc_pass_answer a one_at_c ≡ record { done = 1; errors = 0 }
pass_at_c = refl

low_at_c : low_water a (proc_pass a one_at_c).journal ≡ 1
low_at_c = refl

rows_at_c : proc_tables (proc_pass a one_at_c) ≡ (row 1 1 100 ∷ row 2 2 100 ∷ []) ∷ [] ∷ []
rows_at_c = refl

-- ---- the first packet is lost: the second one waits, and all is sent again

abbrev second_at_b : ProcState
second_at_b = comes b 2 two_called new_b

second_waits : proc_apply_answer a 2 second_at_b ≡ applied.Stale why.NotReady
second_waits = refl

pass_without_the_first : proc_pass_answer a second_at_b ≡ record { done = 0; errors = 0 }
pass_without_the_first = refl

low_without_the_first : low_water a (proc_pass a second_at_b).journal ≡ 0
low_without_the_first = refl

abbrev first_then_at_b : ProcState
first_then_at_b = comes b 1 two_called (proc_pass a second_at_b)

second_comes_again : proc_accept_answer (Carry a b 2 2 1 [] (txn_of raised)) first_then_at_b ≡ accepted.Repeat
second_comes_again = refl

both_done : proc_pass_answer a (comes b 2 two_called first_then_at_b) ≡ record { done = 2; errors = 0 }
both_done = refl

low_then : low_water a (proc_pass a (comes b 2 two_called first_then_at_b)).journal ≡ 2
low_then = refl

-- ---- marks

mark_of_b : proc_mark a passed_at_b ≡ Mark b a 2
mark_of_b = refl

mark_comes : proc_accept_answer (proc_mark a passed_at_b) two_called ≡ accepted.Marked
mark_comes = refl

mark_is_kept : acked_by b (proc_accept (proc_mark a passed_at_b) two_called).acked ≡ 2
mark_is_kept = refl

lower_mark_changes_nothing : acked_by b (proc_accept (Mark b a 1) (proc_accept (Mark b a 2) two_called)).acked ≡ 2
lower_mark_changes_nothing = refl

mark_above_the_last : proc_accept_answer (Mark c a 2) two_called ≡ accepted.Foreign
mark_above_the_last = refl

mark_of_no_master : proc_accept_answer (Mark (named (codes "D")) a 0) two_called ≡ accepted.Foreign
mark_of_no_master = refl

-- ---- foreign packets

abbrev carrying : List Call → Packet
carrying calls = Carry a b 1 1 0 [] (record { calls = calls })

value_elsewhere : proc_accept_answer (carrying (Insert 0 (n 0 ∷ n 1 ∷ row 0 1 5) ∷ [])) new_b ≡ accepted.Foreign
value_elsewhere = refl

second_call_of_no_form : proc_accept_answer (carrying (Insert 0 (n 0 ∷ n 1 ∷ row 0 0 5) ∷ Update 0 (n 1 ∷ []) [] ∷ [])) new_b ≡ accepted.Foreign
second_call_of_no_form = refl

past_that_isnt_empty : proc_accept_answer (Carry a b 1 1 0 (record { origin = c; number = 1 } ∷ []) (txn_of raised)) new_b ≡ accepted.Foreign
past_that_isnt_empty = refl

to_another_site : proc_accept_answer (Carry a c 1 1 0 [] (txn_of raised)) new_b ≡ accepted.Foreign
to_another_site = refl

from_itself : proc_accept_answer (Carry b b 1 1 0 [] (txn_of raised)) new_b ≡ accepted.Foreign
from_itself = refl

foreign_changes_nothing : proc_accept (Carry a c 1 1 0 [] (txn_of raised)) new_b ≡ new_b
foreign_changes_nothing = refl

new_position : proc_accept_answer (Carry a b 1 1 0 [] (txn_of raised)) new_b ≡ accepted.New
new_position = refl

-- ---- destinations

-- the named masters stand in declared order, whatever the order of the names
in_declared_order : (proc_call rows_put (c ∷ b ∷ []) new_a).lists ≡ (b ∷ c ∷ []) ∷ []
in_declared_order = refl

-- a lone master applies its calls and sends them to none
lone_master : proc_call_answer rows_put (new a []) ≡ Ok 1
lone_master = refl

rows_of_a_lone_master : proc_tables (proc_call rows_put [] (new a [])) ≡ (row 1 1 100 ∷ row 2 2 100 ∷ []) ∷ [] ∷ []
rows_of_a_lone_master = refl

-- dependency numbers are of the destination's own stream: to B goes what was put, to C what was taken, and to both the rise
abbrev lists_differ : ProcState
lists_differ = proc_call raised (b ∷ c ∷ []) (proc_call (out ∷ []) (c ∷ []) (proc_call (store (codes "a") 5 1 ∷ []) (b ∷ []) (proc_call rows_put (b ∷ []) new_a)))

behind_the_first_of_two : proc_packet b 3 lists_differ ≡ Some (Carry a b 4 3 1 [] (txn_of raised))
behind_the_first_of_two = refl

behind_the_only_one : proc_packet c 2 lists_differ ≡ Some (Carry a c 4 2 1 [] (txn_of raised))
behind_the_only_one = refl

-- a call on another table depends on none
on_another_table : proc_packet b 2 lists_differ ≡ Some (Carry a b 2 2 0 [] (txn_of (store (codes "a") 5 1 ∷ [])))
on_another_table = refl

-- ---- errors

-- calls that fail aren't queued
failing_call : proc_call_answer (put 3 1 7 ∷ all_up (pos 1000000000000000) ∷ []) one_called ≡ Err (record { call = 2; error = ValueRange })
failing_call = refl

failing_call_changes_nothing : proc_call (put 3 1 7 ∷ all_up (pos 1000000000000000) ∷ []) (b ∷ []) one_called ≡ one_called
failing_call_changes_nothing = refl

-- B has a row of its own at the limit, so that the rise fails there; the mark rises, and a later call on the other table goes on
abbrev at_the_limit : ProcState
at_the_limit = proc_call (put 3 1 1000000000000000 ∷ []) [] new_b

abbrev three_called : ProcState
three_called = proc_call (store (codes "a") 5 1 ∷ []) (b ∷ []) two_called

abbrev three_at_b : ProcState
three_at_b = comes b 3 three_called (comes b 2 three_called (comes b 1 three_called at_the_limit))

one_in_error : proc_pass_answer a three_at_b ≡ record { done = 2; errors = 1 }
one_in_error = refl

abbrev with_an_error : ProcState
with_an_error = proc_pass a three_at_b

low_with_an_error : low_water a with_an_error.journal ≡ 3
low_with_an_error = refl

-- no row of the failing transaction rose, those in front of the one that can't among them
rows_with_an_error : proc_tables with_an_error ≡ (row 1 1 100 ∷ row 2 2 100 ∷ row 3 1 1000000000000000 ∷ []) ∷ (stock (codes "a") 5 1 ∷ []) ∷ []
rows_with_an_error = refl

error_that_stands : proc_errors with_an_error ≡ record { origin = a; position = 2; call = 1; error = ValueRange; txn = txn_of raised } ∷ []
error_that_stands = refl

still_fails : proc_execute_refusal a 2 with_an_error ≡ Some (StillFails ValueRange)
still_fails = refl

no_such_error : proc_execute_refusal a 1 with_an_error ≡ Some NoSuchError
no_such_error = refl

-- once that row is lower it is executed
abbrev lower : ProcState
lower = proc_call (put 3 1 10 ∷ []) [] with_an_error

executes : proc_execute_refusal a 2 lower ≡ None
executes = refl

rows_once_executed : proc_tables (proc_execute a 2 lower) ≡ (row 1 1 105 ∷ row 2 2 100 ∷ row 3 1 15 ∷ []) ∷ (stock (codes "a") 5 1 ∷ []) ∷ []
rows_once_executed = refl

no_error_stands : proc_errors (proc_execute a 2 lower) ≡ []
no_error_stands = refl

executed_once : proc_execute_refusal a 2 (proc_execute a 2 lower) ≡ Some NoSuchError
executed_once = refl
