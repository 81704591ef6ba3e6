-- What a site answers to packets, applications and purges.
use Rattle.std.specs.Prelude.{◌≡◌, refl, ℕ, [], ◌∷◌, Ok, Err}
use Rattle.rep_values.specs.declared.refusal.ApplyError.TheVariants as error
use Rattle.rep_values.specs.declared.refusal.Refusal.TheVariants as refusal
use Rattle.rep_schema.specs.declared.schema.Schema.{Schema}
use Rattle.rep_schema.specs.Groups.{group_columns_of}
use Rattle.rep_calls.specs.declared.call.Txn.{Txn}
use Rattle.packet_code.specs.declared.packet.Packet.{Packet}
use Rattle.packet_code.specs.declared.packet.Packet.TheVariants.{Carry, Mark}
use Rattle.site_state.specs.declared.answers.Accepted.TheVariants as accepted
use Rattle.site_state.specs.declared.answers.Applied.TheVariants as applied
use Rattle.site_state.specs.declared.answers.Why.TheVariants as why
use Rattle.site_state.specs.State.{SiteState}
use Rattle.site_state.specs.Contents.{tables_of}
use Rattle.site_state.specs.Commits.{site_commit, commit_answer}
use Rattle.site_state.specs.Packets.{site_accept, accept_answer}
use Rattle.site_state.specs.Passes.{site_apply, apply_answer, site_pass, pass_answer}
use Rattle.site_state.specs.Purges.{site_purge, purge_answer}
use Rattle.site_state.specs.Joining.{unfinished}
use Rattle.site_state.proofs.WorkedSites.{a, b, c, s, d, master, late_master, snapshot_of, additive, row, at_first, add, insert, moved, of_calls}

abbrev schema : Schema
schema = additive (master a ∷ master b ∷ master c ∷ late_master d ∷ snapshot_of s a ∷ [])

-- the site b
abbrev new : SiteState
new = at_first schema (row 1 10 ∷ row 2 20 ∷ []) b

abbrev raised : ℕ → ℕ → ℕ → Txn
raised k old q = of_calls (moved 0 k old q ∷ [])

-- ---- a packet

abbrev first : Packet
first = Carry a b 1 1 0 [] (raised 1 10 15)

abbrev second : Packet
second = Carry a b 2 2 1 [] (raised 1 15 16)

new_position : accept_answer first new ≡ accepted.New
unfolding group_columns_of
new_position = refl

position_before : accept_answer (Carry a b 1 1 0 [] (raised 2 20 21)) (site_accept first new) ≡ accepted.Repeat
unfolding group_columns_of
position_before = refl

to_another_site : accept_answer (Carry a c 1 1 0 [] (raised 1 10 15)) new ≡ accepted.Foreign
unfolding group_columns_of
to_another_site = refl

-- the snapshot site sends to its master alone
from_no_sender : accept_answer (Carry s b 1 1 0 [] (raised 1 10 15)) new ≡ accepted.Foreign
unfolding group_columns_of
from_no_sender = refl

call_that_fits_not : accept_answer (Carry a b 1 1 0 [] (of_calls (moved 1 1 10 15 ∷ []))) new ≡ accepted.Foreign
unfolding group_columns_of
call_that_fits_not = refl

-- a past may name the receiver, and a late master
past_of_the_receiver : accept_answer (Carry a b 1 1 0 (record { origin = b; number = 4 } ∷ record { origin = d; number = 1 } ∷ []) (raised 1 10 15)) new ≡ accepted.New
unfolding group_columns_of
past_of_the_receiver = refl

past_of_a_snapshot_site : accept_answer (Carry a b 1 1 0 (record { origin = s; number = 1 } ∷ []) (raised 1 10 15)) new ≡ accepted.Foreign
unfolding group_columns_of
past_of_a_snapshot_site = refl

mark_above_the_last : accept_answer (Mark a b 1) new ≡ accepted.Foreign
mark_above_the_last = refl

mark_of_the_last : accept_answer (Mark a b 1) (site_commit (add 1 1 ∷ []) new) ≡ accepted.Marked
unfolding group_columns_of
mark_of_the_last = refl

-- ---- a position

abbrev came : SiteState
came = site_accept second new

not_arrived : apply_answer a 1 came ≡ applied.Stale why.NotArrived
unfolding group_columns_of
not_arrived = refl

not_ready : apply_answer a 2 came ≡ applied.Stale why.NotReady
unfolding group_columns_of
not_ready = refl

abbrev both_came : SiteState
both_came = site_accept first came

done : apply_answer a 1 both_came ≡ applied.Done
unfolding group_columns_of
done = refl

finished_before : apply_answer a 1 (site_apply a 1 both_came) ≡ applied.Stale why.Finished
unfolding group_columns_of
finished_before = refl

in_error : apply_answer a 1 (site_accept (Carry a b 1 1 0 [] (raised 3 10 11)) new) ≡ applied.Error error.NoRow
unfolding group_columns_of
in_error = refl

-- ---- a pass

abbrev three_came : SiteState
three_came = site_accept (Carry a b 3 3 0 [] (raised 3 10 11)) both_came

two_done_one_in_error : pass_answer a three_came ≡ record { done = 2; errors = 1 }
unfolding group_columns_of
two_done_one_in_error = refl

rows_after_the_pass : tables_of (site_pass a three_came) ≡ (row 1 16 ∷ row 2 20 ∷ []) ∷ []
unfolding group_columns_of
rows_after_the_pass = refl

-- ---- a block

second_statement_refused : commit_answer (add 1 1 ∷ insert 2 5 ∷ []) new ≡ Err (record { statement = 2; refusal = refusal.KeyTaken })
unfolding group_columns_of
second_statement_refused = refl

nothing_to_queue : commit_answer (add 1 0 ∷ []) new ≡ Ok 0
unfolding group_columns_of
nothing_to_queue = refl

second_number : commit_answer (add 1 1 ∷ []) (site_commit (add 1 1 ∷ []) new) ≡ Ok 2
unfolding group_columns_of
second_number = refl

-- ---- a purge takes what every destination has acknowledged, and a late master that isn't there has nothing

abbrev two_queued : SiteState
two_queued = site_commit (add 1 1 ∷ []) (site_commit (add 1 1 ∷ []) new)

one_is_behind : purge_answer (site_accept (Mark a b 2) two_queued) ≡ 0
unfolding group_columns_of
one_is_behind = refl

abbrev acknowledged : SiteState
acknowledged = site_accept (Mark c b 1) (site_accept (Mark a b 2) two_queued)

up_to_the_slower : purge_answer acknowledged ≡ 1
unfolding group_columns_of
up_to_the_slower = refl

purged_before : purge_answer (site_purge acknowledged) ≡ 0
unfolding group_columns_of
purged_before = refl

-- ---- what hinders a join: a position that isn't finished, and an error

one_unfinished_one_error : unfinished (record { origin = a; number = 4 } ∷ record { origin = c; number = 0 } ∷ []) (site_pass a three_came) ≡ 2
unfolding group_columns_of
one_unfinished_one_error = refl
