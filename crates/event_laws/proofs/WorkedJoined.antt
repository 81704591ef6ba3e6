-- Worked joins: what the states are before, at and behind a join that waits for quiet; another source; a second master that joins as
-- a copy of the first; and purges behind a join.
use Rattle.std.specs.Prelude.{◌≡◌, refl, ◌++◌, codes, true, false, [], ◌∷◌, length, Some, None}
use Rattle.rep_schema.specs.declared.schema.Schema.{Schema}
use Rattle.rep_schema.specs.Groups.{group_columns_of}
use Rattle.rep_values.specs.declared.name.SiteName.{SiteName}
use Rattle.packet_code.specs.declared.packet.Packet.TheVariants.{Carry}
use Rattle.site_state.specs.declared.entry.Entry.TheVariants as entry
use Rattle.site_state.specs.State.{opened_of, acked_of, first_number}
use Rattle.site_state.specs.Journal.{low_water}
use Rattle.site_state.specs.Streams.{stream_to}
use Rattle.site_state.specs.Pasts.{past_of}
use Rattle.site_state.specs.Ready.{covered, first_ready}
use Rattle.site_state.specs.Packets.{site_packet}
use Rattle.site_state.proofs.WorkedSites.{a, b, d, named, master, late_master, additive, row, add, moved, of_calls}
use Rattle.site_events.specs.Cluster.{Cluster}
use Rattle.site_events.specs.Quiet.{unquiet_at, are_quiet}
use Rattle.site_events.specs.Joins.{queue_counts}
use Rattle.site_events.specs.Events.{Commit, Purge, Join}
use Rattle.event_laws.proofs.WorkedRuns.{masters, then_run, carried, pushed, shown, journal_at, rows_at}
use Rattle.event_laws.specs.Names.{SitesApart}
use Rattle.event_laws.specs.Joined.{can_join}

abbrev e : SiteName
e = named (codes "E")

-- two masters, and two that may join
abbrev with_late : Schema
with_late = additive (master a ∷ master b ∷ late_master d ∷ late_master e ∷ [])

abbrev start : Cluster
start = masters with_late (row 1 10 ∷ []) (a ∷ b ∷ [])

-- ---- a commit of one master hinders the join until it is pushed to the other one

abbrev committed : Cluster
committed = then_run (Commit a (add 1 5 ∷ []) ∷ []) start

commit_is_the_first : journal_at a committed ≡ entry.Local 1 (of_calls (moved 0 1 10 15 ∷ [])) ∷ []
unfolding group_columns_of
commit_is_the_first = refl

nothing_hinders_at_its_site : shown 9 (unquiet_at committed.sites) a committed ≡ 0
unfolding group_columns_of
nothing_hinders_at_its_site = refl

one_hinders_at_the_other : shown 9 (unquiet_at committed.sites) b committed ≡ 1
unfolding group_columns_of
one_hinders_at_the_other = refl

join_has_to_wait : can_join d a committed.sites ≡ false
unfolding group_columns_of
join_has_to_wait = refl

abbrev quiet : Cluster
quiet = then_run (pushed a b (1 ∷ [])) committed

join_may_happen : can_join d a quiet.sites ≡ true
unfolding group_columns_of
join_may_happen = refl

counts_at_the_join : queue_counts quiet.sites ≡ record { origin = a; number = 1 } ∷ record { origin = b; number = 0 } ∷ []
unfolding group_columns_of
counts_at_the_join = refl

-- ---- what it begins with

abbrev joined : Cluster
joined = then_run (Join d a ∷ []) quiet

its_base : shown [] (λ x. x.base) d joined ≡ (row 1 15 ∷ []) ∷ []
unfolding group_columns_of
its_base = refl

its_journal : shown (entry.Refreshed 9 ∷ []) (λ x. x.journal) d joined ≡ []
unfolding group_columns_of
its_journal = refl

first_of_a : shown 9 (first_number a) d joined ≡ 1
unfolding group_columns_of
first_of_a = refl

first_of_b : shown 9 (first_number b) d joined ≡ 0
unfolding group_columns_of
first_of_b = refl

first_of_a_late_one : shown 9 (first_number e) d joined ≡ 0
unfolding group_columns_of
first_of_a_late_one = refl

-- ---- who is open to whom

open_to_a : shown None (opened_of a) d joined ≡ Some 0
unfolding group_columns_of
open_to_a = refl

open_to_b : shown None (opened_of b) d joined ≡ Some 0
unfolding group_columns_of
open_to_b = refl

closed_to_a_late_one : shown (Some 9) (opened_of e) d joined ≡ None
unfolding group_columns_of
closed_to_a_late_one = refl

opened_by_a : shown None (opened_of d) a joined ≡ Some 1
unfolding group_columns_of
opened_by_a = refl

opened_by_b : shown None (opened_of d) b joined ≡ Some 0
unfolding group_columns_of
opened_by_b = refl

empty_stream_of_a : shown 9 (λ x. length (stream_to d x)) a joined ≡ 0
unfolding group_columns_of
empty_stream_of_a = refl

other_stream_of_a : shown 9 (λ x. length (stream_to b x)) a joined ≡ 1
unfolding group_columns_of
other_stream_of_a = refl

-- a second one may join at once
still_quiet : are_quiet joined.sites ≡ true
unfolding group_columns_of
still_quiet = refl

-- but not the same one again
not_again : can_join d b joined.sites ≡ false
unfolding group_columns_of
not_again = refl

names_are_apart : SitesApart joined.sites
unfolding group_columns_of
names_are_apart = (refl, (refl, (refl, tt)))

-- ---- a commit behind the join comes to it: its past is covered by the first number

abbrev updated : Cluster
updated = then_run (Commit b (add 1 2 ∷ []) ∷ []) joined

what_b_had_seen : shown [] past_of b joined ≡ record { origin = a; number = 1 } ∷ []
unfolding group_columns_of
what_b_had_seen = refl

abbrev come : Cluster
come = then_run (carried b d (1 ∷ [])) updated

nothing_of_a_is_finished : shown 9 (λ x. low_water a x.journal) d come ≡ 0
unfolding group_columns_of
nothing_of_a_is_finished = refl

covered_by_the_first_number : shown 9 (covered a) d come ≡ 1
unfolding group_columns_of
covered_by_the_first_number = refl

it_is_ready : shown None (first_ready b 0) d come ≡ Some 1
unfolding group_columns_of
it_is_ready = refl

abbrev done : Cluster
done = then_run (pushed b d (1 ∷ [])) updated

its_first_entry : journal_at d done ≡ entry.Done b 1 0 (of_calls (moved 0 1 15 17 ∷ [])) ∷ []
unfolding group_columns_of
its_first_entry = refl

its_rows : rows_at d done ≡ (row 1 17 ∷ []) ∷ []
unfolding group_columns_of
its_rows = refl

-- ---- nothing was committed before, and the other master is the source

abbrev joined_early : Cluster
joined_early = then_run (Join d b ∷ []) start

not_there_before : can_join d d start.sites ≡ false
unfolding group_columns_of
not_there_before = refl

early_rows : rows_at d joined_early ≡ (row 1 10 ∷ []) ∷ []
unfolding group_columns_of
early_rows = refl

early_first : shown 9 (first_number a) d joined_early ≡ 0
unfolding group_columns_of
early_first = refl

early_opening : shown None (opened_of d) a joined_early ≡ Some 0
unfolding group_columns_of
early_opening = refl

no_second_join : length (then_run (Join d b ∷ []) joined_early).sites ≡ 3
unfolding group_columns_of
no_second_join = refl

-- ---- it commits itself, and another one joins as its copy

abbrev own_commit : Cluster
own_commit = then_run (pushed b a (1 ∷ []) ++ Commit d (add 1 3 ∷ []) ∷ pushed d a (1 ∷ []) ++ pushed d b (1 ∷ [])) done

-- what it has seen of a is its first number
its_past : shown [] past_of d done ≡ record { origin = a; number = 1 } ∷ record { origin = b; number = 1 } ∷ []
unfolding group_columns_of
its_past = refl

its_first_packet : shown None (site_packet a 1) d own_commit
    ≡ Some (Carry d a 1 1 0 (record { origin = a; number = 1 } ∷ record { origin = b; number = 1 } ∷ []) (of_calls (moved 0 1 17 20 ∷ [])))
unfolding group_columns_of
its_first_packet = refl

abbrev both_joined : Cluster
both_joined = then_run (Join e d ∷ []) own_commit

rows_of_the_second : rows_at e both_joined ≡ (row 1 20 ∷ []) ∷ []
unfolding group_columns_of
rows_of_the_second = refl

first_of_its_source : shown 9 (first_number d) e both_joined ≡ 1
unfolding group_columns_of
first_of_its_source = refl

opened_by_its_source : shown None (opened_of e) d both_joined ≡ Some 1
unfolding group_columns_of
opened_by_its_source = refl

open_to_its_source : shown None (opened_of d) e both_joined ≡ Some 0
unfolding group_columns_of
open_to_its_source = refl

-- ---- purges: what was queued before the join doesn't wait for it, and what is queued behind it does

old_is_purged : shown 9 (λ x. x.purged) a (then_run (Purge a ∷ []) joined) ≡ 1
unfolding group_columns_of
old_is_purged = refl

abbrev committed_again : Cluster
committed_again = then_run (Commit a (add 1 1 ∷ []) ∷ pushed a b (2 ∷ []) ++ Purge a ∷ []) joined

new_one_waits : shown 9 (λ x. x.purged) a committed_again ≡ 1
unfolding group_columns_of
new_one_waits = refl

-- its position in the new stream is the first
new_one_comes : shown 9 (acked_of d) a (then_run (pushed a d (1 ∷ [])) committed_again) ≡ 1
unfolding group_columns_of
new_one_comes = refl

new_one_is_purged : shown 9 (λ x. x.purged) a (then_run (pushed a d (1 ∷ []) ++ Purge a ∷ []) committed_again) ≡ 2
unfolding group_columns_of
new_one_is_purged = refl
