-- Packets that are lost, late or sent twice, marks that are lost, and purges.
use Rattle.std.specs.Prelude.{◌≡◌, refl, ◌++◌, List, [], ◌∷◌, Some, None}
use Rattle.rep_schema.specs.declared.schema.Schema.{Schema}
use Rattle.rep_schema.specs.Groups.{group_columns_of}
use Rattle.packet_code.specs.declared.packet.Packet.TheVariants.{Carry}
use Rattle.site_state.specs.declared.entry.Entry.TheVariants as entry
use Rattle.site_state.specs.State.{acked_of}
use Rattle.site_state.specs.Journal.{low_water}
use Rattle.site_state.specs.Packets.{site_packet}
use Rattle.site_state.specs.Purges.{purge_answer}
use Rattle.site_state.proofs.WorkedSites.{a, b, master, additive, row, add, moved, of_calls}
use Rattle.site_events.specs.Cluster.{Cluster}
use Rattle.site_events.specs.Events.{Event, Commit, Send, SendMark, Deliver, Purge}
use Rattle.event_laws.proofs.WorkedRuns.{masters, then_run, carried, passed, marked, pushed, shown, journal_at, rows_at}

abbrev pub two : Schema
two = additive (master a ∷ master b ∷ [])

-- ---- three blocks; the first packet is lost, and then all are sent again, the last of them twice

abbrev three_blocks : List Event
three_blocks = Commit a (add 1 1 ∷ []) ∷ Commit a (add 2 1 ∷ []) ∷ Commit a (add 1 1 ∷ []) ∷ []

abbrev first_lost : List Event
first_lost = Send a b 1 ∷ carried a b (2 ∷ 3 ∷ []) ++ passed b a (2 ∷ 3 ∷ []) ++ marked b a

abbrev all_again : List Event
all_again = carried a b (1 ∷ 2 ∷ 3 ∷ []) ++ Deliver 0 ∷ passed b a (1 ∷ 2 ∷ 3 ∷ []) ++ marked b a

abbrev queued : Cluster
queued = then_run three_blocks (masters two (row 1 10 ∷ row 2 20 ∷ []) (a ∷ b ∷ []))

abbrev after_the_loss : Cluster
after_the_loss = then_run first_lost queued

abbrev sent_again : Cluster
sent_again = then_run all_again after_the_loss

-- the third block depends on the first
third_packet : shown None (site_packet b 3) a queued ≡ Some (Carry a b 3 3 1 [] (of_calls (moved 0 1 11 12 ∷ [])))
unfolding group_columns_of
third_packet = refl

second_goes_alone : journal_at b after_the_loss ≡ entry.Done a 2 0 (of_calls (moved 0 2 20 21 ∷ [])) ∷ []
unfolding group_columns_of
second_goes_alone = refl

no_mark_over_the_gap : shown 9 (acked_of b) a after_the_loss ≡ 0
unfolding group_columns_of
no_mark_over_the_gap = refl

sent_again_journal : journal_at b sent_again
    ≡ entry.Done a 3 0 (of_calls (moved 0 1 11 12 ∷ [])) ∷ entry.Done a 1 0 (of_calls (moved 0 1 10 11 ∷ [])) ∷ entry.Done a 2 0 (of_calls (moved 0 2 20 21 ∷ [])) ∷ []
unfolding group_columns_of
sent_again_journal = refl

sent_again_rows : rows_at b sent_again ≡ (row 1 12 ∷ row 2 21 ∷ []) ∷ []
unfolding group_columns_of
sent_again_rows = refl

sent_again_mark : shown 9 (λ x. low_water a x.journal) b sent_again ≡ 3
unfolding group_columns_of
sent_again_mark = refl

sent_again_acked : shown 9 (acked_of b) a sent_again ≡ 3
unfolding group_columns_of
sent_again_acked = refl

-- ---- three blocks on one row; the first packet is late and the mark for all is lost, and so nothing is purged until a
-- mark comes

abbrev first_late : List Event
first_late =
    Commit a (add 1 1 ∷ []) ∷ Commit a (add 1 1 ∷ []) ∷ Commit a (add 1 1 ∷ [])
    ∷ Send a b 1 ∷ carried a b (2 ∷ 3 ∷ []) ++ passed b a (2 ∷ 3 ∷ []) ++ marked b a

abbrev comes_late : List Event
comes_late = Deliver 3 ∷ passed b a (1 ∷ 2 ∷ 3 ∷ []) ++ SendMark b a ∷ []

abbrev late_one : Cluster
late_one = then_run first_late (masters two (row 1 10 ∷ []) (a ∷ b ∷ []))

abbrev mark_lost : Cluster
mark_lost = then_run comes_late late_one

nothing_without_the_first : journal_at b late_one ≡ []
unfolding group_columns_of
nothing_without_the_first = refl

late_packet_applied : rows_at b mark_lost ≡ (row 1 13 ∷ []) ∷ []
unfolding group_columns_of
late_packet_applied = refl

nothing_to_purge : shown 9 purge_answer a mark_lost ≡ 0
unfolding group_columns_of
nothing_to_purge = refl

abbrev mark_comes : Cluster
mark_comes = then_run (Purge a ∷ pushed a b (1 ∷ 2 ∷ 3 ∷ [])) mark_lost

repeats_are_applied_once : rows_at b mark_comes ≡ (row 1 13 ∷ []) ∷ []
unfolding group_columns_of
repeats_are_applied_once = refl

all_to_purge : shown 9 purge_answer a mark_comes ≡ 3
unfolding group_columns_of
all_to_purge = refl

purged_is_not_sent : shown (Some (Carry a b 0 0 0 [] (of_calls []))) (site_packet b 3) a (then_run (Purge a ∷ []) mark_comes) ≡ None
unfolding group_columns_of
purged_is_not_sent = refl
