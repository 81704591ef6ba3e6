-- Pushes over links that lose, repeat and hold packets.
use Rattle.std.specs.Prelude.{◌≡◌, refl, ◌++◌, List, [], ◌∷◌, None}
use Rattle.rep_schema.specs.Groups.{group_columns_of}
use Rattle.rep_declare.specs.Refusals.{columns_step}
use Rattle.schema_rules.specs.Rules.{broken_rule}
use Rattle.net_plan.specs.declared.fate.Fate.{Fate}
use Rattle.net_plan.specs.declared.fate.Fate.TheVariants.{Pass, Lose, Twice, Late}
use Rattle.net_plan.specs.Directions.{on_way_between}
use Rattle.rep_values.specs.declared.name.SiteName.{SiteName}
use Rattle.site_state.specs.declared.entry.Entry.TheVariants as entry
use Rattle.site_state.specs.State.{acked_of}
use Rattle.site_state.proofs.WorkedSites.{a, b, row, add, moved, of_calls}
use Rattle.script_parse.specs.declared.command.Command.{Command}
use Rattle.script_parse.specs.declared.command.Command.TheVariants as command
use Rattle.world_state.specs.World.{WorldState}
use Rattle.world_state.specs.PushAnswers.{push_count}
use Rattle.world_state.proofs.WorkedScripts.{master_line, id_and_q, added_up, row_line, resume, block, push, link, link_down, after, then_lines, counted, shown, journal_at, rows_at}

abbrev fates : SiteName → SiteName → List Fate → Command
fates from to more = command.Fates from to more

abbrev purge : SiteName → Command
purge site = command.Purge site

abbrev two_masters : List Command
two_masters = master_line a ∷ master_line b ∷ id_and_q ∷ added_up

-- ---- a lost packet, a repeated one, and all are sent again

abbrev lossy : WorldState
lossy = after (two_masters ++ row_line 1 10 ∷ row_line 2 20 ∷ resume ∷ block a (add 1 1 ∷ []) ++ block a (add 2 1 ∷ []) ++ block a (add 1 1 ∷ []) ++ fates a b (Lose ∷ Pass ∷ Twice ∷ []) ∷ [])

first_is_lost : push_count a b None lossy ≡ counted 3 1 0 0
unfolding group_columns_of columns_step broken_rule
first_is_lost = refl

then_all_come : push_count a b None (then_lines (push a b ∷ []) lossy) ≡ counted 3 2 0 3
unfolding group_columns_of columns_step broken_rule
then_all_come = refl

nothing_stays_on_the_way : on_way_between a b (then_lines (push a b ∷ []) lossy).net ++ on_way_between b a (then_lines (push a b ∷ []) lossy).net ≡ []
unfolding group_columns_of columns_step broken_rule
nothing_stays_on_the_way = refl

they_are_done_in_this_order : journal_at b (then_lines (push a b ∷ push a b ∷ []) lossy)
    ≡ entry.Done a 3 0 (of_calls (moved 0 1 11 12 ∷ [])) ∷ entry.Done a 1 0 (of_calls (moved 0 1 10 11 ∷ [])) ∷ entry.Done a 2 0 (of_calls (moved 0 2 20 21 ∷ [])) ∷ []
unfolding group_columns_of columns_step broken_rule
they_are_done_in_this_order = refl

-- ---- a late packet, a lost mark, and purges

abbrev late : WorldState
late = after (two_masters ++ row_line 1 10 ∷ resume ∷ block a (add 1 1 ∷ []) ++ block a (add 1 1 ∷ []) ++ block a (add 1 1 ∷ []) ++ fates a b (Late ∷ []) ∷ fates b a (Pass ∷ Lose ∷ []) ∷ [])

nothing_without_the_first : push_count a b None late ≡ counted 3 0 0 0
unfolding group_columns_of columns_step broken_rule
nothing_without_the_first = refl

-- a pass is begun also where nothing is ready
idle_pass_is_a_moment : shown 9 (λ x. x.moment) b (then_lines (push a b ∷ []) late) ≡ 1
unfolding group_columns_of columns_step broken_rule
idle_pass_is_a_moment = refl

held_packets_go_first : push_count a b None (then_lines (push a b ∷ []) late) ≡ counted 3 3 0 3
unfolding group_columns_of columns_step broken_rule
held_packets_go_first = refl

abbrev mark_lost : WorldState
mark_lost = then_lines (push a b ∷ push a b ∷ purge a ∷ []) late

lost_mark_purges_nothing : shown 9 (λ x. x.purged) a mark_lost ≡ 0
unfolding group_columns_of columns_step broken_rule
lost_mark_purges_nothing = refl

repeats_are_done_once : push_count a b None mark_lost ≡ counted 3 0 0 3
unfolding group_columns_of columns_step broken_rule
repeats_are_done_once = refl

mark_that_comes_purges_all : shown 9 (λ x. x.purged) a (then_lines (push a b ∷ purge a ∷ []) mark_lost) ≡ 3
unfolding group_columns_of columns_step broken_rule
mark_that_comes_purges_all = refl

rows_after_all : rows_at b (then_lines (push a b ∷ purge a ∷ []) mark_lost) ≡ (row 1 13 ∷ []) ∷ []
unfolding group_columns_of columns_step broken_rule
rows_after_all = refl

-- ---- a mark that can't go back is lost, and takes no fate

abbrev down : WorldState
down = after (two_masters ++ row_line 1 10 ∷ resume ∷ block a (add 1 1 ∷ []) ++ fates b a (Lose ∷ []) ∷ link_down b a ∷ push a b ∷ [])

no_mark_where_the_link_is_down : shown 9 (acked_of b) a down ≡ 0
unfolding group_columns_of columns_step broken_rule
no_mark_where_the_link_is_down = refl

fate_is_left : shown 9 (acked_of b) a (then_lines (link b a ∷ push a b ∷ []) down) ≡ 0
unfolding group_columns_of columns_step broken_rule
fate_is_left = refl

then_the_mark_comes : shown 9 (acked_of b) a (then_lines (link b a ∷ push a b ∷ push a b ∷ []) down) ≡ 1
unfolding group_columns_of columns_step broken_rule
then_the_mark_comes = refl

-- ---- a mark that is held comes with the next push, before one that is lost

abbrev held : WorldState
held = after (two_masters ++ row_line 1 10 ∷ resume ∷ block a (add 1 1 ∷ []) ++ fates b a (Late ∷ []) ∷ fates b a (Lose ∷ []) ∷ push a b ∷ [])

mark_is_held : shown 9 (acked_of b) a held ≡ 0
unfolding group_columns_of columns_step broken_rule
mark_is_held = refl

held_mark_comes : shown 9 (acked_of b) a (then_lines (push a b ∷ []) held) ≡ 1
unfolding group_columns_of columns_step broken_rule
held_mark_comes = refl

-- fates that are cleared are none
cleared_fates : shown 9 (acked_of b) a (then_lines (fates b a (Lose ∷ []) ∷ command.ClearFates b a ∷ push a b ∷ []) held) ≡ 1
unfolding group_columns_of columns_step broken_rule
cleared_fates = refl
