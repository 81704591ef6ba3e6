-- A snapshot site and its master: what it shows, when it may be refreshed, and what goes onward.
use Rattle.std.specs.Prelude.{◌≡◌, refl, ℕ, true, false, codes, pos, ◌++◌, List, [], ◌∷◌, Some, None}
use Rattle.rep_values.specs.declared.refusal.Refusal.{Refusal}
use Rattle.rep_values.specs.declared.refusal.Refusal.TheVariants as refusal
use Rattle.rep_values.specs.declared.literal.Literal.{Literal}
use Rattle.rep_values.specs.declared.literal.Literal.TheVariants as literal
use Rattle.rep_schema.specs.Groups.{group_columns_of}
use Rattle.rep_declare.specs.Refusals.{columns_step}
use Rattle.schema_rules.specs.Rules.{broken_rule}
use Rattle.snapshot_query.specs.declared.query.Op.TheVariants as op
use Rattle.site_state.proofs.WorkedSites.{a, b, s, n, row, set_to}
use Rattle.world_state.specs.declared.refused.Refused.{Refused}
use Rattle.script_parse.specs.declared.command.TestWords.{TestWords}
use Rattle.rep_schema.specs.declared.check.Rel.TheVariants as rel
use Rattle.script_parse.specs.declared.command.Refresh.{Refresh}
use Rattle.script_parse.specs.declared.command.Refresh.TheVariants as how
use Rattle.script_parse.specs.declared.command.Command.{Command}
use Rattle.script_parse.specs.declared.command.Command.TheVariants as command
use Rattle.world_state.specs.World.{WorldState}
use Rattle.world_state.specs.PushAnswers.{push_count}
use Rattle.world_state.specs.Refusals.{world_refusal}
use Rattle.world_state.specs.Answers.{refresh_answer, log_purge_count}
use Rattle.world_state.proofs.WorkedScripts.{t, master_line, snapshot_site_line, id_and_q, row_line, resume, block, push, link, link_down, after, then_lines, stepped, told, counted, shown, rows_at}

-- rows whose Q is above a number
abbrev above : ℕ → List TestWords
above k = record { column = codes "Q"; rel = rel.Gt; value = literal.Num (pos k) } ∷ []

abbrev snapshot : List TestWords → Command
snapshot tests = command.Snapshot s t None (Some tests)

abbrev refresh : Refresh → Command
refresh mode = command.Refresh s mode

abbrev declared_lines : List Command
declared_lines = master_line a ∷ snapshot_site_line s a ∷ id_and_q ∷ snapshot (above 5) ∷ row_line 1 10 ∷ row_line 2 20 ∷ row_line 3 3 ∷ resume ∷ []

snapshot_shows_its_query : rows_at s (after declared_lines) ≡ (row 1 10 ∷ row 2 20 ∷ []) ∷ []
unfolding group_columns_of columns_step broken_rule
snapshot_shows_its_query = refl

abbrev at_line : ℕ → Refusal → Refused
at_line number why = record { line = number; refusal = why }

abbrev changed : WorldState
changed = then_lines (block s (set_to 2 21 ∷ [])) (after declared_lines)

abbrev refresh_lines : List Command
refresh_lines = refresh how.Fast ∷ link_down s a ∷ refresh how.Fast ∷ push s a ∷ link s a ∷ push s a ∷ command.PurgeLog a t ∷ refresh how.Fast ∷ refresh how.Force ∷ []

refreshes_that_are_refused : told 12 refresh_lines changed ≡ at_line 12 (refusal.QueueNotEmpty 1) ∷ at_line 14 refusal.LinkDown ∷ at_line 15 refusal.LinkDown ∷ at_line 19 (refusal.LogTooYoung 1 0) ∷ []
unfolding group_columns_of columns_step broken_rule
refreshes_that_are_refused = refl

refreshed_at_the_masters_moment : shown [] (λ x. x.snapshots) s (stepped 12 refresh_lines changed) ≡ record { table = 0; query = record { tests = record { column = 1; op = op.Gt; value = n 5 } ∷ [] }; parent = None; mark = 1; touched = [] } ∷ []
unfolding group_columns_of columns_step broken_rule
refreshed_at_the_masters_moment = refl

abbrev log_purged : WorldState
log_purged = then_lines (push s a ∷ command.PurgeLog a t ∷ []) changed

-- the log doesn't reach back, so that a refresh that is forced goes by all rows
forced_goes_by_all_rows : refresh_answer s how.Force log_purged ≡ Some (record { by_logs = false; count = record { keys = 0; rows = 2 } })
unfolding group_columns_of columns_step broken_rule
forced_goes_by_all_rows = refl

one_key_was_logged : log_purge_count a 0 (then_lines (push s a ∷ []) changed) ≡ 1
unfolding group_columns_of columns_step broken_rule
one_key_was_logged = refl

-- a row that the master takes out of the query, and one that conflicts
abbrev conflict : WorldState
conflict = then_lines (block a (set_to 1 4 ∷ []) ++ block s (set_to 1 11 ∷ set_to 2 21 ∷ []) ++ push s a ∷ []) (after declared_lines)

conflict_at_the_master : push_count s a None (then_lines (block a (set_to 1 4 ∷ []) ++ block s (set_to 1 11 ∷ set_to 2 21 ∷ [])) (after declared_lines)) ≡ counted 1 0 1 1
unfolding group_columns_of columns_step broken_rule
conflict_at_the_master = refl

refresh_shows_the_query : rows_at s (then_lines (refresh how.Fast ∷ []) conflict) ≡ (row 2 20 ∷ []) ∷ []
unfolding group_columns_of columns_step broken_rule
refresh_shows_the_query = refl

-- by the logs it looks up two keys, of which the master changed one and the site itself both
fast_counts_keys : refresh_answer s how.Fast conflict ≡ Some (record { by_logs = true; count = record { keys = 2; rows = 1 } })
unfolding group_columns_of columns_step broken_rule
fast_counts_keys = refl

complete_counts_no_keys : refresh_answer s how.Complete conflict ≡ Some (record { by_logs = false; count = record { keys = 0; rows = 1 } })
unfolding group_columns_of columns_step broken_rule
complete_counts_no_keys = refl

either_direction_hinders_a_refresh : world_refusal (refresh how.Force) (then_lines (link_down a s ∷ []) conflict) ≡ Some refusal.LinkDown
unfolding group_columns_of columns_step broken_rule
either_direction_hinders_a_refresh = refl

-- what comes from a snapshot site goes on to the other masters
abbrev onward : WorldState
onward = after (master_line a ∷ master_line b ∷ snapshot_site_line s a ∷ id_and_q ∷ snapshot [] ∷ row_line 1 10 ∷ resume ∷ block s (set_to 1 11 ∷ []) ++ push s a ∷ [])

goes_onward : push_count a b None onward ≡ counted 1 1 0 1
unfolding group_columns_of columns_step broken_rule
goes_onward = refl

comes_to_the_other_master : rows_at b (then_lines (push a b ∷ []) onward) ≡ (row 1 11 ∷ []) ∷ []
unfolding group_columns_of columns_step broken_rule
comes_to_the_other_master = refl

not_to_another_master : world_refusal (push s b) onward ≡ Some refusal.UnknownName
unfolding group_columns_of columns_step broken_rule
not_to_another_master = refl

-- ---- snapshots that are refused

abbrev before_resume : WorldState
before_resume = after (master_line a ∷ snapshot_site_line s a ∷ id_and_q ∷ [])

abbrev test : Literal → List TestWords
test value = record { column = codes "Q"; rel = rel.Eq; value = value } ∷ []

abbrev nowhere : List TestWords
nowhere = record { column = codes "NOCOL"; rel = rel.Eq; value = literal.Num (pos 1) } ∷ []

no_snapshot_at_a_master : world_refusal (command.Snapshot a t None None) before_resume ≡ Some refusal.UnknownName
unfolding group_columns_of columns_step broken_rule
no_snapshot_at_a_master = refl

unknown_column : world_refusal (snapshot nowhere) before_resume ≡ Some refusal.UnknownName
unfolding group_columns_of columns_step broken_rule
unknown_column = refl

second_snapshot_of_a_table : world_refusal (snapshot nowhere) (then_lines (snapshot [] ∷ []) before_resume) ≡ Some refusal.NameTaken
unfolding group_columns_of columns_step broken_rule
second_snapshot_of_a_table = refl

text_for_a_number : world_refusal (snapshot (test (literal.Words (codes "x")))) before_resume ≡ Some refusal.RowShape
unfolding group_columns_of columns_step broken_rule
text_for_a_number = refl

number_out_of_range : world_refusal (snapshot (test (literal.Num (pos 1000000000000001)))) before_resume ≡ Some refusal.ValueRange
unfolding group_columns_of columns_step broken_rule
number_out_of_range = refl
