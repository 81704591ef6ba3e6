-- A script with a snapshot: it declares well, a refresh goes by the key that the master changed, and shows what the master has.
use Rattle.std.specs.Prelude.{◌≡◌, refl, codes, pos, ◌++◌, flat_map, List, [], ◌∷◌, Option, Some, None}
use Rattle.rep_values.specs.declared.refusal.Refusal.{Refusal}
use Rattle.rep_values.specs.declared.refusal.Refusal.TheVariants as refusal
use Rattle.rep_values.specs.declared.literal.Literal.TheVariants as literal
use Rattle.rep_schema.specs.declared.check.Rel.TheVariants as rel
use Rattle.rep_schema.specs.Tables.{Cells}
use Rattle.rep_schema.specs.Groups.{group_columns_of}
use Rattle.rep_declare.specs.Refusals.{columns_step}
use Rattle.schema_rules.specs.Rules.{broken_rule}
use Rattle.site_state.specs.State.{SiteState}
use Rattle.change_logs.specs.LogState.{LogState}
use Rattle.change_logs.specs.Noting.{pending_keys}
use Rattle.site_state.proofs.WorkedSites.{a, s, n, row, set_to}
use Rattle.site_events.specs.Cluster.{site_of}
use Rattle.script_parse.specs.declared.command.Command.{Command}
use Rattle.script_parse.specs.declared.command.Command.TheVariants as command
use Rattle.script_parse.specs.declared.command.Refresh.TheVariants as how
use Rattle.world_state.specs.World.{WorldState}
use Rattle.world_state.specs.Refusals.{young_step}
use Rattle.world_state.specs.Steps.{world_step}
use Rattle.world_state.proofs.WorkedScripts.{t, master_line, snapshot_site_line, id_and_q, row_line, resume, block, stepped, rows_at}
use Rattle.world_laws.specs.Scripts.{script_world}
use Rattle.world_laws.specs.WellDeclared.{DeclaresWell}
use Rattle.world_laws.specs.Sites.{master_in}
use Rattle.world_laws.specs.Refreshes.{ShowsItsMaster}
use Rattle.world_laws.proofs.SnapshotScripts.{scripts_declare_well, refreshes_show_in_scripts}

-- a snapshot of the rows whose Q is above 5
abbrev snapshot_line : Command
snapshot_line = command.Snapshot s t None (Some (record { column = codes "Q"; rel = rel.Gt; value = literal.Num (pos 5) } ∷ []))

abbrev declared_lines : List Command
declared_lines = master_line a ∷ snapshot_site_line s a ∷ id_and_q ∷ snapshot_line ∷ row_line 1 10 ∷ row_line 2 20 ∷ row_line 3 3 ∷ []

declares_well : DeclaresWell (script_world declared_lines)
unfolding group_columns_of columns_step broken_rule
declares_well = scripts_declare_well declared_lines (tt, (tt, (tt, (tt, (tt, (tt, (tt, tt))))))) refl refl

-- ---- the master changes a row, which leaves the query

abbrev changing_lines : List Command
changing_lines = declared_lines ++ resume ∷ block a (set_to 1 4 ∷ [])

abbrev changed : WorldState
changed = script_world changing_lines

abbrev of_both : {X : Type 0} → X → (SiteState → SiteState → X) → Option SiteState → Option SiteState → X
of_both other f None x = other
of_both other f (Some m) None = other
of_both other f (Some m) (Some x) = f m x

-- something of the snapshot site and its master
abbrev both : {X : Type 0} → X → (SiteState → SiteState → X) → WorldState → X
both other f w = of_both other f (master_in s w) (site_of s w.sites)

abbrev pending : WorldState → List Cells
pending w = both [] (λ m x. flat_map (pending_keys m.logs) x.snapshots) w

abbrev young : WorldState → Option Refusal
young w = both None (λ m x. young_step m.logs x.snapshots) w

key_is_pending : pending changed ≡ (n 1 ∷ []) ∷ []
unfolding group_columns_of columns_step broken_rule
key_is_pending = refl

snapshot_has_the_old_row : rows_at s changed ≡ (row 1 10 ∷ row 2 20 ∷ []) ∷ []
unfolding group_columns_of columns_step broken_rule
snapshot_has_the_old_row = refl

log_reaches_back : young changed ≡ None
unfolding group_columns_of columns_step broken_rule
log_reaches_back = refl

purged_log_is_too_young : young (stepped 12 (command.PurgeLog a t ∷ []) changed) ≡ Some (refusal.LogTooYoung 1 0)
unfolding group_columns_of columns_step broken_rule
purged_log_is_too_young = refl

-- ---- and it is refreshed

refresh_shows_the_master : ShowsItsMaster s changed (world_step 12 (command.Refresh s how.Fast) changed)
unfolding group_columns_of columns_step broken_rule
refresh_shows_the_master = refreshes_show_in_scripts changing_lines (tt, (tt, (tt, (tt, (tt, (tt, (tt, (tt, (tt, (tt, (tt, tt))))))))))) 12 s how.Fast refl

row_is_taken : rows_at s (stepped 12 (command.Refresh s how.Fast ∷ []) changed) ≡ (row 2 20 ∷ []) ∷ []
unfolding group_columns_of columns_step broken_rule
row_is_taken = refl

nothing_is_pending : pending (stepped 12 (command.Refresh s how.Fast ∷ []) changed) ≡ []
unfolding group_columns_of columns_step broken_rule
nothing_is_pending = refl

-- ---- and changed again

-- what was logged up to the mark is pending no more, and what is logged above it is
abbrev changed_again : WorldState
changed_again = stepped 12 (command.Refresh s how.Fast ∷ block a (set_to 2 21 ∷ [])) changed

both_keys_are_logged : both [] (λ m x. flat_map (λ (log : LogState). log.keys) m.logs) changed_again ≡ record { key = n 1 ∷ []; moment = 1 } ∷ record { key = n 2 ∷ []; moment = 2 } ∷ []
unfolding group_columns_of columns_step broken_rule
both_keys_are_logged = refl

key_above_the_mark_is_pending : pending changed_again ≡ (n 2 ∷ []) ∷ []
unfolding group_columns_of columns_step broken_rule
key_above_the_mark_is_pending = refl

-- a log that is purged up to the mark, and no further, still reaches back
purged_to_the_mark : young (stepped 12 (command.Refresh s how.Fast ∷ command.PurgeLog a t ∷ []) changed) ≡ None
unfolding group_columns_of columns_step broken_rule
purged_to_the_mark = refl

purged_above_the_mark : young (stepped 16 (command.PurgeLog a t ∷ []) changed_again) ≡ Some (refusal.LogTooYoung 2 1)
unfolding group_columns_of columns_step broken_rule
purged_above_the_mark = refl
