-- Why a line is refused: the first of its steps that refuses it. The phase comes first, then names from left to right, and
-- then links, queues, logs, shapes, errors and ranges.
use Rattle.std.specs.Prelude.{ℕ, ◌-◌, ◌^◌, min, ◌&&◌, ◌||◌, Bool, true, false, not, cond, nat_lt, pos, List, [], ◌∷◌, map, sum, length, Option, Some, None}
use Rattle.std.specs.List.{list_all}
use Rattle.rep_values.specs.declared.name.SiteName.{SiteName}
use Rattle.rep_values.specs.declared.name.TableName.{TableName}
use Rattle.rep_values.specs.declared.refusal.Refusal.{Refusal}
use Rattle.rep_values.specs.declared.refusal.Refusal.TheVariants as refusal
use Rattle.rep_values.specs.RefusalSteps.{refused, or_then, first_refusal, unknown, taken, known}
use Rattle.rep_schema.specs.declared.schema.SiteEntry.{SiteEntry}
use Rattle.rep_schema.specs.declared.schema.Column.{Column}
use Rattle.rep_schema.specs.declared.schema.Kind.{Kind}
use Rattle.rep_schema.specs.Tables.{columns_of, key_columns}
use Rattle.rep_schema.specs.Kinds.{is_some_and, takes_numbers}
use Rattle.rep_schema.specs.Named.{has_column, column_named, table_place}
use Rattle.rep_declare.specs.Refusals.{out_of_range, declare_refusal}
use Rattle.local_txn.specs.BaseRows.{base_refusal}
use Rattle.snapshot_query.specs.declared.parent.Parent.{Parent}
use Rattle.snapshot_query.specs.declared.snapshot.Snapshot.{Snapshot}
use Rattle.net_plan.specs.Directions.{is_up}
use Rattle.site_state.specs.State.{DestinationState, SiteState}
use Rattle.change_logs.specs.LogState.{LogState}
use Rattle.site_state.specs.Streams.{stream_to}
use Rattle.change_logs.specs.Noting.{log_of, purged_of, is_too_young}
use Rattle.site_state.specs.Errors.{execute_refusal, drop_refusal}
use Rattle.rep_schema.specs.Sites.{is_late_master}
use Rattle.site_events.specs.Cluster.{site_of}
use Rattle.site_events.specs.Quiet.{unquiet_at}
use Rattle.site_events.specs.Events.{is_all_acked, master_of, found_site, is_master_in}
use Rattle.script_parse.specs.declared.command.Refresh.{Refresh}
use Rattle.script_parse.specs.declared.command.Refresh.TheVariants as refresh
use Rattle.script_parse.specs.declared.command.Shown.{Shown}
use Rattle.script_parse.specs.declared.command.Shown.TheVariants as shown
use Rattle.script_parse.specs.declared.command.ParentWords.{ParentWords}
use Rattle.script_parse.specs.declared.command.TestWords.{TestWords}
use Rattle.script_parse.specs.declared.command.Command.{Command}
use Rattle.script_parse.specs.declared.command.Command.TheVariants as command
use Rattle.world_state.specs.World.{WorldState, is_there, gets_from}
use Rattle.world_state.specs.Declaring.{has_snapshot, tests_in}
use Rattle.world_state.specs.Blocks.{commit_refusal}
use Rattle.world_state.specs.Phases.{phase_step}
use Rattle.world_state.specs.Procs.{proc_of}
use Rattle.world_state.specs.Testing.{has_columns, is_of_column, test_in_range}
use Rattle.world_state.specs.ProcRefusals.{test_steps, declaring_step, proc_steps}

-- ---- names

abbrev pub are_there : WorldState → SiteName → SiteName → Bool
are_there w a b = is_there w a && is_there w b

-- a site has another one as a sender, and both are there
abbrev pub has_sender : WorldState → SiteName → SiteName → Bool
has_sender w site origin = are_there w site origin && gets_from w site origin

-- there is a link between two sites: one of them has the other as a sender
abbrev pub has_link : WorldState → SiteName → SiteName → Bool
has_link w a b = has_sender w a b || has_sender w b a

-- ---- links, queues and logs

abbrev pub waiting_for : SiteState → DestinationState → ℕ
waiting_for x d = length (stream_to d.site x) - d.acked

-- how many of a site's transactions aren't acknowledged
abbrev pub waiting_count : SiteState → ℕ
waiting_count x = sum (map (waiting_for x) x.destinations)

-- the log of a snapshot's parents was purged above its mark
abbrev pub young_parents_step : List LogState → ℕ → Option Parent → Option Refusal
young_parents_step logs mark None = None
young_parents_step logs mark (Some p) = refused (nat_lt mark (purged_of p.table logs)) (refusal.LogTooYoung (purged_of p.table logs) mark)

-- the first snapshot of which a log was purged above its mark: of its table, or else of its parents
abbrev pub young_step : List LogState → List Snapshot → Option Refusal
young_step logs [] = None
young_step logs (s ∷ ss) = or_then (refused (is_too_young logs s) (refusal.LogTooYoung (purged_of s.table logs) s.mark)) (or_then (young_parents_step logs s.mark s.parent) (young_step logs ss))

-- a refresh goes by logs alone where it is asked to
abbrev pub log_step : Refresh → List LogState → List Snapshot → Option Refusal
log_step refresh.Fast logs snapshots = young_step logs snapshots
log_step refresh.Complete logs snapshots = None
log_step refresh.Force logs snapshots = None

-- a refresh of a snapshot site from its master: both directions are up, all is acknowledged, and the logs reach back
abbrev pub refresh_steps : Refresh → SiteState → SiteState → WorldState → List (Option Refusal)
refresh_steps mode x master w =
    refused (not (is_up x.here.site master.here.site w.net && is_up master.here.site x.here.site w.net)) refusal.LinkDown ∷
    refused (not (is_all_acked x)) (refusal.QueueNotEmpty (waiting_count x)) ∷
    log_step mode master.logs x.snapshots ∷ []

-- ---- joins

-- how much hinders a join at a site, as it is told: the count stands still at the end of its type
abbrev pub unquiet_told : List SiteState → SiteState → ℕ
unquiet_told sites x = min (2 ^ 64 - 1) (unquiet_at sites x)

abbrev pub unquiet_step : List SiteState → Option SiteState → Option Refusal
unquiet_step sites None = None
unquiet_step sites (Some x) = refused (x.here.is_master && nat_lt 0 (unquiet_at sites x)) (refusal.NotQuiet x.here.site (unquiet_told sites x))

-- the first master in declared order at which something hinders it
abbrev pub quiet_step : List SiteState → List SiteEntry → Option Refusal
quiet_step sites [] = None
quiet_step sites (e ∷ es) = or_then (unquiet_step sites (site_of e.name sites)) (quiet_step sites es)

-- ---- snapshots

abbrev pub snapshot_steps : WorldState → SiteName → ℕ → List TestWords → List (Option Refusal)
snapshot_steps w site table tests =
    refused (has_snapshot w.snapshots site table) refusal.NameTaken ∷
    refused (not (has_columns (columns_of w.schema table) tests)) refusal.UnknownName ∷
    refused (not (list_all (is_of_column (columns_of w.schema table)) tests)) refusal.RowShape ∷
    refused (not (list_all test_in_range tests)) refusal.ValueRange ∷ []

-- of two kinds both take numbers, or both take texts
abbrev pub are_alike : Kind → Kind → Bool
are_alike k l = cond (takes_numbers k) (takes_numbers l) (not (takes_numbers l))

-- columns hold keys: they are as many as the key columns, and alike in kind
abbrev pub hold_keys : List Column → List (List ℕ) → List Column → Bool
hold_keys columns [] [] = true
hold_keys columns [] (k ∷ ks) = false
hold_keys columns (n ∷ ns) [] = false
hold_keys columns (n ∷ ns) (k ∷ ks) = is_some_and (λ (c : Column). are_alike c.kind k.kind) (column_named columns n) && hold_keys columns ns ks

-- the columns that hold the keys of parents, and the tests of these
abbrev pub parent_steps : List Column → List Column → List (List ℕ) → List TestWords → List (Option Refusal)
parent_steps own parents columns tests =
    refused (not (list_all (has_column own) columns)) refusal.UnknownName ∷
    first_refusal (test_steps (hold_keys own columns (key_columns parents)) parents tests) ∷ []

abbrev pub subsnapshot_steps : WorldState → SiteName → ℕ → ParentWords → List TestWords → List (Option Refusal)
subsnapshot_steps w site table p tests =
    refused (has_snapshot w.snapshots site table) refusal.NameTaken ∷
    first_refusal (known (table_place w.schema p.table) (λ place. parent_steps (columns_of w.schema table) (columns_of w.schema place) p.columns tests)) ∷ []

abbrev pub snapshot_steps_by : WorldState → SiteName → ℕ → Option ParentWords → List TestWords → List (Option Refusal)
snapshot_steps_by w site table None tests = snapshot_steps w site table tests
snapshot_steps_by w site table (Some p) tests = subsnapshot_steps w site table p tests

-- a snapshot of a table at a snapshot site
abbrev pub named_snapshot_steps : WorldState → SiteName → TableName → Option ParentWords → List TestWords → List (Option Refusal)
named_snapshot_steps w site table parent tests = known (master_of w.schema site) (λ master. known (table_place w.schema table) (λ place. snapshot_steps_by w site place parent tests))

-- ---- what is shown

-- a site whose calls are shown holds tables of procedures
abbrev pub shown_step : Shown → SiteName → WorldState → Option Refusal
shown_step shown.Tables site w = unknown (site_of site w.sites)
shown_step shown.Queue site w = unknown (site_of site w.sites)
shown_step shown.Errors site w = unknown (site_of site w.sites)
shown_step shown.Marks site w = unknown (site_of site w.sites)
shown_step shown.Journal site w = unknown (site_of site w.sites)
shown_step shown.Log site w = unknown (site_of site w.sites)
shown_step shown.Calls site w = unknown (proc_of site w.procs.sites)

-- ---- a line

-- the steps of a line behind the phase
abbrev pub further_steps : Command → WorldState → List (Option Refusal)
further_steps command.Nothing w = []
further_steps (command.Declare declaration) w = declaring_step declaration w ∷ declare_refusal w.schema declaration ∷ []
further_steps (command.Snapshot site table parent tests) w = named_snapshot_steps w site table parent (tests_in tests)
further_steps (command.Row table values) w = base_refusal w.schema w.base table values ∷ []
further_steps command.Resume w = []
further_steps (command.Statement statement) w = []
further_steps (command.Txn site) w = unknown (site_of site w.sites) ∷ []
further_steps command.Commit w = commit_refusal w ∷ []
further_steps command.Abandon w = []
further_steps (command.Push from to count) w = refused (not (has_sender w to from)) refusal.UnknownName ∷ refused (not (is_up from to w.net)) refusal.LinkDown ∷ []
further_steps (command.Fates from to fates) w = refused (not (has_link w from to)) refusal.UnknownName ∷ []
further_steps (command.ClearFates from to) w = refused (not (has_link w from to)) refusal.UnknownName ∷ []
further_steps (command.Link from to link) w = refused (not (has_link w from to)) refusal.UnknownName ∷ []
further_steps (command.Clock site time) w = unknown (site_of site w.sites) ∷ out_of_range (pos time) ∷ []
further_steps (command.Purge site) w = unknown (site_of site w.sites) ∷ []
further_steps (command.Execute site origin position) w =
    known (site_of site w.sites) (λ x. refused (not (has_sender w site origin)) refusal.UnknownName ∷ execute_refusal origin position x ∷ [])
further_steps (command.DropError site origin position) w =
    known (site_of site w.sites) (λ x. refused (not (has_sender w site origin)) refusal.UnknownName ∷ drop_refusal origin position x ∷ [])
further_steps (command.Refresh site how) w =
    known (site_of site w.sites) (λ x. known (found_site w.sites (master_of w.schema site)) (λ master. refresh_steps how x master w))
further_steps (command.PurgeLog master table) w =
    known (site_of master w.sites) (λ x. known (table_place w.schema table) (λ place. unknown (log_of place x.logs) ∷ []))
further_steps command.Suspend w = []
further_steps (command.Join site source) w =
    refused (not (is_late_master w.schema site)) refusal.UnknownName ∷
    taken (site_of site w.sites) ∷
    refused (not (is_master_in (site_of source w.sites))) refusal.UnknownName ∷
    quiet_step w.sites w.schema.sites ∷ []
further_steps (command.Show what site) w = shown_step what site w ∷ []
further_steps (command.Procedures line) w = proc_steps line w

-- why a line is refused, if it is
abbrev pub world_refusal : Command → WorldState → Option Refusal
world_refusal command w = or_then (phase_step command w) (first_refusal (further_steps command w))
