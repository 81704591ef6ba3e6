-- What the lines of a script print that aren't refused.
use Rattle.std.specs.Prelude.{ℕ, ◌==◌, cond, List, [], ◌++◌, filter, Option, Some, None}
use Rattle.std.specs.List.{flat_map}
use Rattle.rep_values.specs.declared.name.SiteName.{SiteName}
use Rattle.rep_values.specs.declared.name.TableName.{TableName}
use Rattle.rep_schema.specs.Named.{table_place}
use Rattle.rep_schema.specs.Sites.{senders_of, destinations_of}
use Rattle.report_text.specs.Texts.{commit_text, nothing_committed_text, purge_text, purge_log_text, refresh_fast_text, refresh_complete_text, join_text, execute_text, drop_error_text, push_text, tables_text, sent_text, nothing_sent_text, push_calls_text, execute_calls_text, proc_tables_text}
use Rattle.report_text.specs.Refusals.{error_text, refused_text}
use Rattle.site_report.specs.Shows.{errors_text, journal_text, log_text, marks_text, queue_text}
use Rattle.error_queue.specs.declared.entry.ErrorEntry.{ErrorEntry}
use Rattle.script_parse.specs.declared.command.Shown.{Shown}
use Rattle.script_parse.specs.declared.command.Shown.TheVariants as shown
use Rattle.script_parse.specs.declared.command.Command.{Command}
use Rattle.script_parse.specs.declared.command.Command.TheVariants as command
use Rattle.script_parse.specs.declared.proc_line.ProcLine.{ProcLine}
use Rattle.script_parse.specs.declared.proc_line.ProcLine.TheVariants as proc_line
use Rattle.site_state.specs.State.{SiteState}
use Rattle.site_state.specs.Contents.{tables_of}
use Rattle.site_events.specs.Cluster.{site_of}
use Rattle.proc_state.specs.State.{ProcState, proc_tables}
use Rattle.world_state.specs.declared.block.Block.{Block}
use Rattle.world_state.specs.declared.call_block.CallBlock.{CallBlock}
use Rattle.world_state.specs.declared.refused.Refused.{Refused}
use Rattle.world_state.specs.World.{WorldState, is_there}
use Rattle.world_state.specs.Answers.{RefreshTold, commit_number, purge_count, log_purge_count, refresh_answer, join_count}
use Rattle.world_state.specs.PushAnswers.{push_count, push_errors}
use Rattle.world_state.specs.Procs.{Procs, proc_of}
use Rattle.world_state.specs.CallBlocks.{sent_number}
use Rattle.world_state.specs.CallPushes.{calls_push_count, calls_push_errors}
use Rattle.world_state.specs.Steps.{step_refused}

-- a commit's number, or that nothing was committed
abbrev pub committed_text : SiteName → ℕ → List ℕ
committed_text site number = cond (number == 0) (nothing_committed_text site.0) (commit_text site.0 number)

abbrev pub block_text : Option Block → ℕ → List ℕ
block_text None number = []
block_text (Some block) number = committed_text block.site number

-- a new error
abbrev pub new_error_text : ErrorEntry → List ℕ
new_error_text e = error_text e.origin.0 e.position e.call e.error

-- a push, and the errors that it brought
abbrev pub pushed_text : SiteName → SiteName → Option ℕ → WorldState → List ℕ
pushed_text from to count w = push_text from.0 to.0 (push_count from to count w) ++ flat_map new_error_text (push_errors from to count w)

-- a refresh by the logs, with the keys that were looked up, or by all rows; and the rows that the snapshots have
abbrev pub refreshed_text : SiteName → Option RefreshTold → List ℕ
refreshed_text site None = []
refreshed_text site (Some told) = cond told.by_logs (refresh_fast_text site.0 told.count.keys told.count.rows) (refresh_complete_text site.0 told.count.rows)

-- a purge of the log of a table at its place
abbrev pub log_purged_text : SiteName → TableName → Option ℕ → WorldState → List ℕ
log_purged_text master table None w = []
log_purged_text master table (Some place) w = purge_log_text master.0 table.0 (log_purge_count master place w)

-- the senders and destinations of a site that are there
abbrev pub senders_there : WorldState → SiteName → List SiteName
senders_there w site = filter (is_there w) (senders_of w.schema site)

abbrev pub destinations_there : WorldState → SiteName → List SiteName
destinations_there w site = filter (is_there w) (destinations_of w.schema site)

-- what is shown of a site; its tables of procedures stand elsewhere
abbrev pub shown_text : Shown → SiteName → SiteState → WorldState → List ℕ
shown_text shown.Tables site x w = tables_text site.0 x.here.tables x.schema (tables_of x)
shown_text shown.Queue site x w = queue_text site.0 (destinations_there w site) x
shown_text shown.Errors site x w = errors_text site.0 x
shown_text shown.Marks site x w = marks_text site.0 (senders_there w site) (destinations_there w site) x
shown_text shown.Journal site x w = journal_text site.0 x
shown_text shown.Log site x w = log_text site.0 x
shown_text shown.Calls site x w = []

abbrev pub shown_found : Shown → SiteName → Option SiteState → WorldState → List ℕ
shown_found what site None w = []
shown_found what site (Some x) w = shown_text what site x w

-- ---- procedures

-- the number under which calls are queued, or that nothing was sent
abbrev pub calls_sent_text : SiteName → ℕ → List ℕ
calls_sent_text site number = cond (number == 0) (nothing_sent_text site.0) (sent_text site.0 number)

abbrev pub call_block_text : Option CallBlock → ℕ → List ℕ
call_block_text None number = []
call_block_text (Some block) number = calls_sent_text block.site number

-- a push of calls, and the errors that it brought
abbrev pub calls_pushed_text : SiteName → SiteName → Procs → List ℕ
calls_pushed_text from to p = push_calls_text from.0 to.0 (calls_push_count from to p) ++ flat_map new_error_text (calls_push_errors from to p)

-- what a line about procedures prints
abbrev pub procs_text : ProcLine → Procs → List ℕ
procs_text (proc_line.Table table columns) p = []
procs_text (proc_line.Procedure procedure table does) p = []
procs_text (proc_line.Calls site) p = []
procs_text (proc_line.Call call) p = []
procs_text (proc_line.Send to) p = call_block_text p.block (sent_number p)
procs_text (proc_line.Push from to) p = calls_pushed_text from to p
procs_text (proc_line.Fates from to fates) p = []
procs_text (proc_line.Execute site origin position) p = execute_calls_text site.0 origin.0 position

-- what is shown of a site's tables of procedures
abbrev pub shown_calls : SiteName → Option ProcState → List ℕ
shown_calls site None = []
shown_calls site (Some x) = proc_tables_text site.0 x.schema (proc_tables x)

-- ---- every line

-- what a line prints that shows something
abbrev pub show_text : Shown → SiteName → WorldState → List ℕ
show_text shown.Tables site w = shown_found shown.Tables site (site_of site w.sites) w
show_text shown.Queue site w = shown_found shown.Queue site (site_of site w.sites) w
show_text shown.Errors site w = shown_found shown.Errors site (site_of site w.sites) w
show_text shown.Marks site w = shown_found shown.Marks site (site_of site w.sites) w
show_text shown.Journal site w = shown_found shown.Journal site (site_of site w.sites) w
show_text shown.Log site w = shown_found shown.Log site (site_of site w.sites) w
show_text shown.Calls site w = shown_calls site (proc_of site w.procs.sites)

-- what a line prints
abbrev pub world_text : Command → WorldState → List ℕ
world_text command.Nothing w = []
world_text (command.Declare declaration) w = []
world_text (command.Snapshot site table parent tests) w = []
world_text (command.Row table values) w = []
world_text command.Resume w = []
world_text (command.Statement statement) w = []
world_text (command.Txn site) w = []
world_text command.Commit w = block_text w.block (commit_number w)
world_text command.Abandon w = []
world_text (command.Push from to count) w = pushed_text from to count w
world_text (command.Fates from to fates) w = []
world_text (command.ClearFates from to) w = []
world_text (command.Link from to word) w = []
world_text (command.Clock site time) w = []
world_text (command.Purge site) w = purge_text site.0 (purge_count site w)
world_text (command.Execute site origin position) w = execute_text site.0 origin.0 position
world_text (command.DropError site origin position) w = drop_error_text site.0 origin.0 position
world_text (command.Refresh site how) w = refreshed_text site (refresh_answer site how w)
world_text (command.PurgeLog master table) w = log_purged_text master table (table_place w.schema table) w
world_text command.Suspend w = []
world_text (command.Join site source) w = join_text site.0 source.0 (join_count source w)
world_text (command.Show what site) w = show_text what site w
world_text (command.Procedures line) w = procs_text line w.procs

abbrev pub told_text : Option Refused → Command → WorldState → List ℕ
told_text None command w = world_text command w
told_text (Some r) command w = refused_text r.line r.refusal

-- what the line of a number prints: what its command tells, or why it is refused
abbrev pub line_text : ℕ → Command → WorldState → List ℕ
line_text number command w = told_text (step_refused number command w) command w
