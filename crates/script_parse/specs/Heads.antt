-- The first words of commands, and the form behind each.
use Rattle.std.specs.Prelude.{ℕ, List, [], ◌∷◌, codes}
use Rattle.script_words.specs.Reading.{Reading, row, ◌⊛◌}
use Rattle.script_parse.specs.declared.heads.Declaring.TheVariants as declaring
use Rattle.script_parse.specs.declared.heads.ProcHead.TheVariants as proc_head
use Rattle.script_parse.specs.declared.heads.Head.{Head}
use Rattle.script_parse.specs.declared.heads.Head.TheVariants as head
use Rattle.script_parse.specs.declared.command.Command.{Command}
use Rattle.script_parse.specs.declared.command.Command.TheVariants as command
use Rattle.script_parse.specs.Declarations.{declaration_of}
use Rattle.script_parse.specs.ProcRows.{proc_row_of}
use Rattle.script_parse.specs.Rows.{snapshot_row, subsnapshot_row, row_row, resume_row, insert_row, update_row, delete_row, txn_row, commit_row, abandon_row, push_row, fate_row, link_row, clock_row, purge_row, execute_row, drop_error_row, refresh_row, purge_log_row, suspend_row, join_row, show_row}

-- the command words that have a form
abbrev pub heads : List (List ℕ × Head)
heads =
    (codes "site", head.Declare declaring.Site) ∷
    (codes "latesite", head.Declare declaring.LateSite) ∷
    (codes "snapsite", head.Declare declaring.SnapSite) ∷
    (codes "table", head.Declare declaring.Table) ∷
    (codes "group", head.Declare declaring.Group) ∷
    (codes "method", head.Declare declaring.Method) ∷
    (codes "priority", head.Declare declaring.Priority) ∷
    (codes "site-level", head.Declare declaring.SiteLevel) ∷
    (codes "unique", head.Declare declaring.Unique) ∷
    (codes "unique-method", head.Declare declaring.UniqueMethod) ∷
    (codes "check", head.Declare declaring.Check) ∷
    (codes "convergent", head.Declare declaring.Convergent) ∷
    (codes "snapshot", head.Snapshot) ∷
    (codes "subsnapshot", head.Subsnapshot) ∷
    (codes "row", head.Row) ∷
    (codes "resume", head.Resume) ∷
    (codes "insert", head.Insert) ∷
    (codes "update", head.Update) ∷
    (codes "delete", head.Delete) ∷
    (codes "txn", head.Txn) ∷
    (codes "commit", head.Commit) ∷
    (codes "abandon", head.Abandon) ∷
    (codes "push", head.Push) ∷
    (codes "fate", head.Fate) ∷
    (codes "link", head.Link) ∷
    (codes "clock", head.Clock) ∷
    (codes "purge", head.Purge) ∷
    (codes "execute", head.Execute) ∷
    (codes "drop-error", head.DropError) ∷
    (codes "refresh", head.Refresh) ∷
    (codes "purge-log", head.PurgeLog) ∷
    (codes "suspend", head.Suspend) ∷
    (codes "join", head.Join) ∷
    (codes "show", head.Show) ∷
    (codes "proctable", head.Procedures proc_head.Table) ∷
    (codes "procedure", head.Procedures proc_head.Procedure) ∷
    (codes "calls", head.Procedures proc_head.Calls) ∷
    (codes "call", head.Procedures proc_head.Call) ∷
    (codes "send", head.Procedures proc_head.Send) ∷
    (codes "push-calls", head.Procedures proc_head.Push) ∷
    (codes "fate-calls", head.Procedures proc_head.Fates) ∷
    (codes "execute-calls", head.Procedures proc_head.Execute) ∷
    []

-- the form behind a command word
abbrev pub row_of : Head → Reading Command
row_of (head.Declare d) = row command.Declare ⊛ declaration_of d
row_of head.Snapshot = snapshot_row
row_of head.Subsnapshot = subsnapshot_row
row_of head.Row = row_row
row_of head.Resume = resume_row
row_of head.Insert = insert_row
row_of head.Update = update_row
row_of head.Delete = delete_row
row_of head.Txn = txn_row
row_of head.Commit = commit_row
row_of head.Abandon = abandon_row
row_of head.Push = push_row
row_of head.Fate = fate_row
row_of head.Link = link_row
row_of head.Clock = clock_row
row_of head.Purge = purge_row
row_of head.Execute = execute_row
row_of head.DropError = drop_error_row
row_of head.Refresh = refresh_row
row_of head.PurgeLog = purge_log_row
row_of head.Suspend = suspend_row
row_of head.Join = join_row
row_of head.Show = show_row
row_of (head.Procedures h) = row command.Procedures ⊛ proc_row_of h
