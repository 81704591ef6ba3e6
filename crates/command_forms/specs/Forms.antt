-- The form of each command, by its first word.
use Rattle.script_parse.specs.declared.heads.Declaring.{Declaring}
use Rattle.script_parse.specs.declared.heads.Declaring.TheVariants as declaring
use Rattle.script_parse.specs.declared.heads.ProcHead.{ProcHead}
use Rattle.script_parse.specs.declared.heads.ProcHead.TheVariants as proc_head
use Rattle.script_parse.specs.declared.heads.Head.{Head}
use Rattle.script_parse.specs.declared.heads.Head.TheVariants as head
use Rattle.command_forms.specs.declared.forms.Form.{Form}
use Rattle.command_forms.specs.declared.forms.Form.TheVariants as form

-- the form of a declaration
abbrev pub form_of_declaring : Declaring → Form
form_of_declaring declaring.Site = form.Site
form_of_declaring declaring.LateSite = form.LateSite
form_of_declaring declaring.SnapSite = form.SnapSite
form_of_declaring declaring.Table = form.Table
form_of_declaring declaring.Group = form.Group
form_of_declaring declaring.Method = form.Method
form_of_declaring declaring.Priority = form.Priority
form_of_declaring declaring.SiteLevel = form.SiteLevel
form_of_declaring declaring.Unique = form.Unique
form_of_declaring declaring.UniqueMethod = form.UniqueMethod
form_of_declaring declaring.Check = form.Check
form_of_declaring declaring.Convergent = form.Convergent

-- the form of a line about procedures
abbrev pub form_of_proc_head : ProcHead → Form
form_of_proc_head proc_head.Table = form.ProcTable
form_of_proc_head proc_head.Procedure = form.Procedure
form_of_proc_head proc_head.Calls = form.Calls
form_of_proc_head proc_head.Call = form.Call
form_of_proc_head proc_head.Send = form.Send
form_of_proc_head proc_head.Push = form.PushCalls
form_of_proc_head proc_head.Fates = form.FateCalls
form_of_proc_head proc_head.Execute = form.ExecuteCalls

-- the form of a command
abbrev pub form_of_head : Head → Form
form_of_head (head.Declare d) = form_of_declaring d
form_of_head head.Snapshot = form.Snapshot
form_of_head head.Subsnapshot = form.Subsnapshot
form_of_head head.Row = form.Row
form_of_head head.Resume = form.Resume
form_of_head head.Insert = form.Insert
form_of_head head.Update = form.Update
form_of_head head.Delete = form.Delete
form_of_head head.Txn = form.Txn
form_of_head head.Commit = form.Commit
form_of_head head.Abandon = form.Abandon
form_of_head head.Push = form.Push
form_of_head head.Fate = form.Fate
form_of_head head.Link = form.Link
form_of_head head.Clock = form.Clock
form_of_head head.Purge = form.Purge
form_of_head head.Execute = form.Execute
form_of_head head.DropError = form.DropError
form_of_head head.Refresh = form.Refresh
form_of_head head.PurgeLog = form.PurgeLog
form_of_head head.Suspend = form.Suspend
form_of_head head.Join = form.Join
form_of_head head.Show = form.Show
form_of_head (head.Procedures h) = form_of_proc_head h
