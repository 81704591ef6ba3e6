-- What a line about procedures does.
use Rattle.std.specs.Prelude.{ℕ, List}
use Rattle.net_plan.specs.Directions.{Direction, at_direction, with_fates, is_up}
use Rattle.proc_state.specs.Errors.{proc_execute}
use Rattle.script_parse.specs.declared.proc_line.ProcLine.{ProcLine}
use Rattle.script_parse.specs.declared.proc_line.ProcLine.TheVariants as proc_line
use Rattle.world_state.specs.Procs.{Procs, at_proc}
use Rattle.world_state.specs.ProcDeclaring.{with_proc_table, with_procedure}
use Rattle.world_state.specs.CallBlocks.{calls_opened, with_call, calls_sent}
use Rattle.world_state.specs.CallPushes.{calls_push}

-- what the line of a number does where it isn't refused; the links of the first net hold for calls too
abbrev pub procs_done : ℕ → ProcLine → List Direction → Procs → Procs
procs_done number (proc_line.Table name columns) net p = with_proc_table name columns p
procs_done number (proc_line.Procedure name table does) net p = with_procedure name table does p
procs_done number (proc_line.Calls site) net p = calls_opened site p
procs_done number (proc_line.Call call) net p = with_call number call p
procs_done number (proc_line.Send to) net p = calls_sent to p
procs_done number (proc_line.Push from to) net p = calls_push (is_up to from net) from to p
procs_done number (proc_line.Fates from to fates) net p = record p { net = at_direction from to (with_fates fates) p.net }
procs_done number (proc_line.Execute site origin position) net p = record p { sites = at_proc site (proc_execute origin position) p.sites }
