-- How a send ends, and an execution.
use Rattle.std.specs.Prelude.{◌≡◌, ℕ, Option, Some, None}
use Rattle.rep_values.specs.declared.name.SiteName.{SiteName}
use Rattle.rep_values.specs.declared.refusal.Refusal.{Refusal}
use Rattle.rep_values.specs.declared.refusal.Refusal.TheVariants as refusal
use Rattle.proc_state.specs.State.{ProcState}
use Rattle.proc_state.specs.Errors.{proc_execute_refusal}
use Rattle.proc_calls.specs.declared.stop.ProcStop.{ProcStop}
use Rattle.proc_calls.specs.declared.stop.ProcStop.TheVariants as of_proc
use Rattle.world_state.specs.declared.call_block.CallStop.{CallStop}
use Rattle.world_state.specs.declared.refused.Refused.{Refused}
use Rattle.world_state.specs.Procs.{Procs}
use Rattle.world_state.specs.CallBlocks.{calls_closed, send_stop, called_line}
use Rattle.world_calls.specs.declared.sending.SendStop.{SendStop}
use Rattle.world_calls.specs.declared.sending.SendStop.TheVariants as stop
use Rattle.world_calls.specs.declared.sending.SendEnd.{SendEnd}
use Rattle.world_calls.specs.declared.sending.SendEnd.TheVariants as ending

-- a call that fails takes a number out of its range
abbrev pub call_stop_of : ProcStop → SendStop
call_stop_of (of_proc.Failed call error) = stop.At (record { call = call; refusal = refusal.ValueRange })
call_stop_of of_proc.Memory = stop.Memory

-- a call is refused that stops the calls; want of memory needs no cause
abbrev pub StopsSend : Option CallStop → SendStop → Type 0
StopsSend stops (stop.At at) = stops ≡ Some at
StopsSend stops stop.Memory = Unit {0}

-- a call of the open block is refused: its line is told, and the block is closed
pub record IsStopped (line : ℕ) (old new : Procs) (r : Refused) : Type 0 where
  pub at : CallStop
  pub stops : send_stop old ≡ Some at
  pub told : r ≡ record { line = called_line line old.block (Some at); refusal = at.refusal }
  pub closed : new ≡ calls_closed old

-- so a send ends whose calls aren't made; want of memory leaves all as it was
abbrev pub EndsSend : ℕ → Procs → Procs → SendEnd → Type 0
EndsSend line old new (ending.Refused r) = IsStopped line old new r
EndsSend line old new ending.Memory = new ≡ old

-- why an error isn't executed at a site, if it isn't; where the site isn't there nothing is
abbrev pub execute_stop : SiteName → ℕ → Option ProcState → Option Refusal
execute_stop origin position None = None
execute_stop origin position (Some x) = proc_execute_refusal origin position x
