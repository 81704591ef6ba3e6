-- What comes of a line.
use Rattle.std.specs.Prelude.{◌≡◌, ◌⊎◌, ℕ, Bool, true, false, Option, Some, None, Result, Ok, Err}
use Rattle.rep_values.specs.declared.name.SiteName.{SiteName}
use Rattle.rep_values.specs.declared.refusal.Refusal.{Refusal}
use Rattle.rep_values.specs.declared.refusal.Refusal.TheVariants as refusal
use Rattle.script_parse.specs.declared.command.Command.{Command}
use Rattle.script_parse.specs.declared.command.Command.TheVariants as command
use Rattle.script_parse.specs.declared.command.Command.TheVariants.{Push, Procedures}
use Rattle.script_parse.specs.declared.proc_line.ProcLine.{ProcLine}
use Rattle.script_parse.specs.declared.proc_line.ProcLine.TheVariants as proc_line
use Rattle.world_state.specs.declared.refused.Refused.{Refused}
use Rattle.world_state.specs.World.{WorldState}
use Rattle.world_state.specs.Refusals.{world_refusal}
use Rattle.world_state.specs.Steps.{world_done, world_refused, step_refused}
use Rattle.world.specs.declared.answer.Answer.{Answer}
use Rattle.world.specs.declared.answer.CommandStop.{CommandStop}
use Rattle.world.specs.declared.answer.CommandStop.TheVariants as stop
use Rattle.world.specs.Following.{PushesInPart}
use Rattle.world.specs.Calling.{CallsPushInPart}
use Rattle.world.specs.Precheck.{refuses_late, precheck_refusal}
use Rattle.world.specs.Outcomes.{world_outcome}
use Rattle.world.specs.Texts.{world_text}

-- a line pushes calls
abbrev pub is_push_of_calls : ProcLine → Bool
is_push_of_calls (proc_line.Push from to) = true
is_push_of_calls _ = false

-- a line pushes
abbrev pub is_push : Command → Bool
is_push (command.Push from to count) = true
is_push (command.Procedures line) = is_push_of_calls line
is_push _ = false

-- a push of calls was done in part, and beside what there is of procedures all is as it was
pub record PushesCallsInPart (from to : SiteName) (old new : WorldState) : Type 0 where
  pub part : CallsPushInPart from to old.procs new.procs
  pub rest : new ≡ record old { procs = new.procs }

-- a line that isn't refused was done, and this is what it prints, and what came of it
pub record IsDone (number : ℕ) (command : Command) (old new : WorldState) (answer : Answer) : Type 0 where
  pub passes : world_refusal command old ≡ None
  pub world : new ≡ world_done number command old
  pub text : answer.lines.bytes ≡ world_text command old
  pub outcome : answer.outcome ≡ world_outcome command old

-- there was no memory for a line: a push may be done in part, and every other line leaves the world; which of the lines it is
-- that meets no refusal is known but of those that have to be tried
pub record IsOutOfMemory (number : ℕ) (command : Command) (old new : WorldState) (r : Refused) : Type 0 where
  pub memory : r.refusal ≡ refusal.Memory
  pub line : r.line ≡ number
  pub passes : refuses_late command ≡ false → world_refusal command old ≡ None
  pub kept : is_push command ≡ false → new ≡ old
  pub pushed : (from to : SiteName) (count : Option ℕ) → command ≡ Push from to count → PushesInPart from to old new
  pub called : (from to : SiteName) → command ≡ Procedures (proc_line.Push from to) → PushesCallsInPart from to old new

-- a line was refused
pub record IsRefused (number : ℕ) (command : Command) (old new : WorldState) (r : Refused) : Type 0 where
  pub told : step_refused number command old ≡ Some r
  pub world : new ≡ world_refused command old

-- a line was done, or refused, or there was no memory for it
abbrev pub Does : ℕ → Command → WorldState → WorldState → Result Answer Refused → Type 0
Does number command old new (Ok answer) = IsDone number command old new answer
Does number command old new (Err r) = IsOutOfMemory number command old new r ⊎ IsRefused number command old new r

-- a refusal that is known before the line is tried is answered, whatever memory there is
abbrev pub AnswersPrecheck : ℕ → Command → WorldState → Result Answer Refused → Type 0
AnswersPrecheck number command old result = (why : Refusal) → precheck_refusal command old ≡ Some why → result ≡ Err (record { line = number; refusal = why })

-- ---- a command whose line isn't known

-- what is told of a command that isn't done, where its line has a number
abbrev pub refused_at : ℕ → CommandStop → Refused
refused_at number stop.Memory = record { line = number; refusal = refusal.Memory }
refused_at number (stop.Refused why) = record { line = number; refusal = why }
refused_at number (stop.RefusedAt told) = told

-- what a command answers, where its line has a number
abbrev pub at_line : ℕ → Result Answer CommandStop → Result Answer Refused
at_line number (Ok answer) = Ok answer
at_line number (Err stop) = Err (refused_at number stop)

-- a command was done, or refused, or there was no memory for it, whatever number its line has
abbrev pub DoesAnywhere : Command → WorldState → WorldState → Result Answer CommandStop → Type 0
DoesAnywhere command old new result = (number : ℕ) → Does number command old new (at_line number result)
