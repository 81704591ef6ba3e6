-- What holds of every script with a live part, whatever turns the part has.
use Rattle.std.specs.Prelude.{◌≡◌, ℕ, ◌+◌, ◌<◌, Bool, true, false, List, [], All, take, slice_get, Option, Some, None, Ok}
use Rattle.rep_values.specs.declared.name.SiteName.{SiteName}
use Rattle.script_drive.specs.Lines.{lines_after}
use Rattle.script_drive.specs.Runs.{state_after}
use Rattle.script_lex.specs.Lines.{lexed}
use Rattle.script_parse.specs.declared.command.Refresh.{Refresh}
use Rattle.script_parse.specs.declared.command.Command.{Command}
use Rattle.script_parse.specs.declared.command.Command.TheVariants as command
use Rattle.script_parse.specs.declared.proc_line.ProcLine.TheVariants as proc_line
use Rattle.script_parse.specs.Parsed.{parsed}
use Rattle.script_parse.specs.LiveLaws.{is_live}
use Rattle.script_drive.specs.LineBytes.{most_lines, line_step}
use Rattle.site_state.specs.State.{SiteState}
use Rattle.site_events.specs.Cluster.{site_of}
use Rattle.proc_state.specs.State.{ProcState}
use Rattle.live_laws.specs.declared.turn.LiveTurn.{LiveTurn}
use Rattle.world_state.specs.Procs.{proc_of}
use Rattle.world_state.specs.Refusals.{world_refusal}
use Rattle.world_laws.specs.ProcedureWorlds.{NoCallsReady}
use Rattle.site_state.specs.Rounds.{NothingReady}
use Rattle.world_laws.specs.Refreshes.{ShowsItsMaster}
use Rattle.world_commands.specs.Joining.{TakesOver}
use Rattle.world_run.specs.declared.live_part.LivePart.{LivePart}
use Rattle.world_run.specs.declared.live_part.LivePart.TheVariants as part
use Rattle.world_run.specs.Scripts.{script_step, script_report, AllLawsHold}
use Rattle.world_run.specs.LiveScripts.{LiveState, live_start, around, live_step, live_report}

-- ---- worlds

-- the state behind lines of a script with a live part
abbrev pub state_behind : Bool → List LiveTurn → List (List ℕ) → LiveState
state_behind json turns lines = state_after (line_step (live_step turns)) (live_start json) 1 lines

-- the laws of worlds hold of the world behind whatever lines of a script, in its part and behind it too
abbrev pub LiveWorldsHold : Type 0
LiveWorldsHold = (json : Bool) (turns : List LiveTurn) (lines : List (List ℕ)) → AllLawsHold (state_behind json turns lines).world

-- ---- lines outside a part

-- whether no part is open
abbrev pub is_outside : LivePart → Bool
is_outside part.NotYet = true
is_outside (part.Open p) = false
is_outside (part.Ended e) = true

-- a line that begins with none of the three words does there to the world what it does in other scripts, and prints the same
abbrev pub LinesOutsideAreAsBefore : Type 0
LinesOutsideAreAsBefore = (turns : List LiveTurn) (s : LiveState) (number : ℕ) (line : List ℕ) → is_outside s.part ≡ true → is_live (lexed line) ≡ false
    → live_step turns s number line ≡ around s (script_step s.world number line)

-- so a script of such lines prints what it prints without live parts
abbrev pub ScriptsWithoutPartsPrintTheSame : Type 0
ScriptsWithoutPartsPrintTheSame = (json : Bool) (turns : List LiveTurn) (script : List ℕ) → All (λ line. is_live (lexed line) ≡ false) (lines_after [] script)
    → live_report json turns script ≡ script_report script

-- ---- each line

-- the state behind the first n lines of a script
abbrev pub state_at : Bool → List LiveTurn → List ℕ → ℕ → LiveState
state_at json turns script n = state_behind json turns (take n (lines_after [] script))

-- line n + 1 of a script is this command, and it is done: no part is open, and the world behind the lines before it doesn't refuse it
pub record IsDoneOutside (json : Bool) (turns : List LiveTurn) (script : List ℕ) (n : ℕ) (c : Command) : Type 0 where
  pub line : List ℕ
  pub here : slice_get (lines_after [] script) n ≡ Some line
  pub few : n < most_lines
  pub reads : parsed line ≡ Ok c
  pub outside : is_outside (state_at json turns script n).part ≡ true
  pub passes : world_refusal c (state_at json turns script n).world ≡ None

-- the laws of worlds hold of the world behind the first n lines of a script. Behind line n + 1, where it is a push that is done, no
-- position of any sender is ready at the receiver, and so it is with a push of calls; where it is a refresh that is done, each
-- snapshot of the site is its query of its master's table, and the master is as before; where it is a join that is done, the late
-- master has taken over from the master that the line names
pub record LiveLineHolds (json : Bool) (turns : List LiveTurn) (script : List ℕ) (n : ℕ) : Type 0 where
  pub laws : AllLawsHold (state_at json turns script n).world
  pub pushed : (from to : SiteName) (count : Option ℕ) (x : SiteState) → IsDoneOutside json turns script n (command.Push from to count)
      → site_of to (state_at json turns script (n + 1)).world.sites ≡ Some x → NothingReady x
  pub calls_pushed : (from to : SiteName) (x : ProcState) → IsDoneOutside json turns script n (command.Procedures (proc_line.Push from to))
      → proc_of to (state_at json turns script (n + 1)).world.procs.sites ≡ Some x → NoCallsReady x
  pub refreshed : (site : SiteName) (how : Refresh) → IsDoneOutside json turns script n (command.Refresh site how)
      → ShowsItsMaster site (state_at json turns script n).world (state_at json turns script (n + 1)).world
  pub joined : (site source : SiteName) → IsDoneOutside json turns script n (command.Join site source)
      → TakesOver site source (state_at json turns script n).world (state_at json turns script (n + 1)).world

-- so it is with each line of every script, whatever turns its part has
abbrev pub LiveLinesHold : Type 0
LiveLinesHold = (json : Bool) (turns : List LiveTurn) (script : List ℕ) (n : ℕ) → LiveLineHolds json turns script n

-- and so of the script that a source has left
abbrev pub EachLiveLineHolds : Option (List ℕ) → Type 0
EachLiveLineHolds left = (json : Bool) (turns : List LiveTurn) (script : List ℕ) (n : ℕ) → left ≡ Some script → LiveLineHolds json turns script n
