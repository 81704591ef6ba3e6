-- What a script with a live part prints, once the turns of the part are given.
use Rattle.std.specs.Prelude.{◌≡◌, ◌⊎◌, ℕ, ◌≤◌, Bool, false, List, [], length, Option, Some, None, Result, Ok, Err, ⊤}
use Rattle.rep_values.specs.declared.refusal.Refusal.{Refusal}
use Rattle.rep_values.specs.declared.refusal.Refusal.TheVariants as refusal
use Rattle.rep_io.specs.Faults.{Rose}
use Rattle.script_drive.specs.Lines.{lines_after}
use Rattle.script_drive.specs.Runs.{Stepped, goes, halts, last_state}
use Rattle.script_drive.specs.Told.{Tells, report, is_ended_early}
use Rattle.report_text.specs.Texts.{malformed_text}
use Rattle.report_text.specs.Refusals.{refused_text}
use Rattle.script_parse.specs.declared.command.Command.{Command}
use Rattle.script_parse.specs.declared.live_lines.LiveCommand.{LiveCommand}
use Rattle.script_parse.specs.declared.live_lines.LiveCommand.TheVariants as live_command
use Rattle.script_parse.specs.LiveLines.{live_parsed}
use Rattle.script_drive.specs.declared.status.Status.{Status}
use Rattle.script_drive.specs.declared.status.Status.TheVariants.{Done, Memory}
use Rattle.script_drive.specs.LineBytes.{line_step}
use Rattle.script_drive.specs.Outcome.{Told}
use Rattle.script_drive.specs.Prompt.{Asked, ReadsPromptly}
use Rattle.live_laws.specs.declared.turn.LiveTurn.{LiveTurn}
use Rattle.live_report.specs.PartTexts.{part_text}
use Rattle.world_state.specs.World.{WorldState, first_world}
use Rattle.world_push.specs.Lending.{live_refusal}
use Rattle.world_run.specs.Scripts.{stepped_by}
use Rattle.world_run.specs.declared.live_part.LivePart.{LivePart}
use Rattle.world_run.specs.declared.live_part.LivePart.TheVariants as part
use Rattle.world_run.specs.LiveParts.{most_sessions, sessions_of, taken, part_opened, as_part, session_in, world_behind_part, IsFullPart}

-- where a script stands: its world, its live part, and whether the turns of that are printed as JSON
pub record LiveState : Type 0 where
  pub world : WorldState
  pub part : LivePart
  pub json : Bool

-- nothing was done
abbrev pub live_start : Bool → LiveState
live_start json = record { world = first_world; part = part.NotYet; json = json }

-- ---- lines

-- what is done to the world alone
abbrev pub around : LiveState → Stepped WorldState → Stepped LiveState
around s x = record { state = record { world = x.state; part = s.part; json = s.json }; prints = x.prints; stops = x.stops }

-- a line goes into the part, or is refused and changes nothing
abbrev pub answered : LiveState → ℕ → Result LivePart Refusal → Stepped LiveState
answered s number (Ok p) = goes (record { world = s.world; part = p; json = s.json }) []
answered s number (Err why) = goes s (refused_text number why)

-- a line that every script may have goes into an open part, and else to the world
abbrev pub plain_in : LivePart → LiveState → ℕ → Command → Stepped LiveState
plain_in part.NotYet s number c = around s (stepped_by s.world number (Ok c))
plain_in (part.Open p) s number c = answered s number (as_part (taken number c p))
plain_in (part.Ended e) s number c = around s (stepped_by s.world number (Ok c))

-- the end of an open part runs it with these turns, and prints them
abbrev pub end_in : List LiveTurn → LivePart → LiveState → ℕ → Stepped LiveState
end_in turns part.NotYet s number = answered s number (Err refusal.WrongPhase)
end_in turns (part.Open p) s number =
    goes
    (record {
      world = world_behind_part p.site (sessions_of p) turns s.world;
      part = part.Ended (record { site = p.site; before = s.world; sessions = sessions_of p; turns = turns });
      json = s.json;
    })
    (part_text s.json p.site turns)
end_in turns (part.Ended e) s number = answered s number (Err refusal.WrongPhase)

-- what a command does
abbrev pub command_step : List LiveTurn → LiveState → ℕ → LiveCommand → Stepped LiveState
command_step turns s number (live_command.Plain c) = plain_in s.part s number c
command_step turns s number (live_command.Open site) = answered s number (part_opened s.part site s.world)
command_step turns s number live_command.Session = answered s number (session_in s.part)
command_step turns s number live_command.End = end_in turns s.part s number

abbrev pub read_step : List LiveTurn → LiveState → ℕ → Result LiveCommand ℕ → Stepped LiveState
read_step turns s number (Err rule) = halts s (malformed_text number rule)
read_step turns s number (Ok c) = command_step turns s number c

-- what a line within the limits does, where the part has these turns
unfoldable pub live_step : List LiveTurn → LiveState → ℕ → List ℕ → Stepped LiveState
live_step turns s number line = read_step turns s number (live_parsed line)

-- ---- reports

-- what a script prints, where its part has these turns
abbrev pub live_report : Bool → List LiveTurn → List ℕ → List ℕ
live_report json turns script = report (line_step (live_step turns)) (live_start json) script

-- where a run of the script ends, behind its last line or the first that is malformed
abbrev pub end_of : Bool → List LiveTurn → List ℕ → LiveState
end_of json turns script = last_state (line_step (live_step turns)) (live_start json) 1 (lines_after [] script)

-- turns are a full run of the part that was run; where none was, there is no turn
abbrev pub FullIn : List LiveTurn → LivePart → Type 0
FullIn turns part.NotYet = turns ≡ []
FullIn turns (part.Open p) = turns ≡ []
FullIn turns (part.Ended e) = IsFullPart e.site e.sessions turns e.before

-- turns are full for a script: a full run of its part, and none where its part has no end
abbrev pub IsFull : Bool → List ℕ → List LiveTurn → Type 0
IsFull json script turns = FullIn turns (end_of json turns script).part

-- ---- while it runs

-- a part that was run allows its turns alone
abbrev pub allowed_by : LivePart → List LiveTurn → Type 0
allowed_by part.NotYet turns = ⊤
allowed_by (part.Open p) turns = ⊤
allowed_by (part.Ended e) turns = turns ≡ e.turns

abbrev pub allowed : LiveState → List LiveTurn → Type 0
allowed s turns = allowed_by s.part turns

-- an open part is one of a master that may be lent out, and has not too many sessions; a part that was run has a full run
abbrev pub known_by : LivePart → WorldState → Type 0
known_by part.NotYet w = ⊤
known_by (part.Open p) w = (live_refusal p.site w ≡ None) × (length (sessions_of p) ≤ most_sessions)
known_by (part.Ended e) w = IsFullPart e.site e.sessions e.turns e.before

abbrev pub known : LiveState → Type 0
known s = known_by s.part s.world

-- ---- what is told of a run

-- where source and sink tell their bytes: by turns that are full for the script, what was written and left is as the status says
abbrev pub ReportsFully : Bool → Status → Option (List ℕ) → Option (List ℕ) → Option (List ℕ) → Option (List ℕ) → Type 0
ReportsFully json status left left' taken taken' =
    Tells (λ script rest written. (turns : List LiveTurn) × IsFull json script turns × Told (line_step (live_step turns)) (live_start json) status script rest written) left left' taken taken'

-- so are the reads, by the same turns
abbrev pub RunsFully : Bool → Status → Option (List ℕ) → Option (List ℕ) → Option (List ℕ) → Option (List ℕ) → Option (List Asked) → Option (List Asked) → Type 0
RunsFully json status left left' taken taken' reads reads' = (script : List ℕ) → left ≡ Some script
    → (turns : List LiveTurn) × IsFull json script turns × Tells (Told (line_step (live_step turns)) (live_start json) status) left left' taken taken'
    × ReadsPromptly (line_step (live_step turns)) (live_start json) status reads reads' left taken

-- where source and sink tell their bytes, no line of the script is malformed, whatever the turns are, and neither had a fault, the
-- run is done or there was no memory
abbrev pub LiveRunsToItsEnd : Bool → Option (List ℕ) → Option (List ℕ) → ℕ → ℕ → ℕ → ℕ → Status → Type 0
LiveRunsToItsEnd json left taken read read' wrote wrote' status = (script earlier : List ℕ) → left ≡ Some script → taken ≡ Some earlier
    → ((turns : List LiveTurn) → is_ended_early (line_step (live_step turns)) (live_start json) script ≡ false) → ¬ Rose read read' → ¬ Rose wrote wrote' → (status ≡ Done) ⊎ (status ≡ Memory)

-- ---- laws

-- every script has full turns
abbrev pub ScriptsHaveFullTurns : Type 0
ScriptsHaveFullTurns = (json : Bool) (script : List ℕ) → (turns : List LiveTurn) × IsFull json script turns

-- what a script prints tells which turns these are
abbrev pub PrintedTurnsAreKnown : Type 0
PrintedTurnsAreKnown = (json : Bool) (script : List ℕ) (turns others : List LiveTurn) → IsFull json script turns → IsFull json script others
    → live_report json turns script ≡ live_report json others script → turns ≡ others
