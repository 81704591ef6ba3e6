-- What the engine makes of a script that is followed.
use Rattle.std.specs.Prelude.{◌≡◌, ℕ, ◌+◌, ◌-◌, nat_lt, cond, Bool, true, false, List, [], ◌∷◌, ◌++◌, length, slice_get, Option, Some, None, Result, Ok, Err}
use Rattle.rep_values.specs.declared.refusal.Refusal.{Refusal}
use Rattle.rep_values.specs.declared.refusal.Refusal.TheVariants as refusal
use Rattle.script_drive.specs.Runs.{Stepped, state_after, last_state}
use Rattle.script_drive.specs.LineBytes.{most_lines, line_step}
use Rattle.script_parse.specs.declared.command.Command.{Command}
use Rattle.script_parse.specs.declared.live_lines.LiveCommand.{LiveCommand}
use Rattle.script_parse.specs.declared.live_lines.LiveCommand.TheVariants as live_command
use Rattle.script_parse.specs.LiveLines.{live_parsed}
use Rattle.live_laws.specs.declared.turn.LiveTurn.{LiveTurn}
use Rattle.world_state.specs.declared.refused.Refused.{Refused as RefusedLine}
use Rattle.world_state.specs.World.{WorldState}
use Rattle.world_state.specs.Steps.{step_refused}
use Rattle.world_run.specs.Lent.{LentWorld}
use Rattle.world_run.specs.Ended.{RanPart}
use Rattle.world_run.specs.declared.live_part.OpenPart.{OpenPart}
use Rattle.world_run.specs.declared.live_part.LivePart.{LivePart}
use Rattle.world_run.specs.declared.live_part.LivePart.TheVariants as live_part
use Rattle.world_run.specs.LiveParts.{sessions_of, taken, part_refusal, session_in}
use Rattle.world_run.specs.LiveScripts.{LiveState, live_start, command_step, live_step, end_of, IsFull, allowed, known}
use Rattle.world_run.specs.LiveAnswers.{RunsSessions}
use Rattle.run_story.specs.declared.part.Part.{Part}
use Rattle.run_story.specs.declared.part.Part.TheVariants as kept
use Rattle.run_story.specs.declared.happening.Line.{Line}
use Rattle.run_story.specs.declared.happening.Outcome.{Outcome}
use Rattle.run_story.specs.declared.happening.Outcome.TheVariants.{Refused, Malformed}
use Rattle.run_story.specs.Telling.{StoryView, Followed, words_of, ends_run, ends_run_in, IsTold}

-- ---- where a script stands

-- the engine's word for a part
abbrev pub engine_part : Part → LivePart
engine_part kept.NotYet = live_part.NotYet
engine_part (kept.Open p) = live_part.Open p
engine_part (kept.Ended e) = live_part.Ended e

abbrev pub stand_in : LentWorld → LivePart → LiveState
stand_in v part = record { world = v.world; part = part; json = false }

-- where a script stands for the engine
abbrev pub stand_of : Followed → LiveState
stand_of f = stand_in f.world f.part

abbrev pub story_stand : StoryView → LiveState
story_stand story = stand_in story.world story.part

-- what a contract sees of a world that is followed, with lines
abbrev pub story_view : Followed → List Line → StoryView
story_view f lines = record { world = f.world; part = f.part; lanes = f.lanes; lines = lines }

-- what a line does to a script, where the live part has these turns
abbrev pub engine_step : List LiveTurn → LiveState → ℕ → List ℕ → Stepped LiveState
engine_step turns = line_step (live_step turns)

-- ---- what a line does

-- why a line was refused, if it was
abbrev pub refusal_in : Outcome → Option Refusal
refusal_in (Refused refused) = Some refused.refusal
refusal_in other = None

-- what an outcome says: the rule that the line breaks, or the refusal that it met, if it met one
abbrev pub said_in : Outcome → Result (Option RefusedLine) ℕ
said_in (Refused refused) = Ok (Some refused)
said_in (Malformed rule) = Err rule
said_in other = Ok None

-- the line of a number is refused, if something hinders it
abbrev pub refused_at : ℕ → Option Refusal → Option RefusedLine
refused_at number None = None
refused_at number (Some why) = Some (record { line = number; refusal = why })

abbrev pub hindrance_of : {P : Type 0} → Result P Refusal → Option Refusal
hindrance_of (Ok p) = None
hindrance_of (Err why) = Some why

-- the refusal that a line meets that every script may have
abbrev pub plain_refused : LivePart → WorldState → ℕ → Command → Option RefusedLine
plain_refused live_part.NotYet w number c = step_refused number c w
plain_refused (live_part.Open p) w number c = refused_at number (hindrance_of (taken number c p))
plain_refused (live_part.Ended e) w number c = step_refused number c w

-- an end belongs to an open part
abbrev pub end_hindrance : LivePart → Option Refusal
end_hindrance live_part.NotYet = Some refusal.WrongPhase
end_hindrance (live_part.Open p) = None
end_hindrance (live_part.Ended e) = Some refusal.WrongPhase

-- the refusal that a command meets, if it meets one
abbrev pub command_refused : LiveState → ℕ → LiveCommand → Option RefusedLine
command_refused s number (live_command.Plain c) = plain_refused s.part s.world number c
command_refused s number (live_command.Open site) = refused_at number (part_refusal s.part site s.world)
command_refused s number live_command.Session = refused_at number (hindrance_of (session_in s.part))
command_refused s number live_command.End = refused_at number (end_hindrance s.part)

abbrev pub said_of : LiveState → ℕ → Result LiveCommand ℕ → Result (Option RefusedLine) ℕ
said_of s number (Ok c) = Ok (command_refused s number c)
said_of s number (Err rule) = Err rule

-- what the engine says of a line: the rule that it breaks, or the refusal that it meets, if it meets one
abbrev pub line_said : LiveState → ℕ → List ℕ → Result (Option RefusedLine) ℕ
line_said s number line = cond (nat_lt most_lines number) (Err 2) (said_of s number (live_parsed line))

-- all turns that are allowed behind a command were so before it, and by each of them the engine is so behind it
abbrev pub GoesOn : ℕ → LiveCommand → LiveState → LiveState → Type 0
GoesOn number command old new = (turns : List LiveTurn) → allowed new turns → allowed old turns × ((command_step turns old number command).state ≡ new)

-- so it is of a line; its outcome says what the engine does, and it ends the run exactly where the engine's step does
pub record LineGoes (number : ℕ) (line : List ℕ) (outcome : Outcome) (old new : LiveState) : Type 0 where
  pub said : said_in outcome ≡ line_said old number line
  pub state : (turns : List LiveTurn) → allowed new turns → allowed old turns × ((engine_step turns old number line).state ≡ new)
  pub ends : (turns : List LiveTurn) → (engine_step turns old number line).stops ≡ ends_run outcome

-- a part was run with full turns: the world is the one behind it, and no master is lent out
pub record PartRan (before : WorldState) (p : OpenPart) (world : LentWorld) (ended : RanPart) : Type 0 where
  pub turns : List LiveTurn
  pub runs : RunsSessions p.site (sessions_of p) turns before world
  pub part : ended ≡ record { site = p.site; before = before; sessions = sessions_of p; turns = turns }

-- ---- what lines do

-- behind these lines the engine's run goes on from here, whatever lines follow; or, where it was ended, it ended here
abbrev pub Stands : Bool → List LiveTurn → List (List ℕ) → LiveState → Type 0
Stands false turns lines s = (rest : List (List ℕ)) → last_state (engine_step turns) (live_start false) 1 (lines ++ rest) ≡ last_state (engine_step turns) s (length lines + 1) rest
Stands true turns lines s = (rest : List (List ℕ)) → last_state (engine_step turns) (live_start false) 1 (lines ++ rest) ≡ s

-- the outcome of each line, the first of which has a number, says what the engine does behind the lines before it
abbrev pub SaysAll : List LiveTurn → LiveState → ℕ → List Line → Type 0
SaysAll turns s number [] = Unit {0}
SaysAll turns s number (line ∷ lines) = (said_in line.outcome ≡ line_said s number line.words) × SaysAll turns (engine_step turns s number line.words).state (number + 1) lines

-- so a story stands by all turns that its live part allows
pub record IsRun (story : StoryView) : Type 0 where
  pub known : known (story_stand story)
  pub there : (turns : List LiveTurn) → allowed (story_stand story) turns → state_after (engine_step turns) (live_start false) 1 (words_of story.lines) ≡ story_stand story
  pub said : (turns : List LiveTurn) → allowed (story_stand story) turns → SaysAll turns (live_start false) 1 story.lines
  pub stands : (turns : List LiveTurn) → allowed (story_stand story) turns
      → Stands (ends_run_in (slice_get story.lines (length story.lines - 1))) turns (words_of story.lines) (story_stand story)

-- what is so of each story: its lines tell the journals, and the engine's run of them stands there, with no master lent out
pub record IsSound (story : StoryView) : Type 0 where
  pub told : IsTold story
  pub run : IsRun story
  pub free : story.world.lent ≡ None

-- by turns that are full for the script, the world of a story is the one in which the engine's own run of it ends, and the outcome of
-- each line is what the engine says of it
pub record RunsAsEngine (script : List ℕ) (story : StoryView) : Type 0 where
  pub turns : List LiveTurn
  pub full : IsFull false script turns
  pub world : story.world.world ≡ (end_of false turns script).world
  pub said : SaysAll turns (live_start false) 1 story.lines
