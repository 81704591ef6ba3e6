-- A script with a live part as it runs.
use Rattle.std.specs.Prelude.{◌≡◌, ℕ, Bool, List, [], Option, Some, None, Result}
use Rattle.rep_values.specs.declared.refusal.Refusal.{Refusal}
use Rattle.script_drive.specs.Runs.{goes}
use Rattle.report_text.specs.Refusals.{refused_text}
use Rattle.script_parse.specs.declared.live_lines.LiveCommand.{LiveCommand}
use Rattle.live_laws.specs.declared.turn.LiveTurn.{LiveTurn}
use Rattle.world_state.specs.World.{WorldState, first_world}
use Rattle.world_run.specs.Lent.{LentWorld}
use Rattle.world_run.specs.Ended.{RanPart}
use Rattle.world_run.specs.declared.live_part.OpenPart.{OpenPart}
use Rattle.world_run.specs.LiveAnswers.{IsAnswered, IsRan}
use Rattle.world_run.specs.LiveScripts.{LiveState, command_step, allowed}

-- the world, and the first one where it is lost
abbrev pub world_in : Option LentWorld → WorldState
world_in None = first_world
world_in (Some v) = v.world

-- no master of it is lent out
abbrev pub MasterIsFree : Option LentWorld → Type 0
MasterIsFree None = Unit {0}
MasterIsFree (Some v) = v.lent ≡ None

-- what a line prints that goes into a part or is refused
abbrev pub answer_text : ℕ → Option Refusal → List ℕ
answer_text number None = []
answer_text number (Some why) = refused_text number why

-- a line is taken into a part or refused, and prints so
abbrev pub AnswersIn : ℕ → Result OpenPart Refusal → OpenPart → OpenPart → List ℕ → Type 0
AnswersIn number told old new prints = (refused : Option Refusal) × (IsAnswered told old new refused × (prints ≡ answer_text number refused))

-- a part was run, and there is the world behind it
abbrev pub IsRanIn : Bool → WorldState → OpenPart → Option LentWorld → RanPart → List ℕ → Type 0
IsRanIn json before p world ended prints = (v : LentWorld) × ((world ≡ Some v) × IsRan json before p v ended prints)

-- all turns that are allowed behind the command were so before it, and by each of them the run goes on so
abbrev pub RunGoesOn : ℕ → LiveCommand → LiveState → LiveState → List ℕ → Type 0
RunGoesOn number command old new prints = (turns : List LiveTurn) → allowed new turns → allowed old turns × (command_step turns old number command ≡ goes new prints)
