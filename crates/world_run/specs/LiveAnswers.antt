-- What comes of a line that goes into a live part.
use Rattle.std.specs.Prelude.{◌≡◌, ℕ, Bool, List, Option, Some, None, Result, Ok, Err}
use Rattle.rep_values.specs.declared.name.SiteName.{SiteName}
use Rattle.rep_values.specs.declared.refusal.Refusal.{Refusal}
use Rattle.script_parse.specs.declared.command.Command.{Command}
use Rattle.live_laws.specs.declared.turn.LiveTurn.{LiveTurn}
use Rattle.live_laws.specs.declared.turn.Session.{Session}
use Rattle.live_report.specs.PartTexts.{part_text}
use Rattle.world_state.specs.World.{WorldState}
use Rattle.world_run.specs.Lent.{LentWorld}
use Rattle.world_run.specs.Ended.{RanPart}
use Rattle.world_run.specs.declared.live_part.OpenSession.{OpenSession}
use Rattle.world_run.specs.declared.live_part.OpenPart.{OpenPart}
use Rattle.world_run.specs.LiveParts.{sessions_of, in_session, taken, next_session, world_behind_part, IsFullPart}

-- the part is as is told, or the line is refused and the part is as before
abbrev pub IsAnswered : Result OpenPart Refusal → OpenPart → OpenPart → Option Refusal → Type 0
IsAnswered told old new None = told ≡ Ok new
IsAnswered told old new (Some why) = (told ≡ Err why) × (new ≡ old)

abbrev pub AnswersInSession : (OpenSession → OpenSession) → OpenPart → OpenPart → Option Refusal → Type 0
AnswersInSession change old new refused = IsAnswered (in_session change old) old new refused

abbrev pub AnswersTaken : ℕ → Command → OpenPart → OpenPart → Option Refusal → Type 0
AnswersTaken number command old new refused = IsAnswered (taken number command old) old new refused

abbrev pub AnswersSession : OpenPart → OpenPart → Option Refusal → Type 0
AnswersSession old new refused = IsAnswered (next_session old) old new refused

-- sessions were run with full turns: the world is the one behind the part, and no master is lent out
pub record RunsSessions (site : SiteName) (sessions : List Session) (turns : List LiveTurn) (before : WorldState) (world : LentWorld) : Type 0 where
  pub full : IsFullPart site sessions turns before
  pub behind : world.world ≡ world_behind_part site sessions turns before
  pub free : world.lent ≡ None

-- so was a part, and its end prints the turns
pub record IsRan (json : Bool) (before : WorldState) (p : OpenPart) (world : LentWorld) (ended : RanPart) (prints : List ℕ) : Type 0 where
  pub turns : List LiveTurn
  pub runs : RunsSessions p.site (sessions_of p) turns before world
  pub part : ended ≡ record { site = p.site; before = before; sessions = sessions_of p; turns = turns }
  pub told : prints ≡ part_text json p.site turns
