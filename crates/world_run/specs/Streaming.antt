-- What whoever runs a live part is given, and what it answers.
use Rattle.std.specs.Prelude.{◌≡◌, ◌≤◌, List, length, Result, Ok, Err}
use Rattle.std.specs.declared.alloc.Global.{Global}
use Rattle.rep_lists.specs.declared.memory.NoMemory.{NoMemory}
use Rattle.rep_values.specs.declared.name.SiteName.{SiteName}
use Rattle.site_state.specs.State.{SiteState}
use Rattle.live_laws.specs.declared.turn.LiveTurn.{LiveTurn}
use Rattle.live_laws.specs.declared.turn.Session.{Session}
use Rattle.live_laws.specs.Turns.{site_after, IsFullRun}
use Rattle.world_run.specs.LiveParts.{most_sessions}

-- the site behind the turns, and these turns
abbrev pub StreamAnswer : Type 0
StreamAnswer = Result (SiteState × List LiveTurn) NoMemory

-- the turns are a full run, and the site is the one behind them
abbrev pub AnswersStreams : List SiteName → List Session → SiteState → StreamAnswer → Type 0
AnswersStreams origins sessions x (Ok made) = IsFullRun origins sessions made.1 x × (made.0 ≡ site_after sessions made.1 x)
AnswersStreams origins sessions x (Err none) = Unit {0}

-- a call that can be made of so many sessions, and that answers so
pub record RunsStreams (pre : Global → SiteState → List SiteName → List Session → Type 0) (post : Global → SiteState → List SiteName → List Session → StreamAnswer → Type 0) : Type 0 where
  pub able : (alloc : Global) (x : SiteState) (origins : List SiteName) (sessions : List Session) → length sessions ≤ most_sessions → pre alloc x origins sessions
  pub answers : (alloc : Global) (x : SiteState) (origins : List SiteName) (sessions : List Session) (answer : StreamAnswer) → post alloc x origins sessions answer
      → AnswersStreams origins sessions x answer
