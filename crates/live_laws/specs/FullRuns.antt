-- What holds of full runs.
use Rattle.std.specs.Prelude.{◌≡◌, ◌++◌, ℕ, List, length}
use Rattle.rep_values.specs.declared.name.SiteName.{SiteName}
use Rattle.site_state.specs.State.{SiteState}
use Rattle.site_state.specs.Journal.{finished}
use Rattle.live_laws.specs.declared.turn.LiveTurn.{LiveTurn}
use Rattle.live_laws.specs.declared.turn.Session.{Session}
use Rattle.live_laws.specs.Turns.{site_after, IsFullRun, IsPartialRun}
use Rattle.live_laws.specs.RisingNumbers.{HasRisingNumbers}

-- from every site there is a full run
abbrev pub FullRunsExist : Type 0
FullRunsExist = (origins : List SiteName) (sessions : List Session) (x : SiteState) → (turns : List LiveTurn) × IsFullRun origins sessions turns x

-- and each partial run goes on to a full one
abbrev pub PartialRunsGoOn : Type 0
PartialRunsGoOn = (origins : List SiteName) (sessions : List Session) (turns : List LiveTurn) (x : SiteState) → IsPartialRun origins sessions turns x
    → (more : List LiveTurn) × IsFullRun origins sessions (turns ++ more) x

-- all full runs from a site finish the same positions
abbrev pub FullRunsFinishTheSame : Type 0
FullRunsFinishTheSame = (origins : List SiteName) (sessions : List Session) (x : SiteState) (turns others : List LiveTurn) → HasRisingNumbers x
    → IsFullRun origins sessions turns x → IsFullRun origins sessions others x
    → (origin : SiteName) (position : ℕ) → finished origin (site_after sessions turns x).journal position ≡ finished origin (site_after sessions others x).journal position

-- and have as many turns
abbrev pub FullRunsAreEquallyLong : Type 0
FullRunsAreEquallyLong = (origins : List SiteName) (sessions : List Session) (x : SiteState) (turns others : List LiveTurn) → HasRisingNumbers x
    → IsFullRun origins sessions turns x → IsFullRun origins sessions others x → length turns ≡ length others
