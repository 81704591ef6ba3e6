-- What is printed of a live part tells its turns.
use Rattle.std.specs.Prelude.{◌≡◌, ◌++◌, ℕ, Bool, List}
use Rattle.rep_values.specs.declared.name.SiteName.{SiteName}
use Rattle.site_state.specs.State.{SiteState}
use Rattle.live_laws.specs.declared.turn.LiveTurn.{LiveTurn}
use Rattle.live_laws.specs.declared.turn.Session.{Session}
use Rattle.live_laws.specs.Turns.{IsFullRun}
use Rattle.live_laws.specs.RisingNumbers.{HasRisingNumbers}
use Rattle.live_laws.specs.Printed.{IsPrintable}
use Rattle.live_report.specs.PartTexts.{part_text}

-- two full runs from one site are the same, where what is printed of each begins the same bytes
abbrev pub PrintedPartsAreKnown : Type 0
PrintedPartsAreKnown = (json : Bool) (site : SiteName) (origins : List SiteName) (sessions : List Session) (x : SiteState) (turns others : List LiveTurn) (rest more : List ℕ)
    → IsPrintable origins sessions x → HasRisingNumbers x → IsFullRun origins sessions turns x → IsFullRun origins sessions others x
    → part_text json site turns ++ rest ≡ part_text json site others ++ more → turns ≡ others
