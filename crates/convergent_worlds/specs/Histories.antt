-- From one moment of a world to a later one: where its masters agree again, and which rows its masters miss.
use Rattle.std.specs.Prelude.{◌≡◌, ℕ, Bool, true, false, List, ◌++◌, Some}
use Rattle.rep_values.specs.declared.name.SiteName.{SiteName}
use Rattle.rep_schema.specs.declared.schema.Schema.{Schema}
use Rattle.rep_schema.specs.Tables.{Cells}
use Rattle.site_state.specs.State.{SiteState}
use Rattle.site_events.specs.Cluster.{Cluster, site_of}
use Rattle.site_events.specs.Events.{Event, run}
use Rattle.site_events.specs.Quiet.{are_quiet}
use Rattle.convergence_laws.specs.QuietAgreement.{NothingWasDroppedSince, MastersAgree}
use Rattle.error_cause_laws.specs.Excuses.{ErrorsAreSo, RefusalsAreSo}
use Rattle.error_cause_laws.specs.LostInserts.{dropped_before, NoRowIsOfALostInsert}
use Rattle.script_parse.specs.declared.command.Command.{Command}
use Rattle.world_state.specs.World.{WorldState}
use Rattle.world_state.specs.Phases.{is_setup}
use Rattle.world_state.specs.Steps.{world_steps}
use Rattle.world_laws.specs.AlikeMasters.{SitesBegin}

-- ---- agreement

-- where all masters of a world behind Setup are quiet and agree, they agree again behind whatever lines, where they are quiet
-- then and no error of a master's transaction was dropped since
abbrev pub MastersAgreeAgain : WorldState → Type 0
MastersAgreeAgain w = is_setup w.phase ≡ false → (number : ℕ) (lines : List Command) → are_quiet w.sites ≡ true → MastersAgree w.schema w.sites
    → are_quiet (world_steps number lines w).sites ≡ true → NothingWasDroppedSince w.schema w.sites (world_steps number lines w).sites
    → MastersAgree w.schema (world_steps number lines w).sites

-- where all masters were quiet and agreed after some of the events, they agree, where they are quiet and no error of a master's
-- transaction was dropped since
abbrev pub MastersAgreeSince : WorldState → Cluster → List Event → Type 0
MastersAgreeSince w start events = (newer older : List Event) → events ≡ newer ++ older
    → are_quiet (run older start).sites ≡ true → MastersAgree w.schema (run older start).sites
    → are_quiet w.sites ≡ true → NothingWasDroppedSince w.schema (run older start).sites w.sites
    → MastersAgree w.schema w.sites

-- ---- missing rows

-- where there is no row for a call on a convergent table, the row's insert is in error at the site or was dropped there, or it
-- was dropped before
abbrev pub MissesLostRows : Schema → (ℕ → Cells → Bool) → SiteState → Type 0
MissesLostRows schema before x = ErrorsAreSo (NoRowIsOfALostInsert schema before) x.journal × RefusalsAreSo (NoRowIsOfALostInsert schema before) x

-- so it is at each master, a joined one too: before is before the master joined, at the site from which it was copied, or before
-- that one joined, and so on back
abbrev pub EachMissingRowWasLost : WorldState → Cluster → List Event → Type 0
EachMissingRowWasLost w start events = (site : SiteName) (x : SiteState) → site_of site w.sites ≡ Some x → x.here.is_master ≡ true
    → MissesLostRows w.schema (λ table key. dropped_before w.schema table key events start site) x

-- ---- the whole

-- what happened in a world: events lead to its sites from a start with masters alike
pub record HasHistory (w : WorldState) : Type 0 where
  pub start : Cluster
  pub events : List Event
  pub begins : SitesBegin w.schema start
  pub leads : w.sites ≡ (run events start).sites
  pub agree : MastersAgreeSince w start events
  pub lost : EachMissingRowWasLost w start events
