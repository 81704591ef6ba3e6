-- What a line that refreshes a site leaves.
use Rattle.std.specs.Prelude.{◌≡◌, ℕ, map, Some, None}
use Rattle.std.specs.List.{AllByRecursion}
use Rattle.rep_values.specs.declared.name.SiteName.{SiteName}
use Rattle.site_state.specs.State.{SiteState}
use Rattle.change_logs.specs.Noting.{renewed}
use Rattle.site_events.specs.Cluster.{site_of}
use Rattle.script_parse.specs.declared.command.Refresh.{Refresh}
use Rattle.script_parse.specs.declared.command.Command.TheVariants as command
use Rattle.event_laws.specs.RefreshLaws.{ShowsTheMaster}
use Rattle.world_state.specs.World.{WorldState}
use Rattle.world_state.specs.Refusals.{world_refusal}
use Rattle.world_state.specs.Steps.{world_step}
use Rattle.world_laws.specs.Sites.{master_in}

-- a site and its master are there; the master is as before; and the site has its snapshots still, which show the master
pub record ShowsItsMaster (site : SiteName) (old new : WorldState) : Type 0 where
  pub before : SiteState
  pub was : site_of site old.sites ≡ Some before
  pub here : SiteState
  pub found : site_of site new.sites ≡ Some here
  pub master : SiteState
  pub served : master_in site old ≡ Some master
  pub stays : master_in site new ≡ Some master
  pub kept : here.snapshots ≡ map (renewed master.moment) before.snapshots
  pub shows : AllByRecursion (ShowsTheMaster master here) here.snapshots

-- so it is after a line that refreshes a site and isn't refused, however it does
abbrev pub RefreshesShowTheQuery : WorldState → Type 0
RefreshesShowTheQuery w = (number : ℕ) (site : SiteName) (how : Refresh) → world_refusal (command.Refresh site how) w ≡ None
    → ShowsItsMaster site w (world_step number (command.Refresh site how) w)
