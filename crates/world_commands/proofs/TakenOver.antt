-- Once a join isn't refused the late master has taken over.
use Rattle.std.proofs.Common.{◌≡◌, ℕ, List, [], None, refl, sym, ap, ◌∙◌, subst}
use Rattle.std.specs.Prelude.{Option}
use Rattle.rep_values.specs.declared.name.SiteName.{SiteName}
use Rattle.rep_values.specs.declared.refusal.Refusal.{Refusal}
use Rattle.script_parse.specs.declared.command.Command.TheVariants as command
use Rattle.site_state.specs.State.{SiteState}
use Rattle.site_events.specs.Cluster.{Cluster, site_of}
use Rattle.site_events.specs.Joins.{may_join, joined}
use Rattle.site_events.specs.Events.{run}
use Rattle.event_laws.specs.Joined.{HasJoined}
use Rattle.event_laws.proofs.Joined.{joins_copy}
use Rattle.world_state.specs.World.{WorldState}
use Rattle.world_state.specs.Refusals.{world_refusal}
use Rattle.world_state.specs.Steps.{step_by, world_step}
use Rattle.world_laws.specs.SnapshotWorlds.{GoesOn}
use Rattle.world.specs.Following.{IsBuilt}
use Rattle.world.proofs.Masters.{behind_goes}
use Rattle.world.proofs.Joining.{CanJoin, can_join}
use Rattle.world_commands.specs.Joining.{world_join, TakesOver}

-- sites, and of what was sent and begun nothing
abbrev alone : List SiteState → Cluster
alone sites = record { sites = sites; sent = []; begun = [] }

-- what has joined has joined whatever was sent and begun
joined_alone : (v : Cluster) (from : SiteState) (site : SiteName) (ys : List SiteState) → HasJoined v from site (record v { sites = ys }) → HasJoined (alone v.sites) from site (alone ys)
joined_alone v from site ys has = record {
  it = has.it;
  there = has.there;
  names = has.names;
  copy = has.copy;
  masters = has.masters;
  others = has.others;
  sent = refl;
  begun = refl;
}

module _ (w : WorldState) (built : IsBuilt w) (site source : SiteName) (passes : world_refusal (command.Join site source) w ≡ None) where
  can : CanJoin w site source
  can = can_join w site source built passes

  goes : GoesOn w
  goes = behind_goes w built.of_convergence can.behind

  -- where the events behind Setup led
  abbrev led : Cluster
  led = run goes.leads.events goes.start

  same : led.sites ≡ w.sites
  same = sym goes.leads.simulates.sites

  joined_led : HasJoined led can.from site (record led { sites = joined site source led.sites })
  joined_led = joins_copy w.schema goes.start goes.leads.events goes.snapshots.fit.start goes.meshed site source can.from (ap (site_of site) same ∙ can.absent) (ap (site_of source) same ∙ can.found)
      (ap (λ (xs : List SiteState). may_join xs can.from site) same ∙ can.may)

  pub takes_over : TakesOver site source w (world_join site source w)
  takes_over = record {
    absent = can.absent;
    from = can.from;
    found = can.found;
    may = can.may;
    joins = subst (λ (xs : List SiteState). HasJoined (alone xs) can.from site (alone (joined site source xs))) same (joined_alone led can.from site (joined site source led.sites) joined_led);
    rest = refl;
  }

  -- so it is behind the step of the line
  pub step_takes_over : (number : ℕ) → TakesOver site source w (world_step number (command.Join site source) w)
  step_takes_over number = subst (λ (o : Option Refusal). TakesOver site source w (step_by o number (command.Join site source) w)) (sym passes) takes_over
