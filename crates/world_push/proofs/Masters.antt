-- At each site of a world of a script what is ready of a master can be applied in any order, in the middle of a push too.
use Rattle.std.proofs.Common.{◌≡◌, false, true, Some, sym, ap, ◌∙◌, subst}
use Rattle.rep_values.specs.declared.name.SiteName.{SiteName}
use Rattle.rep_schema.specs.declared.schema.Schema.{Schema}
use Rattle.rep_schema.specs.Sites.{is_master_site}
use Rattle.site_events.specs.Cluster.{site_of}
use Rattle.site_events.specs.Events.{run}
use Rattle.event_laws.proofs.Sites.{found_all}
use Rattle.event_laws.proofs.MarkLaws.{IsOfSchema, run_schema}
use Rattle.event_laws.proofs.Confluence.{every_site_can_pass_in_any_order}
use Rattle.world_state.specs.World.{WorldState}
use Rattle.world_state.specs.Phases.{is_setup}
use Rattle.world_laws.specs.AlikeWorlds.{IsOfConvergence, Declaring, Going, GoesOnAlike}
use Rattle.world.specs.Following.{PushesInPart, IsBuilt}
use Rattle.world.proofs.Following.{built_in_part}
use Rattle.world_push.specs.Applying.{CanApplyThere}

-- behind Setup, events lead here from where all fits
going_can : (w : WorldState) → GoesOnAlike w → (name : SiteName) → CanApplyThere name w
going_can w a name x found origin master =
    every_site_can_pass_in_any_order a.schema a.start a.leads.events a.fit a.meshed.declared name origin x there (subst (λ (s : Schema). is_master_site s origin ≡ true) same master)
  where
    there : site_of name (run a.leads.events a.start).sites ≡ Some x
    there = ap (site_of name) (sym a.leads.simulates.sites) ∙ found

    same : x.schema ≡ a.schema
    same = found_all (IsOfSchema a.schema) name (run a.leads.events a.start).sites x (run_schema a.schema a.start a.leads.events a.fit.start) there

built_can : (w : WorldState) → is_setup w.phase ≡ false → IsOfConvergence w → (name : SiteName) → CanApplyThere name w
built_can w behind (Declaring so_far) name = absurd (cc (behind, so_far.setup.setup))
built_can w behind (Going a) name = going_can w a name

-- so it is in what a push leaves of a world of the forms that are built
pub can_apply_there : (from to : SiteName) (w y : WorldState) → is_setup w.phase ≡ false → IsBuilt w → PushesInPart from to w y → (name : SiteName) → CanApplyThere name y
can_apply_there from to w y behind built part name =
    built_can y (subst (λ p. is_setup p ≡ false) (sym part.beside.phase) behind) (built_in_part from to w y behind built part).of_convergence name
