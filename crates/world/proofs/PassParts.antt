-- Parts of passes are events of their site.
use Rattle.std.proofs.Common.{◌≡◌, ℕ, List, [], ◌∷◌, Bool, true, refl, ap, ◌∙◌}
use Rattle.std.specs.Prelude.{◌||◌, not}
use Rattle.rep_values.specs.declared.name.SiteName.{SiteName}
use Rattle.deferred_queue.proofs.Sites.{is_same_site-refl}
use Rattle.site_state.specs.State.{SiteState}
use Rattle.rep_schema.specs.Sites.{is_among}
use Rattle.site_state.specs.Steps.{begun}
use Rattle.site_state.specs.Passes.{site_apply}
use Rattle.site_state.proofs.Stepping.{apply_steps}
use Rattle.site_events.specs.Cluster.{Cluster, site_of, at_site}
use Rattle.site_events.specs.Events.{is_master_in, applied_where, happens}
use Rattle.site_events.specs.Events as event
use Rattle.event_laws.specs.Confluence.{applied_in_turn}
use Rattle.event_laws.proofs.Sites.{at_twice}
use Rattle.world_laws.proofs.SiteSteps.{Runs, runs_behind, SiteRuns, then_runs, same_does, does_runs}
use Rattle.site_rounds.specs.Parts.{part_of, parts_done}

-- positions are applied in turn where a pass was begun
turn_runs : (site origin : SiteName) (positions : List ℕ) (v : Cluster) → is_among v.begun site ≡ true → Runs v (at_site site (applied_in_turn origin positions) v.sites)
turn_runs site origin [] v is = does_runs site (λ x. x) (same_does site) v
turn_runs site origin (position ∷ later) v is =
    let one : (happens (event.Apply site origin position) v).sites ≡ at_site site (site_apply origin position) v.sites
    = ap (λ (b : Bool). applied_where (b || not (is_master_in (site_of site v.sites))) site origin position v.sites) is in
    runs_behind (event.Apply site origin position) v _ _ refl (turn_runs site origin later (happens (event.Apply site origin position) v) is)
    (ap (at_site site (applied_in_turn origin later)) one ∙ at_twice site (site_apply origin position) (applied_in_turn origin later) v.sites (λ x. (apply_steps origin position x).here))

turn_here : (origin : SiteName) (positions : List ℕ) (x : SiteState) → (applied_in_turn origin positions x).here ≡ x.here
turn_here origin [] x = refl
turn_here origin (position ∷ later) x = turn_here origin later (site_apply origin position x) ∙ (apply_steps origin position x).here

begun_among : (site : SiteName) (names : List SiteName) → is_among (site ∷ names) site ≡ true
begun_among site names = rw (is_same_site-refl site) refl

part_does : (site origin : SiteName) (positions : List ℕ) → SiteRuns site (part_of origin positions)
part_does site origin positions = record {
  keeps = λ x. turn_here origin positions (begun x);
  runs = λ x v found. runs_behind (event.Begin site) v _ _ refl (turn_runs site origin positions (happens (event.Begin site) v) (begun_among site v.begun))
      (at_twice site begun (applied_in_turn origin positions) v.sites (λ y. refl));
}

pub parts_do : (site : SiteName) (parts : List (SiteName × List ℕ)) → SiteRuns site (parts_done parts)
parts_do site [] = same_does site
parts_do site (part ∷ parts) = then_runs site (part_of part.0 part.1) (parts_done parts) (part_does site part.0 part.1) (parts_do site parts)
