-- What one site does by itself, as events.
use Rattle.std.proofs.Common.{◌≡◌, ℕ, zero, suc, List, [], ◌∷◌, ◌++◌, Bool, true, false, cond, Some, None, refl, sym, ap, ◌∙◌}
use Rattle.std.specs.Prelude.{◌||◌, not, take, Option}
use Rattle.std.specs.List.{AllByRecursion}
use Rattle.rep_values.specs.declared.name.SiteName.{SiteName}
use Rattle.deferred_queue.proofs.Sites.{is_same_site-refl}
use Rattle.packet_code.specs.declared.packet.Packet.{Packet}
use Rattle.site_state.specs.declared.arrival.Arrival.{Arrival}
use Rattle.site_state.specs.State.{SiteState, arrivals}
use Rattle.rep_schema.specs.Sites.{is_among}
use Rattle.site_state.specs.Packets.{site_accept}
use Rattle.site_state.specs.Passes.{site_apply, apply_each, site_pass}
use Rattle.site_state.specs.Steps.{begun}
use Rattle.site_state.proofs.Stepping.{apply_steps}
use Rattle.site_events.specs.Cluster.{Cluster, site_of, at_site}
use Rattle.site_events.specs.Events.{Event, delivered, is_master_in, applied_where, happens, run}
use Rattle.site_events.specs.Events as event
use Rattle.event_laws.proofs.Sites.{KeepsHere, at_same, at_twice}
use Rattle.event_laws.proofs.Runs.{run-append}
use Rattle.site_state.specs.Rounds.{has_ready, passed_where_ready, round, rounds, sender_names, arrived_count, site_rounds, site_until_quiet}
use Rattle.world_state.specs.Pushes.{taken_each}
use Rattle.world_laws.specs.Simulation.{WasSent}
use Rattle.world_laws.proofs.Finding.{at_none, at_found, of_at}

-- events lead to these sites, and send nothing
pub record Runs (v : Cluster) (ys : List SiteState) : Type 0 where
  pub events : List Event
  pub sites : (run events v).sites ≡ ys
  pub sent : (run events v).sent ≡ v.sent

-- one event before others
pub runs_behind : (e : Event) (v : Cluster) (ys zs : List SiteState) → (happens e v).sent ≡ v.sent → Runs (happens e v) ys → ys ≡ zs → Runs v zs
runs_behind e v ys zs sent r same = record {
  events = r.events ++ e ∷ [];
  sites = ap (λ (u : Cluster). u.sites) (run-append r.events (e ∷ []) v) ∙ r.sites ∙ same;
  sent = ap (λ (u : Cluster). u.sent) (run-append r.events (e ∷ []) v) ∙ r.sent ∙ sent;
}

at_kept : (name : SiteName) (change : SiteState → SiteState) (xs : List SiteState) (x : SiteState) → site_of name xs ≡ Some x → change x ≡ x → at_site name change xs ≡ xs
at_kept name change xs x found same = at_found name change (λ y. y) xs x found same ∙ at_same name (λ y. y) xs (λ y. refl)

-- ---- deliveries

-- a site takes in packets that were sent to it
pub taken_runs : (to : SiteName) (packets : List Packet) (v : Cluster) → AllByRecursion (WasSent v.sent to) packets → Runs v (taken_each to packets v.sites)
taken_runs to [] v all = record { events = []; sites = refl; sent = refl }
taken_runs to (packet ∷ packets) v all =
    let come : (happens (event.Deliver all.0.which) v).sites ≡ at_site to (site_accept packet) v.sites = ap (λ (o : Option Packet). delivered o v.sites) all.0.is ∙ ap (λ (n : SiteName). at_site n (site_accept packet) v.sites) all.0.goes in
    runs_behind (event.Deliver all.0.which) v _ _ refl (taken_runs to packets (happens (event.Deliver all.0.which) v) all.1) (ap (taken_each to packets) come)

-- ---- a pass

apply_runs : (site origin : SiteName) (arrived : List Arrival) (v : Cluster) → is_among v.begun site ≡ true → Runs v (at_site site (apply_each origin arrived) v.sites)
apply_runs site origin [] v is = record { events = []; sites = sym (at_same site (apply_each origin []) v.sites (λ x. refl)); sent = refl }
apply_runs site origin (a ∷ arrived) v is =
    let one : (happens (event.Apply site origin a.position) v).sites ≡ at_site site (site_apply origin a.position) v.sites
    = ap (λ (b : Bool). applied_where (b || not (is_master_in (site_of site v.sites))) site origin a.position v.sites) is in
    runs_behind (event.Apply site origin a.position) v _ _ refl (apply_runs site origin arrived (happens (event.Apply site origin a.position) v) is)
    (ap (at_site site (apply_each origin arrived)) one ∙ at_twice site (site_apply origin a.position) (apply_each origin arrived) v.sites (λ x. (apply_steps origin a.position x).here))

begun_among : (site : SiteName) (names : List SiteName) → is_among (site ∷ names) site ≡ true
begun_among site names = rw (is_same_site-refl site) refl

-- a pass is begun, and what arrived is applied
begun_runs : (site origin : SiteName) (arrived : List Arrival) (v : Cluster) → Runs v (at_site site (λ y. apply_each origin arrived (begun y)) v.sites)
begun_runs site origin arrived v = runs_behind (event.Begin site) v _ _ refl (apply_runs site origin arrived (happens (event.Begin site) v) (begun_among site v.begun))
    (at_twice site begun (apply_each origin arrived) v.sites (λ y. refl))

-- ---- what a site does is events, wherever it is there

pub record SiteRuns (site : SiteName) (change : SiteState → SiteState) : Type 0 where
  pub keeps : KeepsHere change
  pub runs : (x : SiteState) (v : Cluster) → site_of site v.sites ≡ Some x → Runs v (at_site site change v.sites)

-- events that lead where another change leads
runs_as : (site : SiteName) (change other : SiteState → SiteState) (x : SiteState) (v : Cluster) → site_of site v.sites ≡ Some x → change x ≡ other x → Runs v (at_site site change v.sites) → Runs v (at_site site other v.sites)
runs_as site change other x v found same r = record { events = r.events; sites = r.sites ∙ at_found site change other v.sites x found same; sent = r.sent }

-- one thing and then another
pub then_runs : (site : SiteName) (change next : SiteState → SiteState) → SiteRuns site change → SiteRuns site next → SiteRuns site (λ x. next (change x))
then_runs site change next first second = record {
  keeps = λ x. second.keeps (change x) ∙ first.keeps x;
  runs = λ x v found. go x v found (first.runs x v found);
}
  where
    join : (v : Cluster) (r : Runs v (at_site site change v.sites)) → Runs (run r.events v) (at_site site next (run r.events v).sites) → Runs v (at_site site (λ x. next (change x)) v.sites)
    join v r s = record {
      events = s.events ++ r.events;
      sites = ap (λ (u : Cluster). u.sites) (run-append s.events r.events v) ∙ s.sites ∙ ap (at_site site next) r.sites ∙ at_twice site change next v.sites first.keeps;
      sent = ap (λ (u : Cluster). u.sent) (run-append s.events r.events v) ∙ s.sent ∙ r.sent;
    }

    go : (x : SiteState) (v : Cluster) → site_of site v.sites ≡ Some x → Runs v (at_site site change v.sites) → Runs v (at_site site (λ x. next (change x)) v.sites)
    go x v found r = join v r (second.runs (change x) (run r.events v) (ap (site_of site) r.sites ∙ of_at site change v.sites x first.keeps found))

each_here : (origin : SiteName) (arrived : List Arrival) (x : SiteState) → (apply_each origin arrived x).here ≡ x.here
each_here origin [] x = refl
each_here origin (a ∷ arrived) x = each_here origin arrived (site_apply origin a.position x) ∙ (apply_steps origin a.position x).here

pub pass_does : (site origin : SiteName) → SiteRuns site (site_pass origin)
pass_does site origin = record {
  keeps = λ x. each_here origin (arrivals origin x) (begun x);
  runs = λ x v found. runs_as site (λ y. apply_each origin (arrivals origin x) (begun y)) (site_pass origin) x v found refl (begun_runs site origin (arrivals origin x) v);
}

-- a pass that ended at some place
pub part_does : (site origin : SiteName) (k : ℕ) → SiteRuns site (λ x. apply_each origin (take k (arrivals origin x)) (begun x))
part_does site origin k = record {
  keeps = λ x. each_here origin (take k (arrivals origin x)) (begun x);
  runs = λ x v found. runs_as site (λ y. apply_each origin (take k (arrivals origin x)) (begun y)) (λ y. apply_each origin (take k (arrivals origin y)) (begun y)) x v found refl
      (begun_runs site origin (take k (arrivals origin x)) v);
}

pub where_does : (site origin : SiteName) → SiteRuns site (passed_where_ready origin)
where_does site origin = record { keeps = λ x. kept x (has_ready origin x); runs = λ x v found. go x v found (has_ready origin x) refl }
  where
    kept : (x : SiteState) (b : Bool) → (cond b (site_pass origin x) x).here ≡ x.here
    kept x true = (pass_does site origin).keeps x
    kept x false = refl

    as_pass : (x : SiteState) → has_ready origin x ≡ true → site_pass origin x ≡ passed_where_ready origin x
    as_pass x is = rw is refl

    as_before : (x : SiteState) → has_ready origin x ≡ false → passed_where_ready origin x ≡ x
    as_before x is = rw is refl

    go : (x : SiteState) (v : Cluster) → site_of site v.sites ≡ Some x → (b : Bool) → has_ready origin x ≡ b → Runs v (at_site site (passed_where_ready origin) v.sites)
    go x v found true is = runs_as site (site_pass origin) (passed_where_ready origin) x v found (as_pass x is) ((pass_does site origin).runs x v found)
    go x v found false is = record { events = []; sites = sym (at_kept site (passed_where_ready origin) v.sites x found (as_before x is)); sent = refl }

-- ---- rounds

pub same_does : (site : SiteName) → SiteRuns site (λ x. x)
same_does site = record { keeps = λ x. refl; runs = λ x v found. record { events = []; sites = sym (at_same site (λ y. y) v.sites (λ y. refl)); sent = refl } }

pub round_does : (site : SiteName) (origins : List SiteName) → SiteRuns site (round origins)
round_does site [] = same_does site
round_does site (origin ∷ origins) = then_runs site (passed_where_ready origin) (round origins) (where_does site origin) (round_does site origins)

rounds_does : (site : SiteName) (n : ℕ) (origins : List SiteName) → SiteRuns site (rounds n origins)
rounds_does site zero origins = same_does site
rounds_does site (suc n) origins = then_runs site (round origins) (rounds n origins) (round_does site origins) (rounds_does site n origins)

pub site_rounds_does : (site : SiteName) → SiteRuns site site_rounds
site_rounds_does site = record {
  keeps = λ x. (rounds_does site (arrived_count x.senders) (sender_names x.senders)).keeps x;
  runs = λ x v found. runs_as site (rounds (arrived_count x.senders) (sender_names x.senders)) site_rounds x v found refl
      ((rounds_does site (arrived_count x.senders) (sender_names x.senders)).runs x v found);
}

pub until_quiet_does : (site origin : SiteName) → SiteRuns site (site_until_quiet origin)
until_quiet_does site origin = then_runs site (site_pass origin) site_rounds (pass_does site origin) (site_rounds_does site)

-- a site that isn't there does nothing
pub does_runs : (site : SiteName) (change : SiteState → SiteState) → SiteRuns site change → (v : Cluster) → Runs v (at_site site change v.sites)
does_runs site change does v = go (site_of site v.sites) refl
  where
    go : (o : Option SiteState) → site_of site v.sites ≡ o → Runs v (at_site site change v.sites)
    go None found = record { events = []; sites = sym (at_none site change v.sites found); sent = refl }
    go (Some x) found = does.runs x v found
