-- Sites at which nothing has happened: those of a start, and one that joins.
use Rattle.std.proofs.Common.{◌≡◌, List, [], ◌∷◌, map, Bool, true, false, cond, Some, None, refl, ◌∙◌}
use Rattle.std.specs.Prelude.{Option}
use Rattle.std.specs.List.{AllByRecursion}
use Rattle.rep_values.specs.declared.name.SiteName.{SiteName}
use Rattle.rep_schema.specs.declared.schema.Schema.{Schema}
use Rattle.rep_schema.specs.Tables.{Rows}
use Rattle.rep_schema.specs.Sites.{senders_of, destinations_of}
use Rattle.rep_calls.specs.declared.past.PastEntry.{PastEntry}
use Rattle.rep_values.specs.SiteNames.{is_same_site}
use Rattle.txn_effects.specs.declared.local.Here.{Here}
use Rattle.snapshot_query.specs.declared.snapshot.Snapshot.{Snapshot}
use Rattle.site_state.specs.State.{SenderState, SiteState, destination_of, acked_in}
use Rattle.site_state.specs.Streams.{count_of}
use Rattle.site_state.specs.Making.{new_sender, new_destination, new_site, master_here}
use Rattle.site_state.specs.Joining.{site_open, sender_from, site_copy}
use Rattle.site_state.proofs.Destinations.{acked_in-opened}
use Rattle.site_events.specs.Cluster.{site_of}
use Rattle.site_events.specs.Joins.{queue_counts, open_to_each, copied}
use Rattle.event_laws.specs.Starts.{IsNewSite}

-- what an opening keeps
pub open_to_each_keeps : (P : SiteState → Type 0) → ((site : SiteName) (x : SiteState) → P x → P (site_open site x)) → (others : List SiteState) (x : SiteState) → P x → P (open_to_each others x)
open_to_each_keeps P keeps [] x is = is
open_to_each_keeps P keeps (other ∷ others) x is = open_to_each_keeps P keeps others (site_open other.here.site x) (keeps other.here.site x is)

-- ---- new sites

abbrev NothingArrived : List SenderState → Type 0
NothingArrived ss = AllByRecursion (λ (s : SenderState). s.arrived ≡ []) ss

open_is_new : (schema : Schema) (site : SiteName) (x : SiteState) → IsNewSite schema x → IsNewSite schema (site_open site x)
open_is_new schema site x new = record {
  schema_is = new.schema_is;
  journal = new.journal;
  arrived = new.arrived;
  acked = λ other. acked_in-opened other site (count_of x) x.destinations ∙ new.acked other;
  purged = new.purged;
}

arrived_none : (names : List SiteName) → NothingArrived (map new_sender names)
arrived_none [] = tt
arrived_none (name ∷ names) = (refl, arrived_none names)

acked_none : (schema : Schema) (names : List SiteName) (site : SiteName) → acked_in (destination_of site (map (new_destination schema) names)) ≡ 0
acked_none schema [] site = refl
acked_none schema (name ∷ names) site = go (is_same_site name site) (acked_none schema names site)
  where
    go : (b : Bool) → acked_in (destination_of site (map (new_destination schema) names)) ≡ 0 → acked_in (cond b (Some (new_destination schema name)) (destination_of site (map (new_destination schema) names))) ≡ 0
    go true later = refl
    go false later = later

-- a site is new as it is made
pub new_site_is_new : (schema : Schema) (here : Here) (logged : List Bool) (snapshots : List Snapshot) (base : List Rows) → IsNewSite schema (new_site schema here logged snapshots base)
new_site_is_new schema here logged snapshots base = record {
  schema_is = refl;
  journal = refl;
  arrived = arrived_none (senders_of schema here.site);
  acked = acked_none schema (destinations_of schema here.site);
  purged = refl;
}

arrived_copied : (firsts : List PastEntry) (names : List SiteName) → NothingArrived (map (sender_from firsts) names)
arrived_copied firsts [] = tt
arrived_copied firsts (name ∷ names) = (refl, arrived_copied firsts names)

-- and as it joins
pub copied_is_new : (sites : List SiteState) (source : SiteState) (site : SiteName) → IsNewSite source.schema (copied sites source site)
copied_is_new sites source site =
    open_to_each_keeps (IsNewSite source.schema) (open_is_new source.schema) sites (site_copy source (master_here source.schema site) (queue_counts sites)) (record {
      schema_is = refl;
      journal = refl;
      arrived = arrived_copied (queue_counts sites) (senders_of source.schema site);
      acked = acked_none source.schema (destinations_of source.schema site);
      purged = refl;
    })

-- it is the master of its name
pub copied_here : (sites : List SiteState) (source : SiteState) (site : SiteName) → (copied sites source site).here ≡ master_here source.schema site
copied_here sites source site = open_to_each_keeps (λ x. x.here ≡ master_here source.schema site) (λ s x is. is) sites (site_copy source (master_here source.schema site) (queue_counts sites)) refl

-- ---- all of them new

-- a site that is found at a start is new
pub start_is_new : (schema : Schema) (P : Option SiteState → Type 0) (sites : List SiteState) (name : SiteName) → P None → ((x : SiteState) → IsNewSite schema x → P (Some x))
    → AllByRecursion (IsNewSite schema) sites → P (site_of name sites)
start_is_new schema P [] name none some all = none
start_is_new schema P (x ∷ xs) name none some all = go (is_same_site x.here.site name) (start_is_new schema P xs name none some all.1)
  where
    go : (b : Bool) → P (site_of name xs) → P (cond b (Some x) (site_of name xs))
    go true later = some x all.0
    go false later = later
