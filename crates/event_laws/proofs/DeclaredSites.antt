-- Sites stay as the schema declares them.
use Rattle.std.proofs.Common.{◌≡◌, List, [], ◌∷◌, map, Bool, true, false, refl, sym, ap, ◌∙◌, subst}
use Rattle.std.specs.Prelude.{◌||◌, ◌&&◌}
use Rattle.std.specs.List.{list_any, AllByRecursion}
use Rattle.rep_values.specs.declared.name.SiteName.{SiteName}
use Rattle.rep_schema.specs.declared.schema.Schema.{Schema}
use Rattle.rep_schema.specs.declared.schema.SiteEntry.{SiteEntry}
use Rattle.rep_schema.specs.Shape.{is_master}
use Rattle.rep_schema.specs.Named.{is_site}
use Rattle.rep_schema.specs.Sites.{senders_of, destinations_of, is_master_site, is_late_master}
use Rattle.rep_calls.specs.declared.past.PastEntry.{PastEntry}
use Rattle.packet_code.specs.declared.packet.Packet.{Packet}
use Rattle.site_state.specs.State.{SiteState}
use Rattle.site_state.specs.Purges.{site_purge}
use Rattle.site_state.specs.Making.{new_destination, master_here}
use Rattle.site_state.specs.Joining.{site_open, sender_from, site_copy}
use Rattle.site_state.proofs.Stepping.{steps_later, Later}
use Rattle.site_state.proofs.Changing.{accept_later, purge_later, open_later}
use Rattle.site_events.specs.Quiet.{are_quiet}
use Rattle.site_events.specs.Joins.{queue_counts, copied, may_join}
use Rattle.site_events.specs.Events.{receiver}
use Rattle.event_laws.specs.Starts.{IsNewSite}
use Rattle.site_state.specs.DeclaredSites.{IsDeclared}
use Rattle.site_state.proofs.DeclaredSites.{origins, sites_in, KeepsNames, names_same, steps_names, accept_names, purge_names, open_names, still_declared}
use Rattle.event_laws.proofs.Sites.{found_all, all_at, all_joined}
use Rattle.event_laws.proofs.Happening.{IsRefreshed, Becomes}
use Rattle.event_laws.proofs.Happening as happening
use Rattle.event_laws.proofs.NewSites.{open_to_each_keeps, copied_is_new}
use Rattle.event_laws.proofs.MarkLaws.{refreshed_later}

pub refreshed_names : (sites : List SiteState) (x y : SiteState) → IsRefreshed sites x y → KeepsNames x y
refreshed_names sites x _ happening.Not = names_same x
refreshed_names sites x _ (happening.From master found is) = record { here = refl; senders = refl; destinations = refl }

-- ---- one that joins

origins-map : (firsts : List PastEntry) (names : List SiteName) → origins (map (sender_from firsts) names) ≡ names
origins-map firsts [] = refl
origins-map firsts (name ∷ names) = ap (λ rest. name ∷ rest) (origins-map firsts names)

sites_in-map : (schema : Schema) (names : List SiteName) → sites_in (map (new_destination schema) names) ≡ names
sites_in-map schema [] = refl
sites_in-map schema (name ∷ names) = ap (λ rest. name ∷ rest) (sites_in-map schema names)

any_weaker : (p q : SiteEntry → Bool) → ((e : SiteEntry) → p e ≡ true → q e ≡ true) → (es : List SiteEntry) → list_any p es ≡ true → list_any q es ≡ true
any_weaker p q implies [] any = cc
any_weaker p q implies (e ∷ es) any = go (p e) refl any (any_weaker p q implies es)
  where
    or_true : (b : Bool) → (b || true) ≡ true
    or_true true = refl
    or_true false = refl

    go : (b : Bool) → p e ≡ b → (b || list_any p es) ≡ true → (list_any p es ≡ true → list_any q es ≡ true) → (q e || list_any q es) ≡ true
    go true is any later = rw (implies e is) refl
    go false is any later = rw (later any) (or_true (q e))

-- a late master is a master
pub late_is_master : (schema : Schema) (name : SiteName) → is_late_master schema name ≡ true → is_master_site schema name ≡ true
late_is_master schema name late = any_weaker (λ site. is_site name site && (is_master site && site.late)) (λ site. is_site name site && is_master site) (λ e. weaker (is_site name e) (is_master e) e.late) schema.sites late
  where
    weaker : (b c d : Bool) → (b && (c && d)) ≡ true → (b && c) ≡ true
    weaker true true d is = refl
    weaker true false d is = cc
    weaker false c d is = cc

-- a site of a schema, as it declares it
pub record IsSiteOf (schema : Schema) (x : SiteState) : Type 0 where
  pub of_schema : x.schema ≡ schema
  pub declared : IsDeclared schema x

-- a late master that joins is declared
pub copied_declared : (sites : List SiteState) (source : SiteState) (site : SiteName) → is_late_master source.schema site ≡ true → IsDeclared source.schema (copied sites source site)
copied_declared sites source site late =
    open_to_each_keeps (IsDeclared source.schema) (λ s x is. still_declared source.schema x (site_open s x) (open_names s x) is) sites (site_copy source (master_here source.schema site) (queue_counts sites)) (record {
      is_master = sym (late_is_master source.schema site late);
      senders = origins-map (queue_counts sites) (senders_of source.schema site);
      destinations = sites_in-map source.schema (destinations_of source.schema site);
    })

-- ---- every event

kept : (schema : Schema) (x y : SiteState) → Later x y → KeepsNames x y → IsSiteOf schema x → IsSiteOf schema y
kept schema x y later keeps is = record { of_schema = later.schema ∙ is.of_schema; declared = still_declared schema x y keeps is.declared }

-- a late master may join
pub joins_late : (sites : List SiteState) (source : SiteState) (site : SiteName) → may_join sites source site ≡ true → is_late_master source.schema site ≡ true
joins_late sites source site may = second source.here.is_master (is_late_master source.schema site) (are_quiet sites) may
  where
    second : (a b c : Bool) → (a && b && c) ≡ true → b ≡ true
    second true true c is = refl
    second true false c is = cc
    second false b c is = cc

-- as a copy of a master
pub joins_from_master : (sites : List SiteState) (source : SiteState) (site : SiteName) → may_join sites source site ≡ true → source.here.is_master ≡ true
joins_from_master sites source site may = first source.here.is_master (is_late_master source.schema site) (are_quiet sites) may
  where
    first : (a b c : Bool) → (a && b && c) ≡ true → a ≡ true
    first true b c is = refl
    first false b c is = cc

copied_is_site_of : (schema : Schema) (sites : List SiteState) (source : SiteState) (site : SiteName) → is_late_master source.schema site ≡ true → IsSiteOf schema source → IsSiteOf schema (copied sites source site)
copied_is_site_of schema sites source site late is = record {
  of_schema = (copied_is_new sites source site).schema_is ∙ is.of_schema;
  declared = subst (λ s. IsDeclared s (copied sites source site)) is.of_schema (copied_declared sites source site late);
}

pub becomes_sites_of : (schema : Schema) (xs : List SiteState) (sent : List Packet) (ys : List SiteState) (more : List Packet) → Becomes xs sent ys more
    → AllByRecursion (IsSiteOf schema) xs → AllByRecursion (IsSiteOf schema) ys
becomes_sites_of schema xs sent _ _ happening.Stays all = all
becomes_sites_of schema xs sent _ _ (happening.Journalled name change steps) all = all_at (IsSiteOf schema) name change xs (λ x. kept schema x (change x) (steps_later x (change x) (steps x)) (steps_names x (change x) (steps x))) all
becomes_sites_of schema xs sent _ _ (happening.Sends from to position) all = all
becomes_sites_of schema xs sent _ _ (happening.Marks from to) all = all
becomes_sites_of schema xs sent _ _ (happening.Delivers packet which is) all = all_at (IsSiteOf schema) (receiver packet) _ xs (λ x. kept schema x _ (accept_later packet x) (accept_names packet x)) all
becomes_sites_of schema xs sent _ _ (happening.Purges name) all = all_at (IsSiteOf schema) name site_purge xs (λ x. kept schema x _ (purge_later x) (purge_names x)) all
becomes_sites_of schema xs sent _ _ (happening.Refreshes name change refreshed) all =
    all_at (IsSiteOf schema) name change xs (λ x. kept schema x (change x) (refreshed_later xs x (change x) (refreshed x)) (refreshed_names xs x (change x) (refreshed x))) all
becomes_sites_of schema xs sent _ _ (happening.Joins site from source absent found may) all =
    all_joined (IsSiteOf schema) (site_open site) xs (copied xs source site) (λ x. kept schema x _ (open_later site x) (open_names site x))
    (copied_is_site_of schema xs source site (joins_late xs source site may) (found_all (IsSiteOf schema) from xs source all found)) all

pub start_sites_of : (schema : Schema) (sites : List SiteState) → AllByRecursion (IsNewSite schema) sites → AllByRecursion (IsDeclared schema) sites → AllByRecursion (IsSiteOf schema) sites
start_sites_of schema [] new declared = tt
start_sites_of schema (x ∷ xs) new declared = (record { of_schema = new.0.schema_is; declared = declared.0 }, start_sites_of schema xs new.1 declared.1)
