-- The world that Setup's end makes is a start: its sites are new and as the schema declares them, and agree on where streams
-- begin.
use Rattle.std.proofs.Common.{◌≡◌, ℕ, List, [], ◌∷◌, map, Bool, true, false, cond, Some, None, refl, sym, ap, ◌∙◌, arith, subst}
use Rattle.std.specs.Prelude.{◌≢◌, ◌||◌, not, is_none, filter, Option}
use Rattle.std.specs.List.{AllByRecursion, find}
use Rattle.rep_values.specs.declared.name.SiteName.{SiteName}
use Rattle.rep_schema.specs.declared.schema.Schema.{Schema}
use Rattle.rep_schema.specs.declared.schema.SiteEntry.{SiteEntry}
use Rattle.rep_schema.specs.Shape.{is_master, HasShape}
use Rattle.rep_schema.specs.Tables.{Rows}
use Rattle.rep_schema.specs.Named.{is_site}
use Rattle.rep_schema.specs.Sites.{senders_of, destinations_of, linked_pairs, is_master_site, is_among, is_late_master}
use Rattle.rep_values.specs.SiteNames.{is_same_site}
use Rattle.deferred_queue.proofs.Sites.{is_same_site-true, is_same_site-refl}
use Rattle.site_state.specs.State.{SenderState, DestinationState, SiteState, destination_of, opened_in, opened_of}
use Rattle.site_state.specs.Making.{master_here, new_sender, new_destination}
use Rattle.site_state.specs.DeclaredSites.{IsDeclared}
use Rattle.site_state.proofs.SchemaSites.{AreApart, are_apart, found_any, any_found, sender_has_destination}
use Rattle.site_events.specs.Cluster.{Cluster, site_of}
use Rattle.event_laws.specs.Starts.{IsNewSite, IsStart}
use Rattle.event_laws.specs.Declared.{AreDeclared}
use Rattle.event_laws.specs.Waiting.{IsFirstNumber, AreFirsts, StreamsMeet, AbsentAreClosed, SitesLinkAsDeclared}
use Rattle.event_laws.proofs.NewSites.{new_site_is_new}
use Rattle.world_state.specs.declared.declared_snapshot.DeclaredSnapshot.{DeclaredSnapshot}
use Rattle.world_state.specs.World.{WorldState}
use Rattle.world_state.specs.Making.{rows_made, logged_at, snapshots_at, snapshot_here, rows_of_snapshots, site_made, entry_made, is_early, sites_made, world_made}
use Rattle.world_laws.specs.Simulation.{Simulates}
use Rattle.world_laws.proofs.Links.{new_carries}

-- a world's sites, where nothing was sent and no pass was begun
abbrev pub core_of : WorldState → Cluster
core_of w = record { sites = w.sites; sent = []; begun = [] }

-- ---- new sites

made_new : (schema : Schema) (rows : List Rows) (snapshots : List DeclaredSnapshot) (site : SiteName) (master : Option SiteName) → IsNewSite schema (site_made schema rows snapshots site master)
made_new schema rows snapshots site None = new_site_is_new schema (master_here schema site) (logged_at schema snapshots site) [] rows
made_new schema rows snapshots site (Some master) =
    new_site_is_new schema (snapshot_here snapshots site) [] (snapshots_at snapshots site) (rows_of_snapshots schema rows (snapshots_at snapshots site))

all_new : (schema : Schema) (rows : List Rows) (snapshots : List DeclaredSnapshot) (es : List SiteEntry) → AllByRecursion (IsNewSite schema) (map (entry_made schema rows snapshots) es)
all_new schema rows snapshots [] = tt
all_new schema rows snapshots (e ∷ es) = (made_new schema rows snapshots e.name e.master, all_new schema rows snapshots es)

pub made_start : (w : WorldState) → IsStart w.schema (core_of (world_made w))
made_start w = record { sites = all_new w.schema (rows_made w.schema w.base) w.snapshots (filter (is_early w.schema) w.schema.sites); sent = refl }

pub made_simulates : (w : WorldState) → Simulates (world_made w) (core_of (world_made w))
made_simulates w = record { behind = refl; sites = refl; net = new_carries [] (linked_pairs w.schema.sites) }

-- ---- what a made site is

made_site : (schema : Schema) (rows : List Rows) (snapshots : List DeclaredSnapshot) (site : SiteName) (master : Option SiteName) → (site_made schema rows snapshots site master).here.site ≡ site
made_site schema rows snapshots site None = refl
made_site schema rows snapshots site (Some master) = refl

made_is_master : (schema : Schema) (rows : List Rows) (snapshots : List DeclaredSnapshot) (site : SiteName) (master : Option SiteName) → (site_made schema rows snapshots site master).here.is_master ≡ is_none master
made_is_master schema rows snapshots site None = refl
made_is_master schema rows snapshots site (Some master) = refl

made_senders : (schema : Schema) (rows : List Rows) (snapshots : List DeclaredSnapshot) (site : SiteName) (master : Option SiteName) → (site_made schema rows snapshots site master).senders ≡ map new_sender (senders_of schema site)
made_senders schema rows snapshots site None = refl
made_senders schema rows snapshots site (Some master) = refl

made_destinations : (schema : Schema) (rows : List Rows) (snapshots : List DeclaredSnapshot) (site : SiteName) (master : Option SiteName)
    → (site_made schema rows snapshots site master).destinations ≡ map (new_destination schema) (destinations_of schema site)
made_destinations schema rows snapshots site None = refl
made_destinations schema rows snapshots site (Some master) = refl

-- ---- entries by name

behind_head : (e : SiteEntry) (es us : List SiteEntry) → AllByRecursion (λ (u : SiteEntry). e.name ≢ u.name) us → AllByRecursion (λ (u : SiteEntry). find (is_site u.name) es ≡ Some u) us
    → AllByRecursion (λ (u : SiteEntry). find (is_site u.name) (e ∷ es) ≡ Some u) us
behind_head e es [] apart found = tt
behind_head e es (u ∷ us) apart found = (go (is_same_site e.name u.name) refl, behind_head e es us apart.1 found.1)
  where
    go : (b : Bool) → is_same_site e.name u.name ≡ b → cond b (Some e) (find (is_site u.name) es) ≡ Some u
    go true is = absurd (apart.0 (is_same_site-true e.name u.name is))
    go false is = found.0

-- each entry is the one that is found by its name
each_found : (es : List SiteEntry) → AreApart es → AllByRecursion (λ (u : SiteEntry). find (is_site u.name) es ≡ Some u) es
each_found [] apart = tt
each_found (e ∷ es) apart = (rw (is_same_site-refl e.name) refl, behind_head e es es apart.0 (each_found es apart.1))

-- ---- sites as the schema declares them

origins-new : (names : List SiteName) → map (λ (s : SenderState). s.origin) (map new_sender names) ≡ names
origins-new [] = refl
origins-new (name ∷ names) = ap (λ (ns : List SiteName). name ∷ ns) (origins-new names)

sites-new : (schema : Schema) (names : List SiteName) → map (λ (d : DestinationState). d.site) (map (new_destination schema) names) ≡ names
sites-new schema [] = refl
sites-new schema (name ∷ names) = ap (λ (ns : List SiteName). name ∷ ns) (sites-new schema names)

-- the entry of a name tells whether a site of this name is a master
is_master_site-found : (schema : Schema) (e : SiteEntry) → AreApart schema.sites → find (is_site e.name) schema.sites ≡ Some e → is_none e.master ≡ is_master_site schema e.name
is_master_site-found schema e apart found = go (is_none e.master) refl (is_master_site schema e.name) refl
  where
    go : (b : Bool) → is_none e.master ≡ b → (c : Bool) → is_master_site schema e.name ≡ c → b ≡ c
    go true is true any = refl
    go true is false any = let also : is_master_site schema e.name ≡ true = found_any is_master e.name schema.sites e found is in absurd (cc (also, any))
    go false is true any = let also : is_master e ≡ true = any_found is_master e.name schema.sites e apart found any in absurd (cc (also, is))
    go false is false any = refl

made_declared_one : (schema : Schema) (rows : List Rows) (snapshots : List DeclaredSnapshot) (e : SiteEntry) → AreApart schema.sites → find (is_site e.name) schema.sites ≡ Some e
    → IsDeclared schema (entry_made schema rows snapshots e)
made_declared_one schema rows snapshots e apart found = record {
  is_master = made_is_master schema rows snapshots e.name e.master ∙ is_master_site-found schema e apart found ∙ ap (is_master_site schema) (sym name);
  senders = ap (map (λ (s : SenderState). s.origin)) (made_senders schema rows snapshots e.name e.master) ∙ origins-new (senders_of schema e.name) ∙ ap (senders_of schema) (sym name);
  destinations = ap (map (λ (d : DestinationState). d.site)) (made_destinations schema rows snapshots e.name e.master) ∙ sites-new schema (destinations_of schema e.name) ∙ ap (destinations_of schema) (sym name);
}
  where
    name : (entry_made schema rows snapshots e).here.site ≡ e.name
    name = made_site schema rows snapshots e.name e.master

each_declared : (schema : Schema) (rows : List Rows) (snapshots : List DeclaredSnapshot) (es : List SiteEntry) → AreApart schema.sites → AllByRecursion (λ (u : SiteEntry). find (is_site u.name) schema.sites ≡ Some u) es
    → AllByRecursion (IsDeclared schema) (map (entry_made schema rows snapshots) (filter (is_early schema) es))
each_declared schema rows snapshots [] apart found = tt
each_declared schema rows snapshots (e ∷ es) apart found = go (is_early schema e) (each_declared schema rows snapshots es apart found.1)
  where
    go : (b : Bool) → AllByRecursion (IsDeclared schema) (map (entry_made schema rows snapshots) (filter (is_early schema) es))
        → AllByRecursion (IsDeclared schema) (map (entry_made schema rows snapshots) (cond b (e ∷ filter (is_early schema) es) (filter (is_early schema) es)))
    go true later = (made_declared_one schema rows snapshots e apart found.0, later)
    go false later = later

pub made_declared : (w : WorldState) → HasShape w.schema → AreDeclared w.schema (world_made w).sites
made_declared w shape =
    let apart : AreApart w.schema.sites = are_apart w.schema.sites shape.site_names in
    record { shape = shape; each = each_declared w.schema (rows_made w.schema w.base) w.snapshots w.schema.sites apart (each_found w.schema.sites apart) }

-- ---- a site that is there is the one that its entry makes

record IsMade (schema : Schema) (rows : List Rows) (snapshots : List DeclaredSnapshot) (site : SiteName) (x : SiteState) : Type 0 where
  entry : SiteEntry
  named : entry.name ≡ site
  early : is_late_master schema site ≡ false
  made : entry_made schema rows snapshots entry ≡ x

not_true : (b : Bool) → not b ≡ true → b ≡ false
not_true true is = cc
not_true false is = refl

found_made : (schema : Schema) (rows : List Rows) (snapshots : List DeclaredSnapshot) (es : List SiteEntry) (site : SiteName) (x : SiteState)
    → site_of site (map (entry_made schema rows snapshots) (filter (is_early schema) es)) ≡ Some x → IsMade schema rows snapshots site x
found_made schema rows snapshots [] site x found = absurd (cc found)
found_made schema rows snapshots (e ∷ es) site x found = go (is_early schema e) refl found (found_made schema rows snapshots es site x)
  where
    rest : List SiteState
    rest = map (entry_made schema rows snapshots) (filter (is_early schema) es)

    by : is_early schema e ≡ true → (c : Bool) → is_same_site (entry_made schema rows snapshots e).here.site site ≡ c → cond c (Some (entry_made schema rows snapshots e)) (site_of site rest) ≡ Some x
        → (site_of site rest ≡ Some x → IsMade schema rows snapshots site x) → IsMade schema rows snapshots site x
    by early true is found later =
        let named : e.name ≡ site = sym (made_site schema rows snapshots e.name e.master) ∙ is_same_site-true (entry_made schema rows snapshots e).here.site site is in
        record { entry = e; named = named; early = subst (λ (n : SiteName). is_late_master schema n ≡ false) named (not_true (is_late_master schema e.name) early); made = cc found }
    by early false is found later = later found

    go : (b : Bool) → is_early schema e ≡ b → site_of site (map (entry_made schema rows snapshots) (cond b (e ∷ filter (is_early schema) es) (filter (is_early schema) es))) ≡ Some x
        → (site_of site rest ≡ Some x → IsMade schema rows snapshots site x) → IsMade schema rows snapshots site x
    go true early found later = by early (is_same_site (entry_made schema rows snapshots e).here.site site) refl found later
    go false early found later = later found

-- ---- where streams begin

-- each name is among the names
among_more : (name : SiteName) (names ns : List SiteName) → AllByRecursion (λ (n : SiteName). is_among names n ≡ true) ns → AllByRecursion (λ (n : SiteName). is_among (name ∷ names) n ≡ true) ns
among_more name names [] all = tt
among_more name names (n ∷ ns) all = (go (is_same_site name n), among_more name names ns all.1)
  where
    go : (b : Bool) → (b || is_among names n) ≡ true
    go true = refl
    go false = all.0

among_themselves : (names : List SiteName) → AllByRecursion (λ (n : SiteName). is_among names n ≡ true) names
among_themselves [] = tt
among_themselves (n ∷ ns) = (rw (is_same_site-refl n) refl, among_more n ns ns (among_themselves ns))

abbrev opened_where : Bool → Bool → Option ℕ
opened_where among late = cond among (cond late None (Some 0)) None

-- a destination is open from the start, unless it is late
opened_in-new : (schema : Schema) (names : List SiteName) (site : SiteName) → opened_in (destination_of site (map (new_destination schema) names)) ≡ opened_where (is_among names site) (is_late_master schema site)
opened_in-new schema [] site = refl
opened_in-new schema (name ∷ names) site = go (is_same_site name site) refl (opened_in-new schema names site)
  where
    go : (b : Bool) → is_same_site name site ≡ b → opened_in (destination_of site (map (new_destination schema) names)) ≡ opened_where (is_among names site) (is_late_master schema site)
        → opened_in (cond b (Some (new_destination schema name)) (destination_of site (map (new_destination schema) names))) ≡ opened_where (b || is_among names site) (is_late_master schema site)
    go true is later = ap (λ (n : SiteName). (new_destination schema n).opened) (is_same_site-true name site is)
    go false is later = later

module _ (w : WorldState) (shape : HasShape w.schema) where
  abbrev rows : List Rows
  rows = rows_made w.schema w.base

  abbrev sites : List SiteState
  sites = sites_made w.schema rows w.snapshots

  made_of : (site : SiteName) (x : SiteState) → site_of site sites ≡ Some x → IsMade w.schema rows w.snapshots site x
  made_of site x found = found_made w.schema rows w.snapshots w.schema.sites site x found

  opened_by : (site : SiteName) (o : SiteState) (origin : SiteName) → site_of origin sites ≡ Some o → opened_of site o ≡ opened_where (is_among (destinations_of w.schema origin) site) (is_late_master w.schema site)
  opened_by site o origin found =
      let m = made_of origin o found in
      let same : o.destinations ≡ map (new_destination w.schema) (destinations_of w.schema origin)
      = ap (λ (y : SiteState). y.destinations) (sym m.made) ∙ made_destinations w.schema rows w.snapshots m.entry.name m.entry.master ∙ ap (λ (n : SiteName). map (new_destination w.schema) (destinations_of w.schema n)) m.named in
      ap (λ (ds : List DestinationState). opened_in (destination_of site ds)) same ∙ opened_in-new w.schema (destinations_of w.schema origin) site

  first_of_sender : (site origin : SiteName) → is_late_master w.schema site ≡ false → is_among (senders_of w.schema site) origin ≡ true → (o : Option SiteState) → site_of origin sites ≡ o → IsFirstNumber o site 0
  first_of_sender site origin early among None found = refl
  first_of_sender site origin early among (Some o) found =
      let opened : opened_of site o ≡ Some 0 = opened_by site o origin found ∙ is_open in (opened, omega arith)
    where
      is_open : opened_where (is_among (destinations_of w.schema origin) site) (is_late_master w.schema site) ≡ Some 0
      is_open = rw (sender_has_destination w.schema shape site origin among, early) refl

  firsts : (site : SiteName) → is_late_master w.schema site ≡ false → (names : List SiteName) → AllByRecursion (λ (n : SiteName). is_among (senders_of w.schema site) n ≡ true) names
      → AllByRecursion (λ (s : SenderState). IsFirstNumber (site_of s.origin sites) site s.first) (map new_sender names)
  firsts site early [] among = tt
  firsts site early (n ∷ ns) among = (first_of_sender site n early among.0 (site_of n sites) refl, firsts site early ns among.1)

  pub made_streams_meet : StreamsMeet sites
  made_streams_meet site = go (site_of site sites) refl
    where
      go : (o : Option SiteState) → site_of site sites ≡ o → AreFirsts sites site o
      go None found = tt
      go (Some x) found =
          let m = made_of site x found in
          let same : x.senders ≡ map new_sender (senders_of w.schema site)
          = ap (λ (y : SiteState). y.senders) (sym m.made) ∙ made_senders w.schema rows w.snapshots m.entry.name m.entry.master ∙ ap (λ (n : SiteName). map new_sender (senders_of w.schema n)) m.named in
          subst (λ (ss : List SenderState). AllByRecursion (λ (s : SenderState). IsFirstNumber (site_of s.origin sites) site s.first) ss) (sym same) (firsts site m.early (senders_of w.schema site) (among_themselves (senders_of w.schema site)))

  pub made_absent_closed : AbsentAreClosed w.schema sites
  made_absent_closed site absent x found late gone = opened_by absent x site found ∙ closed (is_among (destinations_of w.schema site) absent)
    where
      closed : (b : Bool) → opened_where b (is_late_master w.schema absent) ≡ None
      closed true = rw late refl
      closed false = refl

-- the sites that Setup's end makes agree on where streams begin
pub made_linked : (w : WorldState) → HasShape w.schema → SitesLinkAsDeclared w.schema (world_made w).sites
made_linked w shape = record { declared = made_declared w shape; streams = made_streams_meet w shape; closed = made_absent_closed w shape }
