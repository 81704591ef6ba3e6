-- Two masters that hold tables of procedures have each other as senders, so there are directions between them, for calls too.
use Rattle.std.proofs.Common.{◌≡◌, ◌≢◌, List, [], ◌∷◌, Bool, true, false, cond, Some, None, refl, sym, ap, ◌∙◌, subst}
use Rattle.std.specs.Prelude.{◌&&◌, ◌||◌, not, is_some, is_none, filter, Option}
use Rattle.std.specs.List.{list_any, find}
use Rattle.std.proofs.lemmas.Bool.{and_parts, or_right}
use Rattle.rep_values.specs.declared.name.SiteName.{SiteName}
use Rattle.rep_schema.specs.declared.schema.Schema.{Schema}
use Rattle.rep_schema.specs.declared.schema.SiteEntry.{SiteEntry}
use Rattle.rep_schema.specs.Shape.{is_master, is_early_master, HasShape}
use Rattle.rep_schema.specs.Named.{is_site, site_named}
use Rattle.rep_schema.specs.Sites.{addresses, sends_to, names_of, senders_to, senders_of, is_among}
use Rattle.rep_values.specs.SiteNames.{is_same_site}
use Rattle.deferred_queue.proofs.Sites.{is_same_site-true}
use Rattle.net_plan.specs.Directions.{HasDirection}
use Rattle.site_state.proofs.SchemaSites.{AreApart, are_apart, any_found}
use Rattle.site_events.specs.Events.{without}
use Rattle.proc_state.specs.State.{ProcState, other_masters}
use Rattle.world_state.specs.World.{WorldState, gets_from}
use Rattle.world_state.specs.Phases.{is_setup}
use Rattle.world_state.specs.Procs.{proc_of, early_masters}
use Rattle.world_state.specs.ProcRefusals.{is_other, are_two_masters}
use Rattle.world_laws.specs.Built.{AreProcsMade}
use Rattle.world_laws.proofs.Sites.{name-proc_of}
use Rattle.world_laws.proofs.Made.{site_is}
use Rattle.world.specs.Following.{IsBuilt}
use Rattle.world.proofs.ProcSites.{proc_found_among, among_found}
use Rattle.world.proofs.Masters.{found_among}

-- ---- early masters of a schema

-- an entry that is found by a name has it
found_named : (name : SiteName) (es : List SiteEntry) (s : SiteEntry) → find (is_site name) es ≡ Some s → s.name ≡ name
found_named name [] s found = absurd (cc found)
found_named name (e ∷ es) s found = go (is_site name e) refl found (found_named name es s)
  where
    go : (b : Bool) → is_site name e ≡ b → cond b (Some e) (find (is_site name) es) ≡ Some s → (find (is_site name) es ≡ Some s → s.name ≡ name) → s.name ≡ name
    go true is found later = let same : e ≡ s = cc found in rw (← same) (is_same_site-true e.name name is)
    go false is found later = later found

module _ (test : SiteEntry → Bool) (name : SiteName) where
  -- a name among those of some entries is that of one that is found, and some entry of it passes
  there_is : (es : List SiteEntry) → is_among (names_of (filter test es)) name ≡ true → (s : SiteEntry) × (find (is_site name) es ≡ Some s)
  there_is [] among = absurd (cc among)
  there_is (e ∷ es) among = go (test e) (is_site name e) refl among (there_is es)
    where
      go : (b c : Bool) → is_site name e ≡ c → is_among (names_of (cond b (e ∷ filter test es) (filter test es))) name ≡ true
          → (is_among (names_of (filter test es)) name ≡ true → (s : SiteEntry) × (find (is_site name) es ≡ Some s)) → (s : SiteEntry) × (cond c (Some e) (find (is_site name) es) ≡ Some s)
      go b true is among later = (e, refl)
      go true false is among later = later (rw is at among)
      go false false is among later = later among

  some_passes : (es : List SiteEntry) → is_among (names_of (filter test es)) name ≡ true → list_any (λ e. is_site name e && test e) es ≡ true
  some_passes [] among = among
  some_passes (e ∷ es) among = go (test e) (is_site name e) refl among (some_passes es)
    where
      go : (b c : Bool) → is_site name e ≡ c → is_among (names_of (cond b (e ∷ filter test es) (filter test es))) name ≡ true
          → (is_among (names_of (filter test es)) name ≡ true → list_any (λ e. is_site name e && test e) es ≡ true)
          → ((c && b) || list_any (λ e. is_site name e && test e) es) ≡ true
      go true true is among later = refl
      go true false is among later = later (rw is at among)
      go false true is among later = later among
      go false false is among later = later among

-- the entry of an early master
record IsEarly (schema : Schema) (name : SiteName) : Type 0 where
  entry : SiteEntry
  found : site_named schema name ≡ Some entry
  named : entry.name ≡ name
  master : is_master entry ≡ true

early_entry : (schema : Schema) (name : SiteName) → HasShape schema → is_among (early_masters schema) name ≡ true → IsEarly schema name
early_entry schema name shape among =
    let there = there_is is_early_master name schema.sites among in
    let passes : is_early_master there.0 ≡ true =
    any_found is_early_master name schema.sites there.0 (are_apart schema.sites shape.site_names) there.1 (some_passes is_early_master name schema.sites among) in
    record { entry = there.0; found = there.1; named = found_named name schema.sites there.0 there.1; master = (and_parts (is_master there.0) (not there.0.late) passes).0 }

-- one master sends to another one
sends_another : (from to : SiteEntry) → is_master from ≡ true → is_master to ≡ true → from.name ≢ to.name → sends_to from to ≡ true
sends_another from to from_master to_master differ = rw to_master (go from.master from_master (is_site from.name to) refl)
  where
    go : (o : Option SiteName) → is_none o ≡ true → (b : Bool) → is_site from.name to ≡ b → addresses from o to ≡ true
    go None none true is = absurd (differ (sym (is_same_site-true to.name from.name is)))
    go None none false is = rw is refl
    go (Some master) none b is = absurd (cc none)

early_gets_from : (schema : Schema) (site origin : SiteName) → HasShape schema → is_among (early_masters schema) site ≡ true → is_among (early_masters schema) origin ≡ true → origin ≢ site
    → is_among (senders_of schema site) origin ≡ true
early_gets_from schema site origin shape here there differ =
    let to = early_entry schema site shape here in
    let from = early_entry schema origin shape there in
    let sends : sends_to from.entry to.entry ≡ true = sends_another from.entry to.entry from.master to.master (λ same. differ (sym from.named ∙ same ∙ to.named)) in
    subst (λ (found : Option SiteEntry). is_among (names_of (senders_to schema.sites found)) origin ≡ true) (sym to.found)
    (found_among (λ (e : SiteEntry). sends_to e to.entry) origin schema.sites from.entry from.found sends)

-- ---- names without one

among_without : (name : SiteName) (names : List SiteName) (other : SiteName) → is_among (without name names) other ≡ true → (is_among names other ≡ true) × (name ≢ other)
among_without name [] other among = absurd (cc among)
among_without name (n ∷ ns) other among = go (is_same_site n name) refl (is_same_site n other) refl among (among_without name ns other)
  where
    go : (b : Bool) → is_same_site n name ≡ b → (c : Bool) → is_same_site n other ≡ c → is_among (cond b (without name ns) (n ∷ without name ns)) other ≡ true
        → (is_among (without name ns) other ≡ true → (is_among ns other ≡ true) × (name ≢ other)) → ((c || is_among ns other) ≡ true) × (name ≢ other)
    go true is c is_other among later = let found = later among in (or_right c (is_among ns other) found.0, found.1)
    go false is true is_other among later = (refl, λ same. let own : is_same_site n name ≡ true = ap (is_same_site n) same ∙ is_other in cc (own, is))
    go false is false is_other among later = later (rw is_other at among)

-- ---- in a world

-- the directions between two masters, of which the second holds tables of procedures too
pub record AreLinked (w : WorldState) (from to : SiteName) : Type 0 where
  pub there : HasDirection w.net from to
  pub back : HasDirection w.net to from
  pub calls_there : HasDirection w.procs.net from to
  pub calls_back : HasDirection w.procs.net to from
  pub receiver : is_some (proc_of to w.procs.sites) ≡ true

-- a site has the others that are there from the start as other masters
others_are : (w : WorldState) → AreProcsMade w → (site : SiteName) (x : ProcState) → proc_of site w.procs.sites ≡ Some x → other_masters x ≡ without site (early_masters w.schema)
others_are w made site x found =
    (site_is w.schema w.procs made site x found).masters_are ∙ ap (λ (me : SiteName). without me (early_masters w.schema)) (name-proc_of site w.procs.sites x found)

pub two_masters_linked : (w : WorldState) → IsBuilt w → is_setup w.phase ≡ false → (from to : SiteName) → are_two_masters from to w.procs ≡ true → AreLinked w from to
two_masters_linked w built behind from to two = go (proc_of from w.procs.sites) refl two
  where
    made : AreProcsMade w
    made = built.procs.made behind

    by : (x : ProcState) → proc_of from w.procs.sites ≡ Some x → is_among (other_masters x) to ≡ true → AreLinked w from to
    by x found among =
        let other = among_without from (early_masters w.schema) to (subst (λ (names : List SiteName). is_among names to ≡ true) (others_are w made from x found) among) in
        let own : is_among (early_masters w.schema) from ≡ true = subst (λ (names : List SiteName). is_among names from ≡ true) made.names (proc_found_among from w.procs.sites x found) in
        let gets : gets_from w to from ≡ true = early_gets_from w.schema to from built.shape other.0 own other.1 in
        let receiver : is_some (proc_of to w.procs.sites) ≡ true = among_found to w.procs.sites (subst (λ (names : List SiteName). is_among names to ≡ true) (sym made.names) other.0) in
        let links = built.linked behind to from gets in
        let calls = built.calls_linked behind to from gets in
        record { there = links.1; back = links.0; calls_there = calls.1; calls_back = calls.0; receiver = receiver }

    go : (o : Option ProcState) → proc_of from w.procs.sites ≡ o → is_other to o ≡ true → AreLinked w from to
    go None found other = absurd (cc other)
    go (Some x) found other = by x found other
