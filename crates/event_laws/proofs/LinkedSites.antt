-- Which site is linked to which, as the schema declares it.
use Rattle.std.proofs.Common.{◌≡◌, ◌≢◌, true, false, None, ℕ, Bool, cond, List, [], ◌∷◌, Some, refl, sym, ap, ◌∙◌}
use Rattle.rep_values.specs.declared.name.SiteName.{SiteName}
use Rattle.site_state.specs.State.{SiteState, opened_of, DestinationState, destination_of, opened_in}
use mathlib.Core.Bool.{true≢false}
use Rattle.std.specs.Prelude.{Option, ◌&&◌, ◌||◌, not, is_none, filter}
use Rattle.std.specs.List.{find}
use Rattle.rep_schema.specs.declared.schema.Schema.{Schema}
use Rattle.rep_schema.specs.declared.schema.SiteEntry.{SiteEntry}
use Rattle.rep_schema.specs.Shape.{is_master, HasShape}
use Rattle.rep_schema.specs.Named.{is_site, site_named}
use Rattle.rep_schema.specs.Sites.{addresses, sends_to, names_of, destinations_from, is_master_site, is_among}
use Rattle.rep_values.specs.SiteNames.{is_same_site}
use Rattle.deferred_queue.proofs.Sites.{is_same_site-true, is_same_site-refl}
use Rattle.site_state.specs.DeclaredSites.{IsDeclared}
use Rattle.site_state.proofs.DeclaredSites.{sites_in}
use Rattle.site_state.proofs.SchemaSites.{are_apart, found_any, any_found}

-- a site is linked as the schema says: a master not to itself, and a snapshot site to one site alone
pub record IsLinked (x : SiteState) : Type 0 where
  pub own : x.here.is_master ≡ true → opened_of x.here.site x ≡ None
  pub one : x.here.is_master ≡ false → (a b : SiteName) → opened_of a x ≢ None → opened_of b x ≢ None → a ≡ b

both : (a b : Bool) → (a && b) ≡ true → (a ≡ true) × (b ≡ true)
both true b e = (refl, e)
both false b e = cc

-- a name among those of the entries that pass is that of one that passes
among_entry : (test : SiteEntry → Bool) (name : SiteName) (es : List SiteEntry) → is_among (names_of (filter test es)) name ≡ true → (s : SiteEntry) × (s.name ≡ name) × (test s ≡ true)
among_entry test name [] among = cc
among_entry test name (e ∷ es) among = go (test e) refl among (among_entry test name es)
  where
    by : (b : Bool) → is_same_site e.name name ≡ b → test e ≡ true → (b || is_among (names_of (filter test es)) name) ≡ true → (is_among (names_of (filter test es)) name ≡ true → (s : SiteEntry) × (s.name ≡ name) × (test s ≡ true))
        → (s : SiteEntry) × (s.name ≡ name) × (test s ≡ true)
    by true is passes e_among later = (e, is_same_site-true e.name name is, passes)
    by false is passes e_among later = later e_among

    go : (b : Bool) → test e ≡ b → is_among (names_of (cond b (e ∷ filter test es) (filter test es))) name ≡ true → (is_among (names_of (filter test es)) name ≡ true → (s : SiteEntry) × (s.name ≡ name) × (test s ≡ true))
        → (s : SiteEntry) × (s.name ≡ name) × (test s ≡ true)
    go true passes e_among later = by (is_same_site e.name name) refl passes e_among later
    go false passes e_among later = later e_among

-- what is open is a destination
open_among : (site : SiteName) (ds : List DestinationState) → opened_in (destination_of site ds) ≢ None → is_among (sites_in ds) site ≡ true
open_among site [] is = absurd (is refl)
open_among site (d ∷ ds) is = go (is_same_site d.site site) is (open_among site ds)
  where
    go : (b : Bool) → opened_in (cond b (Some d) (destination_of site ds)) ≢ None → (opened_in (destination_of site ds) ≢ None → is_among (sites_in ds) site ≡ true) → (b || is_among (sites_in ds) site) ≡ true
    go true is later = refl
    go false is later = later is

find_named : (name : SiteName) (es : List SiteEntry) (s : SiteEntry) → find (is_site name) es ≡ Some s → s.name ≡ name
find_named name [] s found = cc
find_named name (e ∷ es) s found = go (is_site name e) refl found (find_named name es s)
  where
    go : (b : Bool) → is_site name e ≡ b → cond b (Some e) (find (is_site name) es) ≡ Some s → (find (is_site name) es ≡ Some s → s.name ≡ name) → s.name ≡ name
    go true is found later = let same : e ≡ s = cc in rw (← same) (is_same_site-true e.name name is)
    go false is found later = later found

-- a site to which another sends
pub record SentTo (schema : Schema) (site to : SiteName) : Type 0 where
  pub from : SiteEntry
  pub from_found : site_named schema site ≡ Some from
  pub entry : SiteEntry
  pub named : entry.name ≡ to
  pub sends : sends_to from entry ≡ true

-- what is open to another site sends to it
pub sent_to : (schema : Schema) (x : SiteState) → IsDeclared schema x → (to : SiteName) → opened_of to x ≢ None → SentTo schema x.here.site to
sent_to schema x declared to is = go (site_named schema x.here.site) refl (ap (λ (names : List SiteName). is_among names to) (sym declared.destinations) ∙ open_among to x.destinations is)
  where
    go : (from : Option SiteEntry) → site_named schema x.here.site ≡ from → is_among (names_of (destinations_from schema.sites from)) to ≡ true → SentTo schema x.here.site to
    go None found among = cc
    go (Some from) found among =
        let s = among_entry (sends_to from) to schema.sites among in
        record { from = from; from_found = found; entry = s.0; named = s.1; sends = s.2 }

pub linked_declared : (schema : Schema) → HasShape schema → (x : SiteState) → IsDeclared schema x → IsLinked x
linked_declared schema shape x declared = record { own = own; one = one }
  where
    masters : (from : SiteEntry) → site_named schema x.here.site ≡ Some from → is_master_site schema x.here.site ≡ true → is_master from ≡ true
    masters from found on = any_found is_master x.here.site schema.sites from (are_apart schema.sites shape.site_names) found on

    own : x.here.is_master ≡ true → opened_of x.here.site x ≡ None
    own master = go (opened_of x.here.site x) refl
      where
        by : SentTo schema x.here.site x.here.site → ⊥
        by s = addressed s.from.master refl (both (is_master s.entry) (addresses s.from s.from.master s.entry) s.sends).1
          where
            is : is_master s.from ≡ true
            is = masters s.from s.from_found (sym declared.is_master ∙ master)

            addressed : (m : Option SiteName) → s.from.master ≡ m → addresses s.from s.from.master s.entry ≡ true → ⊥
            addressed (Some m) e sends = let wrong : is_none (Some m) ≡ true = ap is_none (sym e) ∙ is in absurd (cc wrong)
            addressed None e sends =
                let off : not (is_site s.from.name s.entry) ≡ true = ap (λ o. addresses s.from o s.entry) (sym e) ∙ sends in
                let on : is_site s.from.name s.entry ≡ true =
                ap (λ (n : SiteName). is_same_site n s.from.name) (s.named ∙ sym (find_named x.here.site schema.sites s.from s.from_found)) ∙ is_same_site-refl s.from.name in
                absurd (cc (ap not on, off))

        go : (o : Option ℕ) → opened_of x.here.site x ≡ o → o ≡ None
        go None e = refl
        go (Some n) e = absurd (by (sent_to schema x declared x.here.site (λ none. cc (sym e ∙ none))))

    one : x.here.is_master ≡ false → (a b : SiteName) → opened_of a x ≢ None → opened_of b x ≢ None → a ≡ b
    one off a b first second =
        let s = sent_to schema x declared a first in
        let t = sent_to schema x declared b second in
        let same : s.from ≡ t.from = cc (s.from_found, t.from_found) in
        go s t same s.from.master refl
      where
        go : (s : SentTo schema x.here.site a) (t : SentTo schema x.here.site b) → s.from ≡ t.from → (m : Option SiteName) → s.from.master ≡ m → a ≡ b
        go s t same None e =
            let on : is_master_site schema x.here.site ≡ true = found_any is_master x.here.site schema.sites s.from s.from_found (rw e refl) in
            absurd (true≢false (sym on ∙ sym declared.is_master ∙ off))
        go s t same (Some m) e =
            let first : addresses s.from s.from.master s.entry ≡ true = (both (is_master s.entry) (addresses s.from s.from.master s.entry) s.sends).1 in
            let second : addresses t.from t.from.master t.entry ≡ true = (both (is_master t.entry) (addresses t.from t.from.master t.entry) t.sends).1 in
            let here : is_site m s.entry ≡ true = ap (λ o. addresses s.from o s.entry) (sym e) ∙ first in
            let there : is_site m t.entry ≡ true = ap (λ o. addresses t.from o t.entry) (sym (ap (λ (f : SiteEntry). f.master) (sym same) ∙ e)) ∙ second in
            sym s.named ∙ is_same_site-true s.entry.name m here ∙ sym (is_same_site-true t.entry.name m there) ∙ t.named
