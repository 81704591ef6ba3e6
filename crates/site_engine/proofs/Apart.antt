-- The senders and the destinations of a declared site are each other sites.
use Rattle.std.proofs.Common.{◌≡◌, ◌≢◌, List, [], ◌∷◌, Bool, true, false, cond, Some, None, refl, sym}
use Rattle.std.specs.Prelude.{Option, filter}
use Rattle.std.specs.List.{AllByRecursion}
use Rattle.rep_values.specs.declared.name.SiteName.{SiteName}
use Rattle.rep_schema.specs.declared.schema.Schema.{Schema}
use Rattle.rep_schema.specs.declared.schema.SiteEntry.{SiteEntry}
use Rattle.rep_schema.specs.Shape.{HasShape}
use Rattle.rep_schema.specs.Named.{site_named}
use Rattle.rep_schema.specs.Sites.{names_of, sends_to, senders_to, senders_of, destinations_from, destinations_of}
use Rattle.rep_values.specs.SiteNames.{is_same_site}
use Rattle.deferred_queue.proofs.Sites.{is_same_site-true}
use Rattle.site_state.specs.State.{SenderState, DestinationState, sender_of, destination_of}
use Rattle.site_state.specs.Deferrals as queue
use Rattle.site_state.proofs.SchemaSites.{AreApart, are_apart}
use Rattle.site_state.proofs.DeclaredSites.{origins, sites_in}
use Rattle.sender_inbox.proofs.StandingErrors.{StandApart}

-- no two names are the same
abbrev pub NamesApart : List SiteName → Type 0
NamesApart [] = Unit {0}
NamesApart (n ∷ ns) = AllByRecursion (λ (m : SiteName). is_same_site m n ≡ false) ns × NamesApart ns

other_names : (e : SiteEntry) (test : SiteEntry → Bool) (es : List SiteEntry) → AllByRecursion (λ (u : SiteEntry). e.name ≢ u.name) es → AllByRecursion (λ (m : SiteName). is_same_site m e.name ≡ false) (names_of (filter test es))
other_names e test [] apart = tt
other_names e test (u ∷ es) apart = go (test u) (other_names e test es apart.1)
  where
    off : (b : Bool) → is_same_site u.name e.name ≡ b → b ≡ false
    off true same = absurd (apart.0 (sym (is_same_site-true u.name e.name same)))
    off false same = refl

    go : (b : Bool) → AllByRecursion (λ (m : SiteName). is_same_site m e.name ≡ false) (names_of (filter test es)) → AllByRecursion (λ (m : SiteName). is_same_site m e.name ≡ false) (names_of (cond b (u ∷ filter test es) (filter test es)))
    go true later = (off (is_same_site u.name e.name) refl, later)
    go false later = later

picked_apart : (test : SiteEntry → Bool) (es : List SiteEntry) → AreApart es → NamesApart (names_of (filter test es))
picked_apart test [] apart = tt
picked_apart test (e ∷ es) apart = go (test e) (picked_apart test es apart.1)
  where
    go : (b : Bool) → NamesApart (names_of (filter test es)) → NamesApart (names_of (cond b (e ∷ filter test es) (filter test es)))
    go true later = (other_names e test es apart.0, later)
    go false later = later

module _ (schema : Schema) (shape : HasShape schema) (site : SiteName) where
  -- the senders of a site are each another one
  pub senders_apart : NamesApart (senders_of schema site)
  senders_apart = go (site_named schema site)
    where
      go : (to : Option SiteEntry) → NamesApart (names_of (senders_to schema.sites to))
      go None = tt
      go (Some to) = picked_apart (λ from. sends_to from to) schema.sites (are_apart schema.sites shape.site_names)

  -- and so are its destinations
  pub destinations_apart : NamesApart (destinations_of schema site)
  destinations_apart = go (site_named schema site)
    where
      go : (from : Option SiteEntry) → NamesApart (names_of (destinations_from schema.sites from))
      go None = tt
      go (Some from) = picked_apart (sends_to from) schema.sites (are_apart schema.sites shape.site_names)

no_sender : (name : SiteName) (ss : List SenderState) → AllByRecursion (λ (m : SiteName). is_same_site m name ≡ false) (origins ss) → sender_of name ss ≡ None
no_sender name [] others = refl
no_sender name (s ∷ ss) others = rw others.0 (no_sender name ss others.1)

pub senders_stand_apart : (ss : List SenderState) → NamesApart (origins ss) → StandApart ss
senders_stand_apart [] apart = tt
senders_stand_apart (s ∷ ss) apart = (no_sender s.origin ss apart.0, senders_stand_apart ss apart.1)

no_destination : (name : SiteName) (ds : List DestinationState) → AllByRecursion (λ (m : SiteName). is_same_site m name ≡ false) (sites_in ds) → destination_of name ds ≡ None
no_destination name [] others = refl
no_destination name (d ∷ ds) others = rw others.0 (no_destination name ds others.1)

pub destinations_stand_apart : (ds : List DestinationState) → NamesApart (sites_in ds) → queue.StandApart ds
destinations_stand_apart [] apart = tt
destinations_stand_apart (d ∷ ds) apart = (no_destination d.site ds apart.0, destinations_stand_apart ds apart.1)
