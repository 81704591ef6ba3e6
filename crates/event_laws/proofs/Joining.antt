-- Where a late master joins, the snapshots keep up with their masters.
use Rattle.std.proofs.Common.{◌≡◌, List, [], ◌∷◌, Bool, true, false, cond, Some, None, refl, sym, inl, subst}
use Rattle.std.specs.Prelude.{Option, option_map}
use Rattle.rep_values.specs.declared.name.SiteName.{SiteName}
use Rattle.rep_schema.specs.declared.schema.Schema.{Schema}
use Rattle.rep_values.specs.SiteNames.{is_same_site}
use Rattle.site_state.specs.State.{SiteState}
use Rattle.site_state.specs.Making.{master_here}
use Rattle.site_state.specs.Joining.{site_open, site_copy}
use Rattle.site_events.specs.Cluster.{site_of}
use Rattle.site_events.specs.Joins.{queue_counts, copied, with_joined}
use Rattle.site_events.specs.Events.{master_of, found_site}
use Rattle.event_laws.proofs.Sites.{found_or, site_of-joined}
use Rattle.event_laws.proofs.NewSites.{open_to_each_keeps}
use Rattle.site_state.specs.Fits.{SnapshotsApart}
use Rattle.event_laws.proofs.Moves.{all_weaker}
use Rattle.event_laws.proofs.SnapshotsKeepUp.{KeepsUp, AllKeepUp, master_moves, own_moves}
use Rattle.event_laws.proofs.Calls.{open_quiet}
use Rattle.event_laws.proofs.SitesKeepUp.{HaveTables, KeepUpWith, SiteKeepsUp, KeepsUpAt, SitesKeepUp, master_in, found_keeps_up}

-- one that joins has no snapshots
pub snapshots-copied : (sites : List SiteState) (source : SiteState) (site : SiteName) → (copied sites source site).snapshots ≡ []
snapshots-copied sites source site = open_to_each_keeps (λ x. x.snapshots ≡ []) (λ s x is. is) sites (site_copy source (master_here source.schema site) (queue_counts sites)) refl

module _ (schema : Schema) (sites : List SiteState) (begun : List SiteName) (have : HaveTables schema sites) (all : SitesKeepUp schema sites begun) where
  module _ (site : SiteName) (source : SiteState) where
    abbrev new : SiteState
    new = copied sites source site

    abbrev ys : List SiteState
    ys = with_joined sites source site

    none_keep_up : (o : Option SiteState) (x : SiteState) → x.snapshots ≡ [] → KeepUpWith schema begun o x
    none_keep_up None x none = none
    none_keep_up (Some m) x none = subst (AllKeepUp schema begun m x) (sym none) tt

    -- each of the others is opened to it, and so is its master
    opened_keeps_up : (name : SiteName) (x : SiteState) → site_of name sites ≡ Some x → SiteKeepsUp schema sites begun x → KeepUpWith schema begun (master_in schema ys x) (site_open site x)
    opened_keeps_up name x at_x up = go (master_of schema x.here.site) up.snapshots
      where
        by : (master : SiteName) (there : Option SiteState) (o : Option SiteState) → site_of master sites ≡ o → KeepUpWith schema begun o x → KeepUpWith schema begun (found_or there (option_map (site_open site) o)) (site_open site x)
        by master there None is up = none_keep_up there (site_open site x) up
        by master there (Some m) is up = own_moves schema begun true (site_open site m) x (site_open site x) (inl (open_quiet site x)) (have name x at_x)
            (all_weaker (KeepsUp schema begun m x) (KeepsUp schema begun (site_open site m) x) x.snapshots
            (λ s one. master_moves schema begun m (site_open site m) x s (inl (open_quiet site m)) (have master m is) one) up)

        go : (master : Option SiteName) → KeepUpWith schema begun (found_site sites master) x → KeepUpWith schema begun (found_site ys master) (site_open site x)
        go None up = up
        go (Some master) up = rw (site_of-joined master (site_open site) sites new (λ y. refl)) (by master (site_of master (new ∷ [])) (site_of master sites) refl up)

    pub with_joined_keeps_up : SitesKeepUp schema ys begun
    with_joined_keeps_up name = rw (site_of-joined name (site_open site) sites new (λ y. refl)) (go (site_of name sites) refl)
      where
        fresh : (b : Bool) → KeepsUpAt schema ys begun (cond b (Some new) None)
        fresh true = record { apart = subst SnapshotsApart (sym (snapshots-copied sites source site)) tt; snapshots = none_keep_up (master_in schema ys new) new (snapshots-copied sites source site) }
        fresh false = tt

        go : (o : Option SiteState) → site_of name sites ≡ o → KeepsUpAt schema ys begun (found_or (site_of name (new ∷ [])) (option_map (site_open site) o))
        go None is = fresh (is_same_site new.here.site name)
        go (Some x) is = let up = found_keeps_up schema sites begun name x all is in record { apart = up.apart; snapshots = opened_keeps_up name x is up }
