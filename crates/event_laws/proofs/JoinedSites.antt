-- What a join makes of the sites, one by one.
use Rattle.std.proofs.Common.{◌≡◌, List, Bool, true, false, cond, Some, None, refl, sym, ◌∙◌, ap, subst, []}
use Rattle.std.specs.Option.{option_map}
use Rattle.rep_values.specs.declared.name.SiteName.{SiteName}
use Rattle.rep_values.specs.SiteNames.{is_same_site}
use Rattle.deferred_queue.proofs.Sites.{is_same_site-true, is_same_site-refl}
use Rattle.site_state.specs.State.{SiteState}
use Rattle.site_state.specs.Contents.{tables_of, journal_content}
use Rattle.site_state.specs.Making.{master_here}
use Rattle.site_state.specs.Joining.{site_open, site_copy}
use Rattle.site_events.specs.Cluster.{site_of}
use Rattle.site_events.specs.Joins.{queue_counts, copied, with_joined}
use Rattle.event_laws.proofs.Sites.{found_or, site_of-joined}
use Rattle.event_laws.proofs.NewSites.{open_to_each_keeps, copied_here, copied_is_new}
use Rattle.site_state.specs.declared.entry.Entry.{Entry}
use Rattle.site_state.specs.Streams.{queue_of}

-- where a master joins, those that were there are open to it
pub found_opened : (sites : List SiteState) (source : SiteState) (site name : SiteName) (x : SiteState) → site_of site sites ≡ None → site_of name sites ≡ Some x → site_of name (with_joined sites source site) ≡ Some (site_open site x)
found_opened sites source site name x absent found =
    site_of-joined name (site_open site) sites (copied sites source site) (λ x. refl) ∙ go (is_same_site (copied sites source site).here.site name) refl
  where
    go : (b : Bool) → is_same_site (copied sites source site).here.site name ≡ b → found_or (cond b (Some (copied sites source site)) None) (option_map (site_open site) (site_of name sites)) ≡ Some (site_open site x)
    go false other = rw found refl
    go true same =
        let own : site ≡ name = sym (ap (λ h. h.site) (copied_here sites source site)) ∙ is_same_site-true (copied sites source site).here.site name same in
        let none : site_of name sites ≡ None = subst (λ n. site_of n sites ≡ None) own absent in
        absurd (cc (none, found))

-- and it is there
pub found_joined : (sites : List SiteState) (source : SiteState) (site : SiteName) → site_of site sites ≡ None → site_of site (with_joined sites source site) ≡ Some (copied sites source site)
found_joined sites source site absent =
    site_of-joined site (site_open site) sites (copied sites source site) (λ x. refl) ∙ (rw (ap (λ h. h.site) (copied_here sites source site), is_same_site-refl site, absent) refl)

-- its base rows are the tables of the one that it copies
pub copied_base : (sites : List SiteState) (source : SiteState) (site : SiteName) → (copied sites source site).base ≡ tables_of source
copied_base sites source site = open_to_each_keeps (λ (x : SiteState). x.base ≡ tables_of source) (λ s x is. is) sites (site_copy source (master_here source.schema site) (queue_counts sites)) refl

pub copied_queue : (sites : List SiteState) (source : SiteState) (site : SiteName) → queue_of (copied sites source site) ≡ []
copied_queue sites source site = rw (copied_is_new sites source site).journal refl

pub copied_tables : (sites : List SiteState) (source : SiteState) (site : SiteName) → tables_of (copied sites source site) ≡ tables_of source
copied_tables sites source site =
    ap (λ (es : List Entry). (journal_content (copied sites source site).schema (copied sites source site).here.site (copied sites source site).base es).tables) (copied_is_new sites source site).journal ∙ copied_base sites source site
