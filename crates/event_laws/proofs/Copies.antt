-- What a site that joins begins with, whatever the other sites are: the tables of its source, and nothing of its own.
use Rattle.std.proofs.Common.{◌≡◌, List, [], ◌∷◌, Bool, true, false, cond, Some, refl, ap, ◌∙◌}
use Rattle.std.specs.Prelude.{◌||◌, is_some}
use Rattle.rep_values.specs.declared.name.SiteName.{SiteName}
use Rattle.unique_resolve.specs.Numbers.{first_numbers}
use Rattle.rep_values.specs.SiteNames.{is_same_site}
use Rattle.txn_effects.specs.declared.local.Here.{Here}
use Rattle.site_state.specs.declared.entry.Entry.{Entry}
use Rattle.site_state.specs.State.{SenderState, SiteState, sender_of, opened_of}
use Rattle.rep_schema.specs.Sites.{is_among}
use Rattle.site_state.specs.Contents.{journal_content, content_of}
use Rattle.site_state.specs.Streams.{stream_in, stream_to}
use Rattle.site_state.specs.Making.{master_here}
use Rattle.site_state.specs.Joining.{site_copy}
use Rattle.site_state.proofs.DeclaredSites.{origins}
use Rattle.site_events.specs.Joins.{queue_counts, copied}
use Rattle.event_laws.proofs.NewSites.{open_to_each_keeps, copied_is_new, copied_here}
use Rattle.event_laws.proofs.JoinedSites.{copied_queue}
use Rattle.event_laws.proofs.Openings.{stream_in-none}

-- a name is that of a sender where one is found by it
pub is_among-origins : (name : SiteName) (ss : List SenderState) → is_among (origins ss) name ≡ is_some (sender_of name ss)
is_among-origins name [] = refl
is_among-origins name (s ∷ ss) = go (is_same_site s.origin name) (is_among-origins name ss)
  where
    go : (b : Bool) → is_among (origins ss) name ≡ is_some (sender_of name ss) → (b || is_among (origins ss) name) ≡ is_some (cond b (Some s) (sender_of name ss))
    go true later = refl
    go false later = later

-- ---- the one that joins

module _ (sites : List SiteState) (source : SiteState) (site : SiteName) where
  abbrev new : SiteState
  new = copied sites source site

  -- as it is before it is open to any
  abbrev first_copy : SiteState
  first_copy = site_copy source (master_here source.schema site) (queue_counts sites)

  pub copied_clock : new.stamps.clock ≡ 0
  copied_clock = open_to_each_keeps (λ (x : SiteState). x.stamps.clock ≡ 0) (λ s x is. is) sites first_copy refl

  pub copied_last : new.stamps.last ≡ 0
  copied_last = open_to_each_keeps (λ (x : SiteState). x.stamps.last ≡ 0) (λ s x is. is) sites first_copy refl

  pub copied_moment : new.moment ≡ 0
  copied_moment = open_to_each_keeps (λ (x : SiteState). x.moment ≡ 0) (λ s x is. is) sites first_copy refl

  pub copied_logs : new.logs ≡ []
  copied_logs = open_to_each_keeps (λ (x : SiteState). x.logs ≡ []) (λ s x is. is) sites first_copy refl

  pub copied_snapshots : new.snapshots ≡ []
  copied_snapshots = open_to_each_keeps (λ (x : SiteState). x.snapshots ≡ []) (λ s x is. is) sites first_copy refl

  -- its counters stand where those of a new site stand
  pub copied_counters : (content_of new).numbers ≡ first_numbers source.schema
  copied_counters =
      ap (λ (es : List Entry). (journal_content new.schema new.here.site new.base es).numbers) (copied_is_new sites source site).journal
      ∙ ap first_numbers (copied_is_new sites source site).schema_is

  -- it sends nothing
  pub copied_streams : (name : SiteName) → stream_to name new ≡ []
  copied_streams name = ap (stream_in (opened_of name new)) (copied_queue sites source site) ∙ stream_in-none (opened_of name new)

  pub copied_master : new.here.is_master ≡ true
  copied_master = ap (λ (h : Here). h.is_master) (copied_here sites source site)

  pub copied_name : new.here.site ≡ site
  copied_name = ap (λ (h : Here). h.site) (copied_here sites source site)
