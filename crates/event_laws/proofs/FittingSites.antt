-- What fits at a site goes on to fit, call by call.
use Rattle.std.proofs.Common.{◌≡◌, List, [], ◌∷◌, map, Bool, true, false, cond, Some, None, refl, sym, ◌∙◌, subst}
use Rattle.std.specs.Prelude.{Option, slice_get}
use Rattle.std.specs.List.{AllByRecursion}
use Rattle.rep_values.specs.declared.name.SiteName.{SiteName}
use Rattle.rep_schema.specs.declared.schema.Schema.{Schema}
use Rattle.rep_schema.specs.Tables.{AreTables}
use Rattle.rep_schema.specs.Sites.{senders_of}
use Rattle.rep_calls.specs.declared.past.PastEntry.{PastEntry}
use Rattle.unique_resolve.proofs.Settlements.{AreCounters-first}
use Rattle.packet_code.specs.declared.packet.Packet.{Packet}
use Rattle.rep_laws.specs.Commuting.{IsSound}
use Rattle.rep_laws.proofs.SoundSchemas.{HasKeys-sound, KeysStandAlone-sound}
use Rattle.site_state.specs.State.{SenderState, SiteState}
use Rattle.site_state.specs.Contents.{content_of, tables_of}
use Rattle.site_state.specs.Steps.{begun}
use Rattle.site_state.specs.Commits.{site_commit, site_clock}
use Rattle.site_state.specs.Packets.{site_accept}
use Rattle.site_state.specs.Passes.{site_apply}
use Rattle.site_state.specs.Errors.{site_execute, site_drop}
use Rattle.site_state.specs.Purges.{site_purge, site_purge_log}
use Rattle.site_state.specs.Refreshes.{with_tables}
use Rattle.site_events.specs.Rules.{rows_ruled}
use Rattle.site_state.specs.Making.{master_here}
use Rattle.site_state.specs.Joining.{sender_from, site_open, site_copy}
use Rattle.site_state.proofs.Growing.{queue_after-rebased}
use Rattle.site_state.proofs.Stepping.{commit_steps, apply_steps, execute_steps, drop_steps}
use Rattle.site_state.proofs.Changing.{accept_later}
use Rattle.site_events.specs.Cluster.{Cluster, site_of, at_site}
use Rattle.site_events.specs.Joins.{queue_counts, copied, with_joined, may_join, joined_by, joined}
use Rattle.site_events.specs.Events.{Event, Commit, SetClock, Send, SendMark, Deliver, Begin, Apply, Execute, Drop, Purge, PurgeLog, Refresh, Join, receiver, delivered, may_apply, applied_where, master_of, found_site, refreshed, happens, run}
use Rattle.event_laws.specs.Starts.{IsNewSite}
use Rattle.event_laws.specs.Fitting.{StartsFit, EverySiteFits}
use Rattle.event_laws.proofs.Sites.{found_all, all_at, all_joined}
use Rattle.event_laws.proofs.Happening.{IsRefreshed, refreshed_is}
use Rattle.event_laws.proofs.Happening as happening
use Rattle.event_laws.proofs.NewSites.{open_to_each_keeps}
use Rattle.event_laws.proofs.QueryTables.{AreTables-rows_ruled}
use Rattle.site_state.specs.Fits.{SendersFit, AreWithin, SiteFits}
use Rattle.site_state.proofs.FittingBlocks.{block_own}
use Rattle.site_state.proofs.FittingSites.{within_renewed, commit_fits, apply_fits, execute_fits, drop_fits, accept_fits}

-- a site of the schema fits
record FitsIn (schema : Schema) (x : SiteState) : Type 0 where
  same : x.schema ≡ schema
  fits : SiteFits x

-- ---- all sites

module _ (schema : Schema) where
  abbrev AllFit : List SiteState → Type 0
  AllFit sites = AllByRecursion (FitsIn schema) sites

  -- a call that changes nothing of this
  plain_fits : (x y : SiteState) → y.schema ≡ x.schema → y.here ≡ x.here → y.base ≡ x.base → y.journal ≡ x.journal → y.senders ≡ x.senders → AreWithin x.schema y.snapshots → FitsIn schema x → FitsIn schema y
  plain_fits x y same here base journal senders within h = record {
    same = same ∙ h.same;
    fits = record {
      keyed = rw same h.fits.keyed;
      content = rw (same, here, base, journal) h.fits.content;
      queued = rw (same, here, base, journal) h.fits.queued;
      senders = rw (same, senders) h.fits.senders;
      journal = rw (same, journal) h.fits.journal;
      within = rw same within;
    };
  }

  open_fits : (site : SiteName) (x : SiteState) → FitsIn schema x → FitsIn schema (site_open site x)
  open_fits site x h = plain_fits x _ refl refl refl refl refl h.fits.within h

  refresh_fits : (sites : List SiteState) → ((name : SiteName) (m : SiteState) → site_of name sites ≡ Some m → FitsIn schema m) → (x y : SiteState) → IsRefreshed sites x y → FitsIn schema x → FitsIn schema y
  refresh_fits sites found x _ happening.Not h = h
  refresh_fits sites found x _ (happening.From master there is) h = record {
    same = h.same;
    fits = record {
      keyed = h.fits.keyed;
      content = record {
        tables = AreTables-rows_ruled x.schema (tables_of master) x.snapshots (tables_of x) (by (master_of x.schema x.here.site) there) h.fits.within h.fits.content.tables;
        counters = AreCounters-first x.schema;
      };
      queued = rw (queue_after-rebased x.schema x.here (with_tables (rows_ruled x.schema (tables_of master) x.snapshots) (tables_of x)) x.base x.journal is) h.fits.queued;
      senders = h.fits.senders;
      journal = (tt, h.fits.journal);
      within = within_renewed x.schema master.moment x.snapshots h.fits.within;
    };
  }
    where
      by : (name : Option SiteName) → found_site sites name ≡ Some master → AreTables x.schema (tables_of master)
      by None there = absurd (cc there)
      by (Some name) there = let m = found name master there in subst (λ (s : Schema). AreTables s (tables_of master)) (m.same ∙ sym h.same) m.fits.content.tables

  none_arrived : (firsts : List PastEntry) (names : List SiteName) → SendersFit schema (map (sender_from firsts) names)
  none_arrived firsts [] = tt
  none_arrived firsts (n ∷ ns) = (tt, none_arrived firsts ns)

  copied_fits : (sites : List SiteState) (source : SiteState) (site : SiteName) → FitsIn schema source → FitsIn schema (copied sites source site)
  copied_fits sites source site h = open_to_each_keeps (FitsIn schema) open_fits sites (site_copy source (master_here source.schema site) (queue_counts sites)) (record {
    same = h.same;
    fits = record {
      keyed = h.fits.keyed;
      content = record { tables = h.fits.content.tables; counters = AreCounters-first source.schema };
      queued = tt;
      senders = subst (λ (s : Schema). SendersFit s (map (sender_from (queue_counts sites)) (senders_of source.schema site))) (sym h.same) (none_arrived (queue_counts sites) (senders_of source.schema site));
      journal = tt;
      within = tt;
    };
  })

  joined_fits : (sites : List SiteState) (site from : SiteName) → AllFit sites → AllFit (joined site from sites)
  joined_fits sites site from all = go (site_of site sites) (site_of from sites) refl
    where
      by : (source : SiteState) → FitsIn schema source → (b : Bool) → AllFit (cond b (with_joined sites source site) sites)
      by source h true = all_joined (FitsIn schema) (site_open site) sites (copied sites source site) (open_fits site) (copied_fits sites source site h) all
      by source h false = all

      go : (there source : Option SiteState) → site_of from sites ≡ source → AllFit (joined_by sites site there source)
      go (Some x) source is = all
      go None None is = all
      go None (Some source) is = by source (found_all (FitsIn schema) from sites source all is) (may_join sites source site)

  -- ---- every event

  at_fits : (site : SiteName) (change : SiteState → SiteState) (sites : List SiteState) → ((x : SiteState) → (change x).schema ≡ x.schema) → ((x : SiteState) → SiteFits x → SiteFits (change x)) → AllFit sites → AllFit (at_site site change sites)
  at_fits site change sites same keeps all = all_at (FitsIn schema) site change sites (λ x h. record { same = same x ∙ h.same; fits = keeps x h.fits }) all

  happens_fits : (e : Event) (w : Cluster) → AllFit w.sites → AllFit (happens e w).sites
  happens_fits (Commit site statements) w all = at_fits site (site_commit statements) w.sites (λ x. (commit_steps statements x).schema) (commit_fits statements) all
  happens_fits (SetClock site clock) w all = all_at (FitsIn schema) site (site_clock clock) w.sites (λ x h. plain_fits x _ refl refl refl refl refl h.fits.within h) all
  happens_fits (Send from to position) w all = all
  happens_fits (SendMark from to) w all = all
  happens_fits (Deliver which) w all = go (slice_get w.sent which)
    where
      go : (packet : Option Packet) → AllFit (delivered packet w.sites)
      go None = all
      go (Some packet) = at_fits (receiver packet) (site_accept packet) w.sites (λ x. (accept_later packet x).schema) (accept_fits packet) all
  happens_fits (Begin site) w all = all_at (FitsIn schema) site begun w.sites (λ x h. plain_fits x _ refl refl refl refl refl h.fits.within h) all
  happens_fits (Apply site origin position) w all = go (may_apply site w)
    where
      go : (b : Bool) → AllFit (applied_where b site origin position w.sites)
      go true = at_fits site (site_apply origin position) w.sites (λ x. (apply_steps origin position x).schema) (apply_fits origin position) all
      go false = all
  happens_fits (Execute site origin position) w all = at_fits site (site_execute origin position) w.sites (λ x. (execute_steps origin position x).schema) (execute_fits origin position) all
  happens_fits (Drop site origin position) w all = at_fits site (site_drop origin position) w.sites (λ x. (drop_steps origin position x).schema) (drop_fits origin position) all
  happens_fits (Purge site) w all = all_at (FitsIn schema) site site_purge w.sites (λ x h. plain_fits x _ refl refl refl refl refl h.fits.within h) all
  happens_fits (PurgeLog site table) w all = all_at (FitsIn schema) site (site_purge_log table) w.sites (λ x h. plain_fits x _ refl refl refl refl refl h.fits.within h) all
  happens_fits (Refresh site) w all =
      all_at (FitsIn schema) site (refreshed w.sites) w.sites (λ x. refresh_fits w.sites (λ name m there. found_all (FitsIn schema) name w.sites m all there) x (refreshed w.sites x) (refreshed_is w.sites x)) all
  happens_fits (Join site from) w all = joined_fits w.sites site from all

  run_fits : (es : List Event) (w : Cluster) → AllFit w.sites → AllFit (run es w).sites
  run_fits [] w all = all
  run_fits (e ∷ es) w all = happens_fits e (run es w) (run_fits es w all)

  -- ---- the start

  nothing_arrived : (ss : List SenderState) → AllByRecursion (λ (s : SenderState). s.arrived ≡ []) ss → SendersFit schema ss
  nothing_arrived [] none = tt
  nothing_arrived (s ∷ ss) none = (rw none.0 tt, nothing_arrived ss none.1)

  new_fits : (x : SiteState) → IsSound schema → IsNewSite schema x → StartsFit schema x → FitsIn schema x
  new_fits x sound new starts = record {
    same = new.schema_is;
    fits = record {
      keyed = rw new.schema_is (record { shape = sound.shape; keys = HasKeys-sound schema sound.unbroken sound.shape; apart = KeysStandAlone-sound schema sound.unbroken });
      content = rw (new.schema_is, new.journal) (record { tables = starts.base; counters = AreCounters-first schema });
      queued = rw new.journal tt;
      senders = rw new.schema_is (nothing_arrived x.senders new.arrived);
      journal = rw new.journal tt;
      within = rw new.schema_is starts.within;
    };
  }

  start_fits : (xs : List SiteState) → IsSound schema → AllByRecursion (IsNewSite schema) xs → AllByRecursion (StartsFit schema) xs → AllFit xs
  start_fits [] sound new starts = tt
  start_fits (x ∷ xs) sound new starts = (new_fits x sound new.0 starts.0, start_fits xs sound new.1 starts.1)

pub every_site_fits : EverySiteFits
every_site_fits schema start events is site x found =
    let fits = (found_all (FitsIn schema) site (run events start).sites x (run_fits schema events start (start_fits schema start.sites is.sound is.start.sites is.sites)) found).fits in
    record {
      content = fits.content;
      queued = fits.queued;
      arrived = fits.senders;
      journal = fits.journal;
      blocks = λ statements block gives. block_own x.schema fits.keyed x.here x.stamps statements (content_of x) block fits.content gives;
    }
