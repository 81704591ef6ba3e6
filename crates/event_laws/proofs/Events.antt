-- After every list of events each snapshot keeps up with its master.
use Rattle.std.proofs.Common.{ℕ, List, ◌∷◌, true, refl, inl}
use Rattle.rep_values.specs.declared.name.SiteName.{SiteName}
use Rattle.rep_schema.specs.declared.schema.Schema.{Schema}
use Rattle.site_state.specs.State.{SiteState}
use Rattle.site_state.specs.Steps.{begun}
use Rattle.site_state.specs.Purges.{site_purge_log}
use Rattle.site_events.specs.Cluster.{Cluster, site_of}
use Rattle.site_events.specs.Events.{Event, without, refreshed, begun_after, run}
use Rattle.event_laws.specs.SnapshotStarts.{IsSnapshotStart}
use Rattle.event_laws.proofs.Moves.{all_weaker}
use Rattle.event_laws.proofs.SnapshotsKeepUp.{KeepsUp, own_moves, fewer_begun, begin_master, purge_master, purge_own}
use Rattle.event_laws.proofs.Calls.{begun_quiet}
use Rattle.event_laws.proofs.SitesKeepUp.{HaveTables, SitesKeepUp, Keeps, keep_up_changed, moves_keep}
use Rattle.event_laws.proofs.Begun.{is_among-more, is_among-without}
use Rattle.event_laws.proofs.Refreshing.{refresh_keeps}
use Rattle.event_laws.proofs.RunsFit.{SitesFit}
use Rattle.event_laws.proofs.Starting.{start_keeps_up}
use Rattle.event_laws.proofs.SnapshotEvents.{Becomes, run_becomes}
use Rattle.event_laws.proofs.SnapshotEvents as events
use Rattle.event_laws.proofs.Joining.{with_joined_keeps_up}

module _ (schema : Schema) where
  -- ---- a pass is begun

  begin_keeps : (sites : List SiteState) (names : List SiteName) (name : SiteName) → HaveTables schema sites → Keeps schema sites names (name ∷ names) name begun
  begin_keeps sites names name have = record {
    here = λ x. refl;
    apart = λ x at_x apart. apart;
    none = λ x at_x none. none;
    master = λ m x s at_m h. begin_master schema names (name ∷ names) m x s h;
    other = λ m x s isnt h. fewer_begun schema names (name ∷ names) m x s (is_among-more name m.here.site names isnt) h;
    own = λ x m n at_x there apart up either new. own_moves schema (name ∷ names) true n x (begun x) (inl (begun_quiet x)) (have name x at_x) new;
  }

  -- ---- a log is purged

  purge_log_keeps : (sites : List SiteState) (names : List SiteName) (name : SiteName) (table : ℕ) → Keeps schema sites names (without name names) name (site_purge_log table)
  purge_log_keeps sites names name table = record {
    here = λ x. refl;
    apart = λ x at_x apart. apart;
    none = λ x at_x none. none;
    master = λ m x s at_m h. purge_master schema names (without name names) table m x s (is_among-without name m.here.site names) h;
    other = λ m x s isnt h. fewer_begun schema names (without name names) m x s (is_among-without name m.here.site names) h;
    own = λ x m n at_x there apart up either new. all_weaker (KeepsUp schema (without name names) n x) (KeepsUp schema (without name names) n (site_purge_log table x)) x.snapshots
        (λ s h. purge_own schema (without name names) table n x s h) new;
  }

  -- ---- every event

  becomes_keeps_up : (xs : List SiteState) (names : List SiteName) (ys : List SiteState) (later : List SiteName) → SitesFit schema xs → Becomes schema xs names ys later → SitesKeepUp schema xs names → SitesKeepUp schema ys later
  becomes_keeps_up xs names _ _ fit events.Stays all = all
  becomes_keeps_up xs names _ _ fit (events.Calls name change here moves) all = keep_up_changed schema xs names names name change (moves_keep schema xs names name change fit.have here moves) all
  becomes_keeps_up xs names _ _ fit (events.Begins name) all = keep_up_changed schema xs names (name ∷ names) name begun (begin_keeps xs names name fit.have) all
  becomes_keeps_up xs names _ _ fit (events.PurgesLog name table) all = keep_up_changed schema xs names (without name names) name (site_purge_log table) (purge_log_keeps xs names name table) all
  becomes_keeps_up xs names _ _ fit (events.Refreshes name) all =
      keep_up_changed schema xs names (begun_after name (site_of name xs) names) name (refreshed xs) (refresh_keeps schema xs names name fit.have fit.of_schema) all
  becomes_keeps_up xs names _ _ fit (events.Joins site source) all = with_joined_keeps_up schema xs names fit.have all site source

  -- so it is after every list of events
  pub run_keeps_up : (start : Cluster) (es : List Event) → IsSnapshotStart schema start → SitesKeepUp schema (run es start).sites (run es start).begun
  run_keeps_up start es is = run_becomes schema (SitesKeepUp schema) becomes_keeps_up start is.fit es (start_keeps_up schema start is)
