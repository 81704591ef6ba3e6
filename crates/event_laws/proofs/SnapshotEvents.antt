-- What an event is to snapshots and logs, in a few kinds.
use Rattle.std.proofs.Common.{◌≡◌, ℕ, List, [], ◌∷◌, Bool, true, false, cond, not, Some, None, refl, inl, subst}
use Rattle.std.specs.Prelude.{◌||◌, Option, slice_get}
use Rattle.rep_values.specs.declared.name.SiteName.{SiteName}
use Rattle.rep_schema.specs.declared.schema.Schema.{Schema}
use Rattle.packet_code.specs.declared.packet.Packet.{Packet}
use Rattle.site_state.specs.State.{SiteState}
use Rattle.rep_schema.specs.Sites.{is_among}
use Rattle.site_state.specs.Steps.{begun}
use Rattle.site_state.specs.Commits.{site_commit, site_clock}
use Rattle.site_state.specs.Packets.{site_accept}
use Rattle.site_state.specs.Passes.{site_apply}
use Rattle.site_state.specs.Errors.{site_execute, site_drop}
use Rattle.site_state.specs.Purges.{site_purge, site_purge_log}
use Rattle.site_state.proofs.Stepping.{commit_steps, apply_steps, execute_steps, drop_steps}
use Rattle.site_state.proofs.Changing.{accept_later}
use Rattle.site_events.specs.Cluster.{Cluster, site_of, at_site}
use Rattle.site_events.specs.Joins.{may_join, with_joined, joined_by, joined}
use Rattle.site_events.specs.Events.{Event, Commit, SetClock, Send, SendMark, Deliver, Begin, Apply, Execute, Drop, Purge, PurgeLog, Refresh, Join, receiver, delivered, without, may_apply, applied_where, refreshed, begun_after, happens, run}
use Rattle.event_laws.specs.Fitting.{IsFitStart}
use Rattle.event_laws.proofs.Sites.{KeepsHere}
use Rattle.event_laws.proofs.Moves.{Moves}
use Rattle.event_laws.proofs.Calls.{CanCall, clock_quiet, purge_quiet, drop_quiet, accept_quiet, commit_moves, apply_moves, execute_moves}
use Rattle.event_laws.proofs.RunsFit.{SitesFit, run_fits}

module _ (schema : Schema) where
  -- what becomes of the sites, and of the masters at which a pass was begun
  pub data Becomes (sites : List SiteState) (names : List SiteName) : List SiteState → List SiteName → Type 0 where
    Stays : Becomes sites names sites names
    Calls : (name : SiteName) (change : SiteState → SiteState) → KeepsHere change → ((x : SiteState) → site_of name sites ≡ Some x → Moves schema (is_among names name) x (change x))
        → Becomes sites names (at_site name change sites) names
    Begins : (name : SiteName) → Becomes sites names (at_site name begun sites) (name ∷ names)
    PurgesLog : (name : SiteName) (table : ℕ) → Becomes sites names (at_site name (site_purge_log table) sites) (without name names)
    Refreshes : (name : SiteName) → Becomes sites names (at_site name (refreshed sites) sites) (begun_after name (site_of name sites) names)
    Joins : (site : SiteName) (source : SiteState) → Becomes sites names (with_joined sites source site) names

  calls : (w : Cluster) (name : SiteName) (change : SiteState → SiteState) → SitesFit schema w.sites → KeepsHere change → ((x : SiteState) → site_of name w.sites ≡ Some x → CanCall x → Moves x.schema (is_among w.begun name) x (change x))
      → Becomes w.sites w.begun (at_site name change w.sites) w.begun
  calls w name change fit here moves = Calls name change here
      (λ x at_x. subst (λ (s : Schema). Moves s (is_among w.begun name) x (change x)) (fit.of_schema name x at_x) (moves x at_x (fit.can name x at_x)))

  delivered_becomes : (w : Cluster) → SitesFit schema w.sites → (packet : Option Packet) → Becomes w.sites w.begun (delivered packet w.sites) w.begun
  delivered_becomes w fit None = Stays
  delivered_becomes w fit (Some packet) = calls w (receiver packet) (site_accept packet) fit (λ x. (accept_later packet x).here) (λ x at_x can. inl (accept_quiet packet x))

  -- where a position may be applied at a master, a pass was begun
  begun_there : (w : Cluster) (name : SiteName) (x : SiteState) → may_apply name w ≡ true → site_of name w.sites ≡ Some x → x.here.is_master ≡ true → is_among w.begun name ≡ true
  begun_there w name x may at_x master = go (is_among w.begun name) x.here.is_master (rw at_x at may) master
    where
      go : (b c : Bool) → (b || not c) ≡ true → c ≡ true → b ≡ true
      go true c may is = refl
      go false true may is = absurd (cc may)
      go false false may is = absurd (cc is)

  applied_becomes : (w : Cluster) (site origin : SiteName) (position : ℕ) → SitesFit schema w.sites → (b : Bool) → may_apply site w ≡ b → Becomes w.sites w.begun (applied_where b site origin position w.sites) w.begun
  applied_becomes w site origin position fit true may = calls w site (site_apply origin position) fit (λ x. (apply_steps origin position x).here)
      (λ x at_x. apply_moves (is_among w.begun site) origin position x (begun_there w site x may at_x))
  applied_becomes w site origin position fit false may = Stays

  joined_becomes : (sites : List SiteState) (names : List SiteName) (site source : SiteName) → Becomes sites names (joined site source sites) names
  joined_becomes sites names site source = go (site_of site sites) (site_of source sites)
    where
      by : (x : SiteState) (b : Bool) → Becomes sites names (cond b (with_joined sites x site) sites) names
      by x true = Joins site x
      by x false = Stays

      go : (there from : Option SiteState) → Becomes sites names (joined_by sites site there from) names
      go (Some y) from = Stays
      go None None = Stays
      go None (Some x) = by x (may_join sites x site)

  -- every event is of one of these kinds
  happens_becomes : (e : Event) (w : Cluster) → SitesFit schema w.sites → Becomes w.sites w.begun (happens e w).sites (happens e w).begun
  happens_becomes (Commit site statements) w fit = calls w site (site_commit statements) fit (λ x. (commit_steps statements x).here) (λ x at_x. commit_moves (is_among w.begun site) statements x)
  happens_becomes (SetClock site clock) w fit = calls w site (site_clock clock) fit (λ x. refl) (λ x at_x can. inl (clock_quiet clock x))
  happens_becomes (Send from to position) w fit = Stays
  happens_becomes (SendMark from to) w fit = Stays
  happens_becomes (Deliver which) w fit = delivered_becomes w fit (slice_get w.sent which)
  happens_becomes (Begin site) w fit = Begins site
  happens_becomes (Apply site origin position) w fit = applied_becomes w site origin position fit (may_apply site w) refl
  happens_becomes (Execute site origin position) w fit = calls w site (site_execute origin position) fit (λ x. (execute_steps origin position x).here) (λ x at_x. execute_moves (is_among w.begun site) origin position x)
  happens_becomes (Drop site origin position) w fit = calls w site (site_drop origin position) fit (λ x. (drop_steps origin position x).here) (λ x at_x can. inl (drop_quiet origin position x))
  happens_becomes (Purge site) w fit = calls w site site_purge fit (λ x. refl) (λ x at_x can. inl (purge_quiet x))
  happens_becomes (PurgeLog site table) w fit = PurgesLog site table
  happens_becomes (Refresh site) w fit = Refreshes site
  happens_becomes (Join site source) w fit = joined_becomes w.sites w.begun site source

  -- what each kind keeps where the sites fit holds after every list of events
  pub run_becomes : (P : List SiteState → List SiteName → Type 0)
      → ((xs : List SiteState) (names : List SiteName) (ys : List SiteState) (later : List SiteName) → SitesFit schema xs → Becomes xs names ys later → P xs names → P ys later)
      → (start : Cluster) → IsFitStart schema start → (events : List Event) → P start.sites start.begun → P (run events start).sites (run events start).begun
  run_becomes P keeps start is [] holds = holds
  run_becomes P keeps start is (e ∷ events) holds =
      keeps (run events start).sites (run events start).begun (happens e (run events start)).sites (happens e (run events start)).begun
      (run_fits schema start events is) (happens_becomes e (run events start) (run_fits schema start events is)) (run_becomes P keeps start is events holds)
