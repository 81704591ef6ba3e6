-- The law of logs.
use Rattle.std.proofs.Common.{◌≡◌, ℕ, ◌+◌, ◌<◌, ◌≤◌, ◌==◌, max, List, [], ◌∷◌, Bool, true, false, cond, Some, None, refl, sym, ap, ◌∙◌, arith, inl, inr, subst}
use Rattle.std.specs.Prelude.{Option, option_map, nat_lt, filter}
use Rattle.std.specs.List.{AllByRecursion}
use Rattle.std.proofs.lemmas.Bool.Decides.{nat_tests}
use Rattle.rep_lists.proofs.Rising.{all_put}
use Rattle.rep_values.specs.declared.name.SiteName.{SiteName}
use Rattle.rep_schema.specs.declared.schema.Schema.{Schema}
use Rattle.rep_schema.specs.Tables.{Cells}
use Rattle.rep_values.specs.SiteNames.{is_same_site}
use Rattle.deferred_queue.proofs.Sites.{is_same_site-true}
use Rattle.txn_effects.specs.declared.local.Here.{Here}
use Rattle.site_state.specs.State.{SiteState}
use Rattle.change_logs.specs.LogState.{LoggedKey, LogState, log_purged, purged_where}
use Rattle.rep_schema.specs.Sites.{is_among}
use Rattle.change_logs.specs.Noting.{keys_changed, beside_key, logged_each, logged_in}
use Rattle.site_state.specs.Steps.{begun}
use Rattle.site_state.specs.Purges.{site_purge_log}
use Rattle.site_state.specs.Making.{master_here}
use Rattle.site_state.specs.Joining.{site_open, site_copy}
use Rattle.site_events.specs.Cluster.{Cluster, site_of, at_site}
use Rattle.site_events.specs.Joins.{queue_counts, copied, with_joined}
use Rattle.site_events.specs.Events.{without, refreshed, begun_after, run}
use Rattle.event_laws.proofs.Sites.{KeepsHere, found_or, site_of-joined}
use Rattle.event_laws.proofs.Happening.{IsRefreshed, refreshed_is}
use Rattle.event_laws.proofs.Happening as happening
use Rattle.event_laws.proofs.NewSites.{open_to_each_keeps}
use Rattle.event_laws.specs.SnapshotStarts.{IsNewLog}
use Rattle.event_laws.specs.Logs.{IsNotedSince, AreNotedSince, NotedAreAbovePurged}
use Rattle.event_laws.proofs.Moves.{all_map, all_weaker, Moves}
use Rattle.event_laws.proofs.SitesKeepUp.{site_of-at_site}
use Rattle.event_laws.proofs.Begun.{is_among-more, is_among-without, is_among-gone, is_among-refresh}
use Rattle.event_laws.proofs.Refreshing.{refreshed_here}
use Rattle.event_laws.proofs.RunsFit.{SitesFit}
use Rattle.event_laws.proofs.SnapshotEvents.{Becomes, run_becomes}
use Rattle.event_laws.proofs.SnapshotEvents as events

-- ---- what holds of a log

-- its keys are noted since it was purged; and where a pass was begun since then, the moment is above that one
record LogHolds (begun : Bool) (moment : ℕ) (log : LogState) : Type 0 where
  purged : log.purged ≤ moment
  later : begun ≡ true → log.purged < moment
  noted : AreNotedSince moment log

-- of each log of a master
abbrev LogsHold : Bool → SiteState → Type 0
LogsHold begun x = x.here.is_master ≡ true → AllByRecursion (LogHolds begun x.moment) x.logs

abbrev LogsHoldAt : List SiteName → SiteName → Option SiteState → Type 0
LogsHoldAt names site None = Unit {0}
LogsHoldAt names site (Some x) = LogsHold (is_among names site) x

abbrev AllLogsHold : List SiteState → List SiteName → Type 0
AllLogsHold sites names = (site : SiteName) → LogsHoldAt names site (site_of site sites)

-- later, with fewer passes begun
weaker : (b c : Bool) (moment now : ℕ) (log : LogState) → moment ≤ now → (c ≡ true → b ≡ true) → LogHolds b moment log → LogHolds c now log
weaker b c moment now log le fewer h = record {
  purged = omega (arith, h.purged, le);
  later = λ is. omega (arith, h.later (fewer is), le);
  noted = all_weaker (IsNotedSince log.purged moment) (IsNotedSince log.purged now) log.keys (λ k both. (both.0, omega (arith, both.1, le))) h.noted;
}

-- ---- a call

all_logged : (P : LoggedKey → Type 0) (moment : ℕ) (keys : List Cells) (ls : List LoggedKey) → ((key : Cells) → P (record { key = key; moment = moment })) → AllByRecursion P ls → AllByRecursion P (logged_each moment keys ls)
all_logged P moment [] ls new all = all
all_logged P moment (k ∷ keys) ls new all = all_logged P moment keys _ new (all_put (beside_key k) P (record { key = k; moment = moment }) ls (new k) all)

logs_move : (schema : Schema) (b : Bool) (x y : SiteState) → Moves schema b x y → LogsHold b x → LogsHold b y
logs_move schema b x y (inl q) h master = subst (λ (logs : List LogState). AllByRecursion (LogHolds b y.moment) logs) (sym q.logs)
    (all_weaker (LogHolds b x.moment) (LogHolds b y.moment) x.logs (λ log. weaker b b x.moment y.moment log q.moment (λ is. is)) (h (ap (λ (k : Here). k.is_master) (sym q.here) ∙ master)))
logs_move schema b x y (inr c) h master = subst (λ (logs : List LogState). AllByRecursion (LogHolds b y.moment) logs) (sym c.logs)
    (all_map (LogHolds b x.moment) (LogHolds b y.moment) (logged_in schema y.moment c.changes) x.logs each (h was_master))
  where
    was_master : x.here.is_master ≡ true
    was_master = ap (λ (k : Here). k.is_master) (sym c.here) ∙ master

    each : (log : LogState) → LogHolds b x.moment log → LogHolds b y.moment (logged_in schema y.moment c.changes log)
    each log one =
        let less : log.purged < y.moment = c.above was_master log.purged one.purged one.later in
        let same = weaker b b x.moment y.moment log c.moment (λ is. is) one in
        record {
          purged = same.purged;
          later = λ is. less;
          noted = all_logged (IsNotedSince log.purged y.moment) y.moment (keys_changed schema log.table c.changes) log.keys (λ key. (less, omega arith)) same.noted;
        }

-- ---- a purge of a log

-- what is left is above the present moment, so nothing is
purged_noted : (purged moment : ℕ) (ls : List LoggedKey) → AllByRecursion (IsNotedSince purged moment) ls → AllByRecursion (IsNotedSince (max purged moment) moment) (filter (λ (l : LoggedKey). nat_lt moment l.moment) ls)
purged_noted purged moment [] all = tt
purged_noted purged moment (l ∷ ls) all = go (nat_lt moment l.moment) refl (purged_noted purged moment ls all.1)
  where
    go : (b : Bool) → nat_lt moment l.moment ≡ b → AllByRecursion (IsNotedSince (max purged moment) moment) (filter (λ (l : LoggedKey). nat_lt moment l.moment) ls)
        → AllByRecursion (IsNotedSince (max purged moment) moment) (cond b (l ∷ filter (λ (l : LoggedKey). nat_lt moment l.moment) ls) (filter (λ (l : LoggedKey). nat_lt moment l.moment) ls))
    go true is later = absurd (let le : l.moment ≤ moment = all.0.1 in grind (arith, nat_tests, le, is))
    go false is later = later

log_after : (table moment : ℕ) (b c : Bool) → c ≡ false → (log : LogState) → LogHolds b moment log → LogHolds c moment (purged_where table moment log)
log_after table moment b c ended log h = go (log.table == table)
  where
    go : (t : Bool) → LogHolds c moment (cond t (log_purged moment log) log)
    go true = record { purged = omega (arith, h.purged); later = λ is. absurd (cc (ended, is)); noted = purged_noted log.purged moment log.keys h.noted }
    go false = record { purged = h.purged; later = λ is. absurd (cc (ended, is)); noted = h.noted }

-- ---- one site changes

logs_changed : (sites : List SiteState) (names later : List SiteName) (name : SiteName) (change : SiteState → SiteState) → KeepsHere change
    → ((x : SiteState) → site_of name sites ≡ Some x → LogsHold (is_among names name) x → LogsHold (is_among later name) (change x))
    → ((site : SiteName) → is_same_site name site ≡ false → is_among later site ≡ true → is_among names site ≡ true)
    → AllLogsHold sites names → AllLogsHold (at_site name change sites) later
logs_changed sites names later name change here own fewer all site = rw (site_of-at_site name site change sites here) (go (is_same_site name site) refl (site_of site sites) refl (all site))
  where
    go : (b : Bool) → is_same_site name site ≡ b → (o : Option SiteState) → site_of site sites ≡ o → LogsHoldAt names site o → LogsHoldAt later site (cond b (option_map change o) o)
    go true is None there held = tt
    go false is None there held = tt
    go true is (Some x) there held =
        let same : name ≡ site = is_same_site-true name site is in
        subst (λ (s : SiteName). LogsHold (is_among later s) (change x)) same
        (own x (ap (λ (n : SiteName). site_of n sites) same ∙ there) (subst (λ (s : SiteName). LogsHold (is_among names s) x) (sym same) held))
    go false is (Some x) there held = λ master.
        all_weaker (LogHolds (is_among names site) x.moment) (LogHolds (is_among later site) x.moment) x.logs
        (λ log. weaker (is_among names site) (is_among later site) x.moment x.moment log (omega arith) (fewer site is)) (held master)

begin_logs : (sites : List SiteState) (names : List SiteName) (name : SiteName) → AllLogsHold sites names → AllLogsHold (at_site name begun sites) (name ∷ names)
begin_logs sites names name all = logs_changed sites names (name ∷ names) name begun (λ x. refl)
    (λ x there h master. all_weaker (LogHolds (is_among names name) x.moment) (LogHolds (is_among (name ∷ names) name) (x.moment + 1)) x.logs (risen x) (h master))
    (λ site isnt. is_among-more name site names isnt) all
  where
    risen : (x : SiteState) (log : LogState) → LogHolds (is_among names name) x.moment log → LogHolds (is_among (name ∷ names) name) (x.moment + 1) log
    risen x log one = record {
      purged = omega (arith, one.purged);
      later = λ is. omega (arith, one.purged);
      noted = all_weaker (IsNotedSince log.purged x.moment) (IsNotedSince log.purged (x.moment + 1)) log.keys (λ k both. (both.0, omega (arith, both.1))) one.noted;
    }

purge_logs : (sites : List SiteState) (names : List SiteName) (name : SiteName) (table : ℕ) → AllLogsHold sites names → AllLogsHold (at_site name (site_purge_log table) sites) (without name names)
purge_logs sites names name table all = logs_changed sites names (without name names) name (site_purge_log table) (λ x. refl)
    (λ x there h master. all_map (LogHolds (is_among names name) x.moment) (LogHolds (is_among (without name names) name) x.moment) (purged_where table x.moment) x.logs
    (λ log. log_after table x.moment (is_among names name) (is_among (without name names) name) (is_among-gone name names) log) (h master))
    (λ site isnt. is_among-without name site names) all

refresh_logs : (sites : List SiteState) (names : List SiteName) (name : SiteName) → AllLogsHold sites names → AllLogsHold (at_site name (refreshed sites) sites) (begun_after name (site_of name sites) names)
refresh_logs sites names name all = logs_changed sites names later name (refreshed sites) (refreshed_here sites)
    (λ x there. kept x (refreshed sites x) (refreshed_is sites x)) (λ site isnt. is_among-refresh name site (site_of name sites) names) all
  where
    later : List SiteName
    later = begun_after name (site_of name sites) names

    kept : (x y : SiteState) → IsRefreshed sites x y → LogsHold (is_among names name) x → LogsHold (is_among later name) y
    kept x _ happening.Not h = λ master. all_weaker (LogHolds (is_among names name) x.moment) (LogHolds (is_among later name) x.moment) x.logs
        (λ log. weaker (is_among names name) (is_among later name) x.moment x.moment log (omega arith) (is_among-refresh name name (site_of name sites) names)) (h master)
    kept x _ (happening.From master found isnt) h = λ is. absurd (cc (is, isnt))

-- one that joins has no logs
join_logs : (sites : List SiteState) (names : List SiteName) (site : SiteName) (source : SiteState) → AllLogsHold sites names → AllLogsHold (with_joined sites source site) names
join_logs sites names site source all name = rw (site_of-joined name (site_open site) sites new (λ y. refl)) (go (site_of name sites) (all name))
  where
    new : SiteState
    new = copied sites source site

    no_logs : new.logs ≡ []
    no_logs = open_to_each_keeps (λ y. y.logs ≡ []) (λ s y is. is) sites (site_copy source (master_here source.schema site) (queue_counts sites)) refl

    fresh : (b : Bool) → LogsHoldAt names name (cond b (Some new) None)
    fresh true = λ master. subst (λ (logs : List LogState). AllByRecursion (LogHolds (is_among names name) new.moment) logs) (sym no_logs) tt
    fresh false = tt

    go : (o : Option SiteState) → LogsHoldAt names name o → LogsHoldAt names name (found_or (site_of name (new ∷ [])) (option_map (site_open site) o))
    go None held = fresh (is_same_site new.here.site name)
    go (Some y) held = held

-- ---- every event

becomes_logs : (schema : Schema) (xs : List SiteState) (names : List SiteName) (ys : List SiteState) (later : List SiteName) → SitesFit schema xs → Becomes schema xs names ys later → AllLogsHold xs names → AllLogsHold ys later
becomes_logs schema xs names _ _ fit events.Stays all = all
becomes_logs schema xs names _ _ fit (events.Calls name change here moves) all = logs_changed xs names names name change here (λ x there. logs_move schema (is_among names name) x (change x) (moves x there)) (λ site isnt is. is) all
becomes_logs schema xs names _ _ fit (events.Begins name) all = begin_logs xs names name all
becomes_logs schema xs names _ _ fit (events.PurgesLog name table) all = purge_logs xs names name table all
becomes_logs schema xs names _ _ fit (events.Refreshes name) all = refresh_logs xs names name all
becomes_logs schema xs names _ _ fit (events.Joins site source) all = join_logs xs names site source all

-- ---- from the start

new_logs : (names : List SiteName) → names ≡ [] → (sites : List SiteState) → AllByRecursion (λ (x : SiteState). AllByRecursion IsNewLog x.logs) sites → AllLogsHold sites names
new_logs names none [] all site = tt
new_logs names none (x ∷ xs) all site = go (is_same_site x.here.site site) (new_logs names none xs all.1 site)
  where
    one : (log : LogState) → IsNewLog log → LogHolds (is_among names site) x.moment log
    one log new = record {
      purged = rw new.1 (omega arith);
      later = λ is. absurd (cc (rw none at is));
      noted = subst (λ (ls : List LoggedKey). AllByRecursion (IsNotedSince log.purged x.moment) ls) (sym new.0) tt;
    }

    go : (b : Bool) → LogsHoldAt names site (site_of site xs) → LogsHoldAt names site (cond b (Some x) (site_of site xs))
    go true later = λ master. all_weaker IsNewLog (LogHolds (is_among names site) x.moment) x.logs one all.0
    go false later = later

pub noted_are_above_purged : NotedAreAbovePurged
noted_are_above_purged schema start es is site x there master =
    all_weaker (LogHolds (is_among w.begun site) x.moment) (AreNotedSince x.moment) x.logs (λ log one. one.noted) (subst (LogsHoldAt w.begun site) there (held site) master)
  where
    w : Cluster
    w = run es start

    held : AllLogsHold (run es start).sites (run es start).begun
    held = run_becomes schema AllLogsHold (becomes_logs schema) start is.fit es (new_logs start.begun is.begun start.sites is.logs)
