-- In every run each error of a journal says how its transaction failed, on what the entries before it lead to.
use Rattle.std.proofs.Common.{◌≡◌, ℕ, List, [], ◌∷◌, map, Bool, true, false, cond, Some, None, refl, sym, ap, ◌∙◌, subst}
use mathlib.Core.Bool.{true≢false}
use Rattle.std.specs.Prelude.{filter, slice_get, Option, option_map, Result, Ok, Err}
use Rattle.rep_values.specs.declared.name.SiteName.{SiteName}
use Rattle.rep_values.specs.declared.refusal.ApplyError.{ApplyError}
use Rattle.rep_schema.specs.declared.schema.Schema.{Schema}
use Rattle.rep_schema.specs.declared.schema.SiteEntry.{SiteEntry}
use Rattle.rep_schema.specs.Tables.{Rows}
use Rattle.rep_schema.specs.Shape.{is_master}
use Rattle.rep_schema.specs.Named.{site_named}
use Rattle.rep_schema.specs.Sites.{sends_to, names_of, senders_to}
use Rattle.rep_calls.specs.declared.call.Txn.{Txn}
use Rattle.rep_calls.specs.declared.statement.Statement.{Statement}
use Rattle.txn_effects.specs.Calls.{Effect}
use Rattle.txn_effects.specs.Transactions.{Failure}
use Rattle.txn_effects.specs.Contents.{effect_on}
use Rattle.txn_effects.specs.declared.local.LocalStop.{LocalStop}
use Rattle.txn_effects.specs.Locals.{BlockEffect}
use Rattle.deferred_queue.proofs.Sites.{is_same_site-refl, eq_true}
use Rattle.packet_code.specs.declared.packet.Packet.{Packet}
use Rattle.packet_code.specs.declared.packet.Packet.TheVariants.{Carry, Mark}
use Rattle.error_queue.specs.declared.entry.ErrorEntry.{ErrorEntry}
use Rattle.site_state.specs.declared.entry.Entry.{Entry}
use Rattle.site_state.specs.declared.entry.Entry.TheVariants.{Local, Done, Error, Executed, Dropped, Refreshed}
use Rattle.site_state.specs.declared.answers.Why.{Why}
use Rattle.site_state.specs.declared.arrival.Arrival.{Arrival}
use Rattle.site_state.specs.DeclaredSites.{IsDeclared}
use Rattle.site_state.specs.State.{SenderState, SiteState, arrived_at}
use Rattle.site_state.specs.Journal.{is_position, finished, error_at}
use Rattle.site_state.specs.Contents.{journal_content}
use Rattle.site_state.specs.Ready.{stale_of}
use Rattle.site_state.specs.Steps.{is_empty, begun}
use Rattle.site_state.specs.Commits.{block_at, committed, committed_by, site_commit, site_clock}
use Rattle.site_state.specs.Packets.{arrived_by, taken_unless, is_foreign, site_accept}
use Rattle.site_state.specs.Passes.{effect_here, finished_by, applied_unless, site_apply}
use Rattle.site_state.specs.Errors.{effect_of_error, executed_by, executed_found, site_execute, dropped_found, site_drop}
use Rattle.site_state.specs.Purges.{site_purge, site_purge_log}
use Rattle.site_state.specs.Joining.{site_open}
use Rattle.site_state.specs.Fits.{FinishedHaveArrived}
use Rattle.site_state.proofs.LowWater.{finished-append}
use Rattle.site_state.proofs.SchemaSites.{found_any}
use Rattle.site_state.proofs.Stepping.{Steps, clock_steps, begun_steps, purge_log_steps, commit_steps, apply_steps, execute_steps, drop_steps}
use Rattle.site_state.proofs.Changing.{accept_later}
use Rattle.site_events.specs.Cluster.{Cluster, site_of, at_site}
use Rattle.site_events.specs.Joins.{copied, may_join, with_joined, joined_by, joined}
use Rattle.site_events.specs.Events.{Event, Commit, SetClock, Send, SendMark, Deliver, Begin, Apply, Execute, Drop, Purge, PurgeLog, Refresh, Join, receiver, delivered, may_apply, applied_where, refreshed, happens, run}
use Rattle.event_laws.specs.Starts.{IsNewSite, IsStart}
use Rattle.event_laws.specs.Waiting.{SitesLinkAsDeclared}
use Rattle.event_laws.proofs.Sites.{KeepsHere, at_split, found_or, site_of-joined, found_all}
use Rattle.event_laws.proofs.Happening.{IsRefreshed, here-IsRefreshed, refreshed_is}
use Rattle.event_laws.proofs.Happening as happening
use Rattle.event_laws.proofs.NewSites.{copied_is_new}
use Rattle.event_laws.proofs.DeclaredSites.{IsSiteOf}
use Rattle.event_laws.proofs.Meeting.{SiteMeets, MeetsAt}
use Rattle.event_laws.proofs.Waiting.{AreMet, run_met}

-- ---- each error of a journal failed on what was there before it

abbrev pub FailedSo : Schema → SiteName → List Rows → Entry → List Entry → Type 0
FailedSo schema site base (Local number txn) before = Unit {0}
FailedSo schema site base (Done origin position onward txn) before = Unit {0}
FailedSo schema site base (Error origin position call error txn) before = effect_on schema origin txn (journal_content schema site base before) ≡ Err (record { call = call; error = error })
FailedSo schema site base (Executed origin position onward txn) before = Unit {0}
FailedSo schema site base (Dropped origin position) before = Unit {0}
FailedSo schema site base (Refreshed moment) before = Unit {0}

abbrev pub AllFailedSo : Schema → SiteName → List Rows → List Entry → Type 0
AllFailedSo schema site base [] = Unit {0}
AllFailedSo schema site base (e ∷ es) = FailedSo schema site base e es × AllFailedSo schema site base es

abbrev pub FailedAt : SiteState → List Entry → Type 0
FailedAt x journal = AllFailedSo x.schema x.here.site x.base journal

abbrev pub HasFailed : SiteState → Type 0
HasFailed x = FailedAt x x.journal

abbrev pub EachHasFailed : List SiteState → Type 0
EachHasFailed sites = (site : SiteName) (x : SiteState) → site_of site sites ≡ Some x → HasFailed x

-- ---- a call that only journals

stepped : (x y : SiteState) → Steps x y → FailedAt x y.journal → FailedAt y y.journal
stepped x y s failed = rw (s.schema, s.here, s.base) failed

commit_failed : (statements : List Statement) (x : SiteState) → HasFailed x → FailedAt x (site_commit statements x).journal
commit_failed statements x failed = go (block_at statements x)
  where
    by : (block : BlockEffect) (b : Bool) → FailedAt x (cond b x (committed block x)).journal
    by block true = failed
    by block false = (tt, failed)

    go : (r : Result BlockEffect LocalStop) → FailedAt x (committed_by r x).journal
    go (Ok block) = by block (is_empty block.changes)
    go (Err stop) = failed

apply_failed : (origin : SiteName) (position : ℕ) (x : SiteState) → HasFailed x → FailedAt x (site_apply origin position x).journal
apply_failed origin position x failed = go (stale_of origin position x) (arrived_at origin position x.senders)
  where
    by : (a : Arrival) (r : Result Effect Failure) → effect_here origin a x ≡ r → FailedAt x (finished_by origin a r x).journal
    by a (Ok effect) is = (tt, failed)
    by a (Err failure) is = (is, failed)

    go : (stale : Option Why) (found : Option Arrival) → FailedAt x (applied_unless stale origin found x).journal
    go (Some why) found = failed
    go None None = failed
    go None (Some a) = by a (effect_here origin a x) refl

execute_failed : (origin : SiteName) (position : ℕ) (x : SiteState) → HasFailed x → FailedAt x (site_execute origin position x).journal
execute_failed origin position x failed = go (error_at origin position x.journal)
  where
    by : (e : ErrorEntry) (r : Result Effect Failure) → FailedAt x (executed_by e r x).journal
    by e (Ok effect) = (tt, failed)
    by e (Err failure) = failed

    go : (found : Option ErrorEntry) → FailedAt x (executed_found found x).journal
    go None = failed
    go (Some e) = by e (effect_of_error e x)

drop_failed : (origin : SiteName) (position : ℕ) (x : SiteState) → HasFailed x → FailedAt x (site_drop origin position x).journal
drop_failed origin position x failed = go (error_at origin position x.journal)
  where
    go : (found : Option ErrorEntry) → FailedAt x (dropped_found found x).journal
    go None = failed
    go (Some e) = (tt, failed)

-- ---- a packet that comes

accept_failed : (packet : Packet) (x : SiteState) → HasFailed x → HasFailed (site_accept packet x)
accept_failed packet x failed = go packet (is_foreign packet x)
  where
    by : (found : Option Arrival) (from : SiteName) (a : Arrival) → HasFailed (arrived_by found from a x)
    by None from a = failed
    by (Some before) from a = failed

    go : (packet : Packet) (b : Bool) → HasFailed (taken_unless b packet x)
    go packet true = failed
    go (Carry from to number position dep past txn) false = by (arrived_at from position x.senders) from (record { position = position; number = number; dep = dep; past = past; txn = txn })
    go (Mark from to mark) false = failed

-- ---- a refresh, of a site to which nobody sends

module _ (schema : Schema) (x : SiteState) (declared : IsDeclared schema x) (plain : x.here.is_master ≡ false) where
  no_master : (e : SiteEntry) → site_named schema x.here.site ≡ Some e → is_master e ≡ true → ⊥
  no_master e found on = true≢false (sym (found_any is_master x.here.site schema.sites e found on) ∙ sym declared.is_master ∙ plain)

  none_send : (to : SiteEntry) (es : List SiteEntry) → is_master to ≡ false → filter (λ from. sends_to from to) es ≡ []
  none_send to [] is = refl
  none_send to (e ∷ es) is = rw is (none_send to es is)

  no_senders : x.senders ≡ []
  no_senders = empty x.senders (declared.senders ∙ go (site_named schema x.here.site) refl)
    where
      empty : (ss : List SenderState) → map (λ (s : SenderState). s.origin) ss ≡ [] → ss ≡ []
      empty [] is = refl
      empty (s ∷ ss) is = cc

      by : (e : SiteEntry) → site_named schema x.here.site ≡ Some e → (b : Bool) → is_master e ≡ b → names_of (filter (λ from. sends_to from e) schema.sites) ≡ []
      by e found true on = absurd (no_master e found on)
      by e found false is = ap names_of (none_send e schema.sites is)

      go : (o : Option SiteEntry) → site_named schema x.here.site ≡ o → names_of (senders_to schema.sites o) ≡ []
      go None found = refl
      go (Some e) found = by e found (is_master e) refl

pub is_position-own : (origin : SiteName) (position : ℕ) → is_position origin position origin position ≡ true
is_position-own origin position = rw (is_same_site-refl origin, eq_true position position refl) refl

pub finished_here : (origin : SiteName) (position call : ℕ) (error : ApplyError) (txn : Txn) (before : List Entry) → finished origin (Error origin position call error txn ∷ before) position ≡ true
finished_here origin position call error txn before = rw (is_position-own origin position) refl

-- where nothing is finished nothing failed
none_failed : (schema : Schema) (site : SiteName) (base : List Rows) (es : List Entry) → ((origin : SiteName) (p : ℕ) → finished origin es p ≡ true → ⊥) → AllFailedSo schema site base es
none_failed schema site base [] none = tt
none_failed schema site base (e ∷ es) none = (own e none, none_failed schema site base es (λ origin p done. none origin p (finished-append origin (e ∷ []) es p done)))
  where
    own : (e : Entry) → ((origin : SiteName) (p : ℕ) → finished origin (e ∷ es) p ≡ true → ⊥) → FailedSo schema site base e es
    own (Local number txn) none = tt
    own (Done origin position onward txn) none = tt
    own (Error origin position call error txn) none = absurd (none origin position (finished_here origin position call error txn es))
    own (Executed origin position onward txn) none = tt
    own (Dropped origin position) none = tt
    own (Refreshed moment) none = tt

refresh_failed : (sites : List SiteState) (x y : SiteState) → IsRefreshed sites x y → (x.here.is_master ≡ false → x.senders ≡ []) → FinishedHaveArrived x.journal x.senders → HasFailed x → HasFailed y
refresh_failed sites x _ happening.Not empty arrived failed = failed
refresh_failed sites x _ (happening.From master there plain) empty arrived failed =
    (tt, none_failed x.schema x.here.site _ x.journal (λ origin p done. arrived origin p done (ap (arrived_at origin p) (empty plain))))

-- ---- every event

at_failed : (name : SiteName) (change : SiteState → SiteState) (sites : List SiteState) → KeepsHere change → ((x : SiteState) → site_of name sites ≡ Some x → HasFailed x → HasFailed (change x))
    → EachHasFailed sites → EachHasFailed (at_site name change sites)
at_failed name change sites here keeps all site y found =
    at_split (λ (o : Option SiteState). o ≡ Some y → HasFailed y) name site change sites here (λ same. own (site_of site sites) (ap (λ n. site_of n sites) same)) (all site y) found
  where
    own : (o : Option SiteState) → site_of name sites ≡ o → option_map change o ≡ Some y → HasFailed y
    own None is e = absurd (cc e)
    own (Some z) is e = let same : change z ≡ y = cc e in subst HasFailed same (keeps z is (all name z is))

step_failed : (site : SiteName) (change : SiteState → SiteState) (sites : List SiteState) → ((x : SiteState) → Steps x (change x)) → ((x : SiteState) → HasFailed x → FailedAt x (change x).journal)
    → EachHasFailed sites → EachHasFailed (at_site site change sites)
step_failed site change sites steps keeps = at_failed site change sites (λ x. (steps x).here) (λ x found failed. stepped x (change x) (steps x) (keeps x failed))

joined_failed : (sites : List SiteState) (site from : SiteName) → EachHasFailed sites → EachHasFailed (joined site from sites)
joined_failed sites site from all = go (site_of site sites) (site_of from sites)
  where
    either : (source : SiteState) (name : SiteName) (o : Option SiteState) → site_of name sites ≡ o → (y : SiteState) → found_or (site_of name (copied sites source site ∷ [])) (option_map (site_open site) o) ≡ Some y → HasFailed y
    either source name (Some z) is y e = let same : site_open site z ≡ y = cc e in subst HasFailed same (all name z is)
    either source name None is y e = found_all HasFailed name (copied sites source site ∷ []) y (rw (copied_is_new sites source site).journal tt, tt) e

    by : (source : SiteState) (b : Bool) → EachHasFailed (cond b (with_joined sites source site) sites)
    by source true name y found = either source name (site_of name sites) refl y (sym (site_of-joined name (site_open site) sites (copied sites source site) (λ x. refl)) ∙ found)
    by source false name y found = all name y found

    go : (there source : Option SiteState) → EachHasFailed (joined_by sites site there source)
    go (Some x) source = all
    go None None = all
    go None (Some source) = by source (may_join sites source site)

module _ (schema : Schema) (w : Cluster) (met : AreMet schema w.sites w.sent) (all : EachHasFailed w.sites) where
  refresh_at : (site : SiteName) (x : SiteState) → site_of site w.sites ≡ Some x → HasFailed x → HasFailed (refreshed w.sites x)
  refresh_at site x found failed =
      let meets : SiteMeets w.sites site x = subst (MeetsAt w.sites site) found (met.meets.each site) in
      refresh_failed w.sites x (refreshed w.sites x) (refreshed_is w.sites x) (no_senders schema x (found_all (IsSiteOf schema) site w.sites x met.sites_of found).declared) meets.arrived failed

  happens_failed : (e : Event) → EachHasFailed (happens e w).sites
  happens_failed (Commit site statements) = step_failed site (site_commit statements) w.sites (commit_steps statements) (commit_failed statements) all
  happens_failed (SetClock site clock) = step_failed site (site_clock clock) w.sites (clock_steps clock) (λ x failed. failed) all
  happens_failed (Send from to position) = all
  happens_failed (SendMark from to) = all
  happens_failed (Deliver which) = go (slice_get w.sent which)
    where
      go : (packet : Option Packet) → EachHasFailed (delivered packet w.sites)
      go None = all
      go (Some packet) = at_failed (receiver packet) (site_accept packet) w.sites (λ x. (accept_later packet x).here) (λ x found failed. accept_failed packet x failed) all
  happens_failed (Begin site) = step_failed site begun w.sites begun_steps (λ x failed. failed) all
  happens_failed (Apply site origin position) = go (may_apply site w)
    where
      go : (b : Bool) → EachHasFailed (applied_where b site origin position w.sites)
      go true = step_failed site (site_apply origin position) w.sites (apply_steps origin position) (apply_failed origin position) all
      go false = all
  happens_failed (Execute site origin position) = step_failed site (site_execute origin position) w.sites (execute_steps origin position) (execute_failed origin position) all
  happens_failed (Drop site origin position) = step_failed site (site_drop origin position) w.sites (drop_steps origin position) (drop_failed origin position) all
  happens_failed (Purge site) = at_failed site site_purge w.sites (λ x. refl) (λ x found failed. failed) all
  happens_failed (PurgeLog site table) = step_failed site (site_purge_log table) w.sites (purge_log_steps table) (λ x failed. failed) all
  happens_failed (Refresh site) = at_failed site (refreshed w.sites) w.sites (λ x. here-IsRefreshed w.sites x (refreshed w.sites x) (refreshed_is w.sites x)) (refresh_at site) all
  happens_failed (Join site source) = joined_failed w.sites site source all

pub run_failed : (schema : Schema) (start : Cluster) (events : List Event) → IsStart schema start → SitesLinkAsDeclared schema start.sites → EachHasFailed (run events start).sites
run_failed schema start [] is meshed = λ site x found. rw (found_all (IsNewSite schema) site start.sites x is.sites found).journal tt
run_failed schema start (e ∷ events) is meshed = happens_failed schema (run events start) (run_met schema start events is meshed) (run_failed schema start events is meshed) e
