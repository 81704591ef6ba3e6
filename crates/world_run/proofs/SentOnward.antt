-- After every list of events: what a site sent onward came from no master, and what it executed was finished there.
use Rattle.std.proofs.Common.{◌≡◌, ℕ, ◌+◌, List, [], ◌∷◌, Bool, true, false, cond, Some, None, refl, sym, ap, subst}
use Rattle.std.specs.Prelude.{◌&&◌, ◌||◌, not, slice_get, Option, Result, Ok, Err}
use Rattle.std.specs.List.{AllByRecursion, list_any}
use Rattle.std.proofs.lemmas.Bool.{or_right}
use Rattle.rep_values.specs.declared.name.SiteName.{SiteName}
use Rattle.rep_schema.specs.declared.schema.Schema.{Schema}
use Rattle.rep_schema.specs.declared.change.Change.{Change}
use Rattle.rep_calls.specs.declared.statement.Statement.{Statement}
use Rattle.txn_effects.specs.Calls.{Effect}
use Rattle.txn_effects.specs.Transactions.{Failure}
use Rattle.txn_effects.specs.declared.local.LocalStop.{LocalStop}
use Rattle.txn_effects.specs.Locals.{BlockEffect}
use Rattle.deferred_queue.proofs.Sites.{is_same_site-refl, eq_true}
use Rattle.error_queue.specs.declared.entry.ErrorEntry.{ErrorEntry}
use Rattle.packet_code.specs.declared.packet.Packet.{Packet}
use Rattle.packet_code.specs.declared.packet.Packet.TheVariants.{Carry, Mark}
use Rattle.site_state.specs.declared.answers.Why.{Why}
use Rattle.site_state.specs.declared.arrival.Arrival.{Arrival}
use Rattle.site_state.specs.declared.entry.Entry.{Entry}
use Rattle.site_state.specs.declared.entry.Entry.TheVariants.{Local, Done, Error, Executed, Dropped, Refreshed}
use Rattle.site_state.specs.State.{SiteState, arrived_at}
use Rattle.rep_schema.specs.Sites.{is_master_site}
use Rattle.site_state.specs.Steps.{is_empty, is_open, begun, onward_number}
use Rattle.site_state.specs.Streams.{count_of}
use Rattle.site_state.specs.Journal.{is_position, finished, error_at}
use Rattle.site_state.specs.Ready.{stale_of}
use Rattle.site_state.specs.Commits.{block_at, committed, committed_by, site_commit, site_clock}
use Rattle.site_state.specs.Packets.{is_foreign, arrived_by, taken_in, taken_unless, site_accept}
use Rattle.site_state.specs.Passes.{effect_here, finished_by, applied_unless, site_apply}
use Rattle.site_state.specs.Errors.{effect_of_error, executed_by, executed_found, site_execute, dropped_found, site_drop}
use Rattle.site_state.specs.Purges.{site_purge, site_purge_log}
use Rattle.site_state.specs.Joining.{site_open}
use Rattle.site_events.specs.Cluster.{Cluster, site_of}
use Rattle.site_events.specs.Joins.{open_to_each, copied, with_joined, may_join, joined_by, joined}
use Rattle.site_events.specs.Events.{Event, Commit, SetClock, Send, SendMark, Deliver, Begin, Apply, Execute, Drop, Purge, PurgeLog, Refresh, Join, receiver, delivered, may_apply, applied_where, master_of, found_site, refreshed_from, refreshed, happens, run}
use Rattle.event_laws.specs.Starts.{IsStart, IsNewSite}
use Rattle.event_laws.proofs.Sites.{all_at, all_joined}

-- ---- what is told

-- the changed rows of what came from a master didn't go onward, and what is executed was finished before
abbrev pub SentOn : Schema → Entry → List Entry → Type 0
SentOn schema (Local number txn) before = Unit {0}
SentOn schema (Done origin position onward txn) before = is_master_site schema origin ≡ true → onward ≡ 0
SentOn schema (Error origin position call error txn) before = Unit {0}
SentOn schema (Executed origin position onward txn) before = (is_master_site schema origin ≡ true → onward ≡ 0) × (finished origin before position ≡ true)
SentOn schema (Dropped origin position) before = Unit {0}
SentOn schema (Refreshed moment) before = Unit {0}

-- so it is with all entries of a journal
abbrev pub AllSentOn : Schema → List Entry → Type 0
AllSentOn schema [] = Unit {0}
AllSentOn schema (e ∷ es) = SentOn schema e es × AllSentOn schema es

abbrev pub SendsOn : SiteState → Type 0
SendsOn x = AllSentOn x.schema x.journal

-- ---- errors are of positions that are finished

-- a position is itself
pub is_position-own : (origin : SiteName) (position : ℕ) → is_position origin position origin position ≡ true
is_position-own origin position = rw (is_same_site-refl origin, eq_true position position refl) refl

unless_cleared : (b : Bool) (before : Option ErrorEntry) (e : ErrorEntry) (fin : Bool) → (before ≡ Some e → fin ≡ true) → cond b None before ≡ Some e → fin ≡ true
unless_cleared true before e fin later is = absurd (cc is)
unless_cleared false before e fin later is = later is

error_is_finished : (origin : SiteName) (position : ℕ) (es : List Entry) (e : ErrorEntry) → error_at origin position es ≡ Some e → finished e.origin es e.position ≡ true
error_is_finished origin position [] e is = absurd (cc is)
error_is_finished origin position (Local number txn ∷ es) e is = error_is_finished origin position es e is
error_is_finished origin position (Done o p onward txn ∷ es) e is = or_right (is_position e.origin e.position o p) (finished e.origin es e.position) (error_is_finished origin position es e is)
error_is_finished origin position (Error o p call error txn ∷ es) e is = go (is_position origin position o p) (error_is_finished origin position es e) is
  where
    there : ErrorEntry
    there = record { origin = o; position = p; call = call; error = error; txn = txn }

    here : finished o (Error o p call error txn ∷ es) p ≡ true
    here = ap (λ (b : Bool). b || finished o es p) (is_position-own o p)

    go : (b : Bool) → (error_at origin position es ≡ Some e → finished e.origin es e.position ≡ true) → cond b (Some there) (error_at origin position es) ≡ Some e
        → finished e.origin (Error o p call error txn ∷ es) e.position ≡ true
    go true later is = let same : there ≡ e = cc is in subst (λ (f : ErrorEntry). finished f.origin (Error o p call error txn ∷ es) f.position ≡ true) same here
    go false later is = or_right (is_position e.origin e.position o p) (finished e.origin es e.position) (later is)
error_is_finished origin position (Executed o p onward txn ∷ es) e is = unless_cleared (is_position origin position o p) (error_at origin position es) e (finished e.origin es e.position) (error_is_finished origin position es e) is
error_is_finished origin position (Dropped o p ∷ es) e is = unless_cleared (is_position origin position o p) (error_at origin position es) e (finished e.origin es e.position) (error_is_finished origin position es e) is
error_is_finished origin position (Refreshed moment ∷ es) e is = error_is_finished origin position es e is

-- ---- changes of a site

onward_number-master : (origin : SiteName) (changes : List Change) (x : SiteState) → is_master_site x.schema origin ≡ true → onward_number origin changes x ≡ 0
onward_number-master origin changes x master = ap (λ (b : Bool). cond b (count_of x + 1) 0) (go x.here.is_master (is_master_site x.schema origin) master)
  where
    go : (here there : Bool) → there ≡ true → (here && not there && not (is_empty changes) && list_any is_open x.destinations) ≡ false
    go here false is = absurd (cc is)
    go true true is = refl
    go false true is = refl

commit_sends : (statements : List Statement) (x : SiteState) → SendsOn x → SendsOn (site_commit statements x)
commit_sends statements x is = go (block_at statements x)
  where
    by : (block : BlockEffect) (b : Bool) → SendsOn (cond b x (committed block x))
    by block true = is
    by block false = (tt, is)

    go : (r : Result BlockEffect LocalStop) → SendsOn (committed_by r x)
    go (Ok block) = by block (is_empty block.changes)
    go (Err stop) = is

accept_sends : (packet : Packet) (x : SiteState) → SendsOn x → SendsOn (site_accept packet x)
accept_sends packet x is = go (is_foreign packet x) packet
  where
    come : (o : Option Arrival) (from : SiteName) (a : Arrival) → SendsOn (arrived_by o from a x)
    come None from a = is
    come (Some before) from a = is

    taken : (p : Packet) → SendsOn (taken_in p x)
    taken (Carry from to number position dep past txn) = come (arrived_at from position x.senders) from (record { position = position; number = number; dep = dep; past = past; txn = txn })
    taken (Mark from to mark) = is

    go : (b : Bool) (p : Packet) → SendsOn (taken_unless b p x)
    go true p = is
    go false p = taken p

apply_sends : (origin : SiteName) (position : ℕ) (x : SiteState) → SendsOn x → SendsOn (site_apply origin position x)
apply_sends origin position x is = go (stale_of origin position x) (arrived_at origin position x.senders)
  where
    by : (a : Arrival) (r : Result Effect Failure) → SendsOn (finished_by origin a r x)
    by a (Ok effect) = (onward_number-master origin effect.changes x, is)
    by a (Err failure) = (tt, is)

    go : (why : Option Why) (found : Option Arrival) → SendsOn (applied_unless why origin found x)
    go (Some why) found = is
    go None None = is
    go None (Some a) = by a (effect_here origin a x)

execute_sends : (origin : SiteName) (position : ℕ) (x : SiteState) → SendsOn x → SendsOn (site_execute origin position x)
execute_sends origin position x is = go (error_at origin position x.journal) refl
  where
    by : (e : ErrorEntry) → error_at origin position x.journal ≡ Some e → (r : Result Effect Failure) → SendsOn (executed_by e r x)
    by e stands (Ok effect) = ((onward_number-master e.origin effect.changes x, error_is_finished origin position x.journal e stands), is)
    by e stands (Err failure) = is

    go : (found : Option ErrorEntry) → error_at origin position x.journal ≡ found → SendsOn (executed_found found x)
    go None stands = is
    go (Some e) stands = by e stands (effect_of_error e x)

drop_sends : (origin : SiteName) (position : ℕ) (x : SiteState) → SendsOn x → SendsOn (site_drop origin position x)
drop_sends origin position x is = go (error_at origin position x.journal)
  where
    go : (found : Option ErrorEntry) → SendsOn (dropped_found found x)
    go None = is
    go (Some e) = (tt, is)

refresh_sends : (sites : List SiteState) (x : SiteState) → SendsOn x → SendsOn (refreshed sites x)
refresh_sends sites x is = go (found_site sites (master_of x.schema x.here.site))
  where
    by : (b : Bool) (y : SiteState) → SendsOn y → SendsOn (cond b y x)
    by true y later = later
    by false y later = is

    go : (o : Option SiteState) → SendsOn (refreshed_from o x)
    go None = is
    go (Some master) = by (not x.here.is_master) _ (tt, is)

open_sends : (others : List SiteState) (x : SiteState) → SendsOn x → SendsOn (open_to_each others x)
open_sends [] x is = is
open_sends (other ∷ others) x is = open_sends others (site_open other.here.site x) is

-- ---- events

abbrev All : List SiteState → Type 0
All sites = AllByRecursion SendsOn sites

delivered_send : (packet : Option Packet) (sites : List SiteState) → All sites → All (delivered packet sites)
delivered_send None sites all = all
delivered_send (Some packet) sites all = all_at SendsOn (receiver packet) (site_accept packet) sites (accept_sends packet) all

applied_send : (b : Bool) (site origin : SiteName) (position : ℕ) (sites : List SiteState) → All sites → All (applied_where b site origin position sites)
applied_send true site origin position sites all = all_at SendsOn site (site_apply origin position) sites (apply_sends origin position) all
applied_send false site origin position sites all = all

joined_send : (site source : SiteName) (sites : List SiteState) → All sites → All (joined site source sites)
joined_send site source sites all = go (site_of site sites) (site_of source sites)
  where
    by : (x : SiteState) (b : Bool) → All (cond b (with_joined sites x site) sites)
    by x true = all_joined SendsOn (site_open site) sites (copied sites x site) (λ y is. is) (open_sends sites _ tt) all
    by x false = all

    go : (there source : Option SiteState) → All (joined_by sites site there source)
    go (Some there) source = all
    go None None = all
    go None (Some x) = by x (may_join sites x site)

happens_send : (e : Event) (w : Cluster) → All w.sites → All (happens e w).sites
happens_send (Commit site statements) w all = all_at SendsOn site (site_commit statements) w.sites (commit_sends statements) all
happens_send (SetClock site clock) w all = all_at SendsOn site (site_clock clock) w.sites (λ x is. is) all
happens_send (Send from to position) w all = all
happens_send (SendMark from to) w all = all
happens_send (Deliver which) w all = delivered_send (slice_get w.sent which) w.sites all
happens_send (Begin site) w all = all_at SendsOn site begun w.sites (λ x is. is) all
happens_send (Apply site origin position) w all = applied_send (may_apply site w) site origin position w.sites all
happens_send (Execute site origin position) w all = all_at SendsOn site (site_execute origin position) w.sites (execute_sends origin position) all
happens_send (Drop site origin position) w all = all_at SendsOn site (site_drop origin position) w.sites (drop_sends origin position) all
happens_send (Purge site) w all = all_at SendsOn site site_purge w.sites (λ x is. is) all
happens_send (PurgeLog site table) w all = all_at SendsOn site (site_purge_log table) w.sites (λ x is. is) all
happens_send (Refresh site) w all = all_at SendsOn site (refreshed w.sites) w.sites (refresh_sends w.sites) all
happens_send (Join site source) w all = joined_send site source w.sites all

start_sends : (schema : Schema) (sites : List SiteState) → AllByRecursion (IsNewSite schema) sites → All sites
start_sends schema [] all = tt
start_sends schema (x ∷ xs) all = (subst (λ (es : List Entry). AllSentOn x.schema es) (sym all.0.journal) tt, start_sends schema xs all.1)

-- after every list of events
pub runs_send_on : (schema : Schema) (start : Cluster) (events : List Event) → IsStart schema start → AllByRecursion SendsOn (run events start).sites
runs_send_on schema start [] is = start_sends schema start.sites is.sites
runs_send_on schema start (e ∷ es) is = happens_send e (run es start) (runs_send_on schema start es is)
