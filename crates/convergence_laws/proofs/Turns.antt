-- What an event does to one site, told by what it journals, and what it does to all.
use Rattle.std.proofs.Common.{◌≡◌, ℕ, List, ◌∷◌, Bool, true, false, cond, Some, None, Ok, Err, refl, sym, subst}
use Rattle.std.specs.Prelude.{Option, Result, slice_get}
use Rattle.rep_values.specs.declared.name.SiteName.{SiteName}
use Rattle.rep_calls.specs.declared.statement.Statement.{Statement}
use Rattle.rep_calls.specs.declared.call.Txn.{Txn}
use Rattle.packet_code.specs.declared.packet.Packet.{Packet}
use Rattle.packet_code.specs.declared.packet.Packet.TheVariants.{Carry, Mark}
use Rattle.error_queue.specs.declared.entry.ErrorEntry.{ErrorEntry}
use Rattle.txn_effects.specs.Calls.{Effect}
use Rattle.txn_effects.specs.Transactions.{Failure}
use Rattle.txn_effects.specs.Contents.{effect_on}
use Rattle.txn_effects.specs.declared.local.LocalStop.{LocalStop}
use Rattle.txn_effects.specs.Locals.{BlockEffect}
use Rattle.site_state.specs.declared.arrival.Arrival.{Arrival}
use Rattle.site_state.specs.declared.answers.Why.TheVariants as why
use Rattle.site_state.specs.declared.entry.Entry.{Entry}
use Rattle.site_state.specs.declared.entry.Entry.TheVariants.{Local, Done, Error, Executed, Dropped, Refreshed}
use Rattle.site_state.specs.State.{SiteState, opened_of, arrived_at}
use Rattle.site_state.specs.Contents.{content_of, txn_of}
use Rattle.site_state.specs.Journal.{finished, error_at}
use Rattle.site_state.specs.Steps.{is_empty, begun, onward_number}
use Rattle.site_state.specs.Ready.{is_due, stale_found}
use Rattle.site_state.specs.Commits.{block_at, committed, committed_by, site_commit, site_clock}
use Rattle.site_state.specs.Packets.{is_foreign, arrived_by, taken_unless, site_accept}
use Rattle.site_state.specs.Passes.{effect_here, finished_by, applied_unless, site_apply}
use Rattle.site_state.specs.Errors.{effect_of_error, executed_by, executed_found, site_execute, dropped_found, site_drop}
use Rattle.site_state.specs.Purges.{site_purge, site_purge_log}
use Rattle.site_state.proofs.Destinations.{opened_in-acknowledged}
use Rattle.site_state.proofs.Stepping.{IsTaken, MayFollow, arrived_has, error_found}
use Rattle.site_events.specs.Cluster.{Cluster, site_of, at_site}
use Rattle.site_events.specs.Joins.{may_join, with_joined, joined_by, joined}
use Rattle.site_events.specs.Events.{Event, Commit, SetClock, Send, SendMark, Deliver, Begin, Apply, Execute, Drop, Purge, PurgeLog, Refresh, Join, receiver, delivered, may_apply, applied_where, refreshed, happens}
use Rattle.event_laws.proofs.Happening.{IsRefreshed, refreshed_is}
use Rattle.event_laws.proofs.Happening as happening

-- ---- one site

-- what a site is, and which destinations are open
pub record Frame (x y : SiteState) : Type 0 where
  pub schema : y.schema ≡ x.schema
  pub here : y.here ≡ x.here
  pub opened : (site : SiteName) → opened_of site y ≡ opened_of site x

-- a transaction is done as it arrived, or its error is executed
pub data Cause (x : SiteState) (origin : SiteName) (position number : ℕ) (txn : Txn) : Entry → Type 0 where
  Now : IsTaken x origin position txn → Cause x origin position number txn (Done origin position number txn)
  Late : (e : ErrorEntry) → error_at origin position x.journal ≡ Some e → e.txn ≡ txn → Cause x origin position number txn (Executed origin position number txn)

-- an error, or the drop of one
abbrev pub IsLeft : Entry → Type 0
IsLeft (Local number txn) = ⊥
IsLeft (Done origin position onward txn) = ⊥
IsLeft (Error origin position call error txn) = Unit {0}
IsLeft (Executed origin position onward txn) = ⊥
IsLeft (Dropped origin position) = Unit {0}
IsLeft (Refreshed moment) = ⊥

-- what a site becomes: nothing is journalled; a block of its own; a transaction that succeeded; one that failed or was dropped;
-- or, at a site that is no master, a refresh
pub data Turn (x y : SiteState) : Type 0 where
  Same : Frame x y → y.base ≡ x.base → y.journal ≡ x.journal → y.stamps.last ≡ x.stamps.last → Turn x y
  Own : Frame x y → y.base ≡ x.base → (number : ℕ) → (statements : List Statement) → (block : BlockEffect) → block_at statements x ≡ Ok block
      → y.journal ≡ Local number (txn_of x.schema block.changes) ∷ x.journal → y.stamps.last ≡ block.stamps.last → Turn x y
  Did : Frame x y → y.base ≡ x.base → (e : Entry) → (origin : SiteName) → (position : ℕ) → (txn : Txn) → (effect : Effect)
      → Cause x origin position (onward_number origin effect.changes x) txn e → effect_on x.schema origin txn (content_of x) ≡ Ok effect
      → y.journal ≡ e ∷ x.journal → y.stamps.last ≡ x.stamps.last → Turn x y
  Left : Frame x y → y.base ≡ x.base → (e : Entry) → IsLeft e → MayFollow x e → y.journal ≡ e ∷ x.journal → y.stamps.last ≡ x.stamps.last → Turn x y
  Renewed : Frame x y → x.here.is_master ≡ false → (moment : ℕ) → y.journal ≡ Refreshed moment ∷ x.journal → y.stamps.last ≡ x.stamps.last → Turn x y

frame : (x y : SiteState) → y.schema ≡ x.schema → y.here ≡ x.here → y.destinations ≡ x.destinations → Frame x y
frame x y schema here destinations = record { schema = schema; here = here; opened = λ site. rw destinations refl }

plain : (x y : SiteState) → y.schema ≡ x.schema → y.here ≡ x.here → y.destinations ≡ x.destinations → y.base ≡ x.base → y.journal ≡ x.journal → y.stamps.last ≡ x.stamps.last → Turn x y
plain x y schema here destinations base journal last = Same (frame x y schema here destinations) base journal last

commit_turns : (statements : List Statement) (x : SiteState) → Turn x (site_commit statements x)
commit_turns statements x = go (block_at statements x) refl
  where
    by : (block : BlockEffect) → block_at statements x ≡ Ok block → (b : Bool) → Turn x (cond b x (committed block x))
    by block is true = plain x x refl refl refl refl refl refl
    by block is false = Own (frame x _ refl refl refl) refl _ statements block is refl refl

    go : (r : Result BlockEffect LocalStop) → block_at statements x ≡ r → Turn x (committed_by r x)
    go (Ok block) is = by block is (is_empty block.changes)
    go (Err stop) is = plain x x refl refl refl refl refl refl

apply_turns : (origin : SiteName) (position : ℕ) (x : SiteState) → Turn x (site_apply origin position x)
apply_turns origin position x = go (finished origin x.journal position) refl (arrived_at origin position x.senders) refl
  where
    taken : (a : Arrival) → finished origin x.journal position ≡ false → arrived_at origin position x.senders ≡ Some a → is_due origin x a ≡ true → IsTaken x origin a.position a.txn
    taken a unfinished there due =
        rw (arrived_has origin position x a there) (record { arrival = a; there = there; carries = refl; due = due; unfinished = unfinished })

    by : (a : Arrival) → IsTaken x origin a.position a.txn → (r : Result Effect Failure) → effect_here origin a x ≡ r → Turn x (finished_by origin a r x)
    by a is (Ok effect) gives = Did (frame x _ refl refl refl) refl _ origin a.position a.txn effect (Now is) gives refl refl
    by a is (Err failure) gives = Left (frame x _ refl refl refl) refl (Error origin a.position failure.call failure.error a.txn) tt is refl refl

    where_due : (a : Arrival) → finished origin x.journal position ≡ false → arrived_at origin position x.senders ≡ Some a → (d : Bool) → is_due origin x a ≡ d
        → Turn x (applied_unless (cond d None (Some why.NotReady)) origin (Some a) x)
    where_due a unfinished there true due = by a (taken a unfinished there due) (effect_here origin a x) refl
    where_due a unfinished there false due = plain x x refl refl refl refl refl refl

    go : (f : Bool) → finished origin x.journal position ≡ f → (found : Option Arrival) → arrived_at origin position x.senders ≡ found
        → Turn x (applied_unless (cond f (Some why.Finished) (stale_found origin x found)) origin found x)
    go true is found there = plain x x refl refl refl refl refl refl
    go false is None there = plain x x refl refl refl refl refl refl
    go false is (Some a) there = where_due a is there (is_due origin x a) refl

-- an error that is found by a position is found by its own
found_by_own : (origin : SiteName) (position : ℕ) (journal : List Entry) (e : ErrorEntry) → error_at origin position journal ≡ Some e → error_at e.origin e.position journal ≡ Some e
found_by_own origin position journal e found =
    let is = error_found origin position journal e found in
    subst (λ (o : SiteName). error_at o e.position journal ≡ Some e) (sym is.0) (subst (λ p. error_at origin p journal ≡ Some e) (sym is.1) found)

execute_turns : (origin : SiteName) (position : ℕ) (x : SiteState) → Turn x (site_execute origin position x)
execute_turns origin position x = go (error_at origin position x.journal) refl
  where
    by : (e : ErrorEntry) → error_at origin position x.journal ≡ Some e → (r : Result Effect Failure) → effect_of_error e x ≡ r → Turn x (executed_by e r x)
    by e is (Ok effect) gives = Did (frame x _ refl refl refl) refl _ e.origin e.position e.txn effect (Late e (found_by_own origin position x.journal e is) refl) gives refl refl
    by e is (Err failure) gives = plain x x refl refl refl refl refl refl

    go : (found : Option ErrorEntry) → error_at origin position x.journal ≡ found → Turn x (executed_found found x)
    go None is = plain x x refl refl refl refl refl refl
    go (Some e) is = by e is (effect_of_error e x) refl

drop_turns : (origin : SiteName) (position : ℕ) (x : SiteState) → Turn x (site_drop origin position x)
drop_turns origin position x = go (error_at origin position x.journal) refl
  where
    go : (found : Option ErrorEntry) → error_at origin position x.journal ≡ found → Turn x (dropped_found found x)
    go None is = plain x x refl refl refl refl refl refl
    go (Some e) is = Left (frame x _ refl refl refl) refl (Dropped e.origin e.position) tt (λ none. absurd (cc (none, found_by_own origin position x.journal e is))) refl refl

accept_turns : (packet : Packet) (x : SiteState) → Turn x (site_accept packet x)
accept_turns packet x = go packet (is_foreign packet x)
  where
    by : (found : Option Arrival) (from : SiteName) (a : Arrival) → Turn x (arrived_by found from a x)
    by None from a = plain x _ refl refl refl refl refl refl
    by (Some b) from a = plain x _ refl refl refl refl refl refl

    go : (packet : Packet) (b : Bool) → Turn x (taken_unless b packet x)
    go packet true = plain x _ refl refl refl refl refl refl
    go (Carry from to number position dep past txn) false = by (arrived_at from position x.senders) from _
    go (Mark from to mark) false = Same (record { schema = refl; here = refl; opened = λ site. opened_in-acknowledged site from mark x.destinations }) refl refl refl

refresh_turns : (sites : List SiteState) (x y : SiteState) → IsRefreshed sites x y → Turn x y
refresh_turns sites x _ happening.Not = plain x x refl refl refl refl refl refl
refresh_turns sites x _ (happening.From master found is) = Renewed (frame x _ refl refl refl) is master.moment refl refl

-- ---- all sites

-- what becomes of the sites: one of them has a turn, or a master joins
pub data Becomes (sites : List SiteState) : List SiteState → Type 0 where
  Stays : Becomes sites sites
  Turns : (name : SiteName) (change : SiteState → SiteState) → ((x : SiteState) → Turn x (change x)) → Becomes sites (at_site name change sites)
  Joins : (site from : SiteName) (source : SiteState) → site_of site sites ≡ None → site_of from sites ≡ Some source → may_join sites source site ≡ true → Becomes sites (with_joined sites source site)

delivered_becomes : (sites : List SiteState) (packet : Option Packet) → Becomes sites (delivered packet sites)
delivered_becomes sites None = Stays
delivered_becomes sites (Some packet) = Turns (receiver packet) (site_accept packet) (accept_turns packet)

applied_becomes : (sites : List SiteState) (site origin : SiteName) (position : ℕ) (b : Bool) → Becomes sites (applied_where b site origin position sites)
applied_becomes sites site origin position true = Turns site _ (apply_turns origin position)
applied_becomes sites site origin position false = Stays

joined_becomes : (sites : List SiteState) (site source : SiteName) → Becomes sites (joined site source sites)
joined_becomes sites site source = go (site_of site sites) refl (site_of source sites) refl
  where
    by : (x : SiteState) → site_of site sites ≡ None → site_of source sites ≡ Some x → (b : Bool) → may_join sites x site ≡ b → Becomes sites (cond b (with_joined sites x site) sites)
    by x absent found true may = Joins site source x absent found may
    by x absent found false may = Stays

    go : (there : Option SiteState) → site_of site sites ≡ there → (from : Option SiteState) → site_of source sites ≡ from → Becomes sites (joined_by sites site there from)
    go (Some y) is from found = Stays
    go None is None found = Stays
    go None is (Some x) found = by x is found (may_join sites x site) refl

-- every event is one of these
pub happens_becomes : (e : Event) (w : Cluster) → Becomes w.sites (happens e w).sites
happens_becomes (Commit site statements) w = Turns site _ (commit_turns statements)
happens_becomes (SetClock site clock) w = Turns site (site_clock clock) (λ x. plain x _ refl refl refl refl refl refl)
happens_becomes (Send from to position) w = Stays
happens_becomes (SendMark from to) w = Stays
happens_becomes (Deliver which) w = delivered_becomes w.sites (slice_get w.sent which)
happens_becomes (Begin site) w = Turns site begun (λ x. plain x _ refl refl refl refl refl refl)
happens_becomes (Apply site origin position) w = applied_becomes w.sites site origin position (may_apply site w)
happens_becomes (Execute site origin position) w = Turns site _ (execute_turns origin position)
happens_becomes (Drop site origin position) w = Turns site _ (drop_turns origin position)
happens_becomes (Purge site) w = Turns site site_purge (λ x. plain x _ refl refl refl refl refl refl)
happens_becomes (PurgeLog site table) w = Turns site (site_purge_log table) (λ x. plain x _ refl refl refl refl refl refl)
happens_becomes (Refresh site) w = Turns site (refreshed w.sites) (λ x. refresh_turns w.sites x (refreshed w.sites x) (refreshed_is w.sites x))
happens_becomes (Join site source) w = joined_becomes w.sites site source
