-- What an event does at a site, in a few kinds: nothing that counts; an error; a block of its own; a transaction of another site.
use Rattle.std.proofs.Common.{◌≡◌, ◌≢◌, ℕ, ◌+◌, ◌<◌, ◌≤◌, Bool, true, false, cond, List, [], ◌∷◌, Some, None, Ok, Err, refl, sym, ap, ◌∙◌, subst, arith}
use mathlib.Core.Bool.{true≢false}
use Rattle.std.specs.Prelude.{Option, Result, ◌&&◌, ◌||◌, not, ◌==◌, IfSome}
use Rattle.std.specs.List.{list_any}
use Rattle.rep_values.specs.declared.name.SiteName.{SiteName}
use Rattle.rep_schema.specs.declared.schema.Schema.{Schema}
use Rattle.rep_schema.specs.declared.change.Change.{Change}
use Rattle.rep_calls.specs.declared.call.Txn.{Txn}
use Rattle.rep_calls.specs.declared.statement.Statement.{Statement}
use Rattle.txn_effects.specs.Calls.{Effect}
use Rattle.txn_effects.specs.Transactions.{Failure}
use Rattle.txn_effects.specs.Contents.{content_after, effect_on}
use Rattle.txn_effects.specs.declared.local.LocalStop.{LocalStop}
use Rattle.txn_effects.specs.Locals.{BlockEffect}
use Rattle.local_txn.specs.Laws.{StampsOfABlockRise, StampsRise, gives_stamp}
use Rattle.deferred_queue.specs.Streams.{at_position}
use Rattle.deferred_queue.proofs.Sites.{is_same_site-refl}
use Rattle.rep_laws.specs.Commuting.{IsSound}
use Rattle.std.specs.Bool.{MatchBool}
use Rattle.packet_code.specs.declared.packet.Packet.{Packet}
use Rattle.packet_code.specs.declared.packet.Packet.TheVariants.{Carry, Mark}
use Rattle.error_queue.specs.declared.entry.ErrorEntry.{ErrorEntry}
use Rattle.site_state.specs.declared.arrival.Arrival.{Arrival}
use Rattle.site_state.specs.declared.entry.Entry.{Entry}
use Rattle.site_state.specs.declared.entry.Entry.TheVariants.{Local, Done, Error, Executed, Dropped, Refreshed}
use Rattle.site_state.specs.declared.answers.Why.{Why}
use Rattle.site_state.specs.declared.answers.Why.TheVariants as why
use Rattle.site_state.specs.State.{SiteState, arrived_at, opened_of}
use Rattle.rep_schema.specs.Sites.{is_master_site}
use Rattle.site_state.specs.Journal.{is_position, finished, error_at}
use Rattle.site_state.specs.Contents.{content_of, tables_of, txn_of, changes_by}
use Rattle.site_state.specs.Streams.{went_onward, queue_of, count_of, stream_to, with_one}
use Rattle.site_state.specs.Steps.{is_empty, begun, is_open, onward_number}
use Rattle.site_state.specs.Commits.{block_at, committed, committed_by, site_commit, site_clock}
use Rattle.site_state.specs.Ready.{is_due, stale_of}
use Rattle.site_state.specs.Passes.{effect_here, finished_by, applied_unless, site_apply}
use Rattle.site_state.specs.Errors.{effect_of_error, executed_by, executed_found, site_execute, dropped_found, site_drop}
use Rattle.site_state.specs.Packets.{is_foreign, arrived_by, taken_unless, site_accept}
use Rattle.site_state.specs.Purges.{site_purge, site_purge_log}
use Rattle.site_state.proofs.Stepping.{IsTaken, MayFollow, with_entry, Journals, is_position-true, error_found, arrived_has}
use Rattle.site_state.proofs.Destinations.{opened_in-acknowledged}
use Rattle.site_state.proofs.Growing.{queue_after-rebased}
use Rattle.site_events.specs.Cluster.{site_of}
use Rattle.event_laws.specs.Fitting.{FitsHere}
use Rattle.event_laws.specs.Orders.{FollowsIn, IsInOrder}
use Rattle.event_laws.proofs.Sites.{found_name}
use Rattle.event_laws.proofs.RunInvariants.{SentBy, SendersHold}
use Rattle.event_laws.proofs.MarkLaws.{arrived_was_sent}
use Rattle.event_laws.proofs.Happening.{IsRefreshed}
use Rattle.event_laws.proofs.Happening as happening
use Rattle.error_cause_laws.proofs.WritingOnce.{HasPassed}

-- a transaction comes from a site that is there, as it stands in its stream
pub record ComesFrom (sites : List SiteState) (x o : SiteState) (position : ℕ) (txn : Txn) : Type 0 where
  pub there : site_of o.here.site sites ≡ Some o
  pub sent : at_position position (stream_to x.here.site o) ≡ Some txn
  pub before : HasPassed o.here.site position x → ⊥

-- an entry that is no error
abbrev pub NoError : Option Entry → Type 0
NoError None = Unit {0}
NoError (Some (Local number txn)) = Unit {0}
NoError (Some (Done origin position onward txn)) = Unit {0}
NoError (Some (Error origin position call error txn)) = ⊥
NoError (Some (Executed origin position onward txn)) = Unit {0}
NoError (Some (Dropped origin position)) = Unit {0}
NoError (Some (Refreshed moment)) = Unit {0}

-- nothing that counts happened
pub record Stays (x y : SiteState) (entry : Option Entry) : Type 0 where
  pub queue : queue_of y ≡ queue_of x
  pub content : x.here.is_master ≡ true → content_of y ≡ content_of x
  pub plain : x.here.is_master ≡ true → NoError entry

-- a transaction of another site failed
pub record Errs (sites : List SiteState) (x y : SiteState) (entry : Option Entry) : Type 0 where
  pub origin : SiteState
  pub position : ℕ
  pub txn : Txn
  pub failure : Failure
  pub comes : ComesFrom sites x origin position txn
  pub fails : effect_on x.schema origin.here.site txn (content_of x) ≡ Err failure
  pub is : entry ≡ Some (Error origin.here.site position failure.call failure.error txn)
  pub queue : queue_of y ≡ queue_of x
  pub content : content_of y ≡ content_of x

-- a block of its own was committed
pub record Commits (x y : SiteState) (entry : Option Entry) : Type 0 where
  pub statements : List Statement
  pub block : BlockEffect
  pub makes : block_at statements x ≡ Ok block
  pub last : y.stamps.last ≡ block.stamps.last
  pub queue : queue_of y ≡ txn_of x.schema block.changes ∷ queue_of x
  pub content : content_of y ≡ content_after x.schema x.here.site (txn_of x.schema block.changes) (content_of x)
  pub plain : NoError entry

-- a transaction of another site was applied at a master; what came from a master isn't queued again
pub record Applies (sites : List SiteState) (x y : SiteState) (entry : Option Entry) : Type 0 where
  pub origin : SiteState
  pub position : ℕ
  pub txn : Txn
  pub effect : Effect
  pub comes : ComesFrom sites x origin position txn
  pub gives : effect_on x.schema origin.here.site txn (content_of x) ≡ Ok effect
  pub after : HasPassed origin.here.site position y
  pub queues : Bool
  pub queue : queue_of y ≡ with_one queues (txn_of x.schema effect.changes) (queue_of x)
  pub onward : is_master_site x.schema origin.here.site ≡ true → queues ≡ false
  pub content : content_of y ≡ content_after x.schema origin.here.site txn (content_of x)
  pub master : x.here.is_master ≡ true
  pub plain : NoError entry

pub data Happened (sites : List SiteState) (x y : SiteState) (entry : Option Entry) : Type 0 where
  Stayed : Stays x y entry → Happened sites x y entry
  Erred : Errs sites x y entry → Happened sites x y entry
  Committed : Commits x y entry → Happened sites x y entry
  Applied : Applies sites x y entry → Happened sites x y entry

pub record Moves (sites : List SiteState) (x y : SiteState) : Type 0 where
  pub schema : y.schema ≡ x.schema
  pub here : y.here ≡ x.here
  pub base : x.here.is_master ≡ true → y.base ≡ x.base
  pub opened : (site : SiteName) → opened_of site y ≡ opened_of site x
  pub last : x.stamps.last ≤ y.stamps.last
  pub entry : Option Entry
  pub journal : y.journal ≡ with_entry entry x.journal
  pub passed : (origin : SiteName) (position : ℕ) → HasPassed origin position x → HasPassed origin position y
  pub what : Happened sites x y entry

-- ---- what has passed

is_position-own : (origin : SiteName) (position : ℕ) → is_position origin position origin position ≡ true
is_position-own origin position = rw (is_same_site-refl origin) (same position)
  where
    same : (n : ℕ) → (n == n) ≡ true
    same n = grind (arith)

unless_none : {X : Type 0} (b : Bool) (o : Option X) → o ≡ None → cond b None o ≡ None
unless_none true o none = refl
unless_none false o none = none

-- a position that isn't finished has no error
pub no_error_yet : (origin : SiteName) (position : ℕ) (journal : List Entry) → finished origin journal position ≡ false → error_at origin position journal ≡ None
no_error_yet origin position [] none = refl
no_error_yet origin position (Local number txn ∷ es) none = no_error_yet origin position es none
no_error_yet origin position (Done o p onward txn ∷ es) none = go (is_position origin position o p) none (no_error_yet origin position es)
  where
    go : (b : Bool) → (b || finished origin es position) ≡ false → (finished origin es position ≡ false → error_at origin position es ≡ None) → error_at origin position es ≡ None
    go true e older = cc
    go false e older = older e
no_error_yet origin position (Error o p call error txn ∷ es) none = go (is_position origin position o p) none (no_error_yet origin position es)
  where
    go : (b : Bool) → (b || finished origin es position) ≡ false → (finished origin es position ≡ false → error_at origin position es ≡ None)
        → cond b (Some (record { origin = o; position = p; call = call; error = error; txn = txn })) (error_at origin position es) ≡ None
    go true e older = cc
    go false e older = older e
no_error_yet origin position (Executed o p onward txn ∷ es) none = unless_none (is_position origin position o p) (error_at origin position es) (no_error_yet origin position es none)
no_error_yet origin position (Dropped o p ∷ es) none = unless_none (is_position origin position o p) (error_at origin position es) (no_error_yet origin position es none)
no_error_yet origin position (Refreshed moment ∷ es) none = no_error_yet origin position es none

abbrev PassedIn : SiteName → ℕ → List Entry → Type 0
PassedIn origin position journal = (finished origin journal position ≡ true) × (error_at origin position journal ≡ None)

or_true : (b : Bool) → (b || true) ≡ true
or_true true = refl
or_true false = refl

-- what has passed stays so
passed_more : (x : SiteState) (e : Entry) → MayFollow x e → (origin : SiteName) (position : ℕ) → PassedIn origin position x.journal → PassedIn origin position (e ∷ x.journal)
passed_more x (Local number txn) follows origin position passed = passed
passed_more x (Done o p onward txn) follows origin position passed = (rw passed.0 (or_true (is_position origin position o p)), passed.1)
passed_more x (Error o p call error txn) follows origin position passed = (rw passed.0 (or_true (is_position origin position o p)), go (is_position origin position o p) refl)
  where
    go : (b : Bool) → is_position origin position o p ≡ b → cond b (Some (record { origin = o; position = p; call = call; error = error; txn = txn })) (error_at origin position x.journal) ≡ None
    go true is =
        let same = is_position-true origin o position p is in
        absurd (true≢false (sym passed.0 ∙ (rw (← same.0, ← same.1) follows.unfinished)))
    go false is = passed.1
passed_more x (Executed o p onward txn) follows origin position passed = (passed.0, unless_none (is_position origin position o p) (error_at origin position x.journal) passed.1)
passed_more x (Dropped o p) follows origin position passed = (passed.0, unless_none (is_position origin position o p) (error_at origin position x.journal) passed.1)
passed_more x (Refreshed moment) follows origin position passed = passed

passed_with : (x : SiteState) (entry : Option Entry) → IfSome entry (MayFollow x) → (origin : SiteName) (position : ℕ) → PassedIn origin position x.journal → PassedIn origin position (with_entry entry x.journal)
passed_with x None follows origin position passed = passed
passed_with x (Some e) follows origin position passed = passed_more x e follows origin position passed

pub passed_steps : (x y : SiteState) → Journals x y → (origin : SiteName) (position : ℕ) → HasPassed origin position x → HasPassed origin position y
passed_steps x y journals origin position passed =
    let now = passed_with x journals.entry journals.follows origin position (passed.finished_there, passed.no_error) in
    record { finished_there = rw journals.journal now.0; no_error = rw journals.journal now.1 }

-- a position that is done has passed
passed_done : (origin : SiteName) (position onward : ℕ) (txn : Txn) (journal : List Entry) (y : SiteState) → y.journal ≡ Done origin position onward txn ∷ journal → finished origin journal position ≡ false → HasPassed origin position y
passed_done origin position onward txn journal y is none = record {
  finished_there = rw (is, is_position-own origin position) refl;
  no_error = rw is (no_error_yet origin position journal none);
}

-- so has one whose error is executed
passed_executed : (origin : SiteName) (position onward : ℕ) (txn : Txn) (journal : List Entry) (y : SiteState) (e : ErrorEntry) → y.journal ≡ Executed origin position onward txn ∷ journal
    → error_at origin position journal ≡ Some e → HasPassed origin position y
passed_executed origin position onward txn journal y e is stands = record {
  finished_there = rw is (go (finished origin journal position) refl);
  no_error = rw (is, is_position-own origin position) refl;
}
  where
    go : (b : Bool) → finished origin journal position ≡ b → b ≡ true
    go true f = refl
    go false f = let none = no_error_yet origin position journal f in let wrong : None ≡ Some e = sym none ∙ stands in absurd (cc wrong)

-- ---- an error came from a site that is there

error_follows : (sites : List SiteState) (site origin : SiteName) (position : ℕ) (journal : List Entry) (e : ErrorEntry) → IsInOrder sites site journal → error_at origin position journal ≡ Some e
    → (before : List Entry) × FollowsIn (site_of e.origin sites) site e.origin e.position e.txn before
error_follows sites site origin position [] e order stands = cc
error_follows sites site origin position (Local number txn ∷ es) e order stands = error_follows sites site origin position es e order.1 stands
error_follows sites site origin position (Done o p onward txn ∷ es) e order stands = error_follows sites site origin position es e order.1 stands
error_follows sites site origin position (Error o p call error txn ∷ es) e order stands = go (is_position origin position o p) stands (error_follows sites site origin position es e order.1)
  where
    go : (b : Bool) → cond b (Some (record { origin = o; position = p; call = call; error = error; txn = txn })) (error_at origin position es) ≡ Some e
        → (error_at origin position es ≡ Some e → (before : List Entry) × FollowsIn (site_of e.origin sites) site e.origin e.position e.txn before)
        → (before : List Entry) × FollowsIn (site_of e.origin sites) site e.origin e.position e.txn before
    go true is older =
        let same : record { origin = o; position = p; call = call; error = error; txn = txn } ≡ e = cc in
        subst (λ (f : ErrorEntry). (before : List Entry) × FollowsIn (site_of f.origin sites) site f.origin f.position f.txn before) same (es, order.0)
    go false is older = older is
error_follows sites site origin position (Executed o p onward txn ∷ es) e order stands = go (is_position origin position o p) stands (error_follows sites site origin position es e order.1)
  where
    go : (b : Bool) → cond b None (error_at origin position es) ≡ Some e → (error_at origin position es ≡ Some e → (before : List Entry) × FollowsIn (site_of e.origin sites) site e.origin e.position e.txn before)
        → (before : List Entry) × FollowsIn (site_of e.origin sites) site e.origin e.position e.txn before
    go true is older = cc
    go false is older = older is
error_follows sites site origin position (Dropped o p ∷ es) e order stands = go (is_position origin position o p) stands (error_follows sites site origin position es e order.1)
  where
    go : (b : Bool) → cond b None (error_at origin position es) ≡ Some e → (error_at origin position es ≡ Some e → (before : List Entry) × FollowsIn (site_of e.origin sites) site e.origin e.position e.txn before)
        → (before : List Entry) × FollowsIn (site_of e.origin sites) site e.origin e.position e.txn before
    go true is older = cc
    go false is older = older is
error_follows sites site origin position (Refreshed moment ∷ es) e order stands = error_follows sites site origin position es e order.1 stands

-- ---- stamps

pub rise_up : (schema : Schema) (site : SiteName) (low high : ℕ) (changes : List Change) → StampsRise schema site low high changes → low ≤ high
rise_up schema site low high [] rise = omega (arith, rise)
rise_up schema site low high (c ∷ cs) rise = go (gives_stamp schema c) rise.2 (λ n later. rise_up schema site n high cs later)
  where
    go : (b : Bool) → MatchBool b ((low < rise.0) × StampsRise schema site rise.0 high cs) (StampsRise schema site low high cs) → ((n : ℕ) → StampsRise schema site n high cs → n ≤ high) → low ≤ high
    go true here rest = omega (arith, here.0, rest rise.0 here.1)
    go false here rest = rest low here

-- no entry, or one
abbrev none_new : (x y : SiteState) → y.journal ≡ x.journal → Journals x y
none_new x y same = record { entry = None; journal = same; follows = tt }

abbrev one_new : (x y : SiteState) (e : Entry) → y.journal ≡ e ∷ x.journal → MayFollow x e → Journals x y
one_new x y e is follows = record { entry = Some e; journal = is; follows = follows }

-- ---- each kind

-- where nothing that counts happens
stays_moves : (sites : List SiteState) (x y : SiteState) → y.schema ≡ x.schema → y.here ≡ x.here → (x.here.is_master ≡ true → y.base ≡ x.base) → ((site : SiteName) → opened_of site y ≡ opened_of site x)
    → x.stamps.last ≤ y.stamps.last → (journals : Journals x y) → Stays x y journals.entry → Moves sites x y
stays_moves sites x y schema here base opened last journals stays = record {
  schema = schema;
  here = here;
  base = base;
  opened = opened;
  last = last;
  entry = journals.entry;
  journal = journals.journal;
  passed = passed_steps x y journals;
  what = Stayed stays;
}

none_moves : (sites : List SiteState) (x : SiteState) → Moves sites x x
none_moves sites x = stays_moves sites x x refl refl (λ m. refl) (λ s. refl) (omega arith) (none_new x x refl) (record { queue = refl; content = λ m. refl; plain = λ m. tt })

pub clock_moves : (sites : List SiteState) (clock : ℕ) (x : SiteState) → Moves sites x (site_clock clock x)
clock_moves sites clock x = stays_moves sites x _ refl refl (λ m. refl) (λ s. refl) (omega arith) (none_new x _ refl) (record { queue = refl; content = λ m. refl; plain = λ m. tt })

pub begun_moves : (sites : List SiteState) (x : SiteState) → Moves sites x (begun x)
begun_moves sites x = stays_moves sites x _ refl refl (λ m. refl) (λ s. refl) (omega arith) (none_new x _ refl) (record { queue = refl; content = λ m. refl; plain = λ m. tt })

pub purge_moves : (sites : List SiteState) (x : SiteState) → Moves sites x (site_purge x)
purge_moves sites x = stays_moves sites x _ refl refl (λ m. refl) (λ s. refl) (omega arith) (none_new x _ refl) (record { queue = refl; content = λ m. refl; plain = λ m. tt })

pub purge_log_moves : (sites : List SiteState) (table : ℕ) (x : SiteState) → Moves sites x (site_purge_log table x)
purge_log_moves sites table x = stays_moves sites x _ refl refl (λ m. refl) (λ s. refl) (omega arith) (none_new x _ refl) (record { queue = refl; content = λ m. refl; plain = λ m. tt })

pub accept_moves : (sites : List SiteState) (packet : Packet) (x : SiteState) → Moves sites x (site_accept packet x)
accept_moves sites packet x = go packet (is_foreign packet x)
  where
    by : (from : SiteName) (a : Arrival) (found : Option Arrival) → Moves sites x (arrived_by found from a x)
    by from a None = stays_moves sites x _ refl refl (λ m. refl) (λ s. refl) (omega arith) (none_new x _ refl) (record { queue = refl; content = λ m. refl; plain = λ m. tt })
    by from a (Some b) = none_moves sites x

    go : (packet : Packet) (b : Bool) → Moves sites x (taken_unless b packet x)
    go packet true = none_moves sites x
    go (Carry from to number position dep past txn) false = by from (record { position = position; number = number; dep = dep; past = past; txn = txn }) (arrived_at from position x.senders)
    go (Mark from to mark) false =
        stays_moves sites x _ refl refl (λ m. refl) (λ site. opened_in-acknowledged site from mark x.destinations) (omega arith) (none_new x _ refl) (record { queue = refl; content = λ m. refl; plain = λ m. tt })

pub refresh_moves : (sites : List SiteState) (x y : SiteState) → IsRefreshed sites x y → Moves sites x y
refresh_moves sites x _ happening.Not = none_moves sites x
refresh_moves sites x _ (happening.From master there is) =
    stays_moves sites x _ refl refl (λ m. absurd (true≢false (sym m ∙ is))) (λ s. refl) (omega arith) (one_new x _ (Refreshed master.moment) refl tt)
    (record { queue = queue_after-rebased x.schema x.here _ x.base x.journal is; content = λ m. absurd (true≢false (sym m ∙ is)); plain = λ m. tt })

pub drop_moves : (sites : List SiteState) (origin : SiteName) (position : ℕ) (x : SiteState) → Moves sites x (site_drop origin position x)
drop_moves sites origin position x = go (error_at origin position x.journal) refl
  where
    go : (found : Option ErrorEntry) → error_at origin position x.journal ≡ found → Moves sites x (dropped_found found x)
    go None is = none_moves sites x
    go (Some e) is =
        let named = error_found origin position x.journal e is in
        let stands : error_at e.origin e.position x.journal ≢ None = rw (named.0, named.1) (λ none. cc (sym is ∙ none)) in
        stays_moves sites x _ refl refl (λ m. refl) (λ s. refl) (omega arith) (one_new x _ (Dropped e.origin e.position) refl stands) (record { queue = refl; content = λ m. refl; plain = λ m. tt })

pub commit_moves : StampsOfABlockRise → (sites : List SiteState) (statements : List Statement) (x : SiteState) → IsSound x.schema → FitsHere x → Moves sites x (site_commit statements x)
commit_moves rises sites statements x sound fit = go (block_at statements x) refl
  where
    by : (block : BlockEffect) → block_at statements x ≡ Ok block → (e : Bool) → Moves sites x (cond e x (committed block x))
    by block is true = none_moves sites x
    by block is false = record {
      schema = refl;
      here = refl;
      base = λ m. refl;
      opened = λ s. refl;
      last = rise_up x.schema x.here.site x.stamps.last block.stamps.last block.changes (rises x.schema x.here x.stamps statements (tables_of x) block sound.shape fit.content.tables is).rise;
      entry = Some (Local _ (txn_of x.schema block.changes));
      journal = refl;
      passed = λ origin position passed. record { finished_there = passed.finished_there; no_error = passed.no_error };
      what = Committed (record { statements = statements; block = block; makes = is; last = refl; queue = refl; content = refl; plain = tt });
    }

    go : (r : Result BlockEffect LocalStop) → block_at statements x ≡ r → Moves sites x (committed_by r x)
    go (Ok block) is = by block is (is_empty block.changes)
    go (Err stop) is = none_moves sites x

-- ---- a transaction of another site

-- what came from a master isn't queued
not_onward : (x : SiteState) (origin : SiteName) (changes : List Change) → is_master_site x.schema origin ≡ true → went_onward x.here (onward_number origin changes x) ≡ false
not_onward x origin changes master =
    ap (λ (n : ℕ). x.here.is_master && not (n == 0)) (ap (λ (b : Bool). cond b (count_of x + 1) 0) (none x.here.is_master (is_master_site x.schema origin) (not (is_empty changes)) (list_any is_open x.destinations) master)) ∙ off x.here.is_master
  where
    none : (a m b c : Bool) → m ≡ true → (a && not m && b && c) ≡ false
    none a false b c is = cc
    none true true b c is = refl
    none false true b c is = refl

    off : (a : Bool) → (a && false) ≡ false
    off true = refl
    off false = refl

-- where it isn't a master, nothing is
away_onward : (x : SiteState) (n : ℕ) → x.here.is_master ≡ false → went_onward x.here n ≡ false
away_onward x n off = go x.here.is_master off
  where
    go : (b : Bool) → b ≡ false → (b && not (n == 0)) ≡ false
    go true is = cc
    go false is = refl

-- what is due has these
due_then : (origin : SiteName) (position : ℕ) (x : SiteState) (a : Arrival) → arrived_at origin position x.senders ≡ Some a → stale_of origin position x ≡ None
    → (finished origin x.journal position ≡ false) × (is_due origin x a ≡ true)
due_then origin position x a there none = go (finished origin x.journal position) (rw there at none)
  where
    by : (b : Bool) → cond b None (Some why.NotReady) ≡ None → b ≡ true
    by true e = refl
    by false e = cc

    go : (b : Bool) → cond b (Some why.Finished) (cond (is_due origin x a) None (Some why.NotReady)) ≡ None → (b ≡ false) × (is_due origin x a ≡ true)
    go true e = cc
    go false e = (refl, by (is_due origin x a) e)

module _ (sites : List SiteState) (x : SiteState) where
  -- an arrival that is due becomes done, or an error
  done_moves : (origin : SiteState) (a : Arrival) → IsTaken x origin.here.site a.position a.txn → site_of origin.here.site sites ≡ Some origin → at_position a.position (stream_to x.here.site origin) ≡ Some a.txn
      → (r : Result Effect Failure) → effect_here origin.here.site a x ≡ r → Moves sites x (finished_by origin.here.site a r x)
  done_moves origin a taken there sent (Ok effect) gives = go x.here.is_master refl
    where
      journals : Journals x (finished_by origin.here.site a (Ok effect) x)
      journals = one_new x _ (Done origin.here.site a.position (onward_number origin.here.site effect.changes x) a.txn) refl taken

      go : (b : Bool) → x.here.is_master ≡ b → Moves sites x (finished_by origin.here.site a (Ok effect) x)
      go false off = stays_moves sites x _ refl refl (λ m. refl) (λ s. refl) (omega arith) journals (record {
        queue = rw (away_onward x (onward_number origin.here.site effect.changes x) off) refl;
        content = λ m. absurd (true≢false (sym m ∙ off));
        plain = λ m. tt;
      })
      go true on = record {
        schema = refl;
        here = refl;
        base = λ m. refl;
        opened = λ s. refl;
        last = omega arith;
        entry = journals.entry;
        journal = journals.journal;
        passed = passed_steps x _ journals;
        what = Applied (record {
          origin = origin;
          position = a.position;
          txn = a.txn;
          effect = effect;
          comes = record { there = there; sent = sent; before = λ passed. true≢false (sym passed.finished_there ∙ taken.unfinished) };
          gives = gives;
          after = passed_done origin.here.site a.position (onward_number origin.here.site effect.changes x) a.txn x.journal _ refl taken.unfinished;
          queues = went_onward x.here (onward_number origin.here.site effect.changes x);
          queue = ap (λ (r : Result Effect Failure). with_one (went_onward x.here (onward_number origin.here.site effect.changes x)) (txn_of x.schema (changes_by r)) (queue_of x)) gives;
          onward = not_onward x origin.here.site effect.changes;
          content = refl;
          master = on;
          plain = tt;
        });
      }
  done_moves origin a taken there sent (Err failure) gives = record {
    schema = refl;
    here = refl;
    base = λ m. refl;
    opened = λ s. refl;
    last = omega arith;
    entry = Some (Error origin.here.site a.position failure.call failure.error a.txn);
    journal = refl;
    passed = passed_steps x _ (one_new x _ (Error origin.here.site a.position failure.call failure.error a.txn) refl taken);
    what = Erred (record {
      origin = origin;
      position = a.position;
      txn = a.txn;
      failure = failure;
      comes = record { there = there; sent = sent; before = λ passed. true≢false (sym passed.finished_there ∙ taken.unfinished) };
      fails = gives;
      is = refl;
      queue = refl;
      content = refl;
    });
  }

  pub apply_moves : SendersHold sites x.here.site x.senders → (origin : SiteName) (position : ℕ) → Moves sites x (site_apply origin position x)
  apply_moves held origin position = go (stale_of origin position x) refl (arrived_at origin position x.senders) refl
    where
      by : (a : Arrival) → arrived_at origin position x.senders ≡ Some a → stale_of origin position x ≡ None → (o : Option SiteState) → site_of origin sites ≡ o → SentBy o x.here.site a.number a.position a.dep a.txn
          → Moves sites x (finished_by origin a (effect_here origin a x) x)
      by a there ready None is sent = absurd sent
      by a there ready (Some o) is sent =
          let named : o.here.site ≡ origin = found_name origin sites o is in
          let due = due_then origin position x a there ready in
          let place : a.position ≡ position = arrived_has origin position x a there in
          let taken : IsTaken x origin a.position a.txn = record {
            arrival = a;
            there = ap (λ p. arrived_at origin p x.senders) place ∙ there;
            carries = refl;
            due = due.1;
            unfinished = ap (finished origin x.journal) place ∙ due.0;
          } in
          subst (λ (n : SiteName). Moves sites x (finished_by n a (effect_here n a x) x)) named
          (done_moves o a (subst (λ (n : SiteName). IsTaken x n a.position a.txn) (sym named) taken) (ap (λ (n : SiteName). site_of n sites) named ∙ is) sent.there (effect_here o.here.site a x) refl)

      go : (stale : Option Why) → stale_of origin position x ≡ stale → (found : Option Arrival) → arrived_at origin position x.senders ≡ found → Moves sites x (applied_unless stale origin found x)
      go (Some why) ready found there = none_moves sites x
      go None ready None there = none_moves sites x
      go None ready (Some a) there = by a there ready (site_of origin sites) refl (arrived_was_sent sites x.here.site origin x.senders position a held there)

  -- where an error comes from, and that it hasn't passed
  pub error_comes : IsInOrder sites x.here.site x.journal → (origin : SiteName) (position : ℕ) (e : ErrorEntry) → error_at origin position x.journal ≡ Some e
      → (o : SiteState) × (o.here.site ≡ e.origin) × ComesFrom sites x o e.position e.txn
  error_comes order origin position e stands = go (site_of e.origin sites) refl (error_follows sites x.here.site origin position x.journal e order stands).1
    where
      named : (e.origin ≡ origin) × (e.position ≡ position)
      named = error_found origin position x.journal e stands

      go : (o : Option SiteState) → site_of e.origin sites ≡ o → FollowsIn o x.here.site e.origin e.position e.txn (error_follows sites x.here.site origin position x.journal e order stands).0
          → (o : SiteState) × (o.here.site ≡ e.origin) × ComesFrom sites x o e.position e.txn
      go None is follows = absurd follows
      go (Some o) is follows =
          let own : o.here.site ≡ e.origin = found_name e.origin sites o is in (
            o,
            own,
            record {
              there = ap (λ (n : SiteName). site_of n sites) own ∙ is;
              sent = follows.sent;
              before = λ passed.
                  let none : error_at e.origin e.position x.journal ≡ None = ap (λ (n : SiteName). error_at n e.position x.journal) (sym own) ∙ passed.no_error in
                  let wrong : None ≡ Some e = sym none ∙ ap (λ (n : SiteName). error_at n e.position x.journal) named.0 ∙ ap (λ p. error_at origin p x.journal) named.1 ∙ stands in
                  cc;
            },
          )

  executed_moves : (o : SiteState) (e : ErrorEntry) → o.here.site ≡ e.origin → ComesFrom sites x o e.position e.txn → error_at e.origin e.position x.journal ≡ Some e → (r : Result Effect Failure) → effect_of_error e x ≡ r
      → Moves sites x (executed_by e r x)
  executed_moves o e own comes stands (Err failure) gives = none_moves sites x
  executed_moves o e own comes stands (Ok effect) gives = go x.here.is_master refl
    where
      journals : Journals x (executed_by e (Ok effect) x)
      journals = one_new x _ (Executed e.origin e.position (onward_number e.origin effect.changes x) e.txn) refl (λ none. cc (sym stands ∙ none))

      go : (b : Bool) → x.here.is_master ≡ b → Moves sites x (executed_by e (Ok effect) x)
      go false off = stays_moves sites x _ refl refl (λ m. refl) (λ s. refl) (omega arith) journals (record {
        queue = rw (away_onward x (onward_number e.origin effect.changes x) off) refl;
        content = λ m. absurd (true≢false (sym m ∙ off));
        plain = λ m. tt;
      })
      go true on = record {
        schema = refl;
        here = refl;
        base = λ m. refl;
        opened = λ s. refl;
        last = omega arith;
        entry = journals.entry;
        journal = journals.journal;
        passed = passed_steps x _ journals;
        what = Applied (record {
          origin = o;
          position = e.position;
          txn = e.txn;
          effect = effect;
          comes = comes;
          gives = ap (λ (n : SiteName). effect_on x.schema n e.txn (content_of x)) own ∙ gives;
          after = subst (λ (n : SiteName). HasPassed n e.position (executed_by e (Ok effect) x)) (sym own)
              (passed_executed e.origin e.position (onward_number e.origin effect.changes x) e.txn x.journal _ e refl stands);
          queues = went_onward x.here (onward_number e.origin effect.changes x);
          queue = ap (λ (r : Result Effect Failure). with_one (went_onward x.here (onward_number e.origin effect.changes x)) (txn_of x.schema (changes_by r)) (queue_of x)) gives;
          onward = λ master. not_onward x e.origin effect.changes (ap (is_master_site x.schema) (sym own) ∙ master);
          content = ap (λ (n : SiteName). content_after x.schema n e.txn (content_of x)) (sym own);
          master = on;
          plain = tt;
        });
      }

  pub execute_moves : IsInOrder sites x.here.site x.journal → (origin : SiteName) (position : ℕ) → Moves sites x (site_execute origin position x)
  execute_moves order origin position = go (error_at origin position x.journal) refl
    where
      go : (found : Option ErrorEntry) → error_at origin position x.journal ≡ found → Moves sites x (executed_found found x)
      go None is = none_moves sites x
      go (Some e) is =
          let named = error_found origin position x.journal e is in
          let comes = error_comes order origin position e is in
          executed_moves comes.0 e comes.1 comes.2 (ap (λ (n : SiteName). error_at n e.position x.journal) named.0 ∙ ap (λ p. error_at origin p x.journal) named.1 ∙ is) (effect_of_error e x) refl
