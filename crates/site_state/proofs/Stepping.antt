-- What a call that only journals leaves of a site, and what a site has later.
use Rattle.std.proofs.Common.{◌≡◌, ℕ, ◌+◌, ◌≤◌, ◌==◌, List, [], ◌∷◌, length, Bool, true, false, cond, Some, None, refl, sym, ◌∙◌, arith, append-nil}
use Rattle.std.specs.Prelude.{◌&&◌, ◌≢◌, Option, IfSome, Result, Ok, Err}
use Rattle.std.proofs.lemmas.Bool.Decides.{nat_tests}
use Rattle.std.proofs.lemmas.Map.Lookups.{exact_unsigned}
use Rattle.std.specs.declared.cmp.Ordering.{Ordering}
use Rattle.std.specs.declared.cmp.Ordering.TheVariants.{Less, Equal, Greater}
use Rattle.rep_lists.specs.Rising.{find_at, found_here}
use Rattle.rep_values.specs.declared.name.SiteName.{SiteName}
use Rattle.rep_schema.specs.declared.schema.Schema.{Schema}
use Rattle.rep_calls.specs.declared.call.Txn.{Txn}
use Rattle.rep_calls.specs.declared.statement.Statement.{Statement}
use Rattle.txn_effects.specs.Calls.{Effect}
use Rattle.txn_effects.specs.Transactions.{Failure}
use Rattle.txn_effects.specs.declared.local.LocalStop.{LocalStop}
use Rattle.txn_effects.specs.Locals.{BlockEffect}
use Rattle.deferred_queue.specs.Streams.{at_position}
use Rattle.rep_values.specs.SiteNames.{is_same_site}
use Rattle.deferred_queue.proofs.Sites.{is_same_site-true}
use Rattle.deferred_queue.proofs.Positions.{found_position}
use Rattle.site_state.specs.declared.entry.Entry.{Entry}
use Rattle.site_state.specs.declared.entry.Entry.TheVariants.{Local, Done, Error, Executed, Dropped, Refreshed}
use Rattle.error_queue.specs.declared.entry.ErrorEntry.{ErrorEntry}
use Rattle.site_state.specs.declared.answers.Why.TheVariants as why
use Rattle.site_state.specs.declared.arrival.Arrival.{Arrival}
use Rattle.site_state.specs.State.{SiteState, sender_of, arrived_in, arrived_at, arrival_beside, opened_of}
use Rattle.site_state.specs.Journal.{finished, low_water, error_at, is_position}
use Rattle.site_state.specs.Streams.{queue_after, queue_of, stream_in, stream_to, dep_at}
use Rattle.site_state.specs.Ready.{is_due, stale_found}
use Rattle.site_state.specs.Steps.{is_empty, begun}
use Rattle.site_state.specs.Commits.{block_at, committed_by, committed, site_commit, site_clock}
use Rattle.site_state.specs.Passes.{effect_here, finished_by, applied_unless, site_apply}
use Rattle.site_state.specs.Errors.{effect_of_error, executed_by, executed_found, site_execute, dropped_found, site_drop}
use Rattle.site_state.specs.Purges.{site_purge_log}
use Rattle.site_state.proofs.LowWater.{low_water-append}
use Rattle.site_state.proofs.Growing.{IsFront, front_none, queue_after-append, queued_behind-append, at_position-append, dep_at-append}

-- what arrived at a position that is due and isn't finished
pub record IsTaken (x : SiteState) (origin : SiteName) (position : ℕ) (txn : Txn) : Type 0 where
  pub arrival : Arrival
  pub there : arrived_at origin position x.senders ≡ Some arrival
  pub carries : arrival.txn ≡ txn
  pub due : is_due origin x arrival ≡ true
  pub unfinished : finished origin x.journal position ≡ false

-- what a site may journal next
abbrev pub MayFollow : SiteState → Entry → Type 0
MayFollow x (Local number txn) = Unit {0}
MayFollow x (Done origin position onward txn) = IsTaken x origin position txn
MayFollow x (Error origin position call error txn) = IsTaken x origin position txn
MayFollow x (Executed origin position onward txn) = error_at origin position x.journal ≢ None
MayFollow x (Dropped origin position) = error_at origin position x.journal ≢ None
MayFollow x (Refreshed moment) = Unit {0}

abbrev pub with_entry : Option Entry → List Entry → List Entry
with_entry None es = es
with_entry (Some e) es = e ∷ es

-- at most one entry more, one that may follow
pub record Journals (x y : SiteState) : Type 0 where
  pub entry : Option Entry
  pub journal : y.journal ≡ with_entry entry x.journal
  pub follows : IfSome entry (MayFollow x)

pub no_entry : (x y : SiteState) → y.journal ≡ x.journal → Journals x y
no_entry x y same = record { entry = None; journal = same; follows = tt }

-- and nothing else of what a journal speaks of
pub record Steps (x y : SiteState) : Type 0 where
  pub journals : Journals x y
  pub schema : y.schema ≡ x.schema
  pub here : y.here ≡ x.here
  pub base : y.base ≡ x.base
  pub senders : y.senders ≡ x.senders
  pub destinations : y.destinations ≡ x.destinations
  pub purged : y.purged ≡ x.purged

-- ---- each call that only journals

steps_by : (x y : SiteState) → Journals x y → y.schema ≡ x.schema → y.here ≡ x.here → y.base ≡ x.base → y.senders ≡ x.senders → y.destinations ≡ x.destinations → y.purged ≡ x.purged → Steps x y
steps_by x y journals schema here base senders destinations purged =
    record { journals = journals; schema = schema; here = here; base = base; senders = senders; destinations = destinations; purged = purged }

steps_same : (x : SiteState) → Steps x x
steps_same x = steps_by x x (no_entry x x refl) refl refl refl refl refl refl

pub one_entry : (x y : SiteState) (e : Entry) → y.journal ≡ e ∷ x.journal → MayFollow x e → Journals x y
one_entry x y e is follows = record { entry = Some e; journal = is; follows = follows }

pub clock_steps : (clock : ℕ) (x : SiteState) → Steps x (site_clock clock x)
clock_steps clock x = steps_by x _ (no_entry x _ refl) refl refl refl refl refl refl

pub begun_steps : (x : SiteState) → Steps x (begun x)
begun_steps x = steps_by x _ (no_entry x _ refl) refl refl refl refl refl refl

pub purge_log_steps : (table : ℕ) (x : SiteState) → Steps x (site_purge_log table x)
purge_log_steps table x = steps_by x _ (no_entry x _ refl) refl refl refl refl refl refl

pub commit_steps : (statements : List Statement) (x : SiteState) → Steps x (site_commit statements x)
commit_steps statements x = go (block_at statements x)
  where
    by : (block : BlockEffect) (b : Bool) → Steps x (cond b x (committed block x))
    by block true = steps_same x
    by block false = steps_by x _ (one_entry x _ (Local _ _) refl tt) refl refl refl refl refl refl

    go : (r : Result BlockEffect LocalStop) → Steps x (committed_by r x)
    go (Ok block) = by block (is_empty block.changes)
    go (Err stop) = steps_same x

-- what is found at a position has it
pub found_at : (position : ℕ) (xs : List Arrival) (a : Arrival) → find_at (arrival_beside position) xs ≡ Some a → a.position ≡ position
found_at position [] a found = absurd (cc found)
found_at position (x ∷ xs) a found = go (arrival_beside position x) refl (found_at position xs a) found
  where
    go : (o : Ordering) → arrival_beside position x ≡ o → (find_at (arrival_beside position) xs ≡ Some a → a.position ≡ position) → found_here o x (find_at (arrival_beside position) xs) ≡ Some a → a.position ≡ position
    go Less is later here = later here
    go Equal is later here = let same : x ≡ a = cc here in rw (← same) (exact_unsigned x.position position is)
    go Greater is later here = absurd (cc here)

-- so what arrived at a position has it
pub arrived_has : (origin : SiteName) (position : ℕ) (x : SiteState) (a : Arrival) → arrived_at origin position x.senders ≡ Some a → a.position ≡ position
arrived_has origin position x a there = found_at position (arrived_in (sender_of origin x.senders)) a there

pub apply_steps : (origin : SiteName) (position : ℕ) (x : SiteState) → Steps x (site_apply origin position x)
apply_steps origin position x = go (finished origin x.journal position) refl (arrived_at origin position x.senders) refl
  where
    taken : (a : Arrival) → finished origin x.journal position ≡ false → arrived_at origin position x.senders ≡ Some a → is_due origin x a ≡ true → IsTaken x origin a.position a.txn
    taken a unfinished there due =
        rw (arrived_has origin position x a there) (record { arrival = a; there = there; carries = refl; due = due; unfinished = unfinished })

    by : (a : Arrival) → IsTaken x origin a.position a.txn → (r : Result Effect Failure) → Steps x (finished_by origin a r x)
    by a is (Ok effect) = steps_by x _ (one_entry x _ (Done origin a.position _ a.txn) refl is) refl refl refl refl refl refl
    by a is (Err failure) = steps_by x _ (one_entry x _ (Error origin a.position failure.call failure.error a.txn) refl is) refl refl refl refl refl refl

    where_due : (a : Arrival) → finished origin x.journal position ≡ false → arrived_at origin position x.senders ≡ Some a → (d : Bool) → is_due origin x a ≡ d
        → Steps x (applied_unless (cond d None (Some why.NotReady)) origin (Some a) x)
    where_due a unfinished there true due = by a (taken a unfinished there due) (effect_here origin a x)
    where_due a unfinished there false due = steps_same x

    go : (f : Bool) → finished origin x.journal position ≡ f → (found : Option Arrival) → arrived_at origin position x.senders ≡ found
        → Steps x (applied_unless (cond f (Some why.Finished) (stale_found origin x found)) origin found x)
    go true is found there = steps_same x
    go false is None there = steps_same x
    go false is (Some a) there = where_due a is there (is_due origin x a) refl

-- the test whether a position is the one tells exactly that
pub is_position-true : (origin o : SiteName) (position p : ℕ) → is_position origin position o p ≡ true → (o ≡ origin) × (p ≡ position)
is_position-true origin o position p is = go (is_same_site o origin) refl (p == position) refl is
  where
    go : (b : Bool) → is_same_site o origin ≡ b → (c : Bool) → (p == position) ≡ c → (b && c) ≡ true → (o ≡ origin) × (p ≡ position)
    go true site true at is = (is_same_site-true o origin site, grind (arith, nat_tests))
    go true site false at is = cc
    go false site c at is = cc

unless_cleared : (settled : Bool) (origin : SiteName) (position : ℕ) (es : List Entry) (e : ErrorEntry)
    → (error_at origin position es ≡ Some e → (e.origin ≡ origin) × (e.position ≡ position)) → cond settled None (error_at origin position es) ≡ Some e
    → (e.origin ≡ origin) × (e.position ≡ position)
unless_cleared true origin position es e later here = absurd (cc here)
unless_cleared false origin position es e later here = later here

-- an error that is found is the one of this position
pub error_found : (origin : SiteName) (position : ℕ) (journal : List Entry) (e : ErrorEntry) → error_at origin position journal ≡ Some e → (e.origin ≡ origin) × (e.position ≡ position)
error_found origin position [] e found = absurd (cc found)
error_found origin position (Local number txn ∷ es) e found = error_found origin position es e found
error_found origin position (Done o p onward txn ∷ es) e found = error_found origin position es e found
error_found origin position (Error o p call error txn ∷ es) e found = go (is_position origin position o p) refl (error_found origin position es e) found
  where
    go : (b : Bool) → is_position origin position o p ≡ b → (error_at origin position es ≡ Some e → (e.origin ≡ origin) × (e.position ≡ position))
        → cond b (Some (record { origin = o; position = p; call = call; error = error; txn = txn })) (error_at origin position es) ≡ Some e → (e.origin ≡ origin) × (e.position ≡ position)
    go true is later here = let same : record { origin = o; position = p; call = call; error = error; txn = txn } ≡ e = cc here in rw (← same) (is_position-true origin o position p is)
    go false is later here = later here
error_found origin position (Executed o p onward txn ∷ es) e found = unless_cleared (is_position origin position o p) origin position es e (error_found origin position es e) found
error_found origin position (Dropped o p ∷ es) e found = unless_cleared (is_position origin position o p) origin position es e (error_found origin position es e) found
error_found origin position (Refreshed moment ∷ es) e found = error_found origin position es e found

error_stands : (origin : SiteName) (position : ℕ) (journal : List Entry) (e : ErrorEntry) → error_at origin position journal ≡ Some e → error_at e.origin e.position journal ≢ None
error_stands origin position journal e found = let is = error_found origin position journal e found in rw (is.0, is.1) (λ none. absurd (cc (none, found)))

pub execute_steps : (origin : SiteName) (position : ℕ) (x : SiteState) → Steps x (site_execute origin position x)
execute_steps origin position x = go (error_at origin position x.journal) refl
  where
    by : (e : ErrorEntry) → error_at origin position x.journal ≡ Some e → (r : Result Effect Failure) → Steps x (executed_by e r x)
    by e is (Ok effect) = steps_by x _ (one_entry x _ (Executed e.origin e.position _ e.txn) refl (error_stands origin position x.journal e is)) refl refl refl refl refl refl
    by e is (Err failure) = steps_same x

    go : (found : Option ErrorEntry) → error_at origin position x.journal ≡ found → Steps x (executed_found found x)
    go None is = steps_same x
    go (Some e) is = by e is (effect_of_error e x)

pub drop_steps : (origin : SiteName) (position : ℕ) (x : SiteState) → Steps x (site_drop origin position x)
drop_steps origin position x = go (error_at origin position x.journal) refl
  where
    go : (found : Option ErrorEntry) → error_at origin position x.journal ≡ found → Steps x (dropped_found found x)
    go None is = steps_same x
    go (Some e) is = steps_by x _ (one_entry x _ (Dropped e.origin e.position) refl (error_stands origin position x.journal e is)) refl refl refl refl refl refl

-- ---- what a site has later

-- a site later: its journal and its queue have more in front, and what was open is open
pub record Later (x y : SiteState) : Type 0 where
  pub schema : y.schema ≡ x.schema
  pub here : y.here ≡ x.here
  pub journal : IsFront y.journal x.journal
  pub queue : IsFront (queue_of y) (queue_of x)
  pub opened : (site : SiteName) (count : ℕ) → opened_of site x ≡ Some count → opened_of site y ≡ Some count

pub later_same : (x : SiteState) → Later x x
later_same x = record { schema = refl; here = refl; journal = front_none _; queue = front_none _; opened = λ site count is. is }

pub steps_later : (x y : SiteState) → Steps x y → Later x y
steps_later x y s = record {
  schema = s.schema;
  here = s.here;
  journal = rw s.journals.journal (entered s.journals.entry);
  queue = rw (s.schema, s.here, s.base, s.journals.journal) (queued s.journals.entry);
  opened = λ site count is. rw s.destinations is;
}
  where
    entered : (e : Option Entry) → IsFront (with_entry e x.journal) x.journal
    entered None = front_none _
    entered (Some e) = record { front = e ∷ []; is = refl }

    queued : (e : Option Entry) → IsFront (queue_after x.schema x.here x.base (with_entry e x.journal)) (queue_after x.schema x.here x.base x.journal)
    queued None = front_none _
    queued (Some e) = queue_after-append x.schema x.here x.base (e ∷ []) x.journal

-- a stream only gets more in front
pub stream_to-later : (site : SiteName) (x y : SiteState) → Later x y → IsFront (stream_to site y) (stream_to site x)
stream_to-later site x y later = go (opened_of site x) refl
  where
    go : (o : Option ℕ) → opened_of site x ≡ o → IsFront (stream_to site y) (stream_in o (queue_of x))
    go None is = record { front = stream_to site y; is = sym (append-nil (stream_to site y)) }
    go (Some count) is = rw (later.opened site count is, later.queue.is) (queued_behind-append count later.queue.front (queue_of x))

-- no low-water mark falls
pub low_water-later : (origin : SiteName) (x y : SiteState) → Later x y → low_water origin x.journal ≤ low_water origin y.journal
low_water-later origin x y later = rw later.journal.is (low_water-append origin later.journal.front x.journal)

-- what a site has sent: a position of a stream, with its number and its dependency number
pub record IsSent (x : SiteState) (to : SiteName) (number position dep : ℕ) (txn : Txn) : Type 0 where
  pub count : ℕ
  pub opened : opened_of to x ≡ Some count
  pub there : at_position position (stream_to to x) ≡ Some txn
  pub dep_is : dep ≡ dep_at x.schema position (stream_to to x)
  pub number_is : number ≡ count + position

dep_later : (schema other : Schema) → other ≡ schema → (ys xs : List Txn) → IsFront ys xs → (p : ℕ) → p ≤ length xs → dep_at schema p xs ≡ dep_at other p ys
dep_later schema other same ys xs more p within = rw (same, more.is) (sym (dep_at-append schema more.front xs p within))

-- it has sent it later too
pub sent_later : (x y : SiteState) (to : SiteName) (number position dep : ℕ) (txn : Txn) → Later x y → IsSent x to number position dep txn → IsSent y to number position dep txn
sent_later x y to number position dep txn later sent =
    let more = stream_to-later to x y later in
    record {
      count = sent.count;
      opened = later.opened to sent.count sent.opened;
      there = rw more.is (at_position-append more.front (stream_to to x) position txn sent.there);
      dep_is = sent.dep_is ∙ dep_later x.schema y.schema later.schema _ _ more position (found_position position (stream_to to x) txn sent.there).1;
      number_is = sent.number_is;
    }
