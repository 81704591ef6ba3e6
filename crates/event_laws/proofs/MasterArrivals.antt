-- What an arrival from a master leaves of a site, and that two of them that share no token may be applied in either order.
use Rattle.std.proofs.Common.{◌≡◌, ◌≢◌, ℕ, ◌+◌, ◌==◌, List, [], map, Bool, true, false, cond, Some, None, refl, sym, ap, ◌∙◌}
use Rattle.std.specs.Prelude.{◌||◌, ◌&&◌, not, is_none, Option, Result, Ok, Err}
use Rattle.std.specs.List.{list_any}
use Rattle.rep_values.specs.declared.name.SiteName.{SiteName}
use Rattle.rep_schema.specs.declared.schema.Schema.{Schema}
use Rattle.rep_schema.specs.declared.change.Change.{Change}
use Rattle.txn_effects.specs.Calls.{Effect}
use Rattle.txn_effects.specs.Transactions.{Failure, tables_by, numbers_by}
use Rattle.txn_effects.specs.Contents.{Content, effect_on, content_after}
use Rattle.txn_effects.specs.declared.local.Here.{Here}
use Rattle.deferred_queue.proofs.Sites.{is_same_site-refl}
use Rattle.snapshot_query.specs.declared.snapshot.Snapshot.{Snapshot}
use Rattle.rep_laws.specs.Commuting.{EndAlike, Commute}
use Rattle.site_state.specs.declared.entry.Entry.{Entry}
use Rattle.site_state.specs.declared.entry.Entry.TheVariants.{Local, Done, Error, Executed, Dropped, Refreshed}
use Rattle.error_queue.specs.declared.entry.ErrorEntry.{ErrorEntry}
use Rattle.site_state.specs.declared.answers.Why.TheVariants as why
use Rattle.site_state.specs.declared.arrival.Arrival.{Arrival}
use Rattle.site_state.specs.State.{SiteState, arrived_at}
use Rattle.change_logs.specs.LogState.{LogState}
use Rattle.rep_schema.specs.Sites.{is_master_site}
use Rattle.site_state.specs.Journal.{is_position, finishes, finished, error_at}
use Rattle.site_state.specs.Contents.{content_of, changes_by}
use Rattle.site_state.specs.Streams.{went_onward, queue_of, count_of}
use Rattle.site_state.specs.Pasts.{pasts_of}
use Rattle.site_state.specs.Ready.{is_due, stale_found, is_ready}
use Rattle.site_state.specs.Notes.{noted}
use Rattle.change_logs.specs.Noting.{logged_in, touched_in}
use Rattle.site_state.specs.Steps.{is_empty, is_open, journalled, onward_number}
use Rattle.site_state.specs.Passes.{effect_here, finished_by, site_apply}
use Rattle.site_state.proofs.Stepping.{is_position-true}
use Rattle.event_laws.proofs.NotesInAnyOrder.{logs_either, snapshots_either, logs_unchanged, snapshots_unchanged}

-- ---- what is told of a site, all but its journal's order

pub record Told : Type 0 where
  pub content : Content
  pub logs : List LogState
  pub snapshots : List Snapshot
  pub errors : SiteName → ℕ → Option ErrorEntry
  pub finished_at : SiteName → ℕ → Bool

abbrev pub told : SiteState → Told
told x = record {
  content = content_of x;
  logs = x.logs;
  snapshots = x.snapshots;
  errors = λ o p. error_at o p x.journal;
  finished_at = λ o p. finished o x.journal p;
}

-- the error that stands at a position after one entry more
abbrev pub error_with : Entry → SiteName → ℕ → Option ErrorEntry → Option ErrorEntry
error_with (Local number txn) origin position before = before
error_with (Done o p onward txn) origin position before = before
error_with (Error o p call error txn) origin position before = cond (is_position origin position o p) (Some (record { origin = o; position = p; call = call; error = error; txn = txn })) before
error_with (Executed o p onward txn) origin position before = before
error_with (Dropped o p) origin position before = before
error_with (Refreshed moment) origin position before = before

-- the entry that an arrival from a master leads to
abbrev pub entry_by : SiteName → Arrival → Result Effect Failure → Entry
entry_by origin a (Ok effect) = Done origin a.position 0 a.txn
entry_by origin a (Err failure) = Error origin a.position failure.call failure.error a.txn

abbrev pub told_after : Schema → ℕ → Content → List Change → Entry → Told → Told
told_after schema moment content changes e before = record {
  content = content;
  logs = map (logged_in schema moment changes) before.logs;
  snapshots = map (touched_in schema changes) before.snapshots;
  errors = λ o p. error_with e o p (before.errors o p);
  finished_at = λ o p. finishes o p e || before.finished_at o p;
}

abbrev pub entry_here : Schema → SiteName → Arrival → Told → Entry
entry_here schema origin a before = entry_by origin a (effect_on schema origin a.txn before.content)

-- what is told after an arrival is applied
abbrev pub told_with : Schema → ℕ → SiteName → Arrival → Told → Told
told_with schema moment origin a before = told_after schema moment (content_after schema origin a.txn before.content) (changes_by (effect_on schema origin a.txn before.content))
    (entry_here schema origin a before) before

-- ---- two arrivals that share no token are applied in either order

same_changes : (r q : Result Effect Failure) → EndAlike r q → changes_by q ≡ changes_by r
same_changes (Ok one) (Ok other) alike = sym alike
same_changes (Ok one) (Err failure) alike = absurd alike
same_changes (Err failure) (Ok other) alike = absurd alike
same_changes (Err one) (Err other) alike = refl

same_entry : (origin : SiteName) (a : Arrival) (r q : Result Effect Failure) → EndAlike r q → entry_by origin a q ≡ entry_by origin a r
same_entry origin a (Ok one) (Ok other) alike = refl
same_entry origin a (Ok one) (Err failure) alike = absurd alike
same_entry origin a (Err failure) (Ok other) alike = absurd alike
same_entry origin a (Err one) (Err other) alike = ap (λ (f : Failure). Error origin a.position f.call f.error a.txn) (sym alike)

or_either : (a b c : Bool) → (a || (b || c)) ≡ (b || (a || c))
or_either true true c = refl
or_either true false c = refl
or_either false true c = refl
or_either false false c = refl

module _ (origin : SiteName) (a b : Arrival) (apart : a.position ≢ b.position) where
  errors_either : (r q : Result Effect Failure) (o : SiteName) (p : ℕ) (before : Option ErrorEntry)
      → error_with (entry_by origin b q) o p (error_with (entry_by origin a r) o p before) ≡ error_with (entry_by origin a r) o p (error_with (entry_by origin b q) o p before)
  errors_either (Ok one) (Ok other) o p before = refl
  errors_either (Ok one) (Err other) o p before = refl
  errors_either (Err one) (Ok other) o p before = refl
  errors_either (Err one) (Err other) o p before = go (is_position o p origin a.position) refl (is_position o p origin b.position) refl
    where
      first : ErrorEntry
      first = record { origin = origin; position = a.position; call = one.call; error = one.error; txn = a.txn }

      second : ErrorEntry
      second = record { origin = origin; position = b.position; call = other.call; error = other.error; txn = b.txn }

      go : (c : Bool) → is_position o p origin a.position ≡ c → (d : Bool) → is_position o p origin b.position ≡ d → cond d (Some second) (cond c (Some first) before) ≡ cond c (Some first) (cond d (Some second) before)
      go true is true other_is = absurd (apart ((is_position-true o origin p a.position is).1 ∙ sym (is_position-true o origin p b.position other_is).1))
      go true is false other_is = refl
      go false is true other_is = refl
      go false is false other_is = refl

  told_either : (schema : Schema) (moment : ℕ) (one other both both_back : Content) (changes other_changes : List Change) (r q : Result Effect Failure) (before : Told) → both ≡ both_back
      → told_after schema moment both other_changes (entry_by origin b q) (told_after schema moment one changes (entry_by origin a r) before)
      ≡ told_after schema moment both_back changes (entry_by origin a r) (told_after schema moment other other_changes (entry_by origin b q) before)
  told_either schema moment one other both both_back changes other_changes r q before same = λ i. record {
    content = same i;
    logs = logs_either schema moment other_changes changes before.logs i;
    snapshots = snapshots_either schema other_changes changes before.snapshots i;
    errors = λ o p. errors_either r q o p (before.errors o p) i;
    finished_at = λ o p. or_either (finishes o p (entry_by origin b q)) (finishes o p (entry_by origin a r)) (before.finished_at o p) i;
  }

  pub record Either (schema : Schema) (moment : ℕ) (before : Told) : Type 0 where
    pub same : told_with schema moment origin b (told_with schema moment origin a before) ≡ told_with schema moment origin a (told_with schema moment origin b before)
    pub entry : entry_here schema origin a (told_with schema moment origin b before) ≡ entry_here schema origin a before
    pub other_entry : entry_here schema origin b (told_with schema moment origin a before) ≡ entry_here schema origin b before

  pub either_first : (schema : Schema) (moment : ℕ) (before : Told) → Commute schema origin origin a.txn b.txn before.content → Either schema moment before
  either_first schema moment before commute = record {
    same = ap (λ (ch : List Change). told_after schema moment both ch behind_b after_a) (same_changes (effect_on schema origin b.txn content) (effect_on schema origin b.txn one) commute.second)
        ∙ ap (λ (e : Entry). told_after schema moment both (changes_by (effect_on schema origin b.txn content)) e after_a) b_same
        ∙ told_either schema moment one other both both_back (changes_by (effect_on schema origin a.txn content)) (changes_by (effect_on schema origin b.txn content)) (effect_on schema origin a.txn content) (effect_on schema origin b.txn content) before commute.same
        ∙ ap (λ (e : Entry). told_after schema moment both_back (changes_by (effect_on schema origin a.txn content)) e after_b) (sym a_same)
        ∙ ap (λ (ch : List Change). told_after schema moment both_back ch behind_a after_b) (sym (same_changes (effect_on schema origin a.txn content) (effect_on schema origin a.txn other) commute.first));
    entry = a_same;
    other_entry = b_same;
  }
    where
      content : Content
      content = before.content

      one : Content
      one = content_after schema origin a.txn before.content

      other : Content
      other = content_after schema origin b.txn before.content

      both : Content
      both = content_after schema origin b.txn one

      both_back : Content
      both_back = content_after schema origin a.txn other

      after_a : Told
      after_a = told_with schema moment origin a before

      after_b : Told
      after_b = told_with schema moment origin b before

      behind_a : Entry
      behind_a = entry_here schema origin a after_b

      behind_b : Entry
      behind_b = entry_here schema origin b after_a

      a_same : entry_here schema origin a (told_with schema moment origin b before) ≡ entry_here schema origin a before
      a_same = same_entry origin a (effect_on schema origin a.txn before.content) (effect_on schema origin a.txn (content_after schema origin b.txn before.content)) commute.first

      b_same : entry_here schema origin b (told_with schema moment origin a before) ≡ entry_here schema origin b before
      b_same = same_entry origin b (effect_on schema origin b.txn before.content) (effect_on schema origin b.txn (content_after schema origin a.txn before.content)) commute.second

-- ---- a ready position is applied

-- what arrived at a position is due, and isn't finished
pub record IsReadyAt (origin : SiteName) (p : ℕ) (x : SiteState) : Type 0 where
  pub arrival : Arrival
  pub there : arrived_at origin p x.senders ≡ Some arrival
  pub unfinished : finished origin x.journal p ≡ false
  pub due : is_due origin x arrival ≡ true

pub ready_at : (origin : SiteName) (p : ℕ) (x : SiteState) → is_ready origin p x ≡ true → IsReadyAt origin p x
ready_at origin p x ready = go (finished origin x.journal p) refl (arrived_at origin p x.senders) refl ready
  where
    by : (a : Arrival) → arrived_at origin p x.senders ≡ Some a → finished origin x.journal p ≡ false → (d : Bool) → is_due origin x a ≡ d → is_none (cond d None (Some why.NotReady)) ≡ true → IsReadyAt origin p x
    by a there unfinished true due ready = record { arrival = a; there = there; unfinished = unfinished; due = due }
    by a there unfinished false due ready = absurd (cc ready)

    go : (f : Bool) → finished origin x.journal p ≡ f → (found : Option Arrival) → arrived_at origin p x.senders ≡ found → is_none (cond f (Some why.Finished) (stale_found origin x found)) ≡ true → IsReadyAt origin p x
    go true is found there ready = absurd (cc ready)
    go false is None there ready = absurd (cc ready)
    go false is (Some a) there ready = by a there is (is_due origin x a) refl ready

pub at_ready : (origin : SiteName) (p : ℕ) (x : SiteState) → IsReadyAt origin p x → is_ready origin p x ≡ true
at_ready origin p x at = rw (at.unfinished, at.there, at.due) refl

-- what applying it leaves is what its arrival does
pub site_apply-ready : (origin : SiteName) (p : ℕ) (x : SiteState) (at : IsReadyAt origin p x) → site_apply origin p x ≡ finished_by origin at.arrival (effect_here origin at.arrival x) x
site_apply-ready origin p x at = rw (at.unfinished, at.there, at.due) refl

-- nothing goes onward of what came from a master
onward-master : (origin : SiteName) (changes : List Change) (x : SiteState) → is_master_site x.schema origin ≡ true → onward_number origin changes x ≡ 0
onward-master origin changes x master = ap (λ (b : Bool). cond b (count_of x + 1) 0) (go x.here.is_master (is_master_site x.schema origin) master)
  where
    go : (here master : Bool) → master ≡ true → (here && not master && not (is_empty changes) && list_any is_open x.destinations) ≡ false
    go here false is = absurd (cc is)
    go true true is = refl
    go false true is = refl

-- an arrival from a master is journalled and noted, also where it is in error
pub finished_by-master : (origin : SiteName) (a : Arrival) (x : SiteState) → is_master_site x.schema origin ≡ true → (r : Result Effect Failure)
    → finished_by origin a r x ≡ noted (changes_by r) (journalled (entry_by origin a r) x)
finished_by-master origin a x master (Ok effect) = ap (λ n. noted effect.changes (journalled (Done origin a.position n a.txn) x)) (onward-master origin effect.changes x master)
finished_by-master origin a x master (Err failure) = λ i. record (journalled (Error origin a.position failure.call failure.error a.txn) x) {
  logs = sym (logs_unchanged x.schema x.moment x.logs) i;
  snapshots = sym (snapshots_unchanged x.schema x.snapshots) i;
}

went_none : (here : Here) → went_onward here 0 ≡ false
went_none here = go here.is_master
  where
    go : (m : Bool) → (m && false) ≡ false
    go true = refl
    go false = refl

-- it queues nothing
pub queue_of-master : (origin : SiteName) (a : Arrival) (x : SiteState) (r : Result Effect Failure) → queue_of (noted (changes_by r) (journalled (entry_by origin a r) x)) ≡ queue_of x
queue_of-master origin a x (Ok effect) = rw (went_none x.here) refl
queue_of-master origin a x (Err failure) = refl

pub pasts_of-master : (origin : SiteName) (a : Arrival) (x : SiteState) (r : Result Effect Failure) → pasts_of (noted (changes_by r) (journalled (entry_by origin a r) x)) ≡ pasts_of x
pasts_of-master origin a x (Ok effect) = rw (went_none x.here) refl
pasts_of-master origin a x (Err failure) = refl

pub told-master : (origin : SiteName) (a : Arrival) (x : SiteState) (r : Result Effect Failure) → effect_here origin a x ≡ r
    → told (noted (changes_by r) (journalled (entry_by origin a r) x)) ≡ told_after x.schema x.moment (content_after x.schema origin a.txn (content_of x)) (changes_by r) (entry_by origin a r) (told x)
told-master origin a x (Ok effect) is = refl
told-master origin a x (Err failure) is = ap (λ c. told_after x.schema x.moment c [] (entry_by origin a (Err failure)) (told x)) (sym stays)
  where
    stays : content_after x.schema origin a.txn (content_of x) ≡ content_of x
    stays = ap (λ (r : Result Effect Failure). record { tables = tables_by x.schema r (content_of x).tables; numbers = numbers_by r (content_of x).numbers }) is

pub finishes-entry : (origin : SiteName) (a : Arrival) (r : Result Effect Failure) (p q : ℕ) → a.position ≡ p → finishes origin q (entry_by origin a r) ≡ (p == q)
finishes-entry origin a (Ok effect) p q at = rw (at, is_same_site-refl origin) refl
finishes-entry origin a (Err failure) p q at = rw (at, is_same_site-refl origin) refl
