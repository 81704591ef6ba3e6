-- Every pair that a queue carries was made by a site's own transaction, whose values it carries.
use Rattle.std.proofs.Common.{◌≡◌, ℕ, Bool, true, false, cond, List, [], ◌∷◌, ◌++◌, map, Some, None, Ok, refl, sym, ap, ◌∙◌, subst, inl, inr, append-nil}
use Rattle.std.specs.Prelude.{Option}
use Rattle.std.specs.List.{AllByRecursion}
use Rattle.rep_values.specs.declared.name.SiteName.{SiteName}
use Rattle.rep_schema.specs.declared.schema.Schema.{Schema}
use Rattle.rep_schema.specs.Tables.{Cells}
use Rattle.schema_rules.specs.declared.forms.Form.TheVariants as form
use Rattle.rep_calls.specs.declared.call.Call.{Call}
use Rattle.rep_calls.specs.declared.call.Txn.{Txn}
use Rattle.conflict_detect.specs.Fits.{TxnFits}
use Rattle.conflict_detect.specs.ChangeCalls.{call_of}
use Rattle.txn_effects.specs.Calls.{Effect}
use Rattle.txn_effects.specs.Contents.{Content, IsContent, effect_on}
use Rattle.deferred_queue.specs.Streams.{at_position}
use Rattle.rep_values.specs.SiteNames.{is_same_site}
use Rattle.deferred_queue.proofs.Sites.{is_same_site-true}
use Rattle.txn_effects.specs.Convergent.{is_convergent}
use Rattle.rep_laws.specs.Commuting.{IsSound}
use Rattle.error_queue.specs.declared.entry.ErrorEntry.{ErrorEntry}
use Rattle.site_state.specs.declared.entry.Entry.{Entry}
use Rattle.site_state.specs.declared.entry.Entry.TheVariants.{Local, Done, Error, Executed, Dropped, Refreshed}
use Rattle.site_state.specs.State.{SiteState, opened_of}
use Rattle.site_state.specs.Journal.{is_position, error_at}
use Rattle.site_state.specs.Contents.{txn_of, content_of}
use Rattle.site_state.specs.Streams.{with_one, went_onward, onward_txn, queue_after, queue_of, stream_to}
use Rattle.site_state.specs.Fits.{EntryHas, EntryFits}
use Rattle.site_state.specs.Joining.{site_open}
use Rattle.site_state.specs.Steps.{onward_number}
use Rattle.site_state.proofs.Growing.{queue_after-rebased}
use Rattle.site_state.proofs.Stepping.{IsTaken, is_position-true, arrived_has}
use Rattle.site_events.specs.Cluster.{site_of, at_site}
use Rattle.site_events.specs.Joins.{with_joined}
use Rattle.event_laws.specs.Orders.{FollowsIn, IsInOrder}
use Rattle.event_laws.specs.Fitting.{FitsHere}
use Rattle.event_laws.proofs.Sites.{found_name, found_changed, found_other}
use Rattle.event_laws.proofs.RunInvariants.{SentBy, SiteHolds}
use Rattle.event_laws.proofs.MarkLaws.{arrived_was_sent}
use Rattle.rep_laws.specs.GroupForms.{form_at, TxnKeepsForms}
use Rattle.convergence_laws.specs.Journals.{IsSoundTxn}
use Rattle.convergence_laws.specs.Collections.{Among}
use Rattle.convergence_laws.proofs.Moves.{DecisionLaws}
use Rattle.convergence_laws.proofs.SitesKeepForms.{stream_has, position_has}
use Rattle.convergence_laws.proofs.EventsKeepForms.{KeepsIn}
use Rattle.convergence_laws.specs.Pairs.{made_in, calls_in, own_calls}
use Rattle.convergence_laws.proofs.Counting.{among_left, among_right, among_either}
use Rattle.convergence_laws.proofs.OwnPairs.{made_in-append}
use Rattle.convergence_laws.proofs.OnwardValues.{onward_among}
use Rattle.convergence_laws.proofs.Turns.{Turn, Same, Own, Did, Left, Renewed, Cause, Now, Late, IsLeft, Becomes, Stays, Turns, Joins}
use Rattle.convergence_laws.proofs.SitesAt.{Each, turns_here}
use Rattle.event_laws.proofs.JoinedSites.{found_opened}
use Rattle.convergence_laws.proofs.PairsMadeOnce.{own_calls-did, own_calls-left}

-- ---- what is told

-- values are among those that the own transactions of a site that is there made, and its name passes a test
pub record IsOwnValue (test : SiteName → Bool) (schema : Schema) (sites : List SiteState) (table : ℕ) (key : Cells) (group : ℕ) (v : Cells) : Type 0 where
  pub name : SiteName
  pub site : SiteState
  pub found : site_of name sites ≡ Some site
  pub among : Among v (made_in schema table key group (own_calls site.journal))
  pub passes : test site.here.site ≡ true

-- all that calls make of groups with latest values is
abbrev pub AreTold : (SiteName → Bool) → Schema → List SiteState → List Call → Type 0
AreTold test schema sites calls = (table group stamp own : ℕ) (key v : Cells) → is_convergent schema table ≡ true → form_at schema table group ≡ Some (form.Latest stamp own)
    → Among v (made_in schema table key group calls) → IsOwnValue test schema sites table key group v

abbrev pub TxnIsTold : (SiteName → Bool) → Schema → List SiteState → Txn → Type 0
TxnIsTold test schema sites txn = AreTold test schema sites txn.calls

-- of two lists of calls
pub told_append : (test : SiteName → Bool) (schema : Schema) (sites : List SiteState) (calls others : List Call) → AreTold test schema sites calls → AreTold test schema sites others → AreTold test schema sites (calls ++ others)
told_append test schema sites calls others one other table group stamp own key v convergent has among =
    elim (among_either v (made_in schema table key group calls) (made_in schema table key group others) (subst (Among v) (made_in-append schema table key group calls others) among)) [
      | inl first ↦ one table group stamp own key v convergent has first
      | inr second ↦ other table group stamp own key v convergent has second
    ]

pub told_calls : (test : SiteName → Bool) (schema : Schema) (sites : List SiteState) (txns : List Txn) → AllByRecursion (TxnIsTold test schema sites) txns → AreTold test schema sites (calls_in txns)
told_calls test schema sites [] all table group stamp own key v convergent has among = absurd among
told_calls test schema sites (t ∷ ts) all table group stamp own key v convergent has among =
    told_append test schema sites (calls_in ts) t.calls (told_calls test schema sites ts all.1) all.0 table group stamp own key v convergent has among

-- ---- sites whose own transactions become more

-- a site that is there is there later, with more behind its own calls
pub record HasMore (others : List SiteState) (name : SiteName) (x : SiteState) : Type 0 where
  pub site : SiteState
  pub found : site_of name others ≡ Some site
  pub here : site.here ≡ x.here
  pub more : List Call
  pub own : own_calls site.journal ≡ own_calls x.journal ++ more

abbrev pub HaveMore : List SiteState → List SiteState → Type 0
HaveMore sites others = (name : SiteName) (x : SiteState) → site_of name sites ≡ Some x → HasMore others name x

-- what a site made it made later
pub own_later : (test : SiteName → Bool) (schema : Schema) (sites others : List SiteState) (table : ℕ) (key : Cells) (group : ℕ) (v : Cells) → HaveMore sites others
    → IsOwnValue test schema sites table key group v → IsOwnValue test schema others table key group v
own_later test schema sites others table key group v later t =
    let more = later t.name t.site t.found in
    record {
      name = t.name;
      site = more.site;
      found = more.found;
      among = rw (more.own, made_in-append schema table key group (own_calls t.site.journal) more.more) (among_left v (made_in schema table key group (own_calls t.site.journal)) (made_in schema table key group more.more) t.among);
      passes = rw more.here t.passes;
    }

pub told_later : (test : SiteName → Bool) (schema : Schema) (sites others : List SiteState) (calls : List Call) → HaveMore sites others → AreTold test schema sites calls → AreTold test schema others calls
told_later test schema sites others calls later told table group stamp own key v convergent has among =
    own_later test schema sites others table key group v later (told table group stamp own key v convergent has among)

pub all_told_later : (test : SiteName → Bool) (schema : Schema) (sites others : List SiteState) (txns : List Txn) → HaveMore sites others → AllByRecursion (TxnIsTold test schema sites) txns → AllByRecursion (TxnIsTold test schema others) txns
all_told_later test schema sites others [] later all = tt
all_told_later test schema sites others (t ∷ ts) later all = (told_later test schema sites others t.calls later all.0, all_told_later test schema sites others ts later all.1)

turn_more : (others : List SiteState) (name : SiteName) (x y : SiteState) → site_of name others ≡ Some y → Turn x y → HasMore others name x
turn_more others name x y found (Same f base journal last) = record { site = y; found = found; here = f.here; more = []; own = ap own_calls journal ∙ sym (append-nil (own_calls x.journal)) }
turn_more others name x y found (Own f base number statements block is journal last) = record { site = y; found = found; here = f.here; more = map (call_of x.schema) block.changes; own = ap own_calls journal }
turn_more others name x y found (Did f base e origin position txn effect cause gives journal last) =
    record { site = y; found = found; here = f.here; more = []; own = ap own_calls journal ∙ own_calls-did x origin position _ txn e x.journal cause ∙ sym (append-nil (own_calls x.journal)) }
turn_more others name x y found (Left f base e left follows journal last) = record { site = y; found = found; here = f.here; more = []; own = ap own_calls journal ∙ own_calls-left e x.journal left ∙ sym (append-nil (own_calls x.journal)) }
turn_more others name x y found (Renewed f plain moment journal last) = record { site = y; found = found; here = f.here; more = []; own = ap own_calls journal ∙ sym (append-nil (own_calls x.journal)) }

nothing_more : (others : List SiteState) (name : SiteName) (x y : SiteState) → site_of name others ≡ Some y → y.here ≡ x.here → y.journal ≡ x.journal → HasMore others name x
nothing_more others name x y found here journal = record { site = y; found = found; here = here; more = []; own = ap own_calls journal ∙ sym (append-nil (own_calls x.journal)) }

pub becomes_more : (sites others : List SiteState) → Becomes sites others → HaveMore sites others
becomes_more sites _ Stays name x found = nothing_more sites name x x found refl refl
becomes_more sites _ (Turns at change turns) name x found = go (is_same_site at name) refl
  where
    ys : List SiteState
    ys = at_site at change sites

    go : (b : Bool) → is_same_site at name ≡ b → HasMore ys name x
    go true same =
        let is = is_same_site-true at name same in
        let here : site_of at sites ≡ Some x = rw is found in
        subst (λ n. HasMore ys n x) is (turn_more ys at x (change x) (found_changed at change sites x (turns_here change turns) here) (turns x))
    go false other = nothing_more ys name x x (found_other at name change sites (turns_here change turns) other ∙ found) refl refl
becomes_more sites _ (Joins site from source absent there may) name x found =
    nothing_more (with_joined sites source site) name x (site_open site x) (found_opened sites source site name x absent found) refl refl

-- ---- what was sent

-- what stands at a position of a queue's stream is of the queue
module _ (P : Txn → Type 0) where
  pub sent_has : (to : SiteName) (position : ℕ) (o : SiteState) (txn : Txn) → AllByRecursion P (queue_of o) → at_position position (stream_to to o) ≡ Some txn → P txn
  sent_has to position o txn all at = position_has P position (stream_to to o) txn (stream_has P (opened_of to o) (queue_of o) all) at

-- a site that is there has a transaction at a position of its stream to another one
pub record IsSentBy (sites : List SiteState) (to origin : SiteName) (position : ℕ) (txn : Txn) : Type 0 where
  pub sender : SiteState
  pub found : site_of origin sites ≡ Some sender
  pub at : at_position position (stream_to to sender) ≡ Some txn

pub followed : (sites : List SiteState) (to origin : SiteName) (position : ℕ) (txn : Txn) (before : List Entry) → FollowsIn (site_of origin sites) to origin position txn before → IsSentBy sites to origin position txn
followed sites to origin position txn before follows = go (site_of origin sites) refl follows
  where
    go : (o : Option SiteState) → site_of origin sites ≡ o → FollowsIn o to origin position txn before → IsSentBy sites to origin position txn
    go None there follows = absurd follows
    go (Some o) there follows = record { sender = o; found = there; at = follows.sent }

-- so has the sender of an error
pub error_sent : (sites : List SiteState) (to origin : SiteName) (position : ℕ) (journal : List Entry) (e : ErrorEntry) → IsInOrder sites to journal → error_at origin position journal ≡ Some e → IsSentBy sites to origin position e.txn
error_sent sites to origin position [] e order found = cc
error_sent sites to origin position (Local number txn ∷ es) e order found = error_sent sites to origin position es e order.1 found
error_sent sites to origin position (Done o p onward txn ∷ es) e order found = error_sent sites to origin position es e order.1 found
error_sent sites to origin position (Error o p call error txn ∷ es) e order found = go (is_position origin position o p) refl found (error_sent sites to origin position es e order.1)
  where
    go : (b : Bool) → is_position origin position o p ≡ b → cond b (Some (record { origin = o; position = p; call = call; error = error; txn = txn })) (error_at origin position es) ≡ Some e
        → (error_at origin position es ≡ Some e → IsSentBy sites to origin position e.txn) → IsSentBy sites to origin position e.txn
    go true is found later =
        let same : record { origin = o; position = p; call = call; error = error; txn = txn } ≡ e = cc in
        let place = is_position-true origin o position p is in
        subst (λ (x : ErrorEntry). IsSentBy sites to origin position x.txn) same (rw (← place.0, ← place.1) (followed sites to o p txn es order.0))
    go false is found later = later found
error_sent sites to origin position (Executed o p onward txn ∷ es) e order found = go (is_position origin position o p) found (error_sent sites to origin position es e order.1)
  where
    go : (b : Bool) → cond b None (error_at origin position es) ≡ Some e → (error_at origin position es ≡ Some e → IsSentBy sites to origin position e.txn) → IsSentBy sites to origin position e.txn
    go true found later = cc
    go false found later = later found
error_sent sites to origin position (Dropped o p ∷ es) e order found = go (is_position origin position o p) found (error_sent sites to origin position es e order.1)
  where
    go : (b : Bool) → cond b None (error_at origin position es) ≡ Some e → (error_at origin position es ≡ Some e → IsSentBy sites to origin position e.txn) → IsSentBy sites to origin position e.txn
    go true found later = cc
    go false found later = later found
error_sent sites to origin position (Refreshed moment ∷ es) e order found = error_sent sites to origin position es e order.1 found

taken_sent : (sites : List SiteState) (to origin : SiteName) (position : ℕ) (txn : Txn) (x : SiteState) → SiteHolds sites to x → IsTaken x origin position txn → IsSentBy sites to origin position txn
taken_sent sites to origin position txn x holds taken = go (site_of origin sites) refl (arrived_was_sent sites to origin x.senders position taken.arrival holds.senders taken.there)
  where
    go : (o : Option SiteState) → site_of origin sites ≡ o → SentBy o to taken.arrival.number taken.arrival.position taken.arrival.dep taken.arrival.txn → IsSentBy sites to origin position txn
    go None there sent = absurd sent
    go (Some o) there sent = record { sender = o; found = there; at = rw (← arrived_has origin position x taken.arrival taken.there, ← taken.carries) sent.there }

-- what a site does was sent to it
pub cause_sent : (sites : List SiteState) (to origin : SiteName) (position number : ℕ) (txn : Txn) (x : SiteState) (e : Entry) → SiteHolds sites to x → IsInOrder sites to x.journal → Cause x origin position number txn e
    → IsSentBy sites to origin position txn
cause_sent sites to origin position number txn x _ holds order (Now is) = taken_sent sites to origin position txn x holds is
cause_sent sites to origin position number txn x _ holds order (Late e at is) = subst (IsSentBy sites to origin position) is (error_sent sites to origin position x.journal e order at)

pub cause_has : (P : Txn → Type 0) (x : SiteState) (origin : SiteName) (position number : ℕ) (txn : Txn) (e : Entry) → Cause x origin position number txn e → EntryHas P e → P txn
cause_has P x origin position number txn _ (Now is) has = has
cause_has P x origin position number txn _ (Late e at is) has = has

-- ---- queues

module _ (test : SiteName → Bool) (schema : Schema) (sound : IsSound schema) (decides : DecisionLaws) where
  abbrev pub QueueIsTold : List SiteState → SiteState → Type 0
  QueueIsTold sites x = AllByRecursion (TxnIsTold test schema sites) (queue_of x)

  -- the row changes of a transaction that is told are told
  pub onward_told : (sites : List SiteState) (origin : SiteName) (txn : Txn) (content : Content) (effect : Effect) → IsContent schema content → IsSoundTxn schema txn → effect_on schema origin txn content ≡ Ok effect
      → TxnIsTold test schema sites txn → AreTold test schema sites (map (call_of schema) effect.changes)
  onward_told sites origin txn content effect is txn_sound gives told table group stamp own key v convergent has among =
      told table group stamp own key v convergent has (onward_among schema sound decides table group stamp own key convergent has origin txn content effect is txn_sound gives v among)

  -- what is known of a site and of what it becomes
  pub record Known (sites others : List SiteState) (name : SiteName) (x y : SiteState) : Type 0 where
    pub found : site_of name sites ≡ Some x
    pub found_later : site_of name others ≡ Some y
    pub of_schema : x.schema ≡ schema
    pub fits : FitsHere x
    pub fits_later : FitsHere y
    pub keeps_later : KeepsIn schema y
    pub keeps : KeepsIn schema x
    pub holds : SiteHolds sites name x
    pub order : IsInOrder sites name x.journal
    pub later : HaveMore sites others
    pub senders : (origin : SiteName) (position number : ℕ) (txn : Txn) (e : Entry) → Cause x origin position number txn e → test origin ≡ true

  -- a site tells all that it makes
  pub own_told : (sites others : List SiteState) (name : SiteName) (x y : SiteState) → Known sites others name x y → test name ≡ true → (number : ℕ) (txn : Txn) → y.here ≡ x.here
      → y.journal ≡ Local number txn ∷ x.journal → TxnIsTold test schema others txn
  own_told sites others name x y known passes number txn here journal table group stamp own key v convergent has among = record {
    name = name;
    site = y;
    found = known.found_later;
    among = rw (journal, made_in-append schema table key group (own_calls x.journal) txn.calls) (among_right v (made_in schema table key group (own_calls x.journal)) (made_in schema table key group txn.calls) among);
    passes = rw (here, found_name name sites x known.found) passes;
  }

  -- what a site does is told where queues are
  pub done_told : (sites others : List SiteState) (name : SiteName) (x y : SiteState) → Known sites others name x y → Each (λ u. test u.here.site ≡ true → QueueIsTold sites u) sites
      → (e : Entry) (origin : SiteName) (position number : ℕ) (txn : Txn) → Cause x origin position number txn e → TxnIsTold test schema others txn
  done_told sites others name x y known all e origin position number txn cause =
      let sent = cause_sent sites name origin position number txn x e known.holds known.order cause in
      told_later test schema sites others txn.calls known.later (sent_has (TxnIsTold test schema sites) name position sent.sender txn (all origin sent.sender sent.found (rw (found_name origin sites sent.sender sent.found) (known.senders origin position number txn e cause))) sent.at)

  -- a transaction that is done is sound
  pub done_sound : (sites others : List SiteState) (name : SiteName) (x y : SiteState) → Known sites others name x y → (e : Entry) (origin : SiteName) (position number : ℕ) (txn : Txn) → Cause x origin position number txn e
      → y.journal ≡ e ∷ x.journal → y.schema ≡ x.schema → IsSoundTxn schema txn
  done_sound sites others name x y known e origin position number txn cause journal same =
      let fits : AllByRecursion (EntryFits schema) (e ∷ x.journal) = subst (λ (s : Schema). AllByRecursion (EntryFits s) (e ∷ x.journal)) (same ∙ known.of_schema) (rw journal at known.fits_later.journal) in
      let keeps : AllByRecursion (EntryHas (TxnKeepsForms schema)) (e ∷ x.journal) = subst (λ (s : Schema). AllByRecursion (EntryHas (TxnKeepsForms s)) (e ∷ x.journal)) (same ∙ known.of_schema) (rw journal at known.keeps_later.keeps.journal) in
      record { fits = cause_has (TxnFits schema) x origin position number txn e cause fits.0; keeps = cause_has (TxnKeepsForms schema) x origin position number txn e cause keeps.0 }

  pub queue-did : (x : SiteState) (origin : SiteName) (position number : ℕ) (txn : Txn) (e : Entry) → Cause x origin position number txn e
      → queue_after x.schema x.here x.base (e ∷ x.journal) ≡ with_one (went_onward x.here number) (onward_txn x.schema x.here x.base x.journal origin txn) (queue_of x)
  queue-did x origin position number txn _ (Now is) = refl
  queue-did x origin position number txn _ (Late e at is) = refl

  pub queue-left : (x : SiteState) (e : Entry) → IsLeft e → queue_after x.schema x.here x.base (e ∷ x.journal) ≡ queue_of x
  queue-left x (Local number txn) left = absurd left
  queue-left x (Done origin position onward txn) left = absurd left
  queue-left x (Error origin position call error txn) left = refl
  queue-left x (Executed origin position onward txn) left = absurd left
  queue-left x (Dropped origin position) left = refl
  queue-left x (Refreshed moment) left = absurd left

  -- at most one transaction more is queued, which is told
  pub record QueuesTold (others : List SiteState) (x y : SiteState) : Type 0 where
    pub queues : Bool
    pub txn : Txn
    pub queue : queue_of y ≡ with_one queues txn (queue_of x)
    pub told : TxnIsTold test schema others txn

  abbrev no_txn : Txn
  no_txn = record { calls = [] }

  none_queued : (others : List SiteState) (x y : SiteState) → queue_of y ≡ queue_of x → QueuesTold others x y
  none_queued others x y queue = record { queues = false; txn = no_txn; queue = queue; told = λ table group stamp own key v convergent has among. absurd among }

  pub turn_queues : (sites others : List SiteState) (name : SiteName) (x y : SiteState) → Known sites others name x y → test name ≡ true → Each (λ u. test u.here.site ≡ true → QueueIsTold sites u) sites → Turn x y → QueuesTold others x y
  turn_queues sites others name x y known passes all (Same f base journal last) = none_queued others x y (rw (f.schema, f.here, base, journal) refl)
  turn_queues sites others name x y known passes all (Own f base number statements block is journal last) = record {
    queues = true;
    txn = txn_of x.schema block.changes;
    queue = rw (f.schema, f.here, base, journal) refl;
    told = own_told sites others name x y known passes number (txn_of x.schema block.changes) f.here journal;
  }
  turn_queues sites others name x y known passes all (Did f base e origin position txn effect cause gives journal last) =
      let told : TxnIsTold test schema others txn = done_told sites others name x y known all e origin position (onward_number origin effect.changes x) txn cause in
      let onward : AreTold test schema others (map (call_of schema) effect.changes) =
      onward_told others origin txn (content_of x) effect (subst (λ (s : Schema). IsContent s (content_of x)) known.of_schema known.fits.content) (done_sound sites others name x y known e origin position _ txn cause journal f.schema)
      (subst (λ (s : Schema). effect_on s origin txn (content_of x) ≡ Ok effect) known.of_schema gives) told in
      record {
        queues = went_onward x.here (onward_number origin effect.changes x);
        txn = onward_txn x.schema x.here x.base x.journal origin txn;
        queue = (rw (f.schema, f.here, base, journal) refl) ∙ queue-did x origin position _ txn e cause;
        told = rw gives (subst (λ (s : Schema). AreTold test schema others (map (call_of s) effect.changes)) (sym known.of_schema) onward);
      }
  turn_queues sites others name x y known passes all (Left f base e left follows journal last) = none_queued others x y ((rw (f.schema, f.here, base, journal) refl) ∙ queue-left x e left)
  turn_queues sites others name x y known passes all (Renewed f plain moment journal last) = none_queued others x y ((rw (f.schema, f.here, journal) refl) ∙ queue_after-rebased x.schema x.here y.base x.base x.journal plain)
