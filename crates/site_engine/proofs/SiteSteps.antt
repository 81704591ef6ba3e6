-- What a site keeps beside its state is what the state says after each call.
use Rattle.std.proofs.Common.{◌≡◌, ℕ, ◌+◌, ◌-◌, ◌≤◌, ◌==◌, List, [], ◌∷◌, length, get_or, set, map, Bool, true, false, not, Some, None, Ok, Err, refl, sym, ap, ◌∙◌, arith, subst, inl, inr}
use Rattle.std.specs.Prelude.{◌⊎◌, ◌||◌, max, nat_lt, Option, option_map, Result, is_none, IfSome}
use Rattle.std.specs.List.{list_all, AllByRecursion}
use Rattle.std.specs.List as list
use Rattle.std.proofs.lemmas.Bool.Decides.{nat_tests}
use Rattle.rep_lists.specs.Rising.{IsRising, find_at}
use Rattle.rep_values.specs.declared.name.SiteName.{SiteName}
use Rattle.rep_values.specs.declared.refusal.Refusal.TheVariants as refusal
use Rattle.rep_schema.specs.declared.schema.Schema.{Schema}
use Rattle.rep_schema.specs.declared.change.Change.{Change}
use Rattle.rep_schema.specs.Tables.{Rows}
use Rattle.rep_schema.specs.Putting.{after_changes}
use Rattle.rep_calls.specs.declared.call.Txn.{Txn}
use Rattle.rep_calls.specs.declared.past.PastEntry.{PastEntry}
use Rattle.rep_calls.specs.declared.statement.Statement.{Statement}
use Rattle.conflict_detect.specs.Fits.{TxnFits}
use Rattle.conflict_detect.specs.FitTests.{txn_fits}
use Rattle.conflict_detect.specs.ChangeCalls.{call_of}
use Rattle.unique_resolve.specs.Numbers.{Numbers}
use Rattle.txn_effects.specs.Calls.{Effect}
use Rattle.txn_apply.specs.declared.stop.ApplyStop.{ApplyStop}
use Rattle.txn_apply.specs.declared.stop.ApplyStop.TheVariants.{Failed, Memory}
use Rattle.txn_apply.specs.Stops.{StopsAs}
use Rattle.txn_effects.specs.Transactions.{Failure, txn_effect, tables_by, numbers_by}
use Rattle.deferred_queue.specs.Streams.{Deferred, at_position, unpurged, last_position}
use Rattle.rep_values.specs.SiteNames.{is_same_site}
use Rattle.deferred_queue.specs.Streams as outgoing
use Rattle.origin_marks.specs.Marks as marks
use Rattle.packet_code.specs.declared.packet.Packet.{Packet}
use Rattle.packet_code.specs.declared.packet.Packet.TheVariants.{Carry, Mark}
use Rattle.packet_code.specs.Limits.{IsPlainTxn, IsCausalPast}
use Rattle.packet_code.specs.Texts.{TxnHasTextForm, PastHasForm}
use Rattle.txn_effects.specs.declared.local.Here.{Here}
use Rattle.txn_effects.specs.declared.local.Stamps.{Stamps}
use Rattle.txn_effects.specs.Locals.{BlockEffect}
use Rattle.error_queue.specs.declared.entry.ErrorEntry.{ErrorEntry}
use Rattle.error_queue.specs.ErrorLists.{ErrorList, IsOrigin, error_in, in_order, removed}
use Rattle.site_state.specs.declared.entry.Entry.{Entry}
use Rattle.site_state.specs.declared.entry.Entry.TheVariants.{Local, Done, Executed, Dropped}
use Rattle.site_state.specs.declared.arrival.Arrival.{Arrival}
use Rattle.site_state.specs.declared.answers.Why.TheVariants as why
use Rattle.site_state.specs.declared.answers.Accepted.TheVariants as accepted
use Rattle.site_state.specs.State.{SenderState, SiteState, sender_of, at_sender, arrival_beside, arrived_at, destination_of, at_destination, opened_in}
use Rattle.site_state.specs.Arrivals.{NamesOthers}
use Rattle.site_state.specs.Journal.{finished, error_at}
use Rattle.site_state.specs.Contents.{content_of, tables_of, txn_of, changes_by}
use Rattle.site_state.specs.Streams.{with_one, queue_of, count_of, stream_to}
use Rattle.site_state.specs.Pasts.{past_of, pasts_of}
use Rattle.site_state.specs.Packets.{past_in, with_arrival, acknowledged, is_known_past, is_foreign, site_packet, site_accept, accept_answer}
use Rattle.site_state.specs.Joining.{opened_at, site_open}
use Rattle.change_logs.specs.Noting.{logged_in, touched_in}
use Rattle.site_state.specs.Notes.{noted as noted_at}
use Rattle.site_state.specs.Ready.{stale_of}
use Rattle.site_state.specs.Steps.{is_empty, journalled}
use Rattle.site_state.specs.Passes.{effect_here, finished_by, site_apply, apply_answer_by, apply_answer}
use Rattle.site_state.specs.Commits.{block_at, site_commit, commit_answer}
use Rattle.site_state.specs.Errors.{effect_of_error, site_execute, execute_refusal, site_drop, drop_refusal}
use Rattle.site_state.specs.Purges.{acknowledged_by_all, site_purge, purge_answer}
use Rattle.site_state.specs.Deferrals as queue
use Rattle.site_state.specs.DeclaredSites.{IsDeclared}
use Rattle.site_state.specs.Fits.{EntryHas, FinishedHaveArrived, SiteFits}
use Rattle.site_state.proofs.Stepping.{Steps, arrived_has, error_found, commit_steps, apply_steps, execute_steps, drop_steps}
use Rattle.site_state.proofs.Pasts.{arrived_at-put, finished_have_arrived, pasts_after-put}
use Rattle.site_state.proofs.Deferring.{length-deferred_in, stream_to-closed}
use Rattle.site_state.proofs.PastLimits.{ArePasts-pasts_after}
use Rattle.rep_laws.specs.Packets.{FittingTransactionsArePlain}
use Rattle.site_state.specs.Waited.{HaveWaited}
use Rattle.site_state.proofs.Waited.{have_waited, HaveWaited-put}
use Rattle.site_state.proofs.DeclaredSites.{sites_in, sites_in-at_destination, steps_names, accept_names, still_declared}
use Rattle.site_state.proofs.FittingSites.{commit_fits, apply_fits, execute_fits, drop_fits, accept_fits}
use Rattle.site_state.proofs.FittingSites as fitting
use Rattle.sender_inbox.specs.Incoming.{Incoming, by_position}
use Rattle.change_logs.specs.Noted.{NotesState}
use Rattle.site_outbox.specs.Outgoing.{Outgoing, Keeps}
use Rattle.sender_inbox.specs.Inboxes.{senders_in, sender_in, inbox_of, Follows}
use Rattle.site_engine.specs.SiteInvariant.{state_of, IsSized, SiteHolds}
use Rattle.site_engine.specs.Noting.{RowsAreNoted}
use Rattle.sender_inbox.specs.Steps.{with_error}
use Rattle.site_engine.specs.Applying.{goes_on, onward_of, entry_by, error_by, onward_past, execute_stop_refusal}
use Rattle.sender_inbox.proofs.StandingErrors.{StandApart, HasCome, lists_by, errors-added, errors-removed, error_in-lists, error_at-finished, error_at-unfinished, count-added, count-removed, errors-arrival, list_of-sender}
use Rattle.site_engine.proofs.Apart.{NamesApart, senders_apart, senders_stand_apart, destinations_apart, destinations_stand_apart}
use Rattle.sender_inbox.proofs.SenderInboxes.{sender_of-inboxes, found_inbox}
use Rattle.site_engine.proofs.Reading.{stale_none, sender_is, stale_finished, stale_absent, finished_is}
use Rattle.site_engine.proofs.Sending.{last_is, no_packet, packet_is, sent_has}
use Rattle.sender_inbox.proofs.ChangedInbox.{is_from, inbox_of-place, inbox_of-none, senders_in-same, senders_in-changed, Finishes, follow_same, follow_finished}
use Rattle.site_engine.proofs.FinishedOnce.{once_more, no_onward, entry_stays}
use Rattle.site_engine.proofs.NotedRows.{nothing_logged, nothing_touched, apart_noted}
use Rattle.site_engine.proofs.Onward.{onward_is, went_is, pasts_with, sized_changes}

-- what a call that only journals leaves of what holds
pub record StillHolds (x y : SiteState) : Type 0 where
  pub fits : SiteFits y
  pub declared : IsDeclared y.schema y
  pub arrived : FinishedHaveArrived y.journal y.senders
  pub waited : HaveWaited y.senders y.journal

pub still_holds : (x y : SiteState) → Steps x y → SiteFits y → IsDeclared x.schema x → FinishedHaveArrived x.journal x.senders → HaveWaited x.senders x.journal → StillHolds x y
still_holds x y s fits declared arrived waited = record {
  fits = fits;
  declared = subst (λ (schema : Schema). IsDeclared schema y) (sym s.schema) (still_declared x.schema x y (steps_names x y s) declared);
  arrived = rw (s.journals.journal, s.senders) (finished_have_arrived x s.journals.entry s.journals.follows arrived);
  waited = rw (s.journals.journal, s.senders) (have_waited x s.journals.entry s.journals.follows waited);
}

module _ (schema : Schema) (here : Here) (base : List Rows) (journal : List Entry) (inboxes : List Incoming) (out : Outgoing) (notes : NotesState) (stamps : Stamps) (moment : ℕ)
    (rows : List Rows) (numbers : Numbers) (lists : List ErrorList) (room : ℕ) (h : SiteHolds (state_of schema here base journal inboxes out notes stamps moment) rows numbers inboxes out lists room) where
  abbrev x : SiteState
  x = state_of schema here base journal inboxes out notes stamps moment

  -- ---- a block

  -- the answer
  pub commit_answer_is : (statements : List Statement) (block : BlockEffect) → block_at statements x ≡ Ok block → is_empty block.changes ≡ false → (n : ℕ) → n ≡ count_of x + 1 → commit_answer statements x ≡ Ok n
  commit_answer_is statements block gives some n number = rw (gives, some, number) refl

  module _ (statements : List Statement) (block : BlockEffect) (gives : block_at statements x ≡ Ok block) (some : is_empty block.changes ≡ false)
      (n : ℕ) (number : n ≡ count_of x + 1) (txn : Txn) (calls : txn.calls ≡ map (call_of schema) block.changes) (out' : Outgoing) (same : out'.destinations ≡ out.destinations) (gone : out'.purged ≡ out.purged)
      (notes' : NotesState) (noted : RowsAreNoted schema (moment + 1) block.changes notes notes') where
    -- the fields after a block are the state after it
    pub commit_state : state_of schema here base (Local n txn ∷ journal) inboxes out' notes' block.stamps (moment + 1) ≡ site_commit statements x
    commit_state =
        let whole : txn ≡ txn_of schema block.changes = ap (λ (cs : _). record { calls = cs }) calls in
        rw (gives, some, same, gone, number, whole, noted.logs, noted.snapshots) refl

    -- with the journal and the schema known by equations
    pub commit_state_is : (schema' : Schema) (journal' : List Entry) → schema' ≡ schema → journal' ≡ Local n txn ∷ journal → state_of schema' here base journal' inboxes out' notes' block.stamps (moment + 1) ≡ site_commit statements x
    commit_state_is schema' journal' schema_is journal_is = rw (schema_is, journal_is) commit_state

    pub commit_holds : (rows' : List Rows) (room' : ℕ) → rows' ≡ after_changes schema block.changes rows → txn_effect schema here.site txn rows numbers ≡ Ok (record { changes = block.changes; numbers = numbers })
        → length txn.calls ≤ 1000 → Keeps schema (past_of x ∷ pasts_of x) (txn ∷ queue_of x) out' → length (in_order lists) ≤ room'
        → SiteHolds (state_of schema here base (Local n txn ∷ journal) inboxes out' notes' block.stamps (moment + 1)) rows' numbers inboxes out' lists room'
    commit_holds rows' room' made applies few keeps droppable =
        let still = still_holds x _ (commit_steps statements x) (commit_fits statements x h.fits) h.declared h.arrived h.waited in
        let after = subst (StillHolds x) (sym commit_state) still in
        record {
          based = h.based;
          fits = after.fits;
          sized = record { queued = (sized, h.sized.queued); arrived = h.sized.arrived; journal = (sized, h.sized.journal) };
          declared = after.declared;
          arrived = after.arrived;
          once = h.once;
          waited = after.waited;
          stays = (tt, h.stays);
          apart = apart_noted schema (moment + 1) block.changes notes notes' noted h.apart;
          tables_are = made ∙ ap (λ (r : Result Effect Failure). tables_by schema r rows) (sym applies) ∙ rw (← h.tables_are, ← h.numbers_are) refl;
          numbers_are = ap (λ (r : Result Effect Failure). numbers_by r numbers) (sym applies) ∙ rw (← h.tables_are, ← h.numbers_are) refl;
          follow = h.follow;
          keeps = keeps;
          errors_are = h.errors_are;
          droppable = droppable;
        }
      where
        at_least : (changes : List Change) → is_empty changes ≡ false → 1 ≤ length (map (call_of schema) changes)
        at_least [] none = absurd (cc none)
        at_least (c ∷ cs) none = omega arith

        sized : IsSized txn
        sized = record { some = rw calls (at_least block.changes some); most = few }

  -- ---- senders

  -- the senders of a site are each another one
  pub apart : StandApart x.senders
  apart = senders_stand_apart x.senders (subst NamesApart (sym h.declared.senders) (senders_apart schema h.fits.keyed.shape here.site))

  -- ---- a position

  module _ (origin : SiteName) (position : ℕ) (a : Arrival) (stale : stale_of origin position x ≡ None) (there : arrived_at origin position x.senders ≡ Some a)
      (past : Option (List PastEntry)) (past_is : past ≡ onward_past origin x) (count : ℕ) (count_is : count ≡ count_of x) (out' : Outgoing) (same : out'.destinations ≡ out.destinations) (gone : out'.purged ≡ out.purged)
      (inboxes' : List Incoming) (senders : senders_in inboxes' ≡ senders_in inboxes)
      (notes' : NotesState) (noted : RowsAreNoted schema moment (changes_by (txn_effect schema origin a.txn rows numbers)) notes notes') where
    abbrev effect : Result Effect Failure
    effect = txn_effect schema origin a.txn rows numbers

    abbrev entry : Entry
    entry = entry_by past origin a count effect

    effect_is : effect ≡ effect_here origin a x
    effect_is = rw (h.tables_are, h.numbers_are) refl

    at : a.position ≡ position
    at = arrived_has origin position x a there

    unfinished : finished origin journal position ≡ false
    unfinished = go (finished origin journal position) refl
      where
        go : (b : Bool) → finished origin journal position ≡ b → b ≡ false
        go false is = refl
        go true is = let why : stale_of origin position x ≡ Some why.Finished = rw is refl in absurd (cc (why, stale))

    -- the fields after a position are the state after it
    pub apply_state : state_of schema here base (entry ∷ journal) inboxes' out' notes' stamps moment ≡ site_apply origin position x
    apply_state = rw (stale, there, ← effect_is, senders, same, gone, noted.logs, noted.snapshots) (go effect)
      where
        with_notes : (r : Result Effect Failure) → SiteState
        with_notes r = record x {
          journal = entry_by past origin a count r ∷ journal;
          logs = map (logged_in schema moment (changes_by r)) notes.logs;
          snapshots = map (touched_in schema (changes_by r)) notes.snapshots;
        }

        go : (r : Result Effect Failure) → with_notes r ≡ finished_by origin a r x
        go (Ok done) = ap (λ (n : ℕ). noted_at done.changes (journalled (Done origin a.position n a.txn) x)) (onward_is origin x past past_is count count_is done.changes)
        go (Err failure) = rw (← nothing_logged schema moment notes.logs, ← nothing_touched schema notes.snapshots) refl

    pub apply_state_is : (schema' : Schema) (journal' : List Entry) (e : Entry) → schema' ≡ schema → journal' ≡ e ∷ journal → e ≡ entry → state_of schema' here base journal' inboxes' out' notes' stamps moment ≡ site_apply origin position x
    apply_state_is schema' journal' e schema_is journal_is e_is = rw (schema_is, journal_is, e_is) apply_state

    -- the answer
    pub apply_answer_is : apply_answer_by effect ≡ apply_answer origin position x
    apply_answer_is = rw (stale, there, ← effect_is) refl

    finishing : (r : Result Effect Failure) → Finishes (entry_by past origin a count r) origin position
    finishing (Ok done) = λ o q. rw at refl
    finishing (Err failure) = λ o q. rw at refl

    pub entry_finishes : Finishes entry origin position
    entry_finishes = finishing effect

    pub apply_holds : (rows' : List Rows) (numbers' : Numbers) (lists' : List ErrorList) (room' : ℕ) → rows' ≡ tables_by schema effect rows → numbers' ≡ numbers_by effect numbers
        → lists' ≡ with_error (error_by origin a effect) lists → length (changes_by effect) ≤ length a.txn.calls → ((s : SenderState) → sender_of origin x.senders ≡ Some s → IsRising by_position s.arrived)
        → Keeps schema (with_one (goes_on past (changes_by effect)) (past_in past) (pasts_of x)) (with_one (goes_on past (changes_by effect)) (txn_of schema (changes_by effect)) (queue_of x)) out'
        → AllByRecursion (Follows (entry ∷ journal)) inboxes' → length (in_order lists') ≤ room'
        → SiteHolds (state_of schema here base (entry ∷ journal) inboxes' out' notes' stamps moment) rows' numbers' inboxes' out' lists' room'
    apply_holds rows' numbers' lists' room' rows_are numbers_are lists_are few rising keeps follow droppable =
        let still = still_holds x _ (apply_steps origin position x) (apply_fits origin position x h.fits) h.declared h.arrived h.waited in
        let after = subst (StillHolds x) (sym apply_state) still in
        record {
          based = h.based;
          fits = after.fits;
          sized = record { queued = queued effect effect_is (omega (arith, few, sized.most)) h.sized.queued; arrived = rw senders h.sized.arrived; journal = (own_sized effect, h.sized.journal) };
          declared = after.declared;
          arrived = after.arrived;
          once = once_more entry origin position journal entry_finishes unfinished h.once;
          waited = after.waited;
          stays = (entry_stays origin x past past_is a count count_is effect, h.stays);
          apart = apart_noted schema moment (changes_by effect) notes notes' noted h.apart;
          tables_are = rows_are ∙ tables effect effect_is;
          numbers_are = numbers_are ∙ counters effect effect_is;
          follow = follow;
          keeps = rw senders (kept effect effect_is keeps);
          errors_are = rw senders (lists_are ∙ errors effect);
          droppable = droppable;
        }
      where
        sized : IsSized a.txn
        sized = fitting.arrived_has IsSized origin position x.senders a h.sized.arrived there

        own_sized : (r : Result Effect Failure) → EntryHas IsSized (entry_by past origin a count r)
        own_sized (Ok done) = sized
        own_sized (Err failure) = sized

        tables : (r : Result Effect Failure) → r ≡ effect_here origin a x → tables_by schema r rows ≡ tables_of (state_of schema here base (entry_by past origin a count r ∷ journal) inboxes' out' notes' stamps moment)
        tables (Ok done) is = rw (← is, ← h.tables_are) refl
        tables (Err failure) is = h.tables_are

        counters : (r : Result Effect Failure) → r ≡ effect_here origin a x → numbers_by r numbers ≡ (content_of (state_of schema here base (entry_by past origin a count r ∷ journal) inboxes' out' notes' stamps moment)).numbers
        counters (Ok done) is = rw (← is) refl
        counters (Err failure) is = h.numbers_are

        queued : (r : Result Effect Failure) → r ≡ effect_here origin a x → length (changes_by r) ≤ 1000 → AllByRecursion IsSized (queue_of x)
            → AllByRecursion IsSized (queue_of (state_of schema here base (entry_by past origin a count r ∷ journal) inboxes' out' notes' stamps moment))
        queued (Ok done) is few all = rw (went_is origin x past past_is count count_is done.changes, ← is) (sized_changes schema past done.changes (queue_of x) few all)
        queued (Err failure) is few all = all

        kept : (r : Result Effect Failure) → r ≡ effect_here origin a x
            → Keeps schema (with_one (goes_on past (changes_by r)) (past_in past) (pasts_of x)) (with_one (goes_on past (changes_by r)) (txn_of schema (changes_by r)) (queue_of x)) out'
            → Keeps schema (pasts_of (record x { journal = entry_by past origin a count r ∷ journal })) (queue_of (record x { journal = entry_by past origin a count r ∷ journal })) out'
        kept (Ok done) is keeps = rw (went_is origin x past past_is count count_is done.changes, ← is, ← pasts_with origin x past past_is count count_is done.changes) keeps
        kept (Err failure) is keeps = keeps

        come : HasCome origin position x.senders
        come = record { rising = rising; there = λ none. absurd (cc (none, there)) }

        errors : (r : Result Effect Failure) → with_error (error_by origin a r) lists ≡ lists_by (entry_by past origin a count r ∷ journal) x.senders
        errors (Ok done) = h.errors_are
        errors (Err failure) =
            rw (h.errors_are, at) (sym (errors-added journal origin position failure.call failure.error a.txn x.senders apart come (error_at-unfinished origin position journal unfinished)))

    pub apply_holds_is : (schema' : Schema) (journal' : List Entry) (e : Entry) (rows' : List Rows) (numbers' : Numbers) (lists' : List ErrorList) (room' : ℕ) → schema' ≡ schema → journal' ≡ e ∷ journal → e ≡ entry
        → rows' ≡ tables_by schema effect rows → numbers' ≡ numbers_by effect numbers
        → lists' ≡ with_error (error_by origin a effect) lists → length (changes_by effect) ≤ length a.txn.calls → ((s : SenderState) → sender_of origin x.senders ≡ Some s → IsRising by_position s.arrived)
        → Keeps schema (with_one (goes_on past (changes_by effect)) (past_in past) (pasts_of x)) (with_one (goes_on past (changes_by effect)) (txn_of schema (changes_by effect)) (queue_of x)) out'
        → AllByRecursion (Follows (entry ∷ journal)) inboxes' → length (in_order lists') ≤ room'
        → SiteHolds (state_of schema' here base journal' inboxes' out' notes' stamps moment) rows' numbers' inboxes' out' lists' room'
    apply_holds_is schema' journal' e rows' numbers' lists' room' schema_is journal_is e_is rows_are numbers_are lists_are few rising keeps follow droppable =
        rw (schema_is, journal_is, e_is) (apply_holds rows' numbers' lists' room' rows_are numbers_are lists_are few rising keeps follow droppable)

    -- as many errors stand, or one more
    pub droppable_with : (lists' : List ErrorList) → lists' ≡ with_error (error_by origin a effect) lists → (room' : ℕ) → length (in_order lists) + 1 ≤ room' → length (in_order lists') ≤ room'
    droppable_with lists' is room' enough = rw is (go (error_by origin a effect))
      where
        go : (e : Option ErrorEntry) → length (in_order (with_error e lists)) ≤ room'
        go None = omega (arith, enough)
        go (Some e) = omega (arith, enough, count-added e lists)

  -- ---- an error that stands

  module _ (origin : SiteName) (position : ℕ) (e : ErrorEntry) (stands : error_at origin position journal ≡ Some e) (rising : (s : SenderState) → sender_of origin x.senders ≡ Some s → IsRising by_position s.arrived) where
    named : (e.origin ≡ origin) × (e.position ≡ position)
    named = error_found origin position journal e stands

    -- the error queue has it
    pub error_stands : error_in origin position lists ≡ Some e
    error_stands = rw h.errors_are (error_in-lists journal origin position x.senders h.arrived rising ∙ stands)

    come : HasCome origin position x.senders
    come = record { rising = rising; there = h.arrived origin position (error_at-finished origin position journal e stands) }

    one_less : (room' : ℕ) → length (in_order lists) ≤ room' + 1 → length (in_order (removed origin position lists)) ≤ room'
    one_less room' enough = omega (arith, enough, count-removed origin position lists e error_stands)

    -- its transaction fits, and has 1 to 1,000 calls
    pub error_fits : TxnFits schema e.txn
    error_fits = fitting.error_has (TxnFits schema) origin position journal e h.fits.journal stands

    pub error_sized : IsSized e.txn
    error_sized = fitting.error_has IsSized origin position journal e h.sized.journal stands

    -- there is room to drop it
    pub one_stands : 1 ≤ room
    one_stands = omega (arith, h.droppable, count-removed origin position lists e error_stands)

    -- ---- it is executed

    module _ (past : Option (List PastEntry)) (past_is : past ≡ onward_past origin x) (count : ℕ) (count_is : count ≡ count_of x) (out' : Outgoing) (same : out'.destinations ≡ out.destinations) (gone : out'.purged ≡ out.purged)
        (done : Effect) (gives : txn_effect schema origin e.txn rows numbers ≡ Ok done) (notes' : NotesState) (noted : RowsAreNoted schema (moment + 1) done.changes notes notes') where
      abbrev executed : Entry
      executed = Executed origin position (onward_of past done.changes count) e.txn

      gives_now : Ok done ≡ effect_of_error e x
      gives_now = sym gives ∙ rw (named.0, h.tables_are, h.numbers_are) refl

      pub execute_state : state_of schema here base (executed ∷ journal) inboxes out' notes' stamps (moment + 1) ≡ site_execute origin position x
      execute_state = rw (stands, ← gives_now, named.0, named.1, same, gone, noted.logs, noted.snapshots, onward_is origin x past past_is count count_is done.changes) refl

      pub execute_refusal_is : execute_refusal origin position x ≡ None
      execute_refusal_is = rw (stands, ← gives_now) refl

      pub execute_holds : (rows' : List Rows) (numbers' : Numbers) (room' : ℕ) → rows' ≡ after_changes schema done.changes rows → numbers' ≡ done.numbers → length done.changes ≤ 1000
          → Keeps schema (with_one (goes_on past done.changes) (past_in past) (pasts_of x)) (with_one (goes_on past done.changes) (txn_of schema done.changes) (queue_of x)) out'
          → length (in_order lists) ≤ room' + 1
          → SiteHolds (state_of schema here base (executed ∷ journal) inboxes out' notes' stamps (moment + 1)) rows' numbers' inboxes out' (removed origin position lists) room'
      execute_holds rows' numbers' room' rows_are numbers_are few keeps enough =
          let still = still_holds x _ (execute_steps origin position x) (execute_fits origin position x h.fits) h.declared h.arrived h.waited in
          let after = subst (StillHolds x) (sym execute_state) still in
          let now : txn_effect schema origin e.txn (tables_of x) (content_of x).numbers ≡ Ok done = rw (← h.tables_are, ← h.numbers_are) gives in
          record {
            based = h.based;
            fits = after.fits;
            sized = record {
              queued = rw (went_is origin x past past_is count count_is done.changes, now) (sized_changes schema past done.changes (queue_of x) few h.sized.queued);
              arrived = h.sized.arrived;
              journal = (error_sized, h.sized.journal);
            };
            declared = after.declared;
            arrived = after.arrived;
            once = h.once;
            waited = after.waited;
            stays = (no_onward origin x past past_is count count_is done.changes, h.stays);
            apart = apart_noted schema (moment + 1) done.changes notes notes' noted h.apart;
            tables_are = rows_are ∙ rw (now, ← h.tables_are) refl;
            numbers_are = numbers_are ∙ rw now refl;
            follow = h.follow;
            keeps = rw (went_is origin x past past_is count count_is done.changes, now, ← pasts_with origin x past past_is count count_is done.changes) keeps;
            errors_are = rw h.errors_are (sym (errors-removed journal executed origin position x.senders apart come (λ o q. refl)));
            droppable = one_less room' enough;
          }

      pub execute_state_is : (schema' : Schema) (journal' : List Entry) (onward : ℕ) (txn : Txn) → schema' ≡ schema → journal' ≡ Executed origin position onward txn ∷ journal → onward ≡ onward_of past done.changes count → txn ≡ e.txn
          → state_of schema' here base journal' inboxes out' notes' stamps (moment + 1) ≡ site_execute origin position x
      execute_state_is schema' journal' onward txn schema_is journal_is onward_is txn_is = rw (schema_is, journal_is, onward_is, txn_is) execute_state

      pub execute_holds_is : (schema' : Schema) (journal' : List Entry) (onward : ℕ) (txn : Txn) (rows' : List Rows) (numbers' : Numbers) (lists' : List ErrorList) (room' : ℕ) → schema' ≡ schema → journal' ≡ Executed origin position onward txn ∷ journal
          → onward ≡ onward_of past done.changes count → txn ≡ e.txn → lists' ≡ removed origin position lists → rows' ≡ after_changes schema done.changes rows → numbers' ≡ done.numbers → length done.changes ≤ length e.txn.calls
          → Keeps schema (with_one (goes_on past done.changes) (past_in past) (pasts_of x)) (with_one (goes_on past done.changes) (txn_of schema done.changes) (queue_of x)) out'
          → length (in_order lists) ≤ room' + 1
          → SiteHolds (state_of schema' here base journal' inboxes out' notes' stamps (moment + 1)) rows' numbers' inboxes out' lists' room'
      execute_holds_is schema' journal' onward txn rows' numbers' lists' room' schema_is journal_is onward_is txn_is lists_are rows_are numbers_are few keeps enough =
          rw (schema_is, journal_is, onward_is, txn_is, lists_are) (execute_holds rows' numbers' room' rows_are numbers_are (omega (arith, few, error_sized.most)) keeps enough)

    -- where its transaction fails, it isn't
    pub still_fails : (failure : Failure) → txn_effect schema origin e.txn rows numbers ≡ Err failure → execute_refusal origin position x ≡ Some (refusal.StillFails failure.error)
    still_fails failure gives =
        let now : effect_of_error e x ≡ Err failure = rw (named.0, ← h.tables_are, ← h.numbers_are) gives in
        rw (stands, now) refl

    pub stops_as : (stop : ApplyStop) → StopsAs (txn_effect schema origin e.txn rows numbers) stop → (execute_stop_refusal stop ≡ refusal.Memory) ⊎ (execute_refusal origin position x ≡ Some (execute_stop_refusal stop))
    stops_as (Failed call error) stops = inr (still_fails (record { call = call; error = error }) stops)
    stops_as Memory stops = inl refl

    -- ---- it is dropped

    pub drop_state : state_of schema here base (Dropped origin position ∷ journal) inboxes out notes stamps (moment + 1) ≡ site_drop origin position x
    drop_state = rw (stands, named.0, named.1) refl

    pub drop_state_is : (journal' : List Entry) → journal' ≡ Dropped origin position ∷ journal → state_of schema here base journal' inboxes out notes stamps (moment + 1) ≡ site_drop origin position x
    drop_state_is journal' journal_is = rw journal_is drop_state

    pub drops : drop_refusal origin position x ≡ None
    drops = rw stands refl

    pub drop_holds : (room' : ℕ) → length (in_order lists) ≤ room' + 1
        → SiteHolds (state_of schema here base (Dropped origin position ∷ journal) inboxes out notes stamps (moment + 1)) rows numbers inboxes out (removed origin position lists) room'
    drop_holds room' enough =
        let still = still_holds x _ (drop_steps origin position x) (drop_fits origin position x h.fits) h.declared h.arrived h.waited in
        let after = subst (StillHolds x) (sym drop_state) still in
        record {
          based = h.based;
          fits = after.fits;
          sized = record { queued = h.sized.queued; arrived = h.sized.arrived; journal = (tt, h.sized.journal) };
          declared = after.declared;
          arrived = after.arrived;
          once = h.once;
          waited = after.waited;
          stays = (tt, h.stays);
          apart = h.apart;
          tables_are = h.tables_are;
          numbers_are = h.numbers_are;
          follow = h.follow;
          keeps = h.keeps;
          errors_are = rw h.errors_are (sym (errors-removed journal (Dropped origin position) origin position x.senders apart come (λ o q. refl)));
          droppable = one_less room' enough;
        }

    pub drop_holds_is : (journal' : List Entry) (lists' : List ErrorList) (room' : ℕ) → journal' ≡ Dropped origin position ∷ journal → lists' ≡ removed origin position lists → length (in_order lists) ≤ room' + 1
        → SiteHolds (state_of schema here base journal' inboxes out notes stamps (moment + 1)) rows numbers inboxes out lists' room'
    drop_holds_is journal' lists' room' journal_is lists_are enough = rw (journal_is, lists_are) (drop_holds room' enough)

  -- no error stands where the error queue has none
  pub no_error : (origin : SiteName) (position : ℕ) → ((s : SenderState) → sender_of origin x.senders ≡ Some s → IsRising by_position s.arrived) → error_in origin position lists ≡ error_at origin position journal
  no_error origin position rising = rw h.errors_are (error_in-lists journal origin position x.senders h.arrived rising)

  module _ (origin : SiteName) (position : ℕ) (rising : (s : SenderState) → sender_of origin x.senders ≡ Some s → IsRising by_position s.arrived) where
    pub error_is : (e : ErrorEntry) → Some e ≡ error_in origin position lists → error_at origin position journal ≡ Some e
    error_is e found = sym (no_error origin position rising) ∙ sym found

    pub none_to_drop : None ≡ error_in origin position lists → drop_refusal origin position x ≡ Some refusal.NoSuchError
    none_to_drop none = let nothing : error_at origin position journal ≡ None = sym (no_error origin position rising) ∙ sym none in rw nothing refl

    pub none_to_execute : None ≡ error_in origin position lists → execute_refusal origin position x ≡ Some refusal.NoSuchError
    none_to_execute none = let nothing : error_at origin position journal ≡ None = sym (no_error origin position rising) ∙ sym none in rw nothing refl

  -- ---- what only changes numbers, marks and room

  pub same_holds : (inboxes' : List Incoming) (out' : Outgoing) (notes' : NotesState) (stamps' : Stamps) (moment' room' : ℕ) → senders_in inboxes' ≡ senders_in inboxes → AllByRecursion (Follows journal) inboxes'
      → notes'.snapshots ≡ notes.snapshots → sites_in out'.destinations ≡ sites_in out.destinations → Keeps schema (pasts_of x) (queue_of x) out' → length (in_order lists) ≤ room'
      → SiteHolds (state_of schema here base journal inboxes' out' notes' stamps' moment') rows numbers inboxes' out' lists room'
  same_holds inboxes' out' notes' stamps' moment' room' senders follow snapshots sites keeps droppable = record {
    based = h.based;
    fits = record { keyed = h.fits.keyed; content = h.fits.content; queued = h.fits.queued; senders = rw senders h.fits.senders; journal = h.fits.journal; within = rw snapshots h.fits.within };
    sized = record { queued = h.sized.queued; arrived = rw senders h.sized.arrived; journal = h.sized.journal };
    declared = record { is_master = h.declared.is_master; senders = rw senders h.declared.senders; destinations = sites ∙ h.declared.destinations };
    arrived = rw senders h.arrived;
    once = h.once;
    waited = rw senders h.waited;
    stays = h.stays;
    apart = rw snapshots h.apart;
    tables_are = h.tables_are;
    numbers_are = h.numbers_are;
    follow = follow;
    keeps = rw senders keeps;
    errors_are = rw senders h.errors_are;
    droppable = droppable;
  }

  -- the same, with what a call hands back known by equations
  pub kept_holds_is : (schema' : Schema) (journal' : List Entry) (out' : Outgoing) (notes' : NotesState) (rows' : List Rows) (numbers' : Numbers) (lists' : List ErrorList) (stamps' : Stamps) (room' : ℕ) → schema' ≡ schema → journal' ≡ journal → rows' ≡ rows → numbers' ≡ numbers → lists' ≡ lists
      → notes'.snapshots ≡ notes.snapshots → out'.destinations ≡ out.destinations → Keeps schema (pasts_of x) (queue_of x) out' → length (in_order lists) ≤ room'
      → SiteHolds (state_of schema' here base journal' inboxes out' notes' stamps' moment) rows' numbers' inboxes out' lists' room'
  kept_holds_is schema' journal' out' notes' rows' numbers' lists' stamps' room' schema_is journal_is rows_are numbers_are lists_are snapshots same keeps droppable =
      rw (schema_is, journal_is, rows_are, numbers_are, lists_are) (same_holds inboxes out' notes' stamps' moment room' refl h.follow snapshots (ap sites_in same) keeps droppable)

  -- as many are queued as the outbox has
  pub count_is : length out.deferred ≡ count_of x
  count_is = rw h.keeps.queue (length-deferred_in schema out.destinations out.purged (pasts_of x) (queue_of x))

  -- ---- an arrival

  module _ (from to : SiteName) (number position dep : ℕ) (seen : List PastEntry) (txn : Txn) (place : ℕ) (i new : Incoming) (known : is_foreign (Carry from to number position dep seen txn) x ≡ false)
      (found : Some place ≡ list.position (is_from from) inboxes) (is : i ≡ get_or inboxes place i) (absent : find_at (arrival_beside position) i.sender.arrived ≡ None) where
    abbrev arrival : Arrival
    arrival = record { position = position; number = number; dep = dep; past = seen; txn = txn }

    own_sender : sender_of from x.senders ≡ Some i.sender
    own_sender = sender_of-inboxes from inboxes ∙ ap (option_map sender_in) (inbox_of-place from inboxes place i found is)

    none : arrived_at from position x.senders ≡ None
    none = rw own_sender absent

    not_yet : finished from journal position ≡ false
    not_yet = go (finished from journal position) refl
      where
        go : (b : Bool) → finished from journal position ≡ b → b ≡ false
        go false f = refl
        go true f = absurd (h.arrived from position f none)

    module _ (changed : new.sender ≡ with_arrival arrival i.sender) (marked : new.marked ≡ i.marked) where
      senders : senders_in (set inboxes place new) ≡ at_sender from (with_arrival arrival) (senders_in inboxes)
      senders = senders_in-changed from (with_arrival arrival) inboxes place i new found is changed

      pub accept_state : state_of schema here base journal (set inboxes place new) out notes stamps moment ≡ site_accept (Carry from to number position dep seen txn) x
      accept_state = rw (known, none, senders) refl

      pub accept_holds : IsSized txn → SiteHolds (state_of schema here base journal (set inboxes place new) out notes stamps moment) rows numbers (set inboxes place new) out lists room
      accept_holds sized =
          let packet : Packet = Carry from to number position dep seen txn in
          let names = still_declared schema x (site_accept packet x) (accept_names packet x) h.declared in
          record {
            based = h.based;
            fits = rw accept_state (accept_fits packet x h.fits);
            sized = record { queued = h.sized.queued; arrived = rw senders (fitting.senders_put IsSized from arrival (senders_in inboxes) sized h.sized.arrived); journal = h.sized.journal };
            declared = rw accept_state names;
            arrived = rw senders (λ origin p f. arrived_at-put origin from p arrival x.senders (h.arrived origin p f));
            once = h.once;
            waited = rw senders (HaveWaited-put from arrival x.senders journal h.arrived none h.waited);
            stays = h.stays;
            apart = h.apart;
            tables_are = h.tables_are;
            numbers_are = h.numbers_are;
            follow = follow_same from journal inboxes place i new found is h.follow (ap (λ (s : SenderState). s.origin) changed) (λ q. ap (λ (m : marks.Marked). marks.finished m q) marked);
            keeps = rw (senders, pasts_after-put schema here from arrival x.senders journal not_yet) h.keeps;
            errors_are = rw (senders, errors-arrival journal from arrival x.senders not_yet none) h.errors_are;
            droppable = h.droppable;
          }

  -- ---- what is sent

  -- no two destinations are the same site
  pub destinations_are_apart : queue.StandApart x.destinations
  destinations_are_apart = destinations_stand_apart x.destinations (subst NamesApart (sym h.declared.destinations) (destinations_apart schema h.fits.keyed.shape here.site))

  pub purge_state : (out' : Outgoing) → out'.destinations ≡ out.destinations → out'.purged ≡ max out.purged (acknowledged_by_all (length out.deferred) out.destinations)
      → state_of schema here base journal inboxes out' notes stamps moment ≡ site_purge x
  purge_state out' same gone = rw (same, gone, count_is) refl

  pub purge_count : (out' : Outgoing) → out'.purged ≡ max out.purged (acknowledged_by_all (length out.deferred) out.destinations) → out'.purged - out.purged ≡ purge_answer x
  purge_count out' gone = rw (gone, count_is) refl

  -- what was queued can be carried, and so can what the site had seen before it
  abbrev CanCarry : Txn → Type 0
  CanCarry txn = TxnHasTextForm txn → IsPlainTxn txn

  abbrev CanSee : List PastEntry → Type 0
  CanSee past = PastHasForm past → IsCausalPast here.site past

  pub queued_are : FittingTransactionsArePlain → AllByRecursion CanCarry (queue_of x)
  queued_are plain = go (queue_of x) h.fits.queued h.sized.queued
    where
      go : (txns : List Txn) → AllByRecursion (TxnFits schema) txns → AllByRecursion IsSized txns → AllByRecursion CanCarry txns
      go [] fits sized = tt
      go (txn ∷ txns) fits sized = (λ form. plain schema txn h.fits.keyed.shape h.fits.keyed.keys fits.0 sized.0.some sized.0.most form, go txns fits.1 sized.1)

  pub pasts_are : AllByRecursion CanSee (pasts_of x)
  pasts_are = ArePasts-pasts_after schema h.fits.keyed.shape here.site x.senders h.declared.senders here journal

  pub nothing_seen : CanSee []
  nothing_seen = λ form. record { most = omega arith; each = tt; rise = tt }

  pub last_sent_is : (site : SiteName) → last_position site out.deferred ≡ length (stream_to site x)
  last_sent_is site = ap (last_position site) h.keeps.queue ∙ last_is site x destinations_are_apart

  module _ (to : SiteName) (p : ℕ) where
    pub nothing_found : None ≡ unpurged (at_position p (outgoing.queue_stream_to to out.deferred)) → None ≡ site_packet to p x
    nothing_found none = no_packet x destinations_are_apart to p (rw h.keeps.queue at (sym none))

    module _ (number dep : ℕ) (past : List PastEntry) (txn : Txn) (found : Some (record { number = number; dep = dep; cargo = Some (record { txn = txn; past = past }) }) ≡ unpurged (at_position p (outgoing.queue_stream_to to out.deferred))) where
      pub packet_found_is : Some (Carry here.site to number p dep past txn) ≡ site_packet to p x
      packet_found_is = packet_is x destinations_are_apart to p number dep past txn (rw h.keeps.queue at (sym found))

      pub sent_can : FittingTransactionsArePlain → CanCarry txn × CanSee past
      sent_can plain = sent_has x destinations_are_apart to p number dep past txn (rw h.keeps.queue at (sym found)) CanCarry CanSee nothing_seen (queued_are plain) pasts_are

  -- ---- an inbox that only gets room

  module _ (origin : SiteName) (place : ℕ) (i new : Incoming) (found : Some place ≡ list.position (is_from origin) inboxes) (is : i ≡ get_or inboxes place i) (kept : new.sender ≡ i.sender) where
    kept_senders : senders_in (set inboxes place new) ≡ senders_in inboxes
    kept_senders = senders_in-same inboxes place new i (kept ∙ ap sender_in is)

    pub room_state : (out' : Outgoing) (notes' : NotesState) → out'.destinations ≡ out.destinations → out'.purged ≡ out.purged → notes'.logs ≡ notes.logs → notes'.snapshots ≡ notes.snapshots
        → state_of schema here base journal (set inboxes place new) out' notes' stamps moment ≡ x
    room_state out' notes' same gone logs snapshots = rw (kept_senders, same, gone, logs, snapshots) refl

    pub room_holds : ((q : ℕ) → marks.finished new.marked q ≡ marks.finished i.marked q) → (out' : Outgoing) (notes' : NotesState) → notes'.snapshots ≡ notes.snapshots → out'.destinations ≡ out.destinations → Keeps schema (pasts_of x) (queue_of x) out'
        → (room' : ℕ) → length (in_order lists) ≤ room'
        → SiteHolds (state_of schema here base journal (set inboxes place new) out' notes' stamps moment) rows numbers (set inboxes place new) out' lists room'
    room_holds marked out' notes' snapshots same keeps room' droppable = same_holds (set inboxes place new) out' notes' stamps moment room' kept_senders
        (follow_same origin journal inboxes place i new found is h.follow (ap (λ (s : SenderState). s.origin) kept) marked) snapshots (ap sites_in same) keeps droppable

    -- the same, with what a call hands back known by equations
    pub room_state_is : (schema' : Schema) (journal' : List Entry) (out' : Outgoing) (notes' : NotesState) → schema' ≡ schema → journal' ≡ journal → out'.destinations ≡ out.destinations → out'.purged ≡ out.purged
        → notes'.logs ≡ notes.logs → notes'.snapshots ≡ notes.snapshots
        → state_of schema' here base journal' (set inboxes place new) out' notes' stamps moment ≡ x
    room_state_is schema' journal' out' notes' schema_is journal_is same gone logs snapshots = rw (schema_is, journal_is) (room_state out' notes' same gone logs snapshots)

    pub room_holds_is : (schema' : Schema) (journal' : List Entry) (out' : Outgoing) (notes' : NotesState) (rows' : List Rows) (numbers' : Numbers) (lists' : List ErrorList) (room' : ℕ) → schema' ≡ schema → journal' ≡ journal → rows' ≡ rows → numbers' ≡ numbers → lists' ≡ lists
        → ((q : ℕ) → marks.finished new.marked q ≡ marks.finished i.marked q) → notes'.snapshots ≡ notes.snapshots → out'.destinations ≡ out.destinations → Keeps schema (pasts_of x) (queue_of x) out' → length (in_order lists) ≤ room'
        → SiteHolds (state_of schema' here base journal' (set inboxes place new) out' notes' stamps moment) rows' numbers' (set inboxes place new) out' lists' room'
    room_holds_is schema' journal' out' notes' rows' numbers' lists' room' schema_is journal_is rows_are numbers_are lists_are marked snapshots same keeps droppable =
        rw (schema_is, journal_is, rows_are, numbers_are, lists_are) (room_holds marked out' notes' snapshots same keeps room' droppable)

  -- ---- an arrival that is one of a sender

  module _ (from to : SiteName) (number position dep : ℕ) (seen : List PastEntry) (txn : Txn) (known : is_foreign (Carry from to number position dep seen txn) x ≡ false) where
    has_sender : (b c d e : Bool) → (b || c || d || e) ≡ false → c ≡ false
    has_sender b true d e is = absurd (tested b d e is)
      where
        tested : (b d e : Bool) → (b || true || d || e) ≡ false → ⊥
        tested true d e is = cc is
        tested false d e is = cc is
    has_sender b false d e is = refl

    -- its sender has an inbox
    pub sender_known : None ≡ list.position (is_from from) inboxes → ⊥
    sender_known none =
        let no_inbox = inbox_of-none from inboxes (sym none) in
        let no_sender : sender_of from x.senders ≡ None = sender_of-inboxes from inboxes ∙ ap (option_map sender_in) no_inbox in
        let some : is_none (sender_of from x.senders) ≡ false = has_sender (not (is_same_site to here.site)) (is_none (sender_of from x.senders)) (not (txn_fits schema txn)) (not (list_all (is_known_past x) seen)) known in
        let is_not : is_none (sender_of from x.senders) ≡ true = ap is_none no_sender in
        cc

    module _ (place : ℕ) (i : Incoming) (found : Some place ≡ list.position (is_from from) inboxes) (is : i ≡ get_or inboxes place i) where
      here_is : sender_of from x.senders ≡ Some i.sender
      here_is = sender_of-inboxes from inboxes ∙ ap (option_map sender_in) (inbox_of-place from inboxes place i found is)

      -- a past that doesn't name the sender doesn't name its inbox's sender
      pub names_others_here : (past : List PastEntry) → NamesOthers from past → NamesOthers i.sender.origin past
      names_others_here past = subst (λ (o : SiteName). NamesOthers o past) (sym (found_inbox (Follows journal) from inboxes i h.follow (inbox_of-place from inboxes place i found is)).0)

      pub repeat_state : (a : Arrival) → find_at (arrival_beside position) i.sender.arrived ≡ Some a → x ≡ site_accept (Carry from to number position dep seen txn) x
      repeat_state a there = rw (known, here_is, there) refl

      pub repeat_answer : (a : Arrival) → find_at (arrival_beside position) i.sender.arrived ≡ Some a → accepted.Repeat ≡ accept_answer (Carry from to number position dep seen txn) x
      repeat_answer a there = rw (known, here_is, there) refl

      pub new_answer : find_at (arrival_beside position) i.sender.arrived ≡ None → accepted.New ≡ accept_answer (Carry from to number position dep seen txn) x
      new_answer absent = rw (known, here_is, absent) refl

  -- ---- a mark

  module _ (from to : SiteName) (mark : ℕ) (known : is_foreign (Mark from to mark) x ≡ false) where
    within : (b c d : Bool) → (b || c || d) ≡ false → d ≡ false
    within true c d is = absurd (cc is)
    within false true d is = absurd (cc is)
    within false false d is = is

    -- it is within the stream
    pub mark_within : mark ≤ last_position from out.deferred
    mark_within =
        let tested : nat_lt (length (stream_to from x)) mark ≡ false = within (not (is_same_site to here.site)) (is_none (destination_of from x.destinations)) (nat_lt (length (stream_to from x)) mark) known in
        let long = last_sent_is from in
        grind (arith, nat_tests, tested, long)

    pub mark_answer : accepted.Marked ≡ accept_answer (Mark from to mark) x
    mark_answer = rw known refl

    module _ (out' : Outgoing) (changed : out'.destinations ≡ at_destination from (acknowledged mark) out.destinations) (gone : out'.purged ≡ out.purged) where
      pub mark_state : state_of schema here base journal inboxes out' notes stamps moment ≡ site_accept (Mark from to mark) x
      mark_state = rw (known, changed, gone) refl

      pub mark_holds : Keeps schema (pasts_of x) (queue_of x) out' → SiteHolds (state_of schema here base journal inboxes out' notes stamps moment) rows numbers inboxes out' lists room
      mark_holds keeps = same_holds inboxes out' notes stamps moment room refl h.follow refl
          (ap sites_in changed ∙ sites_in-at_destination (acknowledged mark) (λ d. refl) from out.destinations) keeps h.droppable

  -- ---- a stream that is opened

  module _ (to : SiteName) where
    -- where it isn't open nothing was queued for it
    pub closed_is_empty : opened_in (destination_of to out.destinations) ≡ None → last_position to out.deferred ≡ 0
    closed_is_empty none =
        ap (λ (deferred : List Deferred). last_position to deferred) h.keeps.queue
        ∙ ap length (stream_to-closed schema to out.destinations out.purged (pasts_of x) (queue_of x) destinations_are_apart none)

    module _ (out' : Outgoing) (changed : out'.destinations ≡ at_destination to (opened_at (length out.deferred)) out.destinations) where
      pub open_state : out'.purged ≡ out.purged → state_of schema here base journal inboxes out' notes stamps moment ≡ site_open to x
      open_state gone = rw (changed, gone, count_is) refl

      pub open_holds : Keeps schema (pasts_of x) (queue_of x) out' → SiteHolds (state_of schema here base journal inboxes out' notes stamps moment) rows numbers inboxes out' lists room
      open_holds keeps = same_holds inboxes out' notes stamps moment room refl h.follow refl
          (ap sites_in changed ∙ sites_in-at_destination (opened_at (length out.deferred)) (λ d. refl) to out.destinations) keeps h.droppable

  -- ---- a position that is ready

  module _ (origin : SiteName) (position : ℕ) (stale : stale_of origin position x ≡ None) where
    -- its sender has an inbox
    pub ready_known : None ≡ list.position (is_from origin) inboxes → ⊥
    ready_known none =
        let early = stale_none x rows numbers inboxes out lists room h refl origin (inbox_of-none origin inboxes (sym none)) position in
        absurd (cc (early, stale))

    module _ (place : ℕ) (i : Incoming) (found : Some place ≡ list.position (is_from origin) inboxes) (is : i ≡ get_or inboxes place i) where
      inbox : inbox_of origin inboxes ≡ Some i
      inbox = inbox_of-place origin inboxes place i found is

      from : sender_of origin x.senders ≡ Some i.sender
      from = sender_is x rows numbers inboxes out lists room h refl origin i inbox

      pub ready_unfinished : marks.finished i.marked position ≡ false
      ready_unfinished = go (marks.finished i.marked position) refl
        where
          go : (b : Bool) → marks.finished i.marked position ≡ b → b ≡ false
          go false f = refl
          go true f = let done = stale_finished x rows numbers inboxes out lists room h refl origin i inbox position f in absurd (cc (done, stale))

      -- it arrived
      pub ready_arrived : None ≡ find_at (arrival_beside position) i.sender.arrived → ⊥
      ready_arrived none = let early = stale_absent x rows numbers inboxes out lists room h refl origin i inbox position ready_unfinished (sym none) in absurd (cc (early, stale))

      module _ (a : Arrival) (there : Some a ≡ find_at (arrival_beside position) i.sender.arrived) where
        pub ready_there : arrived_at origin position x.senders ≡ Some a
        ready_there = rw from (sym there)

        pub ready_fits : TxnFits schema a.txn
        ready_fits = fitting.arrived_has (TxnFits schema) origin position x.senders a h.fits.senders ready_there

        pub ready_sized : IsSized a.txn
        ready_sized = fitting.arrived_has IsSized origin position x.senders a h.sized.arrived ready_there

        ready_at : a.position ≡ position
        ready_at = arrived_has origin position x a ready_there

        -- an error of it can be added
        pub error_origin : (r : Result Effect Failure) → IfSome (error_by origin a r) (λ e. IsOrigin lists e.origin)
        error_origin (Ok done) = tt
        error_origin (Err failure) = rw h.errors_are (list_of-sender journal origin x.senders i.sender from)

        pub error_absent : ((s : SenderState) → sender_of origin x.senders ≡ Some s → IsRising by_position s.arrived) → (r : Result Effect Failure) → IfSome (error_by origin a r) (λ e. error_in e.origin e.position lists ≡ None)
        error_absent rising (Ok done) = tt
        error_absent rising (Err failure) =
            rw ready_at (rw h.errors_are (error_in-lists journal origin position x.senders h.arrived rising
            ∙ error_at-unfinished origin position journal (sym (finished_is x rows numbers inboxes out lists room h refl origin i inbox position) ∙ ready_unfinished)))

        pub ready_follow : (past : Option (List PastEntry)) (count : ℕ) (r : Result Effect Failure) (new : Incoming) → new.sender ≡ i.sender → ((q : ℕ) → marks.finished new.marked q ≡ (q == position || marks.finished i.marked q))
            → AllByRecursion (Follows (entry_by past origin a count r ∷ journal)) (set inboxes place new)
        ready_follow past count r new same more = follow_finished journal (entry_by past origin a count r) origin position (finishing r) inboxes place i new found is apart h.follow same more
          where
            finishing : (r : Result Effect Failure) → Finishes (entry_by past origin a count r) origin position
            finishing (Ok done) = λ o q. rw ready_at refl
            finishing (Err failure) = λ o q. rw ready_at refl
