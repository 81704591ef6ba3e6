-- What a site keeps beside its state is what the state says after each call.
use Rattle.std.proofs.Common.{◌≡◌, ℕ, ◌+◌, ◌<◌, ◌≤◌, ◌==◌, List, [], ◌∷◌, length, get_or, set, map, Bool, true, false, not, cond, Some, None, Ok, Err, refl, sym, ap, ◌∙◌, arith, subst, inl, inr}
use Rattle.std.specs.Prelude.{◌⊎◌, ◌||◌, filter, nat_lt, option_map, Result, is_none, IfSome}
use Rattle.std.specs.List.{AllByRecursion}
use Rattle.std.specs.List as list
use Rattle.std.proofs.lemmas.Bool.Decides.{nat_tests}
use Rattle.rep_lists.specs.Rising.{IsRising, find_at}
use Rattle.rep_values.specs.declared.name.SiteName.{SiteName}
use Rattle.rep_values.specs.declared.refusal.Refusal.TheVariants as refusal
use Rattle.rep_schema.specs.declared.schema.Schema.{Schema}
use Rattle.rep_schema.specs.Tables.{Rows}
use Rattle.rep_calls.specs.declared.call.Txn.{Txn}
use Rattle.rep_calls.specs.declared.past.PastEntry.{PastEntry}
use Rattle.txn_effects.specs.Transactions.{Failure}
use Rattle.deferred_queue.specs.Streams.{Deferred, Mark as Acked, last_position, raised_mark}
use Rattle.rep_values.specs.SiteNames.{is_same_site}
use Rattle.origin_marks.specs.Marks as marks
use Rattle.packet_code.specs.declared.packet.Packet.{Packet}
use Rattle.packet_code.specs.declared.packet.Packet.TheVariants.{Carry, Mark}
use Rattle.packet_code.specs.Limits.{IsPlainTxn}
use Rattle.error_queue.specs.declared.entry.ErrorEntry.{ErrorEntry}
use Rattle.error_queue.specs.ErrorLists.{ErrorList, IsOrigin, error_in, removed}
use Rattle.site_state.specs.declared.entry.Entry.{Entry}
use Rattle.site_state.specs.declared.entry.Entry.TheVariants.{Local, Executed}
use Rattle.site_state.specs.declared.arrival.Arrival.{Arrival}
use Rattle.site_state.specs.declared.answers.Why.TheVariants as why
use Rattle.site_state.specs.declared.answers.Accepted.TheVariants as accepted
use Rattle.site_state.specs.State.{SenderState, sender_of, at_sender, arrival_beside, arrived_at}
use Rattle.rep_schema.specs.Sites.{is_among}
use Rattle.site_state.specs.Journal.{finished, error_at}
use Rattle.site_state.specs.Packets.{with_arrival}
use Rattle.site_state.specs.Ready.{stale_of}
use Rattle.site_state.specs.Steps.{is_empty}
use Rattle.site_state.specs.Fits.{EntryHas}
use Rattle.site_state.proofs.Stepping.{arrived_has, error_found}
use Rattle.site_state.proofs.FittingSites as fitting
use Rattle.sender_inbox.specs.Incoming.{Incoming, by_position}
use Rattle.sender_inbox.specs.Inboxes.{senders_in, sender_in, inbox_of, Follows}
use Rattle.sender_inbox.specs.Steps.{entry_of, answer_of, error_of, with_error}
use Rattle.sender_inbox.proofs.StandingErrors.{StandApart, HasCome, lists_by, errors-added, errors-removed, error_in-lists, error_at-finished, error_at-unfinished, errors-arrival, list_of-sender}
use Rattle.sender_inbox.proofs.SenderInboxes.{sender_of-inboxes}
use Rattle.sender_inbox.proofs.ChangedInbox.{is_from, inbox_of-place, inbox_of-none, senders_in-same, senders_in-changed, Finishes, follow_same, follow_finished}
use Rattle.proc_state.specs.declared.procedure.Procedure.{Procedure}
use Rattle.proc_state.specs.declared.call.ProcCall.{ProcCall}
use Rattle.proc_state.specs.Calls.{tables_by}
use Rattle.proc_state.specs.Carriers.{carried_txn, is_carried, txn_after}
use Rattle.proc_state.specs.State.{ProcState, as_site, proc_tables, own_txns, proc_queue, proc_count, other_masters}
use Rattle.proc_state.specs.Calling.{calls_here, proc_call, proc_call_answer}
use Rattle.proc_state.specs.Packets.{is_foreign, proc_accept, proc_accept_answer}
use Rattle.proc_state.specs.Passes.{txn_here, finished_by, proc_apply, apply_answer_by, proc_apply_answer}
use Rattle.proc_state.specs.Errors.{proc_execute, proc_execute_refusal}
use Rattle.proc_state.specs.Fits.{IsProcTxn, ProcFits}
use Rattle.proc_state.specs.Events.{AreCalls}
use Rattle.proc_state.proofs.Carrying.{carried_calls_do_the_same}
use Rattle.proc_state.proofs.Fitting.{fits_arrived, fits_error, ProcFits-proc_call, ProcFits-proc_accept, ProcFits-proc_apply, ProcFits-proc_execute}
use Rattle.proc_state.proofs.Ordering.{IsInOrder, journals_in_order, call_journals, call_senders, execute_journals, execute_senders, apply_in_order, accept_in_order}
use Rattle.proc_calls.specs.declared.stop.ProcStop.{ProcStop}
use Rattle.proc_calls.specs.declared.stop.ProcStop.TheVariants.{Failed, Memory}
use Rattle.proc_calls.specs.Stops.{StopsAs, execute_stop_refusal}
use Rattle.proc_calls.specs.Carrying.{CanBeCarried}
use Rattle.proc_calls.specs.Outcomes.{outcome_by}
use Rattle.proc_calls.specs.Outgoing.{CallsOut, NamesApart, lists_in, Keeps}
use Rattle.proc_calls.specs.ProcSiteInvariant.{state_of, ProcSiteHolds}
use Rattle.proc_calls.proofs.Apart.{senders_stand_apart}
use Rattle.proc_calls.proofs.Queued.{marked-raised}
use Rattle.proc_calls.proofs.Reading.{sender_is, stale_none, stale_finished, stale_absent, finished_is}

module _ (schema : Schema) (procedures : List Procedure) (me : SiteName) (journal : List Entry) (inboxes : List Incoming) (out : CallsOut) (rows : List Rows) (lists : List ErrorList)
    (h : ProcSiteHolds (state_of schema procedures me journal inboxes out) rows inboxes out lists) where
  abbrev x : ProcState
  x = state_of schema procedures me journal inboxes out

  order : IsInOrder x
  order = record { once = h.once; arrived = h.arrived; waited = h.waited }

  -- the senders are each another one
  pub apart : StandApart x.senders
  apart = senders_stand_apart x.senders (subst NamesApart (sym h.masters) h.apart)

  -- the queue is the state's
  pub queue_is : out.deferred ≡ proc_queue x
  queue_is = h.keeps.queue

  pub count_is : length out.deferred ≡ proc_count x
  count_is = ap (λ (deferred : List Deferred). length deferred) h.keeps.queue

  -- ---- what only gets room

  pub kept_holds : (out' : CallsOut) → out'.deferred ≡ out.deferred → out'.marks ≡ out.marks → Keeps x.lists (own_txns journal) out' → ProcSiteHolds (state_of schema procedures me journal inboxes out') rows inboxes out' lists
  kept_holds out' deferred marks keeps = rw (deferred, marks) (record {
    fits = h.fits;
    journal = h.journal;
    senders = h.senders;
    arrived = h.arrived;
    once = h.once;
    waited = h.waited;
    masters = h.masters;
    apart = h.apart;
    rows_are = h.rows_are;
    follow = h.follow;
    keeps = record { queue = h.keeps.queue; tokens = keeps.tokens };
    errors_are = h.errors_are;
  })

  -- the same, with what a call hands back known by equations
  pub kept_holds_is : (schema' : Schema) (journal' : List Entry) (out' : CallsOut) (rows' : List Rows) (lists' : List ErrorList) → schema' ≡ schema → journal' ≡ journal → rows' ≡ rows → lists' ≡ lists
      → out'.deferred ≡ out.deferred → out'.marks ≡ out.marks → Keeps x.lists (own_txns journal) out' → ProcSiteHolds (state_of schema' procedures me journal' inboxes out') rows' inboxes out' lists'
  kept_holds_is schema' journal' out' rows' lists' schema_is journal_is rows_are lists_are deferred marks keeps =
      rw (schema_is, journal_is, rows_are, lists_are) (kept_holds out' deferred marks keeps)

  pub kept_state_is : (schema' : Schema) (journal' : List Entry) (out' : CallsOut) → schema' ≡ schema → journal' ≡ journal → out'.deferred ≡ out.deferred → out'.marks ≡ out.marks
      → state_of schema' procedures me journal' inboxes out' ≡ x
  kept_state_is schema' journal' out' schema_is journal_is deferred marks = rw (schema_is, journal_is, deferred, marks) refl

  -- ---- calls

  module _ (calls : List ProcCall) (made : AreCalls schema procedures calls) (txn : Txn) (txn_is : txn ≡ carried_txn schema procedures calls) where
    -- what the carried calls do is what the calls do
    same_after : txn_after schema procedures txn rows ≡ calls_here calls x
    same_after = rw (txn_is, ← h.rows_are) (carried_calls_do_the_same schema procedures calls rows h.fits.procedures made.fit)

    pub stops_here : (stop : ProcStop) → StopsAs (txn_after schema procedures txn rows) stop → StopsAs (calls_here calls x) stop
    stops_here (Failed call error) stops = sym same_after ∙ stops
    stops_here Memory stops = tt

    module _ (rows' : List Rows) (gives : txn_after schema procedures txn rows ≡ Ok rows') (n : ℕ) (number : n ≡ length out.deferred + 1) where
      gives_here : calls_here calls x ≡ Ok rows'
      gives_here = sym same_after ∙ gives

      number_here : n ≡ proc_count x + 1
      number_here = number ∙ ap (λ (count : ℕ). count + 1) count_is

      pub call_answer_is : proc_call_answer calls x ≡ Ok n
      call_answer_is = rw (gives_here, number_here) refl

      module _ (to : List SiteName) (out' : CallsOut) (listed : lists_in out'.deferred ≡ filter (is_among to) (map (λ (m : Acked). m.site) out.marks) ∷ lists_in out.deferred) (same : out'.marks ≡ out.marks) where
        pub call_state : state_of schema procedures me (Local n txn ∷ journal) inboxes out' ≡ proc_call calls to x
        call_state = rw (gives_here, number_here, txn_is, listed, same) refl

        pub call_state_is : (schema' : Schema) (journal' : List Entry) → schema' ≡ schema → journal' ≡ Local n txn ∷ journal → state_of schema' procedures me journal' inboxes out' ≡ proc_call calls to x
        call_state_is schema' journal' schema_is journal_is = rw (schema_is, journal_is) call_state

        pub call_holds : CanBeCarried txn → Keeps (filter (is_among to) (map (λ (m : Acked). m.site) out.marks) ∷ lists_in out.deferred) (txn ∷ own_txns journal) out'
            → ProcSiteHolds (state_of schema procedures me (Local n txn ∷ journal) inboxes out') rows' inboxes out' lists
        call_holds can keeps =
            let order_then = subst IsInOrder (sym call_state) (journals_in_order x (proc_call calls to x) (call_senders calls to x) (call_journals calls to x) order) in
            record {
              fits = subst ProcFits (sym call_state) (ProcFits-proc_call calls to x made h.fits);
              journal = (can, h.journal);
              senders = h.senders;
              arrived = order_then.arrived;
              once = order_then.once;
              waited = order_then.waited;
              masters = rw same h.masters;
              apart = rw same h.apart;
              rows_are = sym (ap (λ (r : Result (List Rows) Failure). tables_by r (proc_tables x)) (subst (λ (tables : List Rows). txn_after schema procedures txn tables ≡ Ok rows') h.rows_are gives));
              follow = h.follow;
              keeps = rw listed keeps;
              errors_are = h.errors_are;
            }

        pub call_holds_is : (schema' : Schema) (journal' : List Entry) (lists' : List ErrorList) → schema' ≡ schema → journal' ≡ Local n txn ∷ journal → lists' ≡ lists → CanBeCarried txn
            → Keeps (filter (is_among to) (map (λ (m : Acked). m.site) out.marks) ∷ lists_in out.deferred) (txn ∷ own_txns journal) out' → ProcSiteHolds (state_of schema' procedures me journal' inboxes out') rows' inboxes out' lists'
        call_holds_is schema' journal' lists' schema_is journal_is lists_are can keeps = rw (schema_is, journal_is, lists_are) (call_holds can keeps)

  -- ---- a position

  module _ (origin : SiteName) (position : ℕ) (a : Arrival) (stale : stale_of origin position (as_site x) ≡ None) (there : arrived_at origin position x.senders ≡ Some a)
      (inboxes' : List Incoming) (senders : senders_in inboxes' ≡ senders_in inboxes) where
    abbrev result : Result (List Rows) Failure
    result = txn_after schema procedures a.txn rows

    abbrev entry : Entry
    entry = entry_of origin a.position a.txn (outcome_by result)

    result_is : result ≡ txn_here a.txn x
    result_is = ap (txn_after schema procedures a.txn) h.rows_are

    at : a.position ≡ position
    at = arrived_has origin position (as_site x) a there

    unfinished : finished origin journal position ≡ false
    unfinished = go (finished origin journal position) refl
      where
        go : (b : Bool) → finished origin journal position ≡ b → b ≡ false
        go false is = refl
        go true is = let reason : stale_of origin position (as_site x) ≡ Some why.Finished = rw is refl in absurd (cc (reason, stale))

    -- the fields after a position are the state after it
    pub apply_state : state_of schema procedures me (entry ∷ journal) inboxes' out ≡ proc_apply origin position x
    apply_state = rw (stale, there, ← result_is, senders) (go result)
      where
        go : (r : Result (List Rows) Failure) → record x { journal = entry_of origin a.position a.txn (outcome_by r) ∷ journal } ≡ finished_by origin a r x
        go (Ok tables) = refl
        go (Err failure) = refl

    pub apply_state_is : (schema' : Schema) (journal' : List Entry) (e : Entry) → schema' ≡ schema → journal' ≡ e ∷ journal → e ≡ entry → state_of schema' procedures me journal' inboxes' out ≡ proc_apply origin position x
    apply_state_is schema' journal' e schema_is journal_is e_is = rw (schema_is, journal_is, e_is) apply_state

    -- the answer
    pub apply_answer_is : answer_of (outcome_by result) ≡ proc_apply_answer origin position x
    apply_answer_is = rw (stale, there, ← result_is) (go result)
      where
        go : (r : Result (List Rows) Failure) → answer_of (outcome_by r) ≡ apply_answer_by r
        go (Ok tables) = refl
        go (Err failure) = refl

    pub apply_holds : (rows' : List Rows) (lists' : List ErrorList) → rows' ≡ tables_by result rows → lists' ≡ with_error (error_of origin a.position a.txn (outcome_by result)) lists
        → ((s : SenderState) → sender_of origin x.senders ≡ Some s → IsRising by_position s.arrived) → AllByRecursion (Follows (entry ∷ journal)) inboxes'
        → ProcSiteHolds (state_of schema procedures me (entry ∷ journal) inboxes' out) rows' inboxes' out lists'
    apply_holds rows' lists' rows_are lists_are rising follow =
        let order_then = subst IsInOrder (sym apply_state) (apply_in_order origin position x order) in
        record {
          fits = subst ProcFits (sym apply_state) (ProcFits-proc_apply origin position x h.fits);
          journal = (can result, h.journal);
          senders = rw senders h.senders;
          arrived = order_then.arrived;
          once = order_then.once;
          waited = order_then.waited;
          masters = rw senders h.masters;
          apart = h.apart;
          rows_are = rows_are ∙ tables result result_is;
          follow = follow;
          keeps = kept result;
          errors_are = rw senders (lists_are ∙ errors result);
        }
      where
        can_arrived : CanBeCarried a.txn
        can_arrived = fitting.arrived_has CanBeCarried origin position x.senders a h.senders there

        can : (r : Result (List Rows) Failure) → EntryHas CanBeCarried (entry_of origin a.position a.txn (outcome_by r))
        can (Ok tables) = can_arrived
        can (Err failure) = can_arrived

        tables : (r : Result (List Rows) Failure) → r ≡ txn_here a.txn x → tables_by r rows ≡ proc_tables (state_of schema procedures me (entry_of origin a.position a.txn (outcome_by r) ∷ journal) inboxes' out)
        tables (Ok later) is = ap (λ (r : Result (List Rows) Failure). tables_by r (proc_tables x)) is
        tables (Err failure) is = h.rows_are

        kept : (r : Result (List Rows) Failure) → Keeps x.lists (own_txns (entry_of origin a.position a.txn (outcome_by r) ∷ journal)) out
        kept (Ok later) = h.keeps
        kept (Err failure) = h.keeps

        come : HasCome origin position x.senders
        come = record { rising = rising; there = λ none. absurd (cc (none, there)) }

        errors : (r : Result (List Rows) Failure) → with_error (error_of origin a.position a.txn (outcome_by r)) lists ≡ lists_by (entry_of origin a.position a.txn (outcome_by r) ∷ journal) x.senders
        errors (Ok later) = h.errors_are
        errors (Err failure) =
            rw (h.errors_are, at) (sym (errors-added journal origin position failure.call failure.error a.txn x.senders apart come (error_at-unfinished origin position journal unfinished)))

    pub apply_holds_is : (schema' : Schema) (journal' : List Entry) (e : Entry) (rows' : List Rows) (lists' : List ErrorList) → schema' ≡ schema → journal' ≡ e ∷ journal → e ≡ entry
        → rows' ≡ tables_by result rows → lists' ≡ with_error (error_of origin a.position a.txn (outcome_by result)) lists
        → ((s : SenderState) → sender_of origin x.senders ≡ Some s → IsRising by_position s.arrived) → AllByRecursion (Follows (entry ∷ journal)) inboxes'
        → ProcSiteHolds (state_of schema' procedures me journal' inboxes' out) rows' inboxes' out lists'
    apply_holds_is schema' journal' e rows' lists' schema_is journal_is e_is rows_are lists_are rising follow = rw (schema_is, journal_is, e_is) (apply_holds rows' lists' rows_are lists_are rising follow)

  -- ---- an inbox that only gets room

  module _ (origin : SiteName) (place : ℕ) (i new : Incoming) (found : Some place ≡ list.position (is_from origin) inboxes) (is : i ≡ get_or inboxes place i) (kept : new.sender ≡ i.sender) where
    kept_senders : senders_in (set inboxes place new) ≡ senders_in inboxes
    kept_senders = senders_in-same inboxes place new i (kept ∙ ap sender_in is)

    pub room_state : state_of schema procedures me journal (set inboxes place new) out ≡ x
    room_state = rw kept_senders refl

    pub room_holds : ((q : ℕ) → marks.finished new.marked q ≡ marks.finished i.marked q) → ProcSiteHolds (state_of schema procedures me journal (set inboxes place new) out) rows (set inboxes place new) out lists
    room_holds marked = record {
      fits = rw kept_senders h.fits;
      journal = h.journal;
      senders = rw kept_senders h.senders;
      arrived = rw kept_senders h.arrived;
      once = h.once;
      waited = rw kept_senders h.waited;
      masters = rw kept_senders h.masters;
      apart = h.apart;
      rows_are = h.rows_are;
      follow = follow_same origin journal inboxes place i new found is h.follow (ap (λ (s : SenderState). s.origin) kept) marked;
      keeps = h.keeps;
      errors_are = rw kept_senders h.errors_are;
    }

    -- the same, with what a call hands back known by equations
    pub room_state_is : (schema' : Schema) (journal' : List Entry) → schema' ≡ schema → journal' ≡ journal → state_of schema' procedures me journal' (set inboxes place new) out ≡ x
    room_state_is schema' journal' schema_is journal_is = rw (schema_is, journal_is) room_state

    pub room_holds_is : (schema' : Schema) (journal' : List Entry) (rows' : List Rows) (lists' : List ErrorList) → schema' ≡ schema → journal' ≡ journal → rows' ≡ rows → lists' ≡ lists
        → ((q : ℕ) → marks.finished new.marked q ≡ marks.finished i.marked q) → ProcSiteHolds (state_of schema' procedures me journal' (set inboxes place new) out) rows' (set inboxes place new) out lists'
    room_holds_is schema' journal' rows' lists' schema_is journal_is rows_are lists_are marked = rw (schema_is, journal_is, rows_are, lists_are) (room_holds marked)

  -- ---- a position that is ready

  module _ (origin : SiteName) (position : ℕ) (stale : stale_of origin position (as_site x) ≡ None) where
    -- its master has an inbox
    pub ready_known : None ≡ list.position (is_from origin) inboxes → ⊥
    ready_known none =
        let early = stale_none x rows inboxes out lists h refl origin (inbox_of-none origin inboxes (sym none)) position in
        absurd (cc (early, stale))

    module _ (place : ℕ) (i : Incoming) (found : Some place ≡ list.position (is_from origin) inboxes) (is : i ≡ get_or inboxes place i) where
      inbox : inbox_of origin inboxes ≡ Some i
      inbox = inbox_of-place origin inboxes place i found is

      from : sender_of origin x.senders ≡ Some i.sender
      from = sender_is x rows inboxes out lists h refl origin i inbox

      pub ready_unfinished : marks.finished i.marked position ≡ false
      ready_unfinished = go (marks.finished i.marked position) refl
        where
          go : (b : Bool) → marks.finished i.marked position ≡ b → b ≡ false
          go false f = refl
          go true f = let done = stale_finished x rows inboxes out lists h refl origin i inbox position f in absurd (cc (done, stale))

      -- it arrived
      pub ready_arrived : None ≡ find_at (arrival_beside position) i.sender.arrived → ⊥
      ready_arrived none = let early = stale_absent x rows inboxes out lists h refl origin i inbox position ready_unfinished (sym none) in absurd (cc (early, stale))

      module _ (a : Arrival) (here : Some a ≡ find_at (arrival_beside position) i.sender.arrived) where
        pub ready_there : arrived_at origin position x.senders ≡ Some a
        ready_there = rw from (sym here)

        pub ready_fits : IsProcTxn schema procedures a.txn
        ready_fits = fits_arrived x h.fits origin position a ready_there

        ready_at : a.position ≡ position
        ready_at = arrived_has origin position (as_site x) a ready_there

        -- an error of it can be added
        pub error_origin : (r : Result (List Rows) Failure) → IfSome (error_of origin a.position a.txn (outcome_by r)) (λ e. IsOrigin lists e.origin)
        error_origin (Ok tables) = tt
        error_origin (Err failure) = rw h.errors_are (list_of-sender journal origin x.senders i.sender from)

        pub error_absent : ((s : SenderState) → sender_of origin x.senders ≡ Some s → IsRising by_position s.arrived) → (r : Result (List Rows) Failure)
            → IfSome (error_of origin a.position a.txn (outcome_by r)) (λ e. error_in e.origin e.position lists ≡ None)
        error_absent rising (Ok tables) = tt
        error_absent rising (Err failure) =
            rw ready_at (rw h.errors_are (error_in-lists journal origin position x.senders h.arrived rising
            ∙ error_at-unfinished origin position journal (sym (finished_is x rows inboxes out lists h refl origin i inbox position) ∙ ready_unfinished)))

        pub ready_follow : (r : Result (List Rows) Failure) (new : Incoming) → new.sender ≡ i.sender → ((q : ℕ) → marks.finished new.marked q ≡ (q == position || marks.finished i.marked q))
            → AllByRecursion (Follows (entry_of origin a.position a.txn (outcome_by r) ∷ journal)) (set inboxes place new)
        ready_follow r new same more = follow_finished journal (entry_of origin a.position a.txn (outcome_by r)) origin position (finishing r) inboxes place i new found is apart h.follow same more
          where
            finishing : (r : Result (List Rows) Failure) → Finishes (entry_of origin a.position a.txn (outcome_by r)) origin position
            finishing (Ok tables) = λ o q. rw ready_at refl
            finishing (Err failure) = λ o q. rw ready_at refl

  -- ---- an error that stands

  -- no error stands where the error queue has none
  no_error : (origin : SiteName) (position : ℕ) → ((s : SenderState) → sender_of origin x.senders ≡ Some s → IsRising by_position s.arrived) → error_in origin position lists ≡ error_at origin position journal
  no_error origin position rising = rw h.errors_are (error_in-lists journal origin position x.senders h.arrived rising)

  module _ (origin : SiteName) (position : ℕ) (rising : (s : SenderState) → sender_of origin x.senders ≡ Some s → IsRising by_position s.arrived) where
    pub error_is : (e : ErrorEntry) → Some e ≡ error_in origin position lists → error_at origin position journal ≡ Some e
    error_is e found = sym (no_error origin position rising) ∙ sym found

    pub none_to_execute : None ≡ error_in origin position lists → proc_execute_refusal origin position x ≡ Some refusal.NoSuchError
    none_to_execute none = let nothing : error_at origin position journal ≡ None = sym (no_error origin position rising) ∙ sym none in rw nothing refl

    module _ (e : ErrorEntry) (stands : error_at origin position journal ≡ Some e) where
      named : (e.origin ≡ origin) × (e.position ≡ position)
      named = error_found origin position journal e stands

      -- its transaction is one of calls
      pub error_fits : IsProcTxn schema procedures e.txn
      error_fits = fits_error x h.fits origin position e stands

      here_is : txn_after schema procedures e.txn rows ≡ txn_here e.txn x
      here_is = ap (txn_after schema procedures e.txn) h.rows_are

      -- where it fails, it isn't executed
      pub stops_as : (stop : ProcStop) → StopsAs (txn_after schema procedures e.txn rows) stop → (execute_stop_refusal stop ≡ refusal.Memory) ⊎ (proc_execute_refusal origin position x ≡ Some (execute_stop_refusal stop))
      stops_as (Failed call error) stops =
          let now : txn_here e.txn x ≡ Err (record { call = call; error = error }) = sym here_is ∙ stops in
          inr (rw (stands, now) refl)
      stops_as Memory stops = inl refl

      module _ (rows' : List Rows) (gives : txn_after schema procedures e.txn rows ≡ Ok rows') where
        done_here : txn_here e.txn x ≡ Ok rows'
        done_here = sym here_is ∙ gives

        pub executes : proc_execute_refusal origin position x ≡ None
        executes = rw (stands, done_here) refl

        pub execute_state : state_of schema procedures me (Executed origin position 0 e.txn ∷ journal) inboxes out ≡ proc_execute origin position x
        execute_state = rw (stands, done_here, named.0, named.1) refl

        pub execute_holds : ProcSiteHolds (state_of schema procedures me (Executed origin position 0 e.txn ∷ journal) inboxes out) rows' inboxes out (removed origin position lists)
        execute_holds =
            let order_then = subst IsInOrder (sym execute_state) (journals_in_order x (proc_execute origin position x) (execute_senders origin position x) (execute_journals origin position x) order) in
            record {
              fits = subst ProcFits (sym execute_state) (ProcFits-proc_execute origin position x h.fits);
              journal = (fitting.error_has CanBeCarried origin position journal e h.journal stands, h.journal);
              senders = h.senders;
              arrived = order_then.arrived;
              once = order_then.once;
              waited = order_then.waited;
              masters = h.masters;
              apart = h.apart;
              rows_are = sym (ap (λ (r : Result (List Rows) Failure). tables_by r (proc_tables x)) done_here);
              follow = h.follow;
              keeps = h.keeps;
              errors_are = rw h.errors_are (sym (errors-removed journal (Executed origin position 0 e.txn) origin position x.senders apart come (λ o q. refl)));
            }
          where
            come : HasCome origin position x.senders
            come = record { rising = rising; there = h.arrived origin position (error_at-finished origin position journal e stands) }

        pub execute_state_is : (schema' : Schema) (journal' : List Entry) (txn : Txn) → schema' ≡ schema → journal' ≡ Executed origin position 0 txn ∷ journal → txn ≡ e.txn
            → state_of schema' procedures me journal' inboxes out ≡ proc_execute origin position x
        execute_state_is schema' journal' txn schema_is journal_is txn_is = rw (schema_is, journal_is, txn_is) execute_state

        pub execute_holds_is : (schema' : Schema) (journal' : List Entry) (txn : Txn) (lists' : List ErrorList) → schema' ≡ schema → journal' ≡ Executed origin position 0 txn ∷ journal → txn ≡ e.txn
            → lists' ≡ removed origin position lists → ProcSiteHolds (state_of schema' procedures me journal' inboxes out) rows' inboxes out lists'
        execute_holds_is schema' journal' txn lists' schema_is journal_is txn_is lists_are = rw (schema_is, journal_is, txn_is, lists_are) execute_holds

  -- ---- an arrival

  module _ (from to : SiteName) (number position dep : ℕ) (seen : List PastEntry) (txn : Txn) (known : is_foreign (Carry from to number position dep seen txn) x ≡ false) where
    abbrev packet : Packet
    packet = Carry from to number position dep seen txn

    parts : (b c d e : Bool) → (b || c || d || e) ≡ false → (c ≡ false) × (e ≡ false)
    parts true c d e is = absurd (cc is)
    parts false true d e is = absurd (cc is)
    parts false false true e is = absurd (cc is)
    parts false false false e is = (refl, is)

    -- its sender has an inbox
    pub sender_known : None ≡ list.position (is_from from) inboxes → ⊥
    sender_known none =
        let no_inbox = inbox_of-none from inboxes (sym none) in
        let no_sender : sender_of from x.senders ≡ None = sender_of-inboxes from inboxes ∙ ap (option_map sender_in) no_inbox in
        let some : is_none (sender_of from x.senders) ≡ false = (parts (not (is_same_site to me)) (is_none (sender_of from x.senders)) (not (is_carried schema procedures txn)) (not (is_empty seen)) known).0 in
        let is_not : is_none (sender_of from x.senders) ≡ true = ap is_none no_sender in
        cc

    -- it has no past
    pub no_past : seen ≡ []
    no_past = go seen (parts (not (is_same_site to me)) (is_none (sender_of from x.senders)) (not (is_carried schema procedures txn)) (not (is_empty seen)) known).1
      where
        go : (past : List PastEntry) → not (is_empty past) ≡ false → past ≡ []
        go [] is = refl
        go (p ∷ ps) is = absurd (cc is)

    module _ (place : ℕ) (i : Incoming) (found : Some place ≡ list.position (is_from from) inboxes) (is : i ≡ get_or inboxes place i) where
      sender_here : sender_of from x.senders ≡ Some i.sender
      sender_here = sender_of-inboxes from inboxes ∙ ap (option_map sender_in) (inbox_of-place from inboxes place i found is)

      pub repeat_state : (a : Arrival) → find_at (arrival_beside position) i.sender.arrived ≡ Some a → x ≡ proc_accept packet x
      repeat_state a there = rw (known, sender_here, there) refl

      pub repeat_answer : (a : Arrival) → find_at (arrival_beside position) i.sender.arrived ≡ Some a → accepted.Repeat ≡ proc_accept_answer packet x
      repeat_answer a there = rw (known, sender_here, there) refl

      module _ (absent : find_at (arrival_beside position) i.sender.arrived ≡ None) where
        abbrev arrival : Arrival
        arrival = record { position = position; number = number; dep = dep; past = seen; txn = txn }

        none : arrived_at from position x.senders ≡ None
        none = rw sender_here absent

        not_yet : finished from journal position ≡ false
        not_yet = go (finished from journal position) refl
          where
            go : (b : Bool) → finished from journal position ≡ b → b ≡ false
            go false f = refl
            go true f = absurd (h.arrived from position f none)

        pub new_answer : accepted.New ≡ proc_accept_answer packet x
        new_answer = rw (known, sender_here, absent) refl

        module _ (new : Incoming) (changed : new.sender ≡ with_arrival arrival i.sender) (marked : new.marked ≡ i.marked) where
          senders : senders_in (set inboxes place new) ≡ at_sender from (with_arrival arrival) (senders_in inboxes)
          senders = senders_in-changed from (with_arrival arrival) inboxes place i new found is changed

          pub accept_state : state_of schema procedures me journal (set inboxes place new) out ≡ proc_accept packet x
          accept_state = rw (known, none, senders) refl

          pub accept_holds : dep < position → IsPlainTxn txn → ProcSiteHolds (state_of schema procedures me journal (set inboxes place new) out) rows (set inboxes place new) out lists
          accept_holds earlier plain =
              let order_then = subst IsInOrder (sym accept_state) (accept_in_order packet x order) in
              record {
                fits = subst ProcFits (sym accept_state) (ProcFits-proc_accept packet x (earlier, plain.some, plain.most) h.fits);
                journal = h.journal;
                senders = rw senders (fitting.senders_put CanBeCarried from arrival (senders_in inboxes) (λ form. plain) h.senders);
                arrived = order_then.arrived;
                once = order_then.once;
                waited = order_then.waited;
                masters = rw senders (origins_put from (senders_in inboxes) ∙ h.masters);
                apart = h.apart;
                rows_are = h.rows_are;
                follow = follow_same from journal inboxes place i new found is h.follow (ap (λ (s : SenderState). s.origin) changed) (λ q. ap (λ (m : marks.Marked). marks.finished m q) marked);
                keeps = h.keeps;
                errors_are = rw (senders, errors-arrival journal from arrival x.senders not_yet none) h.errors_are;
              }
            where
              origins_put : (from : SiteName) (ss : List SenderState) → map (λ (s : SenderState). s.origin) (at_sender from (with_arrival arrival) ss) ≡ map (λ (s : SenderState). s.origin) ss
              origins_put from [] = refl
              origins_put from (s ∷ ss) = go (is_same_site s.origin from) (origins_put from ss)
                where
                  go : (b : Bool) → map (λ (s : SenderState). s.origin) (at_sender from (with_arrival arrival) ss) ≡ map (λ (s : SenderState). s.origin) ss
                      → map (λ (s : SenderState). s.origin) (cond b (with_arrival arrival s ∷ ss) (s ∷ at_sender from (with_arrival arrival) ss)) ≡ s.origin ∷ map (λ (s : SenderState). s.origin) ss
                  go true later = refl
                  go false later = ap (λ (names : List SiteName). s.origin ∷ names) later

  -- ---- a mark

  module _ (from to : SiteName) (mark : ℕ) (known : is_foreign (Mark from to mark) x ≡ false) where
    within : (b c d : Bool) → (b || c || d) ≡ false → d ≡ false
    within true c d is = absurd (cc is)
    within false true d is = absurd (cc is)
    within false false d is = is

    -- it is within the stream
    pub mark_within : mark ≤ last_position from out.deferred
    mark_within =
        let tested : nat_lt (last_position from (proc_queue x)) mark ≡ false = within (not (is_same_site to me)) (not (is_among (other_masters x) from)) (nat_lt (last_position from (proc_queue x)) mark) known in
        let long : last_position from out.deferred ≡ last_position from (proc_queue x) = ap (last_position from) queue_is in
        grind (arith, nat_tests, tested, long)

    pub mark_answer : accepted.Marked ≡ proc_accept_answer (Mark from to mark) x
    mark_answer = rw known refl

    module _ (out' : CallsOut) (raised : out'.marks ≡ map (raised_mark from mark) out.marks) (deferred : out'.deferred ≡ out.deferred) where
      pub mark_state : state_of schema procedures me journal inboxes out' ≡ proc_accept (Mark from to mark) x
      mark_state = rw (known, raised, deferred) refl

      pub mark_holds : out'.noted ≡ out.noted → ProcSiteHolds (state_of schema procedures me journal inboxes out') rows inboxes out' lists
      mark_holds noted = record {
        fits = record { keyed = h.fits.keyed; procedures = h.fits.procedures; tables = h.fits.tables; journal = h.fits.journal; senders = h.fits.senders; passable = h.fits.passable };
        journal = h.journal;
        senders = h.senders;
        arrived = h.arrived;
        once = h.once;
        waited = h.waited;
        masters = rw raised (h.masters ∙ sym (marked-raised from mark out.marks));
        apart = rw raised (subst NamesApart (sym (marked-raised from mark out.marks)) h.apart);
        rows_are = h.rows_are;
        follow = h.follow;
        keeps = record { queue = rw deferred h.keeps.queue; tokens = rw (deferred, noted) h.keeps.tokens };
        errors_are = h.errors_are;
      }

-- ---- a packet that is foreign

pub foreign_state : (packet : Packet) (x : ProcState) → is_foreign packet x ≡ true → x ≡ proc_accept packet x
foreign_state packet x foreign = rw foreign refl

pub foreign_answer : (packet : Packet) (x : ProcState) → is_foreign packet x ≡ true → accepted.Foreign ≡ proc_accept_answer packet x
foreign_answer packet x foreign = rw foreign refl
