-- What became of a finished position at a site: its transaction was applied, or its error stands or was dropped.
use Rattle.std.proofs.Common.{◌≡◌, ◌≢◌, ℕ, List, [], ◌∷◌, ◌++◌, Bool, true, false, Some, refl, sym, ap, ◌∙◌, subst, inl, inr}
use Rattle.std.specs.Prelude.{◌||◌, ◌⊎◌}
use Rattle.std.specs.List.{list_any}
use Rattle.std.proofs.lemmas.Bool.{or_right}
use Rattle.rep_values.specs.declared.name.SiteName.{SiteName}
use Rattle.rep_values.specs.declared.refusal.ApplyError.{ApplyError}
use Rattle.rep_schema.specs.declared.schema.Schema.{Schema}
use Rattle.rep_schema.specs.Tables.{Cells}
use Rattle.rep_calls.specs.declared.call.Txn.{Txn}
use Rattle.deferred_queue.specs.Streams.{at_position}
use Rattle.error_queue.specs.declared.entry.ErrorEntry.{ErrorEntry}
use Rattle.site_state.specs.declared.entry.Entry.{Entry}
use Rattle.site_state.specs.declared.entry.Entry.TheVariants.{Local, Done, Error, Executed, Dropped, Refreshed}
use Rattle.site_state.specs.State.{SiteState}
use Rattle.site_state.specs.Journal.{is_position, finished, error_at}
use Rattle.site_state.specs.Streams.{stream_to}
use Rattle.site_state.proofs.Stepping.{is_position-true}
use Rattle.site_events.specs.Cluster.{Cluster, site_of}
use Rattle.site_events.specs.Events.{Event, run}
use Rattle.event_laws.specs.Orders.{IsInOrder}
use Rattle.event_laws.specs.Starts.{IsNewSite, IsStart}
use Rattle.event_laws.proofs.Sites.{found_all}
use Rattle.event_laws.proofs.NewSites.{copied_is_new}
use Rattle.convergence_laws.specs.Collections.{Among}
use Rattle.convergence_laws.specs.Joins.{calls_applied, inserts_in, applied_inserts}
use Rattle.convergence_laws.proofs.Turns.{Turn, Same, Own, Did, Left, Renewed, Cause, Now, Late, IsLeft, Becomes, Stays, Turns, Joins, happens_becomes}
use Rattle.convergence_laws.proofs.SitesAt.{Each, at_each, joined_each, turns_here}
use Rattle.convergence_laws.proofs.Told.{IsSentBy, followed, error_sent}
use Rattle.error_cause_laws.specs.LostInserts.{was_dropped, stands_or_was_dropped, inserts_row, is_failed_insert, insert_is_lost, insert_was_dropped}

-- ---- an execution is of the error that stood

-- the error that an entry executes stood, and has its transaction
abbrev pub ExecutesItsOwn : Entry → List Entry → Type 0
ExecutesItsOwn (Local number txn) es = Unit {0}
ExecutesItsOwn (Done o p onward txn) es = Unit {0}
ExecutesItsOwn (Error o p call error txn) es = Unit {0}
ExecutesItsOwn (Executed o p onward txn) es = (e : ErrorEntry) × (error_at o p es ≡ Some e) × (e.txn ≡ txn)
ExecutesItsOwn (Dropped o p) es = Unit {0}
ExecutesItsOwn (Refreshed moment) es = Unit {0}

abbrev pub ExecuteTheirOwn : List Entry → Type 0
ExecuteTheirOwn [] = Unit {0}
ExecuteTheirOwn (e ∷ es) = ExecutesItsOwn e es × ExecuteTheirOwn es

left_own : (e : Entry) (es : List Entry) → IsLeft e → ExecutesItsOwn e es
left_own (Local number txn) es left = tt
left_own (Done o p onward txn) es left = tt
left_own (Error o p call error txn) es left = tt
left_own (Executed o p onward txn) es left = absurd left
left_own (Dropped o p) es left = tt
left_own (Refreshed moment) es left = tt

did_own : (x : SiteState) (origin : SiteName) (position number : ℕ) (txn : Txn) (e : Entry) → Cause x origin position number txn e → ExecutesItsOwn e x.journal
did_own x origin position number txn _ (Now is) = tt
did_own x origin position number txn _ (Late er at is) = (er, at, is)

turn_own : (x y : SiteState) → Turn x y → ExecuteTheirOwn x.journal → ExecuteTheirOwn y.journal
turn_own x y (Same f base journal last) own = rw journal own
turn_own x y (Own f base number statements block is journal last) own = rw journal (tt, own)
turn_own x y (Did f base e origin position txn effect cause gives journal last) own = rw journal (did_own x origin position _ txn e cause, own)
turn_own x y (Left f base e left follows journal last) own = rw journal (left_own e x.journal left, own)
turn_own x y (Renewed f plain moment journal last) own = rw journal (tt, own)

becomes_own : (sites others : List SiteState) → Becomes sites others → Each (λ x. ExecuteTheirOwn x.journal) sites → Each (λ x. ExecuteTheirOwn x.journal) others
becomes_own sites _ Stays all = all
becomes_own sites _ (Turns name change turns) all = at_each (λ x. ExecuteTheirOwn x.journal) name change sites (turns_here change turns) (λ x found own. turn_own x (change x) (turns x) own) all
becomes_own sites _ (Joins site from source absent found may) all =
    joined_each (λ x. ExecuteTheirOwn x.journal) sites source site (λ x own. own) (rw (copied_is_new sites source site).journal tt) all

-- after every list of events, at each site
pub executions_are_own : (schema : Schema) (start : Cluster) → IsStart schema start → (events : List Event) → Each (λ x. ExecuteTheirOwn x.journal) (run events start).sites
executions_are_own schema start is [] = λ name x found. rw (found_all (IsNewSite schema) name start.sites x is.sites found).journal tt
executions_are_own schema start is (e ∷ es) = becomes_own _ _ (happens_becomes e (run es start)) (executions_are_own schema start is es)

-- ---- what became of a position

module _ (schema : Schema) (table : ℕ) (key : Cells) (sites : List SiteState) (to origin : SiteName) (position : ℕ) (u : Txn) (inserts : inserts_in schema table key u.calls ≢ [])
    (o : SiteState) (there : site_of origin sites ≡ Some o) (sent : at_position position (stream_to to o) ≡ Some u) where
  -- what was sent to the position is the transaction
  same_sent : (t : Txn) → IsSentBy sites to origin position t → t ≡ u
  same_sent t is =
      let one : is.sender ≡ o = cc (is.found, there) in
      let at : at_position position (stream_to to o) ≡ Some t = subst (λ (s : SiteState). at_position position (stream_to to s) ≡ Some t) one is.at in
      cc (at, sent)

  -- its error is in the journal
  abbrev ErrsThere : List Entry → Type 0
  ErrsThere journal = (call : ℕ) × (why : ApplyError) × Among (Error origin position call why u) journal

  -- the row's insert was applied, or its error is in the journal, and stands or was dropped
  abbrev Became : List Entry → Type 0
  Became journal = (applied_inserts schema table key journal ≢ []) ⊎ (ErrsThere journal × (stands_or_was_dropped origin position journal ≡ true))

  right_some : {X : Type 0} (xs ys : List X) → ys ≢ [] → xs ++ ys ≢ []
  right_some [] ys some e = some e
  right_some (x ∷ xs) ys some e = cc

  left_some : {X : Type 0} (xs ys : List X) → xs ≢ [] → xs ++ ys ≢ []
  left_some [] ys some e = some refl
  left_some (x ∷ xs) ys some e = cc

  -- a transaction that was applied inserted it
  applied_now : (e : Entry) (es : List Entry) (t : Txn) → calls_applied e ≡ t.calls → t ≡ u → Became (e ∷ es)
  applied_now e es t calls same = inl (right_some (applied_inserts schema table key es) (inserts_in schema table key (calls_applied e))
      (λ none. inserts (ap (inserts_in schema table key) (sym (calls ∙ ap (λ (v : Txn). v.calls) same)) ∙ none)))

  more : (e : Entry) (es : List Entry) → (stands_or_was_dropped origin position es ≡ true → stands_or_was_dropped origin position (e ∷ es) ≡ true) → Became es → Became (e ∷ es)
  more e es left (inl applied) = inl (left_some (applied_inserts schema table key es) (inserts_in schema table key (calls_applied e)) applied)
  more e es left (inr there) = inr ((there.0.0, there.0.1, inr there.0.2), left there.1)

  -- so it is with a finished position
  pub became : (journal : List Entry) → IsInOrder sites to journal → ExecuteTheirOwn journal → finished origin journal position ≡ true → Became journal
  became [] order own done = cc
  became (Local number txn ∷ es) order own done = more (Local number txn) es (λ left. left) (became es order.1 own.1 done)
  became (Done o p onward txn ∷ es) order own done = go (is_position origin position o p) refl done (became es order.1 own.1)
    where
      go : (b : Bool) → is_position origin position o p ≡ b → (b || finished origin es position) ≡ true → (finished origin es position ≡ true → Became es) → Became (Done o p onward txn ∷ es)
      go true is done later =
          let place = is_position-true origin o position p is in
          applied_now (Done o p onward txn) es txn refl (same_sent txn (rw (← place.0, ← place.1) (followed sites to o p txn es order.0)))
      go false is done later = more (Done o p onward txn) es (λ left. left) (later done)
  became (Error o p call why txn ∷ es) order own done = go (is_position origin position o p) refl done (became es order.1 own.1)
    where
      go : (b : Bool) → is_position origin position o p ≡ b → (b || finished origin es position) ≡ true → (finished origin es position ≡ true → Became es) → Became (Error o p call why txn ∷ es)
      go true is done later =
          let place = is_position-true origin o position p is in
          let same : txn ≡ u = same_sent txn (rw (← place.0, ← place.1) (followed sites to o p txn es order.0)) in
          inr ((call, why, inl (rw (place.0, place.1, same) refl)), rw is refl)
      go false is done later = more (Error o p call why txn) es (λ left. rw is left) (later done)
  became (Executed o p onward txn ∷ es) order own done = go (is_position origin position o p) refl (became es order.1 own.1 done)
    where
      go : (b : Bool) → is_position origin position o p ≡ b → Became es → Became (Executed o p onward txn ∷ es)
      go true is later =
          let place = is_position-true origin o position p is in
          let stood : error_at origin position es ≡ Some own.0.0 = rw (← place.0, ← place.1) own.0.1 in
          applied_now (Executed o p onward txn) es txn refl (sym own.0.2 ∙ same_sent own.0.0.txn (error_sent sites to origin position es own.0.0 order.1 stood))
      go false is later = more (Executed o p onward txn) es (λ left. rw is left) later
  became (Dropped o p ∷ es) order own done = go (is_position origin position o p) refl (became es order.1 own.1 done)
    where
      go : (b : Bool) → is_position origin position o p ≡ b → Became es → Became (Dropped o p ∷ es)
      go true is later = more (Dropped o p) es (λ left. rw is refl) later
      go false is later = more (Dropped o p) es (λ left. rw is left) later
  became (Refreshed moment ∷ es) order own done = more (Refreshed moment) es (λ left. left) (became es order.1 own.1 done)

  -- an error that is there and passes a test is found
  found_lost : (passes : SiteName → ℕ → Bool) (journal : List Entry) → ErrsThere journal → passes origin position ≡ true → list_any (is_failed_insert schema table key passes) journal ≡ true
  found_lost passes [] there is = absurd there.2
  found_lost passes (e ∷ es) (call, why, inl same) is = rw (same, has_insert (inserts_in schema table key u.calls) refl, is) refl
    where
      has_insert : (rows : List Cells) → inserts_in schema table key u.calls ≡ rows → inserts_row schema table key u ≡ true
      has_insert [] none = absurd (inserts none)
      has_insert (r ∷ rs) some = rw some refl
  found_lost passes (e ∷ es) (call, why, inr among) is = rw (found_lost passes es (call, why, among) is) (or_right (is_failed_insert schema table key passes e) true refl)

  -- then the insert is lost; and where the error was dropped, it was dropped
  pub lost_there : (journal : List Entry) → ErrsThere journal → stands_or_was_dropped origin position journal ≡ true → insert_is_lost schema table key journal ≡ true
  lost_there journal there left = found_lost (λ o p. stands_or_was_dropped o p journal) journal there left

  pub dropped_there : (journal : List Entry) → ErrsThere journal → was_dropped origin position journal ≡ true → insert_was_dropped schema table key journal ≡ true
  dropped_there journal there dropped = found_lost (λ o p. was_dropped o p journal) journal there dropped
