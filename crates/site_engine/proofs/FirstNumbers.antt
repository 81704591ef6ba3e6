-- The first number of a sender is set at a site at which nothing happened yet.
use Rattle.std.proofs.Common.{◌≡◌, ◌≢◌, ℕ, List, [], ◌∷◌, ◌++◌, get_or, set, Bool, true, false, cond, Option, Some, None, refl, sym, ap, ◌∙◌}
use Rattle.std.specs.Prelude.{option_map}
use Rattle.std.specs.List.{position, AllByRecursion}
use Rattle.rep_values.specs.declared.name.SiteName.{SiteName}
use Rattle.rep_schema.specs.declared.schema.Schema.{Schema}
use Rattle.rep_schema.specs.Tables.{Rows}
use Rattle.rep_calls.specs.declared.call.Txn.{Txn}
use Rattle.unique_resolve.specs.Numbers.{Numbers}
use Rattle.rep_values.specs.SiteNames.{is_same_site}
use Rattle.origin_marks.specs.Marks as marks
use Rattle.txn_effects.specs.declared.local.Here.{Here}
use Rattle.txn_effects.specs.declared.local.Stamps.{Stamps}
use Rattle.error_queue.specs.ErrorLists.{ErrorList}
use Rattle.site_state.specs.declared.entry.Entry.{Entry}
use Rattle.site_state.specs.State.{SenderState, sender_of, at_sender}
use Rattle.site_state.specs.Fits.{SendersHave}
use Rattle.site_state.specs.Joining.{with_first, site_first}
use Rattle.site_state.proofs.DeclaredSites.{origins-at_sender}
use Rattle.sender_inbox.specs.Incoming.{Incoming}
use Rattle.change_logs.specs.Noted.{NotesState}
use Rattle.site_outbox.specs.Outgoing.{Outgoing}
use Rattle.sender_inbox.specs.Inboxes.{senders_in, sender_in}
use Rattle.sender_inbox.proofs.SenderInboxes.{sender_of-inboxes}
use Rattle.site_engine.specs.SiteInvariant.{state_of, SiteHolds}
use Rattle.sender_inbox.proofs.StandingErrors.{lists_by}
use Rattle.sender_inbox.proofs.ChangedInbox.{is_from, inbox_of-none, senders_in-changed, follow_same}

-- a site that is no sender has no first number
pub at_sender-none : (origin : SiteName) (change : SenderState → SenderState) (ss : List SenderState) → sender_of origin ss ≡ None → at_sender origin change ss ≡ ss
at_sender-none origin change [] none = refl
at_sender-none origin change (s ∷ ss) none = go (is_same_site s.origin origin) none (at_sender-none origin change ss)
  where
    go : (b : Bool) → cond b (Some s) (sender_of origin ss) ≡ None → (sender_of origin ss ≡ None → at_sender origin change ss ≡ ss)
        → cond b (change s ∷ ss) (s ∷ at_sender origin change ss) ≡ s ∷ ss
    go true none later = absurd (cc none)
    go false none later = ap (λ (rest : List SenderState). s ∷ rest) (later none)

-- what arrived stays
senders_have-first : (P : Txn → Type 0) (origin : SiteName) (number : ℕ) (ss : List SenderState) → SendersHave P ss → SendersHave P (at_sender origin (with_first number) ss)
senders_have-first P origin number [] have = tt
senders_have-first P origin number (s ∷ ss) have = go (is_same_site s.origin origin) (senders_have-first P origin number ss have.1)
  where
    go : (b : Bool) → SendersHave P (at_sender origin (with_first number) ss) → SendersHave P (cond b (with_first number s ∷ ss) (s ∷ at_sender origin (with_first number) ss))
    go true later = have
    go false later = (have.0, later)

-- so do the errors
lists_by-first : (journal : List Entry) (origin : SiteName) (number : ℕ) (ss : List SenderState) → lists_by journal (at_sender origin (with_first number) ss) ≡ lists_by journal ss
lists_by-first journal origin number [] = refl
lists_by-first journal origin number (s ∷ ss) = go (is_same_site s.origin origin) (lists_by-first journal origin number ss)
  where
    go : (b : Bool) → lists_by journal (at_sender origin (with_first number) ss) ≡ lists_by journal ss
        → lists_by journal (cond b (with_first number s ∷ ss) (s ∷ at_sender origin (with_first number) ss)) ≡ lists_by journal (s ∷ ss)
    go true later = refl
    go false later = ap (λ (lists : List ErrorList). lists_by journal (s ∷ []) ++ lists) later

-- where no inbox is the site's, nothing changes
pub first_absent : (schema : Schema) (here : Here) (base : List Rows) (journal : List Entry) (inboxes : List Incoming) (out : Outgoing) (notes : NotesState) (stamps : Stamps) (moment : ℕ) (origin : SiteName) (number : ℕ)
    → None ≡ position (is_from origin) inboxes → state_of schema here base journal inboxes out notes stamps moment ≡ site_first origin number (state_of schema here base journal inboxes out notes stamps moment)
first_absent schema here base journal inboxes out notes stamps moment origin number none =
    let no_sender : sender_of origin (senders_in inboxes) ≡ None = sender_of-inboxes origin inboxes ∙ ap (option_map sender_in) (inbox_of-none origin inboxes (sym none)) in
    rw (at_sender-none origin (with_first number) (senders_in inboxes) no_sender) refl

module _ (schema : Schema) (here : Here) (base : List Rows) (inboxes : List Incoming) (out : Outgoing) (notes : NotesState) (stamps : Stamps) (moment : ℕ)
    (origin : SiteName) (number place : ℕ) (i new : Incoming) (found : Some place ≡ position (is_from origin) inboxes) (is : i ≡ get_or inboxes place i)
    (first : new.sender ≡ with_first number i.sender) (marked : new.marked ≡ i.marked) where
  senders : senders_in (set inboxes place new) ≡ at_sender origin (with_first number) (senders_in inboxes)
  senders = senders_in-changed origin (with_first number) inboxes place i new found is first

  pub first_state : (journal : List Entry) → state_of schema here base journal (set inboxes place new) out notes stamps moment ≡ site_first origin number (state_of schema here base journal inboxes out notes stamps moment)
  first_state journal = rw senders refl

  -- where nothing happened, the site keeps what it kept
  pub first_holds : (journal : List Entry) (rows : List Rows) (numbers : Numbers) (lists : List ErrorList) (room : ℕ) → journal ≡ []
      → SiteHolds (state_of schema here base journal inboxes out notes stamps moment) rows numbers inboxes out lists room
      → SiteHolds (state_of schema here base journal (set inboxes place new) out notes stamps moment) rows numbers (set inboxes place new) out lists room
  first_holds journal rows numbers lists room nothing before = rw nothing (by (rw nothing at before))
    where
      by : SiteHolds (state_of schema here base [] inboxes out notes stamps moment) rows numbers inboxes out lists room
          → SiteHolds (state_of schema here base [] (set inboxes place new) out notes stamps moment) rows numbers (set inboxes place new) out lists room
      by h = record {
        based = h.based;
        fits = record { keyed = h.fits.keyed; content = h.fits.content; queued = tt; senders = rw senders (senders_have-first _ origin number (senders_in inboxes) h.fits.senders); journal = tt; within = h.fits.within };
        sized = record { queued = tt; arrived = rw senders (senders_have-first _ origin number (senders_in inboxes) h.sized.arrived); journal = tt };
        declared = record { is_master = h.declared.is_master; senders = rw senders (origins-at_sender (with_first number) (λ s. refl) origin (senders_in inboxes) ∙ h.declared.senders); destinations = h.declared.destinations };
        arrived = λ o p is. absurd (cc is);
        once = h.once;
        waited = tt;
        stays = tt;
        apart = h.apart;
        tables_are = h.tables_are;
        numbers_are = h.numbers_are;
        follow = follow_same origin [] inboxes place i new found is h.follow (ap (λ s. s.origin) first) (λ q. ap (λ m. marks.finished m q) marked);
        keeps = h.keeps;
        errors_are = rw (senders, lists_by-first [] origin number (senders_in inboxes)) h.errors_are;
        droppable = h.droppable;
      }
