-- A site whose journal is sorted is the same site, and still holds what it keeps.
use Rattle.std.proofs.Common.{◌≡◌, ℕ, ◌≤◌, List, [], ◌∷◌, map, refl, ap, ◌∙◌, subst, arith}
use Rattle.std.specs.Prelude.{filter_map}
use Rattle.std.specs.List.{AllByRecursion}
use Rattle.rep_values.specs.declared.name.SiteName.{SiteName}
use Rattle.rep_schema.specs.declared.schema.Schema.{Schema}
use Rattle.rep_schema.specs.Tables.{Rows}
use Rattle.unique_resolve.specs.Numbers.{Numbers}
use Rattle.txn_effects.specs.Contents.{Content}
use Rattle.rep_laws.specs.Commuting.{IsSound}
use Rattle.txn_effects.specs.declared.local.Here.{Here}
use Rattle.txn_effects.specs.declared.local.Stamps.{Stamps}
use Rattle.error_queue.specs.ErrorLists.{ErrorList}
use Rattle.site_state.specs.declared.entry.Entry.{Entry}
use Rattle.site_state.specs.declared.arrival.Arrival.{Arrival}
use Rattle.site_state.specs.State.{SenderState, SiteState}
use Rattle.site_state.specs.Journal.{finished, error_at}
use Rattle.site_state.specs.Fits.{EntryHas}
use Rattle.sender_inbox.specs.Incoming.{Incoming}
use Rattle.change_logs.specs.Noted.{NotesState}
use Rattle.site_outbox.specs.Outgoing.{Outgoing}
use Rattle.journal_sort.specs.Sorting.{StaysWithMasters, CanBeSorted, IsSorted, IsOneSite}
use Rattle.journal_sort.proofs.SortedJournals.{AllByRecursion-sorted, IsFinishedOnce-sorted}
use Rattle.journal_sort.proofs.SortedSites.{sorting_changes_no_more, SiteFits-sorted}
use Rattle.journal_sort.proofs.Waited.{HaveWaited-sorted}
use Rattle.sender_inbox.specs.Inboxes.{Follows, error_list}
use Rattle.site_engine.specs.SiteInvariant.{state_of, IsSized, SiteHolds}
use Rattle.site_engine.specs.Ordering.{IsSortedSite}

module _ (journal journal' : List Entry) where
  follow_alike : (inboxes : List Incoming) → ((origin : SiteName) (p : ℕ) → finished origin journal p ≡ finished origin journal' p) → AllByRecursion (Follows journal) inboxes → AllByRecursion (Follows journal') inboxes
  follow_alike [] alike follow = tt
  follow_alike (i ∷ is) alike follow = ((λ p. follow.0 p ∙ alike i.sender.origin p), follow_alike is alike follow.1)

  module _ (alike : (origin : SiteName) (p : ℕ) → error_at origin p journal ≡ error_at origin p journal') where
    errors_alike : (origin : SiteName) (arrived : List Arrival) → filter_map (λ (a : Arrival). error_at origin a.position journal) arrived ≡ filter_map (λ (a : Arrival). error_at origin a.position journal') arrived
    errors_alike origin [] = refl
    errors_alike origin (a ∷ arrived) = rw (alike origin a.position, errors_alike origin arrived) refl

    lists_alike : (senders : List SenderState) → map (error_list journal) senders ≡ map (error_list journal') senders
    lists_alike [] = refl
    lists_alike (s ∷ ss) = rw (errors_alike s.origin s.arrived, lists_alike ss) refl

module _ (schema : Schema) (here : Here) (base : List Rows) (journal : List Entry) (inboxes : List Incoming) (out : Outgoing) (notes : NotesState) (stamps : Stamps) (moment : ℕ)
    (rows : List Rows) (numbers : Numbers) (lists : List ErrorList) (room : ℕ) (h : SiteHolds (state_of schema here base journal inboxes out notes stamps moment) rows numbers inboxes out lists room)
    (origin : SiteName) (place : ℕ) (sound : IsSound schema) (can : CanBeSorted schema origin place journal) where
  abbrev x : SiteState
  x = state_of schema here base journal inboxes out notes stamps moment

  module _ (journal' : List Entry) (sorted : IsSorted place journal journal') where
    one : IsOneSite x (record x { journal = journal' })
    one = sorting_changes_no_more origin place x journal' sound h.fits h.based h.stays can sorted

    pub sorted_site : IsSortedSite place x (state_of schema here base journal' inboxes out notes stamps moment)
    sorted_site = record { journal = sorted; kept = refl; same = one }

    pub sorted_holds : (room' : ℕ) → room ≤ room' → SiteHolds (state_of schema here base journal' inboxes out notes stamps moment) rows numbers inboxes out lists room'
    sorted_holds room' more = record {
      based = h.based;
      fits = SiteFits-sorted place x journal' h.fits sorted one;
      sized = record {
        queued = subst (AllByRecursion IsSized) one.queue h.sized.queued;
        arrived = h.sized.arrived;
        journal = AllByRecursion-sorted (EntryHas IsSized) place journal journal' sorted h.sized.journal;
      };
      declared = record { is_master = h.declared.is_master; senders = h.declared.senders; destinations = h.declared.destinations };
      arrived = λ o p f. h.arrived o p (one.finished_alike o p ∙ f);
      once = IsFinishedOnce-sorted place journal journal' sorted h.once;
      waited = HaveWaited-sorted x.senders place journal journal' sorted h.waited;
      stays = AllByRecursion-sorted (StaysWithMasters schema) place journal journal' sorted h.stays;
      apart = h.apart;
      tables_are = h.tables_are ∙ ap (λ (c : Content). c.tables) one.content;
      numbers_are = h.numbers_are ∙ ap (λ (c : Content). c.numbers) one.content;
      follow = follow_alike journal journal' inboxes one.finished_alike h.follow;
      keeps = rw (← one.pasts, ← one.queue) h.keeps;
      errors_are = h.errors_are ∙ lists_alike journal journal' one.standing x.senders;
      droppable = omega (arith, h.droppable, more);
    }
