-- A snapshot site whose rows are those of its snapshots anew is the refreshed site, and still holds what it keeps.
use Rattle.std.proofs.Common.{◌≡◌, ℕ, ◌≤◌, List, ◌∷◌, length, map, false, refl, sym, subst}
use Rattle.std.specs.List.{AllByRecursion}
use Rattle.rep_schema.specs.declared.schema.Schema.{Schema}
use Rattle.rep_schema.specs.Tables.{Rows, AreTables}
use Rattle.rep_calls.specs.declared.call.Txn.{Txn}
use Rattle.conflict_detect.specs.Fits.{TxnFits}
use Rattle.unique_resolve.specs.Numbers.{Numbers, first_numbers}
use Rattle.unique_resolve.proofs.Settlements.{AreCounters-first}
use Rattle.txn_effects.specs.declared.local.Here.{Here}
use Rattle.txn_effects.specs.declared.local.Stamps.{Stamps}
use Rattle.error_queue.specs.ErrorLists.{ErrorList, in_order}
use Rattle.site_state.specs.declared.entry.Entry.{Entry}
use Rattle.site_state.specs.declared.entry.Entry.TheVariants.{Refreshed}
use Rattle.site_state.specs.declared.rows.TableRows.{TableRows}
use Rattle.site_state.specs.State.{SiteState}
use Rattle.site_state.specs.Streams.{queue_after}
use Rattle.site_state.specs.Pasts.{pasts_of}
use Rattle.site_state.specs.Refreshes.{with_tables, site_refresh}
use Rattle.change_logs.specs.Noting.{renewed}
use Rattle.site_state.specs.Fits.{AreWithin}
use Rattle.site_state.proofs.Growing.{queue_after-rebased}
use Rattle.site_state.proofs.FittingSites.{within_renewed}
use Rattle.sender_inbox.specs.Incoming.{Incoming}
use Rattle.change_logs.specs.Noted.{NotesState}
use Rattle.site_outbox.specs.Outgoing.{Outgoing, Keeps}
use Rattle.site_engine.specs.SiteInvariant.{state_of, IsSized, SiteHolds}
use Rattle.site_engine.proofs.NotedRows.{apart_renewed}

module _ (schema : Schema) (here : Here) (base : List Rows) (journal : List Entry) (inboxes : List Incoming) (out : Outgoing) (notes : NotesState) (stamps : Stamps) (moment : ℕ)
    (rows : List Rows) (numbers : Numbers) (lists : List ErrorList) (room : ℕ) (h : SiteHolds (state_of schema here base journal inboxes out notes stamps moment) rows numbers inboxes out lists room)
    (master_moment : ℕ) (base' : List Rows) (notes' : NotesState) (shows : notes'.snapshots ≡ map (renewed master_moment) notes.snapshots) where
  abbrev x : SiteState
  x = state_of schema here base journal inboxes out notes stamps moment

  -- the fields after a refresh are the state after it
  pub refresh_state_is : (schema' : Schema) (journal' : List Entry) (given : List TableRows) → schema' ≡ schema → journal' ≡ Refreshed master_moment ∷ journal → base' ≡ with_tables given rows → notes'.logs ≡ notes.logs
      → state_of schema' here base' journal' inboxes out notes' stamps moment ≡ site_refresh given master_moment x
  refresh_state_is schema' journal' given schema_is journal_is base_is logs = rw (schema_is, journal_is, base_is, logs, shows, h.tables_are) refl

  module _ (snapshot_site : here.is_master ≡ false) where
    -- what is queued doesn't depend on the base rows
    rebased : queue_after schema here base' journal ≡ queue_after schema here base journal
    rebased = queue_after-rebased schema here base' base journal snapshot_site

    refresh_holds : (room' : ℕ) → AreTables schema base' → length (in_order lists) ≤ room'
        → SiteHolds (state_of schema here base' (Refreshed master_moment ∷ journal) inboxes out notes' stamps moment) base' (first_numbers schema) inboxes out lists room'
    refresh_holds room' are droppable = record {
      based = are;
      fits = record {
        keyed = h.fits.keyed;
        content = record { tables = are; counters = AreCounters-first schema };
        queued = subst (AllByRecursion (TxnFits schema)) (sym rebased) h.fits.queued;
        senders = h.fits.senders;
        journal = (tt, h.fits.journal);
        within = subst (AreWithin schema) (sym shows) (within_renewed schema master_moment notes.snapshots h.fits.within);
      };
      sized = record { queued = subst (AllByRecursion IsSized) (sym rebased) h.sized.queued; arrived = h.sized.arrived; journal = (tt, h.sized.journal) };
      declared = record { is_master = h.declared.is_master; senders = h.declared.senders; destinations = h.declared.destinations };
      arrived = h.arrived;
      once = h.once;
      waited = ((λ origin p q a here there from_one less up_to. absurd (cc here)), h.waited);
      stays = (tt, h.stays);
      apart = apart_renewed master_moment notes.snapshots notes'.snapshots shows h.apart;
      tables_are = refl;
      numbers_are = refl;
      follow = h.follow;
      keeps = subst (λ (txns : List Txn). Keeps schema (pasts_of x) txns out) (sym rebased) h.keeps;
      errors_are = h.errors_are;
      droppable = droppable;
    }

    pub refresh_holds_is : (schema' : Schema) (journal' : List Entry) (rows' : List Rows) (numbers' : Numbers) (room' : ℕ) → schema' ≡ schema → journal' ≡ Refreshed master_moment ∷ journal → rows' ≡ base' → numbers' ≡ first_numbers schema
        → AreTables schema base' → length (in_order lists) ≤ room' → SiteHolds (state_of schema' here base' journal' inboxes out notes' stamps moment) rows' numbers' inboxes out lists room'
    refresh_holds_is schema' journal' rows' numbers' room' schema_is journal_is rows_are numbers_are are droppable = rw (schema_is, journal_is, rows_are, numbers_are) (refresh_holds room' are droppable)
