-- What a new site keeps.
use Rattle.std.proofs.Common.{◌≡◌, ℕ, List, [], ◌∷◌, length, map, false, refl, sym, ap, ◌∙◌, arith, subst}
use Rattle.std.specs.List.{AllByRecursion}
use Rattle.rep_values.specs.declared.name.SiteName.{SiteName}
use Rattle.rep_schema.specs.declared.schema.Schema.{Schema}
use Rattle.rep_schema.specs.Tables.{Rows, AreTables}
use Rattle.rep_schema.specs.Sites.{senders_of, destinations_of, is_master_site}
use Rattle.rep_calls.specs.declared.call.Txn.{Txn}
use Rattle.unique_resolve.specs.Numbers.{Numbers, first_numbers}
use Rattle.unique_resolve.proofs.Settlements.{AreCounters-first}
use Rattle.txn_effects.specs.declared.local.Here.{Here}
use Rattle.origin_marks.specs.Marks as marks
use Rattle.snapshot_query.specs.declared.snapshot.Snapshot.{Snapshot}
use Rattle.error_queue.specs.ErrorLists.{ErrorList, no_errors, in_order}
use Rattle.site_state.specs.Deferrals as queue
use Rattle.site_state.specs.Making.{new_sender, new_destination}
use Rattle.site_state.specs.Fits.{SchemaIsKeyed, SendersHave, AreWithin, SnapshotsApart}
use Rattle.change_logs.specs.Noted.{NotesState}
use Rattle.site_state.proofs.DeclaredSites.{origins, sites_in}
use Rattle.sender_inbox.specs.Incoming.{Incoming}
use Rattle.site_outbox.specs.Outgoing.{Outgoing, Keeps}
use Rattle.sender_inbox.specs.Inboxes.{senders_in, Follows}
use Rattle.site_engine.specs.SiteInvariant.{state_of, SiteHolds}
use Rattle.sender_inbox.proofs.StandingErrors.{lists_by}
use Rattle.site_engine.proofs.Apart.{NamesApart, destinations_stand_apart}

none_arrived : (P : Txn → Type 0) (names : List SiteName) → SendersHave P (map new_sender names)
none_arrived P [] = tt
none_arrived P (n ∷ ns) = (tt, none_arrived P ns)

origins-new : (names : List SiteName) → origins (map new_sender names) ≡ names
origins-new [] = refl
origins-new (n ∷ ns) = ap (λ (rest : List SiteName). n ∷ rest) (origins-new ns)

sites_in-new : (schema : Schema) (names : List SiteName) → sites_in (map (new_destination schema) names) ≡ names
sites_in-new schema [] = refl
sites_in-new schema (n ∷ ns) = ap (λ (rest : List SiteName). n ∷ rest) (sites_in-new schema ns)

-- new destinations of other sites each are other ones
pub new_apart : (schema : Schema) (names : List SiteName) → NamesApart names → queue.StandApart (map (new_destination schema) names)
new_apart schema names apart = destinations_stand_apart (map (new_destination schema) names) (subst NamesApart (sym (sites_in-new schema names)) apart)

no_lists : (names : List SiteName) → map no_errors names ≡ lists_by [] (map new_sender names)
no_lists [] = refl
no_lists (n ∷ ns) = ap (λ (rest : List ErrorList). no_errors n ∷ rest) (no_lists ns)

none_stand : (names : List SiteName) → length (in_order (map no_errors names)) ≡ 0
none_stand [] = refl
none_stand (n ∷ ns) = none_stand ns

follow_nothing : (inboxes : List Incoming) → AllByRecursion (λ (i : Incoming). (p : ℕ) → marks.finished i.marked p ≡ false) inboxes → AllByRecursion (Follows []) inboxes
follow_nothing [] none = tt
follow_nothing (i ∷ is) none = (none.0, follow_nothing is none.1)

pub new_holds : (schema : Schema) (here : Here) (rows base : List Rows) (inboxes : List Incoming) (out : Outgoing) (notes : NotesState) (snapshots : List Snapshot) (numbers : Numbers) (lists : List ErrorList) (room : ℕ) → SchemaIsKeyed schema → AreTables schema rows → base ≡ rows
    → here.is_master ≡ is_master_site schema here.site → senders_in inboxes ≡ map new_sender (senders_of schema here.site) → AllByRecursion (λ (i : Incoming). (p : ℕ) → marks.finished i.marked p ≡ false) inboxes
    → out.destinations ≡ map (new_destination schema) (destinations_of schema here.site) → Keeps schema [] [] out → numbers ≡ first_numbers schema → lists ≡ map no_errors (senders_of schema here.site)
    → notes.snapshots ≡ snapshots → AreWithin schema snapshots → SnapshotsApart snapshots
    → SiteHolds (state_of schema here base [] inboxes out notes (record { clock = 0; last = 0 }) 0) rows numbers inboxes out lists room
new_holds schema here rows base inboxes out notes snapshots numbers lists room keyed are same master senders unfinished destinations keeps first none shows within apart = record {
  based = rw same are;
  fits = record { keyed = keyed; content = record { tables = rw same are; counters = AreCounters-first schema }; queued = tt; senders = rw senders (none_arrived _ (senders_of schema here.site)); journal = tt; within = rw shows within };
  sized = record { queued = tt; arrived = rw senders (none_arrived _ (senders_of schema here.site)); journal = tt };
  declared = record { is_master = master; senders = rw senders (origins-new (senders_of schema here.site)); destinations = rw destinations (sites_in-new schema (destinations_of schema here.site)) };
  arrived = λ origin p is. absurd (cc is);
  once = λ origin p. omega arith;
  waited = tt;
  stays = tt;
  apart = rw shows apart;
  tables_are = sym same;
  numbers_are = first;
  follow = follow_nothing inboxes unfinished;
  keeps = keeps;
  errors_are = none ∙ rw senders (no_lists (senders_of schema here.site));
  droppable = let nothing = ap (λ (ls : List ErrorList). length (in_order ls)) none ∙ none_stand (senders_of schema here.site) in omega (arith, nothing);
}
