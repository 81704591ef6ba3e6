-- What a site holds goes on to keep the forms of groups, and its journal to be as it was made, call by call.
use Rattle.std.proofs.Common.{◌≡◌, ℕ, ◌==◌, ◌+◌, List, [], ◌∷◌, length, Bool, true, false, cond, Some, None, Ok, Err, refl, subst}
use Rattle.std.specs.Prelude.{Option, Result, nat_lt, nat_le}
use Rattle.std.specs.List.{AllByRecursion}
use Rattle.rep_values.specs.declared.name.SiteName.{SiteName}
use Rattle.rep_schema.specs.declared.schema.Schema.{Schema}
use Rattle.rep_schema.specs.Tables.{AreTables}
use Rattle.rep_calls.specs.declared.statement.Statement.{Statement}
use Rattle.rep_calls.specs.declared.call.Txn.{Txn}
use Rattle.conflict_detect.specs.Fits.{TxnFits}
use Rattle.deferred_queue.specs.Streams.{at_position}
use Rattle.packet_code.specs.declared.packet.Packet.{Packet}
use Rattle.packet_code.specs.declared.packet.Packet.TheVariants.{Carry, Mark}
use Rattle.error_queue.specs.declared.entry.ErrorEntry.{ErrorEntry}
use Rattle.txn_effects.specs.Calls.{Effect}
use Rattle.txn_effects.specs.Transactions.{Failure}
use Rattle.txn_effects.specs.Contents.{effect_on}
use Rattle.txn_effects.specs.declared.local.LocalStop.{LocalStop}
use Rattle.txn_effects.specs.Locals.{BlockEffect}
use Rattle.txn_effects.proofs.StatementEffects.{effect_with}
use Rattle.rep_laws.specs.Commuting.{IsSound}
use Rattle.rep_laws.proofs.SoundSchemas.{HasKeys-sound, KeysStandAlone-sound}
use Rattle.site_state.specs.declared.arrival.Arrival.{Arrival}
use Rattle.site_state.specs.State.{SiteState, arrived_at}
use Rattle.site_state.specs.Contents.{content_of, tables_of, txn_of, changes_by}
use Rattle.site_state.specs.Streams.{went_onward, queue_of, queued_behind, stream_in, stream_to}
use Rattle.site_state.specs.Steps.{is_empty}
use Rattle.site_state.specs.Commits.{block_at, committed, committed_by, site_commit}
use Rattle.site_state.specs.Ready.{stale_of}
use Rattle.site_state.specs.declared.answers.Why.{Why}
use Rattle.site_state.specs.Passes.{effect_here, finished_by, applied_unless, site_apply}
use Rattle.site_state.specs.Errors.{effect_of_error, executed_by, executed_found, site_execute, dropped_found, site_drop}
use Rattle.site_state.specs.Journal.{error_at}
use Rattle.site_state.specs.Packets.{is_foreign, arrived_by, taken_unless, site_accept, stream_number, carry_of, packet_found, site_packet}
use Rattle.site_state.specs.Fits.{EntryHas, SendersHave, SchemaIsKeyed}
use Rattle.site_state.proofs.FittingBlocks.{TxnFits-led, block_applied}
use Rattle.site_state.proofs.FittingSites.{arrived_has, error_has, one_has, senders_put}
use Rattle.event_laws.specs.Fitting.{FitsHere}
use Rattle.rep_laws.specs.GroupForms.{TxnKeepsForms}
use Rattle.convergence_laws.specs.Journals.{AreMade}
use Rattle.convergence_laws.specs.Laws.{BlocksKeepForms}
use Rattle.convergence_laws.proofs.Moves.{DecisionLaws}
use Rattle.convergence_laws.proofs.OnwardKeepsForms.{row_changes_keep_forms}

-- what a site holds keeps the forms, and a master's journal is as it was made
pub record Keeps (x : SiteState) : Type 0 where
  pub queued : AllByRecursion (TxnKeepsForms x.schema) (queue_of x)
  pub senders : SendersHave (TxnKeepsForms x.schema) x.senders
  pub journal : AllByRecursion (EntryHas (TxnKeepsForms x.schema)) x.journal
  pub base : x.here.is_master ≡ true → AreTables x.schema x.base
  pub made : x.here.is_master ≡ true → AreMade x.schema x.here.site x.base x.journal

-- so does what a packet carries
abbrev pub PacketKeeps : Schema → Packet → Type 0
PacketKeeps schema (Carry from to number position dep past txn) = TxnKeepsForms schema txn
PacketKeeps schema (Mark from to mark) = Unit {0}

keyed_by : (schema : Schema) → IsSound schema → SchemaIsKeyed schema
keyed_by schema sound = record { shape = sound.shape; keys = HasKeys-sound schema sound.unbroken sound.shape; apart = KeysStandAlone-sound schema sound.unbroken }

-- ---- what is sent

module _ (P : Txn → Type 0) where
  behind_has : (opened : ℕ) (queue : List Txn) → AllByRecursion P queue → AllByRecursion P (queued_behind opened queue)
  behind_has opened [] all = tt
  behind_has opened (t ∷ ts) all = one_has P (nat_lt opened (length ts + 1)) t (queued_behind opened ts) all.0 (behind_has opened ts all.1)

  pub stream_has : (opened : Option ℕ) (queue : List Txn) → AllByRecursion P queue → AllByRecursion P (stream_in opened queue)
  stream_has None queue all = tt
  stream_has (Some n) queue all = behind_has n queue all

  pub position_has : (position : ℕ) (stream : List Txn) (txn : Txn) → AllByRecursion P stream → at_position position stream ≡ Some txn → P txn
  position_has position [] txn all found = cc
  position_has position (t ∷ ts) txn all found = go (position == length ts + 1) (position_has position ts txn all.1) found
    where
      go : (b : Bool) → (at_position position ts ≡ Some txn → P txn) → cond b (Some t) (at_position position ts) ≡ Some txn → P txn
      go true later found = let same : t ≡ txn = cc in subst P same all.0
      go false later found = later found

pub packet_keeps : (to : SiteName) (position : ℕ) (x : SiteState) (packet : Packet) → Keeps x → site_packet to position x ≡ Some packet → PacketKeeps x.schema packet
packet_keeps to position x packet h = go (at_position position (stream_to to x)) refl
  where
    by : (txn : Txn) → TxnKeepsForms x.schema txn → (b : Bool) → cond b None (Some (carry_of to position x txn)) ≡ Some packet → PacketKeeps x.schema packet
    by txn keeps true is = cc
    by txn keeps false is = let same : carry_of to position x txn ≡ packet = cc in subst (PacketKeeps x.schema) same keeps

    go : (found : Option Txn) → at_position position (stream_to to x) ≡ found → packet_found to position x found ≡ Some packet → PacketKeeps x.schema packet
    go None found is = cc
    go (Some txn) found is = by txn (position_has (TxnKeepsForms x.schema) position (stream_to to x) txn (stream_has (TxnKeepsForms x.schema) _ (queue_of x) h.queued) found) (nat_le (stream_number to position x) x.purged) is

-- ---- what a site does

module _ (decides : DecisionLaws) (blocks : BlocksKeepForms) (x : SiteState) (sound : IsSound x.schema) (fit : FitsHere x) (h : Keeps x) where
  -- what goes onward
  onward_keeps : (origin : SiteName) (txn : Txn) → TxnFits x.schema txn → TxnKeepsForms x.schema txn → TxnKeepsForms x.schema (txn_of x.schema (changes_by (effect_on x.schema origin txn (content_of x))))
  onward_keeps origin txn fits keeps = go (effect_on x.schema origin txn (content_of x)) refl
    where
      go : (r : Result Effect Failure) → effect_on x.schema origin txn (content_of x) ≡ r → TxnKeepsForms x.schema (txn_of x.schema (changes_by r))
      go (Ok effect) gives = row_changes_keep_forms decides x.schema origin txn (content_of x) effect sound fit.content (record { fits = fits; keeps = keeps }) gives
      go (Err failure) gives = tt

  pub commit_keeps : (statements : List Statement) → Keeps (site_commit statements x)
  commit_keeps statements = go (block_at statements x) refl
    where
      by : (block : BlockEffect) → block_at statements x ≡ Ok block → TxnKeepsForms x.schema (txn_of x.schema block.changes) → (e : Bool) → Keeps (cond e x (committed block x))
      by block is keeps true = h
      by block is keeps false = record {
        queued = (keeps, h.queued);
        senders = h.senders;
        journal = (keeps, h.journal);
        base = h.base;
        made = λ master. (
          record {
            sound = record {
              fits = TxnFits-led x.schema (keyed_by x.schema sound) (tables_of x) (effect_with x.schema block.changes) fit.content.tables
                  (block_applied x.schema (keyed_by x.schema sound) x.here x.stamps statements (tables_of x) block fit.content.tables is);
              keeps = keeps;
            };
            effect = record { changes = block.changes; numbers = (content_of x).numbers };
            gives = fit.blocks statements block is;
          },
          h.made master,
        );
      }

      go : (r : Result BlockEffect LocalStop) → block_at statements x ≡ r → Keeps (committed_by r x)
      go (Ok block) is = by block is (blocks x.schema x.here x.stamps statements (tables_of x) block sound fit.content.tables is) (is_empty block.changes)
      go (Err stop) is = h

  pub apply_keeps : (origin : SiteName) (position : ℕ) → Keeps (site_apply origin position x)
  apply_keeps origin position = go (stale_of origin position x) (arrived_at origin position x.senders) refl
    where
      by : (a : Arrival) → TxnFits x.schema a.txn → TxnKeepsForms x.schema a.txn → (r : Result Effect Failure) → effect_here origin a x ≡ r → Keeps (finished_by origin a r x)
      by a fits keeps (Ok effect) gives = record {
        queued = one_has (TxnKeepsForms x.schema) (went_onward x.here _) _ (queue_of x) (onward_keeps origin a.txn fits keeps) h.queued;
        senders = h.senders;
        journal = (keeps, h.journal);
        base = h.base;
        made = λ master. (record { sound = record { fits = fits; keeps = keeps }; effect = effect; gives = gives }, h.made master);
      }
      by a fits keeps (Err failure) gives = record {
        queued = h.queued;
        senders = h.senders;
        journal = (keeps, h.journal);
        base = h.base;
        made = λ master. (record { sound = record { fits = fits; keeps = keeps }; gives = gives }, h.made master);
      }

      go : (stale : Option Why) (found : Option Arrival) → arrived_at origin position x.senders ≡ found → Keeps (applied_unless stale origin found x)
      go (Some why) found is = h
      go None None is = h
      go None (Some a) is = by a (arrived_has (TxnFits x.schema) origin position x.senders a fit.arrived is) (arrived_has (TxnKeepsForms x.schema) origin position x.senders a h.senders is) (effect_here origin a x) refl

  pub execute_keeps : (origin : SiteName) (position : ℕ) → Keeps (site_execute origin position x)
  execute_keeps origin position = go (error_at origin position x.journal) refl
    where
      by : (e : ErrorEntry) → TxnFits x.schema e.txn → TxnKeepsForms x.schema e.txn → (r : Result Effect Failure) → effect_of_error e x ≡ r → Keeps (executed_by e r x)
      by e fits keeps (Ok effect) gives = record {
        queued = one_has (TxnKeepsForms x.schema) (went_onward x.here _) _ (queue_of x) (onward_keeps e.origin e.txn fits keeps) h.queued;
        senders = h.senders;
        journal = (keeps, h.journal);
        base = h.base;
        made = λ master. (record { sound = record { fits = fits; keeps = keeps }; effect = effect; gives = gives }, h.made master);
      }
      by e fits keeps (Err failure) gives = h

      go : (found : Option ErrorEntry) → error_at origin position x.journal ≡ found → Keeps (executed_found found x)
      go None is = h
      go (Some e) is = by e (error_has (TxnFits x.schema) origin position x.journal e fit.journal is) (error_has (TxnKeepsForms x.schema) origin position x.journal e h.journal is) (effect_of_error e x) refl

pub drop_keeps : (origin : SiteName) (position : ℕ) (x : SiteState) → Keeps x → Keeps (site_drop origin position x)
drop_keeps origin position x h = go (error_at origin position x.journal)
  where
    go : (found : Option ErrorEntry) → Keeps (dropped_found found x)
    go None = h
    go (Some e) = record { queued = h.queued; senders = h.senders; journal = (tt, h.journal); base = h.base; made = λ master. (tt, h.made master) }

pub accept_keeps : (packet : Packet) (x : SiteState) → PacketKeeps x.schema packet → Keeps x → Keeps (site_accept packet x)
accept_keeps packet x carried h = go packet carried (is_foreign packet x)
  where
    by : (found : Option Arrival) (from : SiteName) (a : Arrival) → TxnKeepsForms x.schema a.txn → Keeps (arrived_by found from a x)
    by None from a keeps = record { queued = h.queued; senders = senders_put (TxnKeepsForms x.schema) from a x.senders keeps h.senders; journal = h.journal; base = h.base; made = h.made }
    by (Some before) from a keeps = h

    go : (packet : Packet) → PacketKeeps x.schema packet → (b : Bool) → Keeps (taken_unless b packet x)
    go packet keeps true = h
    go (Carry from to number position dep past txn) keeps false = by (arrived_at from position x.senders) from (record { position = position; number = number; dep = dep; past = past; txn = txn }) keeps
    go (Mark from to mark) keeps false = record { queued = h.queued; senders = h.senders; journal = h.journal; base = h.base; made = h.made }
