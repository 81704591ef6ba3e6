-- A transaction that is evaluated away from its site, on copies of what is there.
use Rattle.std.proofs.Common.{◌≡◌, ℕ, List, false, None, Some, sym, ap, ◌∙◌, subst}
use Rattle.std.specs.Prelude.{Option, IfSome}
use Rattle.std.specs.List.{list_any}
use Rattle.rep_values.specs.declared.name.SiteName.{SiteName}
use Rattle.rep_schema.specs.declared.schema.Schema.{Schema}
use Rattle.rep_schema.specs.Tables.{Rows}
use Rattle.rep_calls.specs.declared.call.Txn.{Txn}
use Rattle.conflict_detect.specs.Fits.{TxnFits}
use Rattle.unique_resolve.specs.Numbers.{Numbers}
use Rattle.txn_effects.specs.Transactions.{txn_effect}
use Rattle.txn_effects.specs.Contents.{effect_on}
use Rattle.dependency_index.specs.Tokens.{txn_tokens, is_unique_token}
use Rattle.error_queue.specs.ErrorLists.{ErrorList}
use Rattle.rep_laws.specs.Commuting.{IsSound, AgreeOn}
use Rattle.site_state.specs.declared.arrival.Arrival.{Arrival}
use Rattle.site_state.specs.State.{SiteState, arrived_at}
use Rattle.site_state.specs.Contents.{content_of}
use Rattle.site_state.proofs.FittingSites as fitting
use Rattle.sender_inbox.specs.Incoming.{Incoming}
use Rattle.site_outbox.specs.Outgoing.{Outgoing}
use Rattle.txn_apply.specs.declared.outcome.Ending.{Ending}
use Rattle.txn_apply.specs.Works.{WorkState, CanStandAlone}
use Rattle.txn_apply.specs.Endings.{effect_of}
use Rattle.site_engine.specs.SiteInvariant.{IsSized, SiteHolds}
use Rattle.site_engine.specs.Working.{touches_unique, has_unique, IsWorkOf, EndsHere, OutcomesHoldWhereRowsAreAsTheyWere}

module _ (x : SiteState) (rows : List Rows) (numbers : Numbers) (inboxes : List Incoming) (out : Outgoing) (lists : List ErrorList) (room : ℕ) (h : SiteHolds x rows numbers inboxes out lists room)
    (origin : SiteName) (position : ℕ) (a : Arrival) (there : arrived_at origin position x.senders ≡ Some a) where
  pub arrived_fits : TxnFits x.schema a.txn
  arrived_fits = fitting.arrived_has (TxnFits x.schema) origin position x.senders a h.fits.senders there

  arrived_sized : IsSized a.txn
  arrived_sized = fitting.arrived_has IsSized origin position x.senders a h.sized.arrived there

  pub unique_is : list_any is_unique_token (txn_tokens x.schema a.txn) ≡ has_unique origin position x
  unique_is = ap (touches_unique x.schema) (sym there)

  -- it can be evaluated on copies
  pub can_stand_alone : IsSound x.schema → has_unique origin position x ≡ false → CanStandAlone x.schema a.txn
  can_stand_alone sound plain = record { sound = sound; fits = arrived_fits; few = arrived_sized.most; plain = unique_is ∙ plain }

  -- and so they are
  pub work_is : (work : WorkState) → work.origin ≡ origin → work.position ≡ position → work.txn ≡ a.txn → work.schema ≡ x.schema
      → ((numbers' : Numbers) → AgreeOn work.schema (txn_tokens work.schema work.txn) (record { tables = rows; numbers = numbers' }) work.content) → IsWorkOf origin position x work
  work_is work origin_is position_is txn_is schema_is agree = record {
    origin_is = origin_is;
    position_is = position_is;
    schema_is = schema_is;
    txn_is = λ b here. txn_is ∙ ap (λ (a : Arrival). a.txn) (same b here);
    supports = record { is = rw schema_is h.fits.content; agree = rw h.tables_are at (agree (content_of x).numbers) };
  }
    where
      same : (b : Arrival) → arrived_at origin position x.senders ≡ Some b → a ≡ b
      same b here = cc (there, here)

  -- what it does here is what it does to the store's rows and the counters
  pub ends_on_rows : (ending : Option Ending) → IfSome ending (EndsHere origin position x) → IfSome ending (λ e. txn_effect x.schema origin a.txn rows numbers ≡ effect_of e numbers)
  ends_on_rows None ends = tt
  ends_on_rows (Some e) ends = rw (h.tables_are, h.numbers_are) (ends a there)

-- as a work ended, so it ends where its rows are as they were
pub outcomes_hold : OutcomesHoldWhereRowsAreAsTheyWere
outcomes_hold origin position x y work ending is alike schema arrived supports a there =
    let here = content_of y in
    let ends = (alike here supports).effect in
    subst (λ (schema : Schema). effect_on schema origin a.txn here ≡ effect_of ending here.numbers) (is.schema_is ∙ sym schema)
    (subst (λ (o : SiteName). effect_on work.schema o a.txn here ≡ effect_of ending here.numbers) is.origin_is
    (subst (λ (t : Txn). effect_on work.schema work.origin t here ≡ effect_of ending here.numbers) (is.txn_is a (sym arrived ∙ there)) ends))
