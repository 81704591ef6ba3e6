-- What a new site keeps.
use Rattle.std.proofs.Common.{◌≡◌, ℕ, List, [], ◌∷◌, length, map, false, refl, sym, ap, ◌∙◌, arith, subst}
use Rattle.std.specs.Prelude.{replicate}
use Rattle.std.specs.List.{AllByRecursion}
use Rattle.rep_values.specs.declared.name.SiteName.{SiteName}
use Rattle.rep_schema.specs.declared.schema.Schema.{Schema}
use Rattle.rep_schema.specs.Tables.{Rows}
use Rattle.rep_schema.specs.Shape.{AreDistinct}
use Rattle.rep_calls.specs.declared.call.Txn.{Txn}
use Rattle.origin_marks.specs.Marks as marks
use Rattle.error_queue.specs.ErrorLists.{ErrorList, no_errors}
use Rattle.site_state.specs.Making.{new_sender}
use Rattle.site_state.specs.Fits.{SchemaIsKeyed, SendersHave}
use Rattle.sender_inbox.specs.Incoming.{Incoming}
use Rattle.sender_inbox.specs.Inboxes.{senders_in, Follows}
use Rattle.sender_inbox.proofs.StandingErrors.{lists_by}
use Rattle.proc_state.specs.declared.procedure.Procedure.{Procedure}
use Rattle.proc_state.specs.Calls.{AreProcedures}
use Rattle.proc_state.specs.State.{new_proc, no_mark}
use Rattle.proc_state.specs.Fits.{ProcFits}
use Rattle.proc_state.proofs.Fitting.{ProcFits-new_proc}
use Rattle.proc_state.proofs.Names.{new_masters, new_origins}
use Rattle.proc_calls.specs.Carrying.{CanBeCarried}
use Rattle.proc_calls.specs.Outgoing.{CallsOut, NamesApart, Keeps}
use Rattle.proc_calls.specs.ProcSiteInvariant.{state_of, ProcSiteHolds}
use Rattle.proc_calls.proofs.Apart.{names_apart}

none_arrived : (P : Txn → Type 0) (names : List SiteName) → SendersHave P (map new_sender names)
none_arrived P [] = tt
none_arrived P (n ∷ ns) = (tt, none_arrived P ns)

no_lists : (names : List SiteName) → map no_errors names ≡ lists_by [] (map new_sender names)
no_lists [] = refl
no_lists (n ∷ ns) = ap (λ (rest : List ErrorList). no_errors n ∷ rest) (no_lists ns)

follow_nothing : (inboxes : List Incoming) → AllByRecursion (λ (i : Incoming). (p : ℕ) → marks.finished i.marked p ≡ false) inboxes → AllByRecursion (Follows []) inboxes
follow_nothing [] none = tt
follow_nothing (i ∷ is) none = (none.0, follow_nothing is none.1)

module _ (schema schema' : Schema) (procedures : List Procedure) (me : SiteName) (masters : List SiteName) (inboxes : List Incoming) (out : CallsOut) (schema_is : schema' ≡ schema)
    (senders : senders_in inboxes ≡ map new_sender masters) (deferred : out.deferred ≡ []) (acked : out.marks ≡ map no_mark masters) where
  -- its fields are the new state
  pub new_state : state_of schema' procedures me [] inboxes out ≡ new_proc schema procedures me masters
  new_state = rw (schema_is, senders, deferred, acked) refl

  pub new_holds : (rows : List Rows) (lists : List ErrorList) → SchemaIsKeyed schema → AreProcedures schema procedures → AreDistinct masters → rows ≡ replicate (length schema.tables) []
      → AllByRecursion (λ (i : Incoming). (p : ℕ) → marks.finished i.marked p ≡ false) inboxes → Keeps [] [] out → lists ≡ map no_errors masters
      → ProcSiteHolds (state_of schema' procedures me [] inboxes out) rows inboxes out lists
  new_holds rows lists keyed are distinct empty unfinished keeps none = record {
    fits = subst ProcFits (sym new_state) (ProcFits-new_proc schema procedures me masters keyed are);
    journal = tt;
    senders = rw senders (none_arrived CanBeCarried masters);
    arrived = λ origin p is. absurd (cc is);
    once = λ origin p. omega arith;
    waited = tt;
    masters = rw (senders, acked) (new_origins masters ∙ sym (new_masters masters));
    apart = rw acked (subst NamesApart (sym (new_masters masters)) (names_apart masters distinct));
    rows_are = rw schema_is empty;
    follow = follow_nothing inboxes unfinished;
    keeps = rw deferred (record { queue = refl; tokens = keeps.tokens });
    errors_are = none ∙ rw senders (no_lists masters);
  }
