-- What calls leave, what errors leave, and what executions do.
use Rattle.std.proofs.Common.{◌≡◌, List, Some, None, Ok, Err, true, refl, ap, ◌∙◌}
use Rattle.std.specs.Prelude.{Option, Result}
use Rattle.rep_schema.specs.Tables.{Rows}
use Rattle.txn_effects.specs.Transactions.{Failure}
use Rattle.error_queue.specs.declared.entry.ErrorEntry.{ErrorEntry}
use Rattle.site_state.specs.declared.answers.Applied.TheVariants as applied
use Rattle.site_state.specs.declared.answers.Why.{Why}
use Rattle.site_state.specs.declared.arrival.Arrival.{Arrival}
use Rattle.site_state.specs.State.{arrived_at}
use Rattle.site_state.specs.Journal.{error_at, is_position}
use Rattle.site_state.specs.Ready.{stale_of}
use Rattle.site_state.proofs.Stepping.{arrived_has, error_found}
use Rattle.site_state.proofs.Waited.{is_position-own}
use Rattle.proc_state.specs.Calls.{tables_by}
use Rattle.proc_state.specs.Carriers.{carried_txn, tables_after}
use Rattle.proc_state.specs.State.{as_site, proc_tables}
use Rattle.proc_state.specs.Calling.{calls_here, called_by, call_answer_by}
use Rattle.proc_state.specs.Passes.{txn_here, finished_by, applied_unless, apply_answer_by, apply_answer_unless}
use Rattle.proc_state.specs.Errors.{executed_by, executed_found, execute_refusal_by, execute_refusal_found}
use Rattle.proc_state.specs.Laws.{FailedCallsChangeNothing, CallsLeadToTheirTables, StandsWhole, ErrorsStandWhole, RefusedExecutionsChangeNothing, IsExecuted, ExecutionsApplyAnew}
use Rattle.proc_state.proofs.Carrying.{carried_calls_do_the_same}

-- ---- calls

pub failed_calls_change_nothing : FailedCallsChangeNothing
failed_calls_change_nothing x calls to failure answer = go (calls_here calls x) answer
  where
    go : (r : Result (List Rows) Failure) → call_answer_by r x ≡ Err failure → called_by r calls to x ≡ x
    go (Ok tables) is = absurd (cc is)
    go (Err why) is = refl

pub calls_lead_to_their_tables : CallsLeadToTheirTables
calls_lead_to_their_tables x calls to are fit = go (calls_here calls x) refl
  where
    same : tables_after x.schema x.procedures (carried_txn x.schema x.procedures calls) (proc_tables x) ≡ tables_by (calls_here calls x) (proc_tables x)
    same = ap (λ (r : Result (List Rows) Failure). tables_by r (proc_tables x)) (carried_calls_do_the_same x.schema x.procedures calls (proc_tables x) are fit)

    go : (r : Result (List Rows) Failure) → calls_here calls x ≡ r → proc_tables (called_by r calls to x) ≡ tables_by r (proc_tables x)
    go (Ok tables) gives = same ∙ ap (λ (r : Result (List Rows) Failure). tables_by r (proc_tables x)) gives
    go (Err why) gives = refl

-- ---- errors

pub errors_stand_whole : ErrorsStandWhole
errors_stand_whole x origin position error answer = go (stale_of origin position (as_site x)) (arrived_at origin position x.senders) refl answer
  where
    by : (a : Arrival) → arrived_at origin position x.senders ≡ Some a → (r : Result (List Rows) Failure) → apply_answer_by r ≡ applied.Error error → StandsWhole x (finished_by origin a r x) origin position error
    by a there (Ok tables) is = absurd (cc is)
    by a there (Err failure) is =
        let at : is_position origin position origin a.position ≡ true = is_position-own origin position a.position (arrived_has origin position (as_site x) a there) in
        record {
          tables = refl;
          arrival = a;
          arrived = there;
          entry = record { origin = origin; position = a.position; call = failure.call; error = failure.error; txn = a.txn };
          stands = rw at refl;
          why = cc is;
          whole = refl;
        }

    go : (stale : Option Why) (found : Option Arrival) → arrived_at origin position x.senders ≡ found → apply_answer_unless stale found x ≡ applied.Error error
        → StandsWhole x (applied_unless stale origin found x) origin position error
    go (Some reason) found there is = absurd (cc is)
    go None None there is = absurd (cc is)
    go None (Some a) there is = by a there (txn_here a.txn x) is

pub refused_executions_change_nothing : RefusedExecutionsChangeNothing
refused_executions_change_nothing x origin position refusal is = go (error_at origin position x.journal) is
  where
    by : (e : ErrorEntry) (r : Result (List Rows) Failure) → execute_refusal_by r ≡ Some refusal → executed_by e r x ≡ x
    by e (Ok tables) is = absurd (cc is)
    by e (Err failure) is = refl

    go : (found : Option ErrorEntry) → execute_refusal_found found x ≡ Some refusal → executed_found found x ≡ x
    go None is = refl
    go (Some e) is = by e (txn_here e.txn x) is

pub executions_apply_anew : ExecutionsApplyAnew
executions_apply_anew x origin position is = go (error_at origin position x.journal) refl is
  where
    by : (e : ErrorEntry) → error_at origin position x.journal ≡ Some e → (r : Result (List Rows) Failure) → execute_refusal_by r ≡ None → IsExecuted x (executed_by e r x) origin position
    by e stood (Ok tables) is =
        let own = error_found origin position x.journal e stood in
        let at : is_position origin position e.origin e.position ≡ true = rw own.0 (is_position-own origin position e.position own.1) in
        record { entry = e; stood = stood; tables = refl; cleared = rw at refl }
    by e stood (Err failure) is = absurd (cc is)

    go : (found : Option ErrorEntry) → error_at origin position x.journal ≡ found → execute_refusal_found found x ≡ None → IsExecuted x (executed_found found x) origin position
    go None stood is = absurd (cc is)
    go (Some e) stood is = by e stood (txn_here e.txn x) is
