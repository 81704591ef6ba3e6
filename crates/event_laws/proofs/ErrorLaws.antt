-- Errors, executions and drops.
use Rattle.std.proofs.Common.{◌≡◌, true, Some, None, refl}
use Rattle.std.specs.Prelude.{Option, Result, Ok, Err, is_some, cond}
use Rattle.txn_effects.specs.Calls.{Effect}
use Rattle.txn_effects.specs.Transactions.{Failure}
use Rattle.rep_values.specs.declared.refusal.Refusal.TheVariants as refusal
use Rattle.error_queue.specs.declared.entry.ErrorEntry.{ErrorEntry}
use Rattle.site_state.specs.declared.answers.Applied.TheVariants as applied
use Rattle.site_state.specs.declared.answers.Why.{Why}
use Rattle.site_state.specs.declared.arrival.Arrival.{Arrival}
use Rattle.site_state.specs.State.{arrived_at}
use Rattle.site_state.specs.Journal.{error_at, is_position}
use Rattle.site_state.specs.Ready.{stale_of}
use Rattle.site_state.specs.Passes.{effect_here, finished_by, applied_unless, apply_answer_by, apply_answer_unless}
use Rattle.site_state.specs.Errors.{effect_of_error, executed_by, executed_found, execute_refusal_by, execute_refusal_found, dropped_found}
use Rattle.site_state.proofs.Stepping.{arrived_has, error_found}
use Rattle.event_laws.specs.ErrorLaws.{StandsWhole, ErrorsStandWhole, RefusedExecutionsChangeNothing, IsExecuted, ExecutionsApplyAnew, IsDropped, DropsClear}
use Rattle.site_state.proofs.Waited.{is_position-own}

pub errors_stand_whole : ErrorsStandWhole
errors_stand_whole x origin position error answer = go (stale_of origin position x) (arrived_at origin position x.senders) refl answer
  where
    by : (a : Arrival) → arrived_at origin position x.senders ≡ Some a → (r : Result Effect Failure) → apply_answer_by r ≡ applied.Error error → StandsWhole x (finished_by origin a r x) origin position error
    by a there (Ok effect) is = absurd (cc is)
    by a there (Err failure) is =
        let at : is_position origin position origin a.position ≡ true = is_position-own origin position a.position (arrived_has origin position x a there) in
        record {
          content = refl;
          queue = refl;
          arrival = a;
          arrived = there;
          entry = record { origin = origin; position = a.position; call = failure.call; error = failure.error; txn = a.txn };
          stands = rw at refl;
          why = cc is;
          whole = refl;
        }

    go : (stale : Option Why) (found : Option Arrival) → arrived_at origin position x.senders ≡ found → apply_answer_unless stale origin found x ≡ applied.Error error → StandsWhole x (applied_unless stale origin found x) origin position error
    go (Some why) found there is = absurd (cc is)
    go None None there is = absurd (cc is)
    go None (Some a) there is = by a there (effect_here origin a x) is

pub refused_executions_change_nothing : RefusedExecutionsChangeNothing
refused_executions_change_nothing x origin position refusal is = go (error_at origin position x.journal) is
  where
    by : (e : ErrorEntry) (r : Result Effect Failure) → execute_refusal_by r ≡ Some refusal → executed_by e r x ≡ x
    by e (Ok effect) is = absurd (cc is)
    by e (Err failure) is = refl

    go : (found : Option ErrorEntry) → execute_refusal_found found x ≡ Some refusal → executed_found found x ≡ x
    go None is = refl
    go (Some e) is = by e (effect_of_error e x) is

pub executions_apply_anew : ExecutionsApplyAnew
executions_apply_anew x origin position is = go (error_at origin position x.journal) refl is
  where
    by : (e : ErrorEntry) → error_at origin position x.journal ≡ Some e → (r : Result Effect Failure) → execute_refusal_by r ≡ None → IsExecuted x (executed_by e r x) origin position
    by e stood (Ok effect) is =
        let own = error_found origin position x.journal e stood in
        let at : is_position origin position e.origin e.position ≡ true = rw own.0 (is_position-own origin position e.position own.1) in
        record { entry = e; stood = stood; content = refl; cleared = rw at refl }
    by e stood (Err failure) is = absurd (cc is)

    go : (found : Option ErrorEntry) → error_at origin position x.journal ≡ found → execute_refusal_found found x ≡ None → IsExecuted x (executed_found found x) origin position
    go None stood is = absurd (cc is)
    go (Some e) stood is = by e stood (effect_of_error e x) is

pub drops_clear : DropsClear
drops_clear x origin position is = go (error_at origin position x.journal) refl is
  where
    go : (found : Option ErrorEntry) → error_at origin position x.journal ≡ found → cond (is_some found) None (Some refusal.NoSuchError) ≡ None → IsDropped x (dropped_found found x) origin position
    go None stood is = absurd (cc is)
    go (Some e) stood is =
        let own = error_found origin position x.journal e stood in
        let at : is_position origin position e.origin e.position ≡ true = rw own.0 (is_position-own origin position e.position own.1) in
        record { content = refl; queue = refl; cleared = rw at refl }
