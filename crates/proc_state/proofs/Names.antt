-- A site of procedures keeps its schema, its procedures, its name, and the names of the other masters, whatever happens.
use Rattle.std.proofs.Common.{◌≡◌, ℕ, List, [], ◌∷◌, map, max, Bool, true, false, cond, Some, None, Ok, Err, refl, ap, ◌∙◌}
use Rattle.std.specs.Prelude.{Option, Result}
use Rattle.rep_values.specs.declared.name.SiteName.{SiteName}
use Rattle.rep_schema.specs.declared.schema.Schema.{Schema}
use Rattle.rep_schema.specs.Tables.{Rows}
use Rattle.rep_calls.specs.declared.past.PastEntry.{PastEntry}
use Rattle.rep_calls.specs.declared.call.Txn.{Txn}
use Rattle.txn_effects.specs.Transactions.{Failure}
use Rattle.deferred_queue.specs.Streams.{Mark as Acked, raised_mark}
use Rattle.rep_values.specs.SiteNames.{is_same_site}
use Rattle.packet_code.specs.declared.packet.Packet.{Packet}
use Rattle.packet_code.specs.declared.packet.Packet.TheVariants.{Carry, Mark}
use Rattle.error_queue.specs.declared.entry.ErrorEntry.{ErrorEntry}
use Rattle.site_state.specs.declared.answers.Why.{Why}
use Rattle.site_state.specs.declared.arrival.Arrival.{Arrival}
use Rattle.site_state.specs.State.{arrived_at, arrivals}
use Rattle.site_state.specs.Journal.{error_at}
use Rattle.site_state.specs.Packets.{with_arrival, arrived_by}
use Rattle.site_state.specs.Ready.{stale_of}
use Rattle.site_state.specs.Making.{new_sender}
use Rattle.site_state.proofs.DeclaredSites.{origins, origins-at_sender}
use Rattle.proc_state.specs.declared.procedure.Procedure.{Procedure}
use Rattle.proc_state.specs.declared.call.ProcCall.{ProcCall}
use Rattle.proc_state.specs.State.{ProcState, no_mark, new_proc, as_site, other_masters}
use Rattle.proc_state.specs.Calling.{calls_here, called_by, proc_call}
use Rattle.proc_state.specs.Packets.{is_foreign, taken, proc_accept}
use Rattle.proc_state.specs.Passes.{txn_here, finished_by, applied_unless, proc_apply, apply_each}
use Rattle.proc_state.specs.Errors.{executed_by, executed_found, proc_execute}
use Rattle.proc_state.specs.Events.{ProcEvent, Call, Accept, Apply, Pass, Execute, after_event, after_events, reached}

-- what a site keeps of itself and of the others
pub record KeepsNames (x y : ProcState) : Type 0 where
  pub schema : y.schema ≡ x.schema
  pub procedures : y.procedures ≡ x.procedures
  pub me : y.me ≡ x.me
  pub masters : other_masters y ≡ other_masters x
  pub senders : origins y.senders ≡ origins x.senders

names_same : (x : ProcState) → KeepsNames x x
names_same x = record { schema = refl; procedures = refl; me = refl; masters = refl; senders = refl }

names_then : (x y z : ProcState) → KeepsNames x y → KeepsNames y z → KeepsNames x z
names_then x y z first second = record {
  schema = second.schema ∙ first.schema;
  procedures = second.procedures ∙ first.procedures;
  me = second.me ∙ first.me;
  masters = second.masters ∙ first.masters;
  senders = second.senders ∙ first.senders;
}

-- ---- each call

pub call_names : (calls : List ProcCall) (to : List SiteName) (x : ProcState) → KeepsNames x (proc_call calls to x)
call_names calls to x = go (calls_here calls x)
  where
    go : (r : Result (List Rows) Failure) → KeepsNames x (called_by r calls to x)
    go (Ok tables) = record { schema = refl; procedures = refl; me = refl; masters = refl; senders = refl }
    go (Err failure) = names_same x

pub apply_names : (origin : SiteName) (position : ℕ) (x : ProcState) → KeepsNames x (proc_apply origin position x)
apply_names origin position x = go (stale_of origin position (as_site x)) (arrived_at origin position x.senders)
  where
    by : (a : Arrival) (r : Result (List Rows) Failure) → KeepsNames x (finished_by origin a r x)
    by a (Ok tables) = record { schema = refl; procedures = refl; me = refl; masters = refl; senders = refl }
    by a (Err failure) = record { schema = refl; procedures = refl; me = refl; masters = refl; senders = refl }

    go : (stale : Option Why) (found : Option Arrival) → KeepsNames x (applied_unless stale origin found x)
    go (Some reason) found = names_same x
    go None None = names_same x
    go None (Some a) = by a (txn_here a.txn x)

pub pass_names : (origin : SiteName) (arrived : List Arrival) (x : ProcState) → KeepsNames x (apply_each origin arrived x)
pass_names origin [] x = names_same x
pass_names origin (a ∷ arrived) x = names_then x (proc_apply origin a.position x) (apply_each origin arrived (proc_apply origin a.position x))
    (apply_names origin a.position x) (pass_names origin arrived (proc_apply origin a.position x))

pub execute_names : (origin : SiteName) (position : ℕ) (x : ProcState) → KeepsNames x (proc_execute origin position x)
execute_names origin position x = go (error_at origin position x.journal)
  where
    by : (e : ErrorEntry) (r : Result (List Rows) Failure) → KeepsNames x (executed_by e r x)
    by e (Ok tables) = record { schema = refl; procedures = refl; me = refl; masters = refl; senders = refl }
    by e (Err failure) = names_same x

    go : (found : Option ErrorEntry) → KeepsNames x (executed_found found x)
    go None = names_same x
    go (Some e) = by e (txn_here e.txn x)

-- marks that are raised are of the same masters
raised_site : (site : SiteName) (mark : ℕ) (m : Acked) → (raised_mark site mark m).site ≡ m.site
raised_site site mark m = go (is_same_site m.site site)
  where
    raised : Acked
    raised = record { site = m.site; acked = max m.acked mark }

    go : (b : Bool) → (cond b raised m).site ≡ m.site
    go true = refl
    go false = refl

raised_masters : (site : SiteName) (mark : ℕ) (ms : List Acked) → map (λ (m : Acked). m.site) (map (raised_mark site mark) ms) ≡ map (λ (m : Acked). m.site) ms
raised_masters site mark [] = refl
raised_masters site mark (m ∷ ms) = rw (raised_site site mark m, raised_masters site mark ms) refl

pub accept_names : (packet : Packet) (x : ProcState) → KeepsNames x (proc_accept packet x)
accept_names packet x = go packet (is_foreign packet x)
  where
    by : (from : SiteName) (a : Arrival) (found : Option Arrival) → origins (arrived_by found from a (as_site x)).senders ≡ origins x.senders
    by from a None = origins-at_sender (with_arrival a) (λ s. refl) from x.senders
    by from a (Some before) = refl

    carried_in : (from to : SiteName) (number position dep : ℕ) (past : List PastEntry) (txn : Txn) → KeepsNames x (taken (Carry from to number position dep past txn) x)
    carried_in from to number position dep past txn = record {
      schema = refl;
      procedures = refl;
      me = refl;
      masters = refl;
      senders = by from (record { position = position; number = number; dep = dep; past = past; txn = txn }) (arrived_at from position x.senders);
    }

    go : (packet : Packet) (b : Bool) → KeepsNames x (cond b x (taken packet x))
    go packet true = names_same x
    go (Carry from to number position dep past txn) false = carried_in from to number position dep past txn
    go (Mark from to mark) false = record { schema = refl; procedures = refl; me = refl; masters = raised_masters from mark x.acked; senders = refl }

-- ---- whatever happens

pub event_names : (e : ProcEvent) (x : ProcState) → KeepsNames x (after_event e x)
event_names (Call calls to) x = call_names calls to x
event_names (Accept packet) x = accept_names packet x
event_names (Apply origin position) x = apply_names origin position x
event_names (Pass origin) x = pass_names origin (arrivals origin (as_site x)) x
event_names (Execute origin position) x = execute_names origin position x

pub events_names : (es : List ProcEvent) (x : ProcState) → KeepsNames x (after_events es x)
events_names [] x = names_same x
events_names (e ∷ es) x = names_then x (after_events es x) (after_event e (after_events es x)) (events_names es x) (event_names e (after_events es x))

-- ---- a new site

pub new_masters : (masters : List SiteName) → map (λ (m : Acked). m.site) (map no_mark masters) ≡ masters
new_masters [] = refl
new_masters (master ∷ masters) = ap (λ names. master ∷ names) (new_masters masters)

pub new_origins : (masters : List SiteName) → origins (map new_sender masters) ≡ masters
new_origins [] = refl
new_origins (master ∷ masters) = ap (λ names. master ∷ names) (new_origins masters)

-- a site goes on to be of its procedures, among its masters, whatever happens
pub record IsProcSite (schema : Schema) (procedures : List Procedure) (me : SiteName) (masters : List SiteName) (x : ProcState) : Type 0 where
  pub schema_is : x.schema ≡ schema
  pub procedures_are : x.procedures ≡ procedures
  pub me_is : x.me ≡ me
  pub masters_are : other_masters x ≡ masters
  pub senders_are : origins x.senders ≡ masters

pub reached_names : (schema : Schema) (procedures : List Procedure) (me : SiteName) (masters : List SiteName) (events : List ProcEvent)
    → IsProcSite schema procedures me masters (reached schema procedures me masters events)
reached_names schema procedures me masters events =
    let kept = events_names events (new_proc schema procedures me masters) in
    record {
      schema_is = kept.schema;
      procedures_are = kept.procedures;
      me_is = kept.me;
      masters_are = kept.masters ∙ new_masters masters;
      senders_are = kept.senders ∙ new_origins masters;
    }
