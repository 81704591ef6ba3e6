-- A crew may cross threads.
use denote.RattleType.{RattleType}
use denote.Param.Send.{IsSend, IsSync, sendable, AllSend, AllSync, view_send, recorded_send, recorded_sync, struct_send, struct_sync}
use denote.Struct.Declared.{shape, fields}
use denote.Struct.Tuple.{type_at, TupleAt}
use mir.Syntax.{Sym}
use Rattle.std.specs.Prelude.{[], ◌∷◌}
use Rattle.std.specs.contracts.alloc.Global as global
use Rattle.std.specs.contracts.impls.GlobalAllocator.TheImpl as heap
use Rattle.std.specs.contracts.boxed.Box as box
use Rattle.std.proofs.Crossing.{crosses}
use Rattle.std.proofs.MapsCrossing as maps
use Rattle.std.specs.contracts.snapshot.Snapshot as snapshot
use Rattle.rep_values.specs.contracts.text.Text as text
use Rattle.rep_values.specs.contracts.value.Value as value
use Rattle.rep_values.specs.contracts.row.Row as row
use Rattle.rep_values.specs.contracts.key.Key as key
use Rattle.rep_calls.specs.contracts.call.Part as part
use Rattle.rep_calls.specs.contracts.call.Call as call
use Rattle.rep_calls.specs.contracts.call.Txn as txn
use Rattle.rep_calls.specs.contracts.past.PastEntry as past
use Rattle.rep_values.specs.contracts.name.SiteName as site_name
use Rattle.rep_values.specs.contracts.refusal.ApplyError as apply_error
use Rattle.site_state.specs.contracts.entry.Entry as entry
use Rattle.site_state.specs.contracts.arrival.Arrival as arrival
use Rattle.sender_inbox.specs.contracts.inbox.Inbox as inbox
use Rattle.deferred_queue.specs.contracts.queue.Queue as queue
use Rattle.dependency_index.specs.contracts.index.Index as index
use Rattle.dependency_index.specs.contracts.token.Token as token
use Rattle.site_outbox.specs.contracts.outbox.Outbox as outbox
use Rattle.error_queue.specs.contracts.entry.ErrorEntry as error_entry
use Rattle.error_queue.specs.contracts.errors.Errors as errors
use Rattle.change_logs.proofs.Crossing.{notes_send}
use Rattle.unique_resolve.specs.contracts.counters.Counters as counters
use Rattle.txn_effects.specs.contracts.local.Here as here
use Rattle.txn_effects.specs.contracts.local.Stamps as stamps
use Rattle.rep_schema.specs.declared.store.RowStore.{Ghosts}
use Rattle.row_tables.proofs.Crossing.{field_shared_schema_send}
use Rattle.site_engine.specs.contracts.site.Site as site
use Rattle.std.specs.contracts.option.Option as option
use denote.Struct.Field.{u64-field}
use Rattle.site_gate.specs.contracts.gate.SiteGate as gate
use Rattle.site_gate.proofs.Crossing.{field_pass_send, gate_send, gate_sync}
use Rattle.parallel_apply.specs.contracts.turns.TurnLog as turn_log
use Rattle.parallel_apply.specs.contracts.crew.Opening as opening
use Rattle.parallel_apply.specs.contracts.crew.CrewTurns.TheImpl as told
use Rattle.parallel_apply.specs.contracts.applier.Applier as applier
use Rattle.std.specs.contracts.sync.Arc as arc
use Rattle.std.specs.contracts.sync.Mutex as mutex
use Rattle.std.specs.contracts.vec.Vec as vec
use Rattle.parallel_apply.specs.contracts.seat.Job as job
use Rattle.parallel_apply.specs.contracts.seat.Desk as desk
use Rattle.parallel_apply.specs.contracts.seat.Seat as seat
use Rattle.parallel_apply.specs.contracts.workers.Workers as workers
use Rattle.parallel_apply.specs.contracts.claims.Claims as claims
use Rattle.parallel_apply.specs.contracts.crew.Crew as crew
use Rattle.parallel_apply.specs.contracts.crew.Crew.TheInside as inside

text_send : IsSend text.the_row
text_send = search sendable depth 30

text_sync : IsSync text.the_row
text_sync = search sendable depth 30

value_send : IsSend value.the_row
value_send = search sendable depth 30

value_sync : IsSync value.the_row
value_sync = search sendable depth 30

row_send : IsSend row.the_row
row_send = search (sendable, crosses, value_send, value_sync) depth 30

row_sync : IsSync row.the_row
row_sync = search (sendable, crosses, value_send, value_sync) depth 30

key_send : IsSend key.the_row
key_send = search (sendable, crosses, value_send, value_sync) depth 30

key_sync : IsSync key.the_row
key_sync = search (sendable, crosses, value_send, value_sync) depth 30

part_send : IsSend part.the_row
part_send = search (sendable, crosses, value_send, value_sync) depth 30

part_sync : IsSync part.the_row
part_sync = search (sendable, crosses, value_send, value_sync) depth 30

call_send : IsSend call.the_row
call_send = search (sendable, crosses, row_send, key_send, part_send) depth 30

call_sync : IsSync call.the_row
call_sync = search (sendable, crosses, row_sync, key_sync, part_sync) depth 30

txn_send : IsSend txn.the_row
txn_send = search (sendable, crosses, call_send, call_sync) depth 30

name_send : IsSend site_name.the_row
name_send = search sendable depth 30

past_send : IsSend past.the_row
past_send = search (sendable, name_send) depth 30

error_send : IsSend apply_error.the_row
error_send = search sendable depth 30

entry_send : IsSend entry.the_row
entry_send = search (sendable, crosses, call_send, call_sync, name_send, error_send) depth 30

arrival_send : IsSend arrival.the_row
arrival_send = search (sendable, crosses, call_send, call_sync, past_send) depth 30

inbox_send : IsSend inbox.the_row
inbox_send = search (sendable, crosses, name_send, call_send, call_sync, past_send) depth 30

queue_send : IsSend queue.the_row
queue_send = search (sendable, crosses, name_send, call_send, call_sync, past_send) depth 30

token_send : IsSend token.the_row
token_send = search (sendable, key_send) depth 30

index_send : IsSend index.the_row
index_send = search (sendable, crosses, maps.crosses, name_send, token_send) depth 30

outbox_send : IsSend outbox.the_row
outbox_send = search (sendable, crosses, name_send, queue_send, call_send, call_sync, past_send, token_send, maps.crosses, index_send) depth 30

error_entry_send : IsSend error_entry.the_row
error_entry_send = search (sendable, crosses, name_send, call_send, call_sync, error_send) depth 30

errors_send : IsSend errors.the_row
errors_send = search (sendable, crosses, name_send, error_entry_send) depth 30

counters_send : IsSend counters.the_row
counters_send = search (sendable, crosses) depth 30

here_send : IsSend here.the_row
here_send = search (sendable, name_send) depth 30

stamps_send : IsSend stamps.the_row
stamps_send = search sendable depth 30

module _ (R : RattleType) (g : Ghosts R.Denot) (s : IsSend R) where
  site_send : IsSend (site.the_row R g)
  site_send = search (sendable, crosses, counters_send, here_send, row_send, entry_send, inbox_send, outbox_send, errors_send, notes_send, stamps_send, call_send, call_sync, name_send, error_send) depth 30

-- as a field of another struct
field_name_send : IsSend site_name.the_field.row
field_name_send = search sendable depth 30

field_turns_send : IsSend turn_log.the_field.row
field_turns_send = search (sendable, crosses) depth 30

field_claims_send : IsSend claims.the_field.row
field_claims_send = search sendable depth 30

module _ (R : RattleType) (g : Ghosts R.Denot) (s : IsSend R) where
  field_opened_send : IsSend (snapshot.the_field (site.the_row R g)).row
  field_opened_send = search (sendable, crosses) depth 10

  field_site_send : IsSend (box.the_field (site.the_row R g) global.the_row heap.ghosts).row
  field_site_send = search (sendable, crosses, site_send) depth 10

  inside_send : IsSend (inside.the_row R g)
  inside_send =
      let all : AllSend (fields (inside.the_type R g)) = (field_site_send, (field_name_send, (field_shared_schema_send, (field_opened_send, (field_turns_send, (field_claims_send, tt)))))) in
      recorded_send _ _ _ (inside.the_type R g).to_one (struct_send (shape (inside.the_type R g)) all)

  -- so may a crew
  pub crew_send : IsSend (crew.the_row R g)
  crew_send = view_send _ _ _ _ _ inside_send

  -- its gate may be shared among threads, and go to another one
  pub crew_gate_sync : IsSync (gate.the_row (crew.the_row R g) (option.the_row u64-field.row) (opening.the_row R g) (told.ghosts R g told.no_dict told.no_dict))
  crew_gate_sync = gate_sync (crew.the_row R g) (option.the_row u64-field.row) (opening.the_row R g) (told.ghosts R g told.no_dict told.no_dict) crew_send

  crew_gate_send : IsSend (gate.the_row (crew.the_row R g) (option.the_row u64-field.row) (opening.the_row R g) (told.ghosts R g told.no_dict told.no_dict))
  crew_gate_send = gate_send (crew.the_row R g) (option.the_row u64-field.row) (opening.the_row R g) (told.ghosts R g told.no_dict told.no_dict) crew_send

  field_gate_send : IsSend (arc.the_field (gate.the_row (crew.the_row R g) (option.the_row u64-field.row) (opening.the_row R g) (told.ghosts R g told.no_dict told.no_dict)) global.the_row heap.ghosts).row
  field_gate_send = search (sendable, crosses, crew_gate_send, crew_gate_sync) depth 10

  field_applier_send : IsSend (applier.the_field R (option.the_row u64-field.row) (opening.the_row R g) (told.ghosts R g told.no_dict told.no_dict) g).row
  field_applier_send =
      let all : AllSend (fields (applier.the_type R (option.the_row u64-field.row) (opening.the_row R g) (told.ghosts R g told.no_dict told.no_dict) g)) =
      (search sendable, (field_pass_send (crew.the_row R g) (option.the_row u64-field.row) (opening.the_row R g) (told.ghosts R g told.no_dict told.no_dict) crew_send, tt)) in
      struct_send (shape (applier.the_type R (option.the_row u64-field.row) (opening.the_row R g) (told.ghosts R g told.no_dict told.no_dict) g)) all

  field_job_send : IsSend (job.the_field R (option.the_row u64-field.row) (opening.the_row R g) g (told.ghosts R g told.no_dict told.no_dict)).row
  field_job_send =
      let all : AllSend (fields (job.the_type R (option.the_row u64-field.row) (opening.the_row R g) g (told.ghosts R g told.no_dict told.no_dict))) = (field_gate_send, (field_applier_send, tt)) in
      struct_send (shape (job.the_type R (option.the_row u64-field.row) (opening.the_row R g) g (told.ghosts R g told.no_dict told.no_dict))) all

  desk_send : IsSend (desk.the_row R (option.the_row u64-field.row) (opening.the_row R g) g (told.ghosts R g told.no_dict told.no_dict))
  desk_send = search (sendable, field_job_send) depth 20

  field_desk_sync : IsSync (mutex.the_field (desk.the_row R (option.the_row u64-field.row) (opening.the_row R g) g (told.ghosts R g told.no_dict told.no_dict))).row
  field_desk_sync = search (sendable, crosses, desk_send) depth 10

  -- the seats of workers may be shared among threads
  pub seat_sync : IsSync (seat.the_row R (option.the_row u64-field.row) (opening.the_row R g) g (told.ghosts R g told.no_dict told.no_dict))
  seat_sync =
      let all : AllSync (fields (seat.the_type R (option.the_row u64-field.row) (opening.the_row R g) g (told.ghosts R g told.no_dict told.no_dict))) = (field_desk_sync, (search (sendable, crosses) depth 20, tt)) in
      recorded_sync _ _ _ (seat.the_type R (option.the_row u64-field.row) (opening.the_row R g) g (told.ghosts R g told.no_dict told.no_dict)).to_one (struct_sync (shape (seat.the_type R (option.the_row u64-field.row) (opening.the_row R g) g (told.ghosts R g told.no_dict told.no_dict))) all)

  field_seats_sync : IsSync (vec.the_field (seat.the_row R (option.the_row u64-field.row) (opening.the_row R g) g (told.ghosts R g told.no_dict told.no_dict)) global.the_row heap.ghosts).row
  field_seats_sync = search (sendable, crosses, seat_sync) depth 10

  pub workers_sync : IsSync (workers.the_row R (option.the_row u64-field.row) (opening.the_row R g) g (told.ghosts R g told.no_dict told.no_dict))
  workers_sync =
      let all : AllSync (fields (workers.the_type R (option.the_row u64-field.row) (opening.the_row R g) g (told.ghosts R g told.no_dict told.no_dict))) = (field_seats_sync, tt) in
      recorded_sync _ _ _ (workers.the_type R (option.the_row u64-field.row) (opening.the_row R g) g (told.ghosts R g told.no_dict told.no_dict)).to_one (struct_sync (shape (workers.the_type R (option.the_row u64-field.row) (opening.the_row R g) g (told.ghosts R g told.no_dict told.no_dict))) all)

-- what a closure captures
pub heap_sync : IsSync global.the_row
heap_sync = search sendable depth 10

pub four_sync : (name : Sym) (A B C D : RattleType) → IsSync A → IsSync B → IsSync C → IsSync D → IsSync (TupleAt name (A ∷ B ∷ C ∷ D ∷ []))
four_sync name A B C D a b c d =
    let all : AllSync (fields (type_at name (A ∷ B ∷ C ∷ D ∷ []))) = (a, (b, (c, (d, tt)))) in
    recorded_sync _ _ _ (type_at name (A ∷ B ∷ C ∷ D ∷ [])).to_one (struct_sync (shape (type_at name (A ∷ B ∷ C ∷ D ∷ []))) all)

pub four_send : (name : Sym) (A B C D : RattleType) → IsSend A → IsSend B → IsSend C → IsSend D → IsSend (TupleAt name (A ∷ B ∷ C ∷ D ∷ []))
four_send name A B C D a b c d =
    let all : AllSend (fields (type_at name (A ∷ B ∷ C ∷ D ∷ []))) = (a, (b, (c, (d, tt)))) in
    recorded_send _ _ _ (type_at name (A ∷ B ∷ C ∷ D ∷ [])).to_one (struct_send (shape (type_at name (A ∷ B ∷ C ∷ D ∷ []))) all)
