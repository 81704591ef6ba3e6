-- A live part in the making may cross threads.
use denote.RattleType.{RattleType}
use denote.Param.Send.{IsSend, IsSync, sendable, AllSend, AllSync, EachSend, enum_send, view_send, recorded_send, recorded_sync, struct_send, struct_sync}
use denote.Struct.Declared.{shape, fields}
use denote.Enum.Declared as enum
use denote.Struct.Tuple.{type_at, TupleAt}
use denote.Struct.Field.{unit-field}
use mir.Syntax.{Sym}
use Rattle.std.specs.Prelude.{[], ◌∷◌}
use Rattle.std.specs.contracts.alloc.Global as global
use Rattle.std.specs.contracts.impls.GlobalAllocator.TheImpl as heap
use Rattle.std.specs.contracts.boxed.Box as box
use Rattle.std.proofs.Crossing.{crosses}
use Rattle.std.proofs.MapsCrossing as maps
use Rattle.std.specs.contracts.snapshot.Snapshot as snapshot
use Rattle.rep_values.specs.contracts.text.Text as text
use Rattle.rep_values.specs.contracts.value.Value as value
use Rattle.rep_values.specs.contracts.row.Row as row
use Rattle.rep_values.specs.contracts.key.Key as key
use Rattle.rep_values.specs.contracts.literal.Literal as literal
use Rattle.rep_values.specs.contracts.name.Name as name
use Rattle.rep_values.specs.contracts.refusal.Refusal as refusal
use Rattle.rep_calls.specs.contracts.statement.Set as set
use Rattle.rep_calls.specs.contracts.statement.Statement as statement
use Rattle.rep_calls.specs.contracts.call.Part as part
use Rattle.rep_calls.specs.contracts.call.Call as call
use Rattle.rep_calls.specs.contracts.past.PastEntry as past
use Rattle.rep_values.specs.contracts.name.SiteName as site_name
use Rattle.rep_values.specs.contracts.refusal.ApplyError as apply_error
use Rattle.site_state.specs.contracts.entry.Entry as entry
use Rattle.sender_inbox.specs.contracts.inbox.Inbox as inbox
use Rattle.deferred_queue.specs.contracts.queue.Queue as queue
use Rattle.dependency_index.specs.contracts.index.Index as index
use Rattle.dependency_index.specs.contracts.token.Token as token
use Rattle.site_outbox.specs.contracts.outbox.Outbox as outbox
use Rattle.error_queue.specs.contracts.entry.ErrorEntry as error_entry
use Rattle.error_queue.specs.contracts.errors.Errors as errors
use Rattle.change_logs.proofs.Crossing.{notes_send}
use Rattle.unique_resolve.specs.contracts.counters.Counters as counters
use Rattle.rep_schema.specs.declared.store.RowStore.{Ghosts}
use Rattle.site_engine.specs.contracts.site.Site as site
use Rattle.site_gate.specs.contracts.gate.SiteGate as gate
use Rattle.site_gate.specs.contracts.pass.Pass as pass
use Rattle.site_gate.proofs.Crossing.{field_pass_send, pass_send, gate_sync}
use Rattle.live_laws.specs.contracts.turn.Reply as reply
use Rattle.live_laws.specs.contracts.turn.LiveTurn as live_turn
use Rattle.live_laws.specs.contracts.turn.Block as block
use Rattle.live_laws.specs.contracts.turn.Session as session
use Rattle.live_streams.specs.contracts.crew.LiveCrew as crew
use Rattle.live_streams.specs.contracts.crew.LiveCrew.TheInside as inside
use Rattle.live_streams.specs.contracts.shared.SharedCrew as shared_crew
use Rattle.live_streams.specs.contracts.shared.Opening as opening
use Rattle.live_streams.specs.contracts.shared.SharedCrewTurns.TheImpl as told
use Rattle.live_streams.specs.contracts.threads.Work as work
use Rattle.live_streams.specs.contracts.threads.Job as job

text_send : IsSend text.the_row
text_send = search sendable depth 30

value_send : IsSend value.the_row
value_send = search sendable depth 30

value_sync : IsSync value.the_row
value_sync = search sendable depth 30

row_send : IsSend row.the_row
row_send = search (sendable, crosses, value_send) depth 30

row_sync : IsSync row.the_row
row_sync = search (sendable, crosses, value_sync) depth 30

key_send : IsSend key.the_row
key_send = search (sendable, crosses, value_send) depth 30

key_sync : IsSync key.the_row
key_sync = search (sendable, crosses, value_sync) depth 30

part_send : IsSend part.the_row
part_send = search (sendable, crosses, value_send) depth 30

part_sync : IsSync part.the_row
part_sync = search (sendable, crosses, value_sync) depth 30

call_send : IsSend call.the_row
call_send = search (sendable, crosses, row_send, key_send, part_send) depth 30

call_sync : IsSync call.the_row
call_sync = search (sendable, crosses, row_sync, key_sync, part_sync) depth 30

name_send : IsSend site_name.the_row
name_send = search sendable depth 30

past_send : IsSend past.the_row
past_send = search sendable depth 30

error_send : IsSend apply_error.the_row
error_send = search sendable depth 30

entry_send : IsSend entry.the_row
entry_send = search (sendable, crosses, call_send, call_sync) depth 30

inbox_send : IsSend inbox.the_row
inbox_send = search (sendable, crosses, call_send, call_sync, past_send) depth 30

queue_send : IsSend queue.the_row
queue_send = search (sendable, crosses, call_send, call_sync, past_send) depth 30

token_send : IsSend token.the_row
token_send = search (sendable, key_send) depth 30

index_send : IsSend index.the_row
index_send = search (sendable, crosses, maps.crosses, token_send) depth 30

outbox_send : IsSend outbox.the_row
outbox_send = search (sendable, crosses, queue_send, maps.crosses, index_send) depth 30

error_entry_send : IsSend error_entry.the_row
error_entry_send = search (sendable, crosses, call_send, call_sync) depth 30

errors_send : IsSend errors.the_row
errors_send = search (sendable, crosses, error_entry_send) depth 30

counters_send : IsSend counters.the_row
counters_send = search (sendable, crosses) depth 30

module _ (R : RattleType) (g : Ghosts R.Denot) (s : IsSend R) where
  site_send : IsSend (site.the_row R g)
  site_send = search (sendable, crosses, counters_send, row_send, entry_send, inbox_send, outbox_send, errors_send, notes_send) depth 30

-- ---- sessions and turns

literal_send : IsSend literal.the_row
literal_send = search (sendable, crosses, text_send) depth 30

column_name_send : IsSend name.the_row
column_name_send = search sendable depth 30

set_send : IsSend set.the_row
set_send = search (sendable, column_name_send) depth 30

statement_send : IsSend statement.the_row
statement_send = search (sendable, crosses, literal_send, set_send) depth 30

block_send : IsSend block.the_row
block_send = search (sendable, crosses, statement_send) depth 30

session_send : IsSend session.the_row
session_send = search (sendable, crosses, block_send) depth 30

-- as fields of a turn
field_name_send : IsSend site_name.the_field.row
field_name_send = search sendable depth 30

field_refusal_send : IsSend refusal.the_field.row
field_refusal_send = search sendable depth 200 fits 50000

field_reply_send : IsSend reply.the_field.row
field_reply_send = search (sendable, field_refusal_send) depth 30 fits 5000

live_turn_send : IsSend live_turn.the_row
live_turn_send =
    let all : EachSend (enum.variants live_turn.the_type) =
    ((field_name_send, (search sendable, (search sendable, (search (sendable, error_send) depth 60, tt)))), ((search sendable, (search sendable, (field_reply_send, tt))), tt)) in
    recorded_send _ _ _ live_turn.the_type.to_one (enum_send (enum.shape live_turn.the_type) all)

-- ---- a live part, and what is given to its threads

field_work_send : IsSend work.the_field.row
field_work_send = search sendable depth 30

module _ (R : RattleType) (g : Ghosts R.Denot) (s : IsSend R) where
  field_opened_send : IsSend (snapshot.the_field (site.the_row R g)).row
  field_opened_send = search (sendable, crosses) depth 10

  field_site_send : IsSend (box.the_field (site.the_row R g) global.the_row heap.ghosts).row
  field_site_send = search (sendable, crosses, site_send) depth 10

  inside_send : IsSend (inside.the_row R g)
  inside_send =
      let all : AllSend (fields (inside.the_type R g)) = (field_site_send, (field_opened_send, (search (sendable, crosses, name_send) depth 10, (search (sendable, crosses, session_send) depth 10, (search (sendable, crosses, live_turn_send) depth 10, (search sendable depth 10, tt)))))) in
      recorded_send _ _ _ (inside.the_type R g).to_one (struct_send (shape (inside.the_type R g)) all)

  crew_send : IsSend (crew.the_row R g)
  crew_send = view_send _ _ _ _ _ inside_send

  -- a live part with the count of those who came in
  pub shared_send : IsSend (shared_crew.the_row R g)
  shared_send = search (sendable, crew_send) depth 10

  -- its passes, its jobs, and its gate among threads
  pub shared_pass_send : IsSend (pass.the_row (shared_crew.the_row R g) unit-field.row (opening.the_row R g) (told.ghosts R g told.no_dict told.no_dict))
  shared_pass_send = pass_send (shared_crew.the_row R g) unit-field.row (opening.the_row R g) (told.ghosts R g told.no_dict told.no_dict) shared_send

  pub job_send : IsSend (job.the_row R unit-field.row (opening.the_row R g) (told.ghosts R g told.no_dict told.no_dict) g)
  job_send =
      let all : AllSend (fields (job.the_type R unit-field.row (opening.the_row R g) (told.ghosts R g told.no_dict told.no_dict) g)) =
      (field_work_send, (field_pass_send (shared_crew.the_row R g) unit-field.row (opening.the_row R g) (told.ghosts R g told.no_dict told.no_dict) shared_send, tt)) in
      recorded_send _ _ _ (job.the_type R unit-field.row (opening.the_row R g) (told.ghosts R g told.no_dict told.no_dict) g).to_one
      (struct_send (shape (job.the_type R unit-field.row (opening.the_row R g) (told.ghosts R g told.no_dict told.no_dict) g)) all)

  pub shared_gate_sync : IsSync (gate.the_row (shared_crew.the_row R g) unit-field.row (opening.the_row R g) (told.ghosts R g told.no_dict told.no_dict))
  shared_gate_sync = gate_sync (shared_crew.the_row R g) unit-field.row (opening.the_row R g) (told.ghosts R g told.no_dict told.no_dict) shared_send

-- what a closure captures
pub heap_sync : IsSync global.the_row
heap_sync = search sendable depth 10

pub four_sync : (name : Sym) (A B C D : RattleType) → IsSync A → IsSync B → IsSync C → IsSync D → IsSync (TupleAt name (A ∷ B ∷ C ∷ D ∷ []))
four_sync name A B C D a b c d =
    let all : AllSync (fields (type_at name (A ∷ B ∷ C ∷ D ∷ []))) = (a, (b, (c, (d, tt)))) in
    recorded_sync _ _ _ (type_at name (A ∷ B ∷ C ∷ D ∷ [])).to_one (struct_sync (shape (type_at name (A ∷ B ∷ C ∷ D ∷ []))) all)
