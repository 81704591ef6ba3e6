-- A pass and a gate may go to another thread, and a gate may be shared among threads, where the value may go to another thread.
use denote.RattleType.{RattleType}
use denote.Struct.Declared.{shape, fields}
use denote.Struct.Struct.{Struct}
use denote.Struct.Owning as owning
use denote.Param.Send.{IsSend, IsSync, AllSend, AllSync, Frees, sendable, part_keyless, recorded_send, recorded_sync, struct_send, struct_sync}
use Rattle.std.proofs.Crossing.{crosses}
use Rattle.std.specs.contracts.option.Option as option
use Rattle.std.specs.contracts.snapshot.Snapshot as snapshot
use Rattle.std.specs.contracts.alloc.Global as global
use Rattle.std.specs.contracts.impls.GlobalAllocator.TheImpl as heap
use Rattle.std.specs.declared.alloc.Allocator as alloc
use Rattle.atomic_table.specs.declared.shared.TableRule as rule
use Rattle.atomic_table.specs.contracts.shared.Seat as seat
use Rattle.atomic_table.specs.contracts.shared.Shared as shared
use Rattle.atomic_table.specs.contracts.send_lease.SendLease as lease
use Rattle.atomic_table.specs.contracts.owned.Table as table
use Rattle.atomic_table.proofs.Sent.{seat_keyless, owns_keyless, shares_keyless}
use Rattle.atomic_table.proofs.Rights.{right_send}
use Rattle.site_gate.specs.declared.turns.Turns.{Ghosts}
use Rattle.site_gate.specs.contracts.gate.SiteGate as gate
use Rattle.site_gate.specs.contracts.pass.Pass as pass
use Rattle.site_gate.specs.contracts.view.View as view
use Rattle.site_gate.specs.contracts.rule.GateRule as gate_rule
use Rattle.site_gate.specs.contracts.rule.GateRuleTableRuleOptionViewTurnOpeningSnapshot.TheImpl as held

seat_send : (S V : RattleType) → IsSend S → IsSend (seat.the_row S V)
seat_send S V s = record { owned = λ d vs. ((λ vss. (tt, ((λ uss. (tt, tt)), tt))), seat_keyless S s V.coded.code d.table_id d.id d.me); leaving = λ k f vs. tt }

shared_send : (S V K P : RattleType) (g : rule.Ghosts P.Denot S.Denot V.Denot K.Denot) → IsSend S → IsSend (shared.the_row S V K P g)
shared_send S V K P g s = record {
  owned = λ d vs. ((λ vss. (tt, (tt, (tt, ((λ uss. (tt, tt)), tt))))), owns_keyless S s V.coded.code d.table_id (g.holds d.key) d.words d.slots);
  leaving = λ k f vs. tt;
}

shared_sync : (S V K P : RattleType) (g : rule.Ghosts P.Denot S.Denot V.Denot K.Denot) → IsSend S → IsSync (shared.the_row S V K P g)
shared_sync S V K P g s = let all : IsSync (Struct (owning.shape (shared.the_type S V K P g))) = search sendable depth 20 in
    record { shared = λ d b o ν. (all.shared (d.words, (d.slots, (tt, tt))) b o ν, shares_keyless S s V.coded.code d.table_id (g.holds d.key) d.words d.slots ν) }

lease_sync : (T A : RattleType) (g : alloc.Ghosts A.Denot) → IsSend A → Frees g g.dealloc_token → IsSync (lease.the_row T A g)
lease_sync T A g s f = record { shared = λ d b o ν q. part_keyless (lease.the_row T A g) (right_send T A g f) q d b o }

module _ (T U O : RattleType) (g : Ghosts T.Denot U.Denot O.Denot) (s : IsSend T) where
  slot_send : IsSend (option.the_row T)
  slot_send = search sendable depth 10

  -- a pass as a field of another struct, and by itself
  pub field_pass_send : IsSend (pass.the_field T U O g).row
  field_pass_send = let all : AllSend (fields (pass.the_type T U O g)) = (seat_send _ _ slot_send, tt) in struct_send (shape (pass.the_type T U O g)) all

  pub pass_send : IsSend (pass.the_row T U O g)
  pass_send = recorded_send _ _ _ (pass.the_type T U O g).to_one field_pass_send

  table_send : AllSend (fields (table.the_type (option.the_row T) (view.the_row U O) (snapshot.the_row T) (gate_rule.the_row T) global.the_row (held.ghosts T U O g held.no_dict held.no_dict) heap.ghosts))
  table_send = (shared_send (option.the_row T) (view.the_row U O) (snapshot.the_row T) (gate_rule.the_row T) (held.ghosts T U O g held.no_dict held.no_dict) slot_send, (search sendable, (search sendable, (search (sendable, crosses, right_send) depth 10, (search (sendable, crosses, right_send) depth 10, (search sendable depth 10, tt))))))

  pub gate_send : IsSend (gate.the_row T U O g)
  gate_send =
      let all : AllSend (fields (gate.the_type T U O g)) = (struct_send (shape (table.the_type (option.the_row T) (view.the_row U O) (snapshot.the_row T) (gate_rule.the_row T) global.the_row (held.ghosts T U O g held.no_dict held.no_dict) heap.ghosts)) table_send, tt) in
      recorded_send _ _ _ (gate.the_type T U O g).to_one (struct_send (shape (gate.the_type T U O g)) all)

  table_sync : AllSync (fields (table.the_type (option.the_row T) (view.the_row U O) (snapshot.the_row T) (gate_rule.the_row T) global.the_row (held.ghosts T U O g held.no_dict held.no_dict) heap.ghosts))
  table_sync = (shared_sync (option.the_row T) (view.the_row U O) (snapshot.the_row T) (gate_rule.the_row T) (held.ghosts T U O g held.no_dict held.no_dict) slot_send, (search sendable, (search sendable, (search (sendable, crosses, lease_sync) depth 10, (search (sendable, crosses, lease_sync) depth 10, (search sendable depth 10, tt))))))

  pub gate_sync : IsSync (gate.the_row T U O g)
  gate_sync =
      let all : AllSync (fields (gate.the_type T U O g)) = (struct_sync (shape (table.the_type (option.the_row T) (view.the_row U O) (snapshot.the_row T) (gate_rule.the_row T) global.the_row (held.ghosts T U O g held.no_dict held.no_dict) heap.ghosts)) table_sync, tt) in
      recorded_sync _ _ _ (gate.the_type T U O g).to_one (struct_sync (shape (gate.the_type T U O g)) all)
