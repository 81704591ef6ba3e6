-- A list may cross threads where its entries may.
use denote.RattleType.{RattleType}
use denote.Param.Send.{IsSend, AllSend, sendable, view_send, recorded_send, struct_send}
use denote.Struct.Declared.{shape, fields}
use Rattle.std.proofs.Crossing.{crosses}
use Rattle.ordered_keys.specs.declared.noted.Noted.{Ghosts}
use Rattle.ordered_keys.specs.contracts.list.TreeList as list
use Rattle.ordered_keys.specs.contracts.list.TreeList.TheInside as inside
use Rattle.ordered_keys.specs.contracts.tree.Fork as fork
use Rattle.ordered_keys.proofs.tree.Tree.TheLaws.TheKnot as knot

module _ (E : RattleType) (g : Ghosts E.Denot) (entry : IsSend E) where
  fork_send : IsSend (fork.the_row E)
  fork_send = recorded_send _ _ _ (fork.the_type E).to_one (knot.send-Fork E (λ h held. search (crosses, held) depth 10) entry (search sendable depth 10))

  inside_send : IsSend (inside.the_row E g)
  inside_send =
      let all : AllSend (fields (inside.the_type E g)) = (search (sendable, crosses) depth 10, (search (sendable, crosses, knot.crosses, entry) depth 10, (search (sendable, crosses, fork_send) depth 10, tt))) in
      recorded_send _ _ _ (inside.the_type E g).to_one (struct_send (shape (inside.the_type E g)) all)

  pub list_send : IsSend (list.the_row E g)
  list_send = view_send _ _ _ _ _ inside_send
