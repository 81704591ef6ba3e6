-- A head, and behind it the bytes of what is carried, are the packet's encoding.
use Rattle.std.proofs.Common.{◌≡◌, ℕ, List, ◌∷◌, ◌++◌, refl, ◌∙◌, ap, append_assoc}
use Rattle.std.specs.Int.{w64, to_be_bytes}
use Rattle.rep_calls.specs.declared.call.Txn.{Txn}
use Rattle.rep_calls.specs.declared.past.PastEntry.{PastEntry}
use Rattle.packet_code.specs.declared.route.Route.{Route}
use Rattle.packet_code.specs.Limits.{IsSiteName, IsPlace}
use Rattle.packet_code.specs.Spelling.{name_bytes, past_bytes, txn_bytes, IsEncoding}
use Rattle.packet_code.specs.Route.{carried}
use Rattle.packet_code.specs.Bodies.{CanSeal}

-- the head of a packet that carries a transaction
abbrev pub head_bytes : Route → List ℕ
head_bytes route = 2 ∷ 1 ∷ name_bytes route.from ++ name_bytes route.to ++ to_be_bytes w64 route.number ++ to_be_bytes w64 route.position ++ to_be_bytes w64 route.dep

-- pieces of a packet put together from the left, and as it is sealed
carry_split : (from to number position dep told sent : List ℕ)
    → from ++ to ++ number ++ position ++ dep ++ told ++ sent ≡ (from ++ to ++ number ++ position ++ dep) ++ (told ++ sent)
carry_split from to number position dep told sent = simp append_assoc refl

-- names that have the form of one, a place, and what can go
pub IsEncoding-body : (route : Route) (past : List PastEntry) (txn : Txn) (body : List ℕ) → IsSiteName route.from → IsSiteName route.to
    → IsPlace route.number route.position route.dep → CanSeal route past txn body → IsEncoding (head_bytes route ++ body) (carried route past txn)
IsEncoding-body route past txn body sender receiver place can =
    let seen = can.seen can.body.seen in
    let plain = can.plain can.body.texts in
    record {
      plain = record { sender = sender; receiver = receiver; at = place; seen = seen; sent = plain };
      bytes_are =
          ap (λ (bytes : List ℕ). 2 ∷ 1 ∷ bytes) (carry_split (name_bytes route.from) (name_bytes route.to) (to_be_bytes w64 route.number) (to_be_bytes w64 route.position) (to_be_bytes w64 route.dep) (past_bytes past) (txn_bytes txn))
          ∙ ap (λ (bytes : List ℕ). head_bytes route ++ bytes) (can.body.bytes_are plain seen.most);
    }
