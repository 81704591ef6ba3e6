-- Sender after sender.
use Rattle.std.proofs.Common.{◌≡◌, ℕ, map, false, take}
use Rattle.std.specs.List.{AllByRecursion}
use Rattle.origin_marks.specs.Marks.{finished}
use Rattle.site_state.specs.Making.{new_sender}
use Rattle.sender_inbox.specs.Inboxes.{senders_in}
use Rattle.sender_inbox.proofs.inboxes.new_inboxes.Given as goal

abbrev pub invariant-loop-sender : goal.invariant-loop-sender
invariant-loop-sender l = record {
  so_far : senders_in l.inboxes.items ≡ map new_sender (take l.sender-index l.senders);
  unfinished : AllByRecursion (λ i. (p : ℕ) → finished i.marked p ≡ false) l.inboxes.items;
}
