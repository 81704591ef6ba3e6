use Rattle.std.proofs.Common.{◌≡◌, ◌-◌, ◌^◌, List, length, sym, ap, ◌∙◌, arith}
use Rattle.std.proofs.lemmas.List.{length-map}
use Rattle.rep_lists.proofs.InPlace.{written_back}
use Rattle.error_queue.specs.ErrorQueueState.{OriginErrorsState, lists_of, rooms_of}
use Rattle.error_queue.proofs.Room.{least-all}
use Rattle.error_queue.proofs.errors.Errors.reserve.Goals as goal

-- as many lists as have the same errors
same_length : (hs ks : List OriginErrorsState) → lists_of hs ≡ lists_of ks → length hs ≡ length ks
same_length hs ks same = sym (length-map hs (λ (h : OriginErrorsState). h.list)) ∙ ap length same ∙ length-map ks (λ (h : OriginErrorsState). h.list)

pub returns-clause-ok : goal.returns-clause-ok
returns-clause-ok c =
    let long : length c.reserve_each.new.lists ≡ c.self.inside.lists.len = same_length c.reserve_each.new.lists c.deref_mut.result.now c.reserve_each.ensures.lists ∙ c.deref_mut.ensures.len in
    rw (written_back c.reserve_each.new.lists _ c.self.inside.lists.len long)
    (least-all (2 ^ 64 - 1 - c.self.inside.count) (rooms_of c.reserve_each.new.lists) (omega (arith, c.if-self.false, c.self.ranges)) c.in_ok-reserve_each.ensures.ok)
