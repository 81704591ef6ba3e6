use Rattle.std.proofs.Common.{◌≡◌, ℕ, ◌-◌, ◌^◌, ◌≤◌, min, List, length, sym, ap, ◌∙◌, arith}
use Rattle.std.specs.Prelude.{vec_len, vec_capacity}
use Rattle.std.proofs.lemmas.List.{length-map}
use Rattle.deferred_queue.specs.QueueState.{QueueState, kept_of, rooms_of}
use Rattle.rep_lists.specs.Counting.{least}
use Rattle.rep_lists.proofs.InPlace.{written_back}
use Rattle.deferred_queue.proofs.Room.{least-all, least-more}
use Rattle.deferred_queue.proofs.queue.Queue.reserve.Goals as goal

-- the room for transactions, and the numbers that are left
abbrev first : ℕ → ℕ → ℕ
first room count = min room (2 ^ 64 - 1 - count)

-- as many streams as hold the same
same_length : (hs ks : List QueueState) → kept_of hs ≡ kept_of ks → length hs ≡ length ks
same_length hs ks same = sym (length-map hs (λ (h : QueueState). h.kept)) ∙ ap length same ∙ length-map ks (λ (h : QueueState). h.kept)

-- neither the room of the transactions nor that of the streams is less
not_less : (free more : ℕ) (hs ks : List QueueState) → free ≤ more → ((number : ℕ) → least number (rooms_of hs) ≤ least number (rooms_of ks)) → least free (rooms_of hs) ≤ least more (rooms_of ks)
not_less free more hs ks le room = omega (arith, least-more free more (rooms_of hs) le, room more)

pub returns-in_err-reserve_each-clause-spare : goal.returns-in_err-reserve_each-clause-spare
returns-in_err-reserve_each-clause-spare c =
    let long : length c.reserve_each.new.streams ≡ c.self.inside.streams.len = same_length c.reserve_each.new.streams c.deref_mut.result.now c.reserve_each.ensures.kept ∙ c.deref_mut.ensures.len in
    rw (written_back c.reserve_each.new.streams _ c.self.inside.streams.len long, ← c.self.view_is)
    (not_less (first (vec_capacity c.self.inside.cargoes - vec_len c.self.inside.cargoes) c.self.inside.count) (first (vec_capacity c.reserve.new.self - vec_len c.reserve.new.self) c.self.inside.count) c.self.inside.streams.items c.reserve_each.new.streams
    (omega (arith, c.in_ok-reserve.ensures.len, c.in_ok-reserve.ensures.capacity)) (rw c.deref_mut.ensures.value at c.reserve_each.ensures.room))

pub returns-clause-ok : goal.returns-clause-ok
returns-clause-ok c =
    let long : length c.reserve_each.new.streams ≡ c.self.inside.streams.len = same_length c.reserve_each.new.streams c.deref_mut.result.now c.reserve_each.ensures.kept ∙ c.deref_mut.ensures.len in
    rw (written_back c.reserve_each.new.streams _ c.self.inside.streams.len long)
    (least-all (first (vec_capacity c.reserve.new.self - vec_len c.reserve.new.self) c.self.inside.count) (rooms_of c.reserve_each.new.streams)
    (omega (arith, c.in_ok-reserve.ensures.ok, c.in_ok-reserve.ensures.len, c.self.ranges)) c.in_ok-reserve_each.ensures.ok)

pub returns-clause-spare : goal.returns-clause-spare
returns-clause-spare c =
    let long : length c.reserve_each.new.streams ≡ c.self.inside.streams.len = same_length c.reserve_each.new.streams c.deref_mut.result.now c.reserve_each.ensures.kept ∙ c.deref_mut.ensures.len in
    rw (written_back c.reserve_each.new.streams _ c.self.inside.streams.len long, ← c.self.view_is)
    (not_less (first (vec_capacity c.self.inside.cargoes - vec_len c.self.inside.cargoes) c.self.inside.count) (first (vec_capacity c.reserve.new.self - vec_len c.reserve.new.self) c.self.inside.count) c.self.inside.streams.items c.reserve_each.new.streams
    (omega (arith, c.in_ok-reserve.ensures.len, c.in_ok-reserve.ensures.capacity)) (rw c.deref_mut.ensures.value at c.reserve_each.ensures.room))
