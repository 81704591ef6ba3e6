-- What is sent, one position at a time.
use Rattle.std.proofs.Common.{◌≡◌, ℕ, ◌+◌, ◌-◌, List, [], ◌∷◌, ◌++◌, map, Some, refl, sym, ◌∙◌, add-one}
use Rattle.std.specs.Prelude.{Option}
use Rattle.std.specs.List.{range_with_len}
use Rattle.rep_values.specs.declared.name.SiteName.{SiteName}
use Rattle.deferred_queue.specs.Streams.{last_position, acked_by}
use Rattle.proc_state.specs.State.{ProcState, proc_queue}
use Rattle.world_state.specs.Procs.{Procs}
use Rattle.world_state.specs.CallPushes.{calls_send, calls_send_each, positions_of}
use Rattle.world.specs.Following.{Send}
use Rattle.world.specs.Calling.{calls_steps, CallsPushInPart}
use Rattle.world.proofs.Going.{range_with_len-more}
use Rattle.world.proofs.CallsFollowing.{calls_in_part}

calls_send_more : (from to : SiteName) (position : ℕ) (positions : List ℕ) (p : Procs) → calls_send_each from to (positions ++ position ∷ []) p ≡ calls_send from to position (calls_send_each from to positions p)
calls_send_more from to position [] p = refl
calls_send_more from to position (one ∷ more) p = calls_send_more from to position more (calls_send from to one p)

-- one position more
pub calls_each-more : (from to : SiteName) (first sent position : ℕ) (p q : Procs) → q ≡ calls_send_each from to (range_with_len first sent) p → position ≡ first + sent
    → calls_send from to position q ≡ calls_send_each from to (range_with_len first (sent + 1)) p
calls_each-more from to first sent position p q is next =
    rw (is, next, add-one sent, range_with_len-more first sent) (sym (calls_send_more from to (first + sent) (range_with_len first sent) p))

sent_done : (from to : SiteName) (positions : List ℕ) (p : Procs) → calls_send_each from to positions p ≡ calls_steps from to (map (λ (position : ℕ). Send position) positions) p
sent_done from to [] p = refl
sent_done from to (position ∷ more) p = sent_done from to more (calls_send from to position p)

-- to send some is a part of a push
pub calls_sent_in_part : (from to : SiteName) (positions : List ℕ) (p q : Procs) → q ≡ calls_send_each from to positions p → CallsPushInPart from to p q
calls_sent_in_part from to positions p q is = calls_in_part from to (map (λ (position : ℕ). Send position) positions) p q (is ∙ sent_done from to positions p)

-- the positions that aren't acknowledged, of a site that is there
pub positions_of-there : (to : SiteName) (o : Option ProcState) (x : ProcState) (acked number : ℕ) → o ≡ Some x → acked ≡ acked_by to x.acked
    → number ≡ last_position to (proc_queue x) - acked → positions_of to o ≡ range_with_len (acked + 1) number
positions_of-there to o x acked number is acked_is number_is = rw (is, number_is, acked_is) refl
