-- What is sent, one position at a time.
use Rattle.std.proofs.Common.{◌≡◌, ℕ, ◌+◌, ◌-◌, List, [], ◌∷◌, length, map, Some, refl, sym, ◌∙◌, add-one}
use Rattle.std.specs.Prelude.{Option}
use Rattle.std.specs.List.{range_with_len}
use Rattle.rep_values.specs.declared.name.SiteName.{SiteName}
use Rattle.deferred_queue.specs.Streams.{acked_by}
use Rattle.site_state.specs.State.{SiteState, acked_of}
use Rattle.site_state.specs.Streams.{stream_to}
use Rattle.site_state.specs.Deferrals.{deferred_marks}
use Rattle.site_state.proofs.Deferring.{acked_by-marks}
use Rattle.world_state.specs.World.{WorldState}
use Rattle.world_state.specs.Pushes.{world_send, world_send_each, at_most, positions_in}
use Rattle.world_laws.proofs.Calling.{send_more}
use Rattle.world.proofs.Going.{range_with_len-more}
use Rattle.world.specs.Following.{Send, steps_done, PushesInPart}
use Rattle.world.proofs.Following.{in_part}

-- one position more
pub send_each-more : (from to : SiteName) (first sent position : ℕ) (w y : WorldState) → y ≡ world_send_each from to (range_with_len first sent) w → position ≡ first + sent
    → world_send from to position y ≡ world_send_each from to (range_with_len first (sent + 1)) w
send_each-more from to first sent position w y is next =
    rw (is, next, add-one sent, range_with_len-more first sent) (sym (send_more from to (first + sent) (range_with_len first sent) w))

sent_done : (from to : SiteName) (positions : List ℕ) (w : WorldState) → world_send_each from to positions w ≡ steps_done from to (map (λ (position : ℕ). Send position) positions) w
sent_done from to [] w = refl
sent_done from to (position ∷ more) w = sent_done from to more (world_send from to position w)

-- to send some is a part of a push
pub sent_in_part : (from to : SiteName) (positions : List ℕ) (w y : WorldState) → y ≡ world_send_each from to positions w → PushesInPart from to w y
sent_in_part from to positions w y is = in_part from to (map (λ (position : ℕ). Send position) positions) w y (is ∙ sent_done from to positions w)

-- the positions that aren't acknowledged, of a site that is there
pub positions_in-there : (to : SiteName) (count : Option ℕ) (o : Option SiteState) (x : SiteState) (acked number : ℕ) → o ≡ Some x → acked ≡ acked_by to (deferred_marks x)
    → number ≡ at_most count (length (stream_to to x) - acked) → positions_in to count o ≡ range_with_len (acked + 1) number
positions_in-there to count o x acked number is acked_is number_is =
    let same : acked ≡ acked_of to x = acked_is ∙ acked_by-marks to x.destinations in
    rw (is, number_is, same) refl
