-- What is done before a live part and behind it is a part of pushes.
use Rattle.std.proofs.Common.{◌≡◌, ℕ, zero, suc, ◌≤◌, List, [], ◌∷◌, length, drop, Bool, true, false, cond, None, refl, sym, subst, arith}
use Rattle.std.specs.Prelude.{Option}
use Rattle.rep_values.specs.declared.name.SiteName.{SiteName}
use Rattle.packet_code.specs.declared.packet.Packet.{Packet}
use Rattle.net_plan.specs.Directions.{on_way_between, is_up}
use Rattle.world_state.specs.declared.phase.Phase.{Phase}
use Rattle.world_state.specs.World.{WorldState}
use Rattle.world_state.specs.Phases.{is_setup}
use Rattle.world_state.specs.Pushes.{positions_above, world_release, world_send_above, world_deliver_one, world_deliver, pushed_in, world_send_mark, world_deliver_mark, world_return_mark}
use Rattle.world_laws.proofs.Calling.{on_way_between-delivered, deliver_one_then_all, deliver_none}
use Rattle.world.specs.Following.{Take, Release, There, Back, SendMark, PushesInPart, IsBuilt}
use Rattle.world.proofs.Following.{in_part_none, in_part_one, in_part_then, built_in_part}
use Rattle.world_push.specs.Travelling.{Travels}
use Rattle.world_push.specs.Lending.{brought_from, answered_to, PushEachInPart}
use Rattle.world_push.proofs.Travelling.{travels_none, travels_one, travels_then, travels_there, travels_back}
use Rattle.world_push.proofs.Sending.{sent_in_part}

-- ---- all that is on the way

no_packets : (packets : List Packet) → length packets ≤ 0 → packets ≡ []
no_packets [] few = refl
no_packets (packet ∷ packets) few = absurd (omega (arith, few))

one_fewer : (n : ℕ) (packets : List Packet) → length packets ≤ suc n → length (drop 1 packets) ≤ n
one_fewer n [] few = omega arith
one_fewer n (packet ∷ packets) few = omega (arith, few)

so_many_travel : (n : ℕ) (from to : SiteName) (w : WorldState) → length (on_way_between from to w.net) ≤ n → Travels from to w (world_deliver from to w)
so_many_travel zero from to w few = travels_none from to w (world_deliver from to w) (deliver_none from to w (no_packets (on_way_between from to w.net) few))
so_many_travel (suc n) from to w few =
    travels_then from to w (world_deliver_one from to w) (world_deliver from to w) (travels_one from to Take w (world_deliver_one from to w) refl)
    (subst (λ (y : WorldState). Travels from to (world_deliver_one from to w) y) (deliver_one_then_all from to w) (so_many_travel n from to (world_deliver_one from to w) fewer))
  where
    fewer : length (on_way_between from to (world_deliver_one from to w).net) ≤ n
    fewer = subst (λ (packets : List Packet). length packets ≤ n) (sym (on_way_between-delivered from to w.net)) (one_fewer n (on_way_between from to w.net) few)

-- to take in all that is on the way is to take in one after the other
travels_all : (from to : SiteName) (w : WorldState) → Travels from to w (world_deliver from to w)
travels_all from to w = so_many_travel (length (on_way_between from to w.net)) from to w (omega arith)

-- ---- there and back

-- that all comes to the receiver is a part of a push
pub pushed_in_part : (from to : SiteName) (count : Option ℕ) (w : WorldState) → PushesInPart from to w (pushed_in from to count w)
pushed_in_part from to count w =
    let freed : WorldState = world_release from to w in
    let sent : WorldState = world_send_above from to count freed in
    in_part_then from to w sent (world_deliver from to sent)
    (in_part_then from to w freed sent (in_part_one from to (There Release) w freed refl) (sent_in_part from to (positions_above from to count freed) freed sent refl))
    (travels_there from to sent (world_deliver from to sent) (travels_all from to sent))

-- and so it is that the mark goes back
pub answered_in_part : (from to : SiteName) (w : WorldState) → PushesInPart to from w (world_return_mark from to w)
answered_in_part from to w = go (is_up from to w.net)
  where
    marked : PushesInPart to from w (world_deliver_mark from to w)
    marked =
        let freed : WorldState = world_release from to w in
        let sent : WorldState = world_send_mark from to freed in
        in_part_then to from w sent (world_deliver from to sent)
        (in_part_then to from w freed sent (in_part_one to from (Back Release) w freed refl) (in_part_one to from SendMark freed sent refl))
        (travels_back to from sent (world_deliver from to sent) (travels_all from to sent))

    go : (b : Bool) → PushesInPart to from w (cond b (world_deliver_mark from to w) w)
    go true = marked
    go false = in_part_none to from w w refl

-- ---- of one after the other

-- nothing of it
pub push_none_in_part : (names : List SiteName) (name : SiteName) (w : WorldState) → PushEachInPart names name w w
push_none_in_part [] name w = refl
push_none_in_part (from ∷ more) name w = (w, (in_part_none from name w w refl, push_none_in_part more name w))

-- all that these sent comes in
pub brought_in_part : (names : List SiteName) (name : SiteName) (w : WorldState) → PushEachInPart names name w (brought_from names name w)
brought_in_part [] name w = refl
brought_in_part (from ∷ more) name w = (pushed_in from name None w, (pushed_in_part from name None w, brought_in_part more name (pushed_in from name None w)))

-- the marks go back to them
pub answered_each_in_part : (names : List SiteName) (name : SiteName) (w : WorldState) → PushEachInPart names name w (answered_to names name w)
answered_each_in_part [] name w = refl
answered_each_in_part (to ∷ more) name w = (world_return_mark name to w, (answered_in_part name to w, answered_each_in_part more name (world_return_mark name to w)))

-- ---- what stays

-- Setup is over behind a part of a push as before it
pub behind_in_part : (from to : SiteName) (w y : WorldState) → PushesInPart from to w y → is_setup w.phase ≡ false → is_setup y.phase ≡ false
behind_in_part from to w y part behind = subst (λ (p : Phase). is_setup p ≡ false) (sym part.beside.phase) behind

pub behind_each : (names : List SiteName) (name : SiteName) (w y : WorldState) → PushEachInPart names name w y → is_setup w.phase ≡ false → is_setup y.phase ≡ false
behind_each [] name w y is behind = subst (λ (v : WorldState). is_setup v.phase ≡ false) (sym is) behind
behind_each (from ∷ more) name w y parts behind = behind_each more name parts.0 y parts.1.1 (behind_in_part from name w parts.0 parts.1.0 behind)

-- and the world stays built
pub built_each : (names : List SiteName) (name : SiteName) (w y : WorldState) → PushEachInPart names name w y → is_setup w.phase ≡ false → IsBuilt w → IsBuilt y
built_each [] name w y is behind built = subst IsBuilt (sym is) built
built_each (from ∷ more) name w y parts behind built =
    built_each more name parts.0 y parts.1.1 (behind_in_part from name w parts.0 parts.1.0 behind) (built_in_part from name w parts.0 behind built parts.1.0)
