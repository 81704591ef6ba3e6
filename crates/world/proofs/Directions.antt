-- Directions stay, whatever happens on them; and what becomes of one of several.
use Rattle.std.proofs.Common.{◌≡◌, ◌≢◌, ℕ, List, [], ◌∷◌, drop, Bool, true, false, cond, Some, None, refl, sym, ◌∙◌}
use Rattle.std.specs.Prelude.{◌&&◌, Option, option_map, is_some}
use Rattle.rep_values.specs.declared.name.SiteName.{SiteName}
use Rattle.rep_values.specs.SiteNames.{is_same_site}
use Rattle.deferred_queue.proofs.Sites.{is_same_site-true}
use Rattle.packet_code.specs.declared.packet.Packet.{Packet}
use Rattle.net_plan.specs.declared.fate.Fate.{Fate}
use Rattle.net_plan.specs.declared.fate.Fate.TheVariants.{Pass, Lose, Twice, Late}
use Rattle.net_plan.specs.Directions.{Direction, HasDirection, is_between, direction_of, at_direction, is_up, next_fate, with_packet, with_sent, released, delivered}
use Rattle.site_events.specs.Cluster.{site_of}
use Rattle.site_events.specs.Events.{packet_from, mark_from}
use Rattle.world_state.specs.World.{WorldState}
use Rattle.world_state.specs.Procs.{Procs, proc_of}
use Rattle.world_state.specs.CallPushes.{calls_release, calls_from, calls_send, calls_send_each, calls_positions, calls_send_above, calls_deliver, calls_until_quiet, calls_mark_from, calls_send_mark, calls_return_mark, calls_pushed_in, calls_push}
use Rattle.world_state.specs.Pushes.{world_release, sent_on, world_send, world_send_each, positions_above, world_send_above, emptied, world_deliver, world_until_quiet, world_send_mark, world_deliver_mark, world_return_mark, pushed_in, world_push}

-- a change leaves it open between which sites a direction is
abbrev pub KeepsEnds : (Direction → Direction) → Type 0
KeepsEnds change = (from to : SiteName) (d : Direction) → is_between from to (change d) ≡ is_between from to d

-- there is a direction from one site to another where there was one
abbrev pub Stay : List Direction → List Direction → Type 0
Stay old new = (from to : SiteName) → is_some (direction_of from to new) ≡ is_some (direction_of from to old)

pub stay-at : (a b : SiteName) (change : Direction → Direction) → KeepsEnds change → (net : List Direction) → Stay net (at_direction a b change net)
stay-at a b change keeps [] from to = refl
stay-at a b change keeps (d ∷ ds) from to = go (is_between a b d) (stay-at a b change keeps ds from to)
  where
    same : (t : Bool) → is_some (direction_of from to (at_direction a b change ds)) ≡ is_some (direction_of from to ds)
        → is_some (cond t (Some d) (direction_of from to (at_direction a b change ds))) ≡ is_some (cond t (Some d) (direction_of from to ds))
    same true later = refl
    same false later = later

    changed : (t : Bool) → is_some (cond t (Some (change d)) (direction_of from to ds)) ≡ is_some (cond t (Some d) (direction_of from to ds))
    changed true = refl
    changed false = refl

    go : (t : Bool) → is_some (direction_of from to (at_direction a b change ds)) ≡ is_some (direction_of from to ds)
        → is_some (direction_of from to (cond t (change d ∷ ds) (d ∷ at_direction a b change ds))) ≡ is_some (cond (is_between from to d) (Some d) (direction_of from to ds))
    go true later = rw (keeps from to d) (changed (is_between from to d))
    go false later = same (is_between from to d) later

-- a direction that was there is there
pub stays : (old new : List Direction) → Stay old new → (from to : SiteName) → HasDirection old from to → HasDirection new from to
stays old new stay from to has = go (direction_of from to old) (direction_of from to new) has (stay from to)
  where
    go : (o n : Option Direction) → o ≢ None → is_some n ≡ is_some o → n ≢ None
    go None n has same = λ e. has refl
    go (Some d) (Some e) has same = λ is. cc
    go (Some d) None has same = absurd (cc same)

ends-with_packet : (fate : Fate) (packet : Packet) → KeepsEnds (with_packet fate packet)
ends-with_packet Pass packet from to d = refl
ends-with_packet Lose packet from to d = refl
ends-with_packet Twice packet from to d = refl
ends-with_packet Late packet from to d = refl

-- a packet that is sent is such a change
ends-with_sent : (packet : Packet) → KeepsEnds (with_sent packet)
ends-with_sent packet from to d = ends-with_packet (next_fate d.fates) packet from to d

stay-sent_on : (packet : Option Packet) (from to : SiteName) (net : List Direction) → Stay net (sent_on packet from to net)
stay-sent_on None from to net a b = refl
stay-sent_on (Some packet) from to net a b = stay-at from to (with_sent packet) (ends-with_sent packet) net a b

stay-send_each : (from to : SiteName) (positions : List ℕ) (w : WorldState) → Stay w.net (world_send_each from to positions w).net
stay-send_each from to [] w a b = refl
stay-send_each from to (position ∷ more) w a b =
    stay-send_each from to more (world_send from to position w) a b ∙ stay-sent_on (packet_from to position (site_of from w.sites)) from to w.net a b

stay-deliver : (from to : SiteName) (w : WorldState) → Stay w.net (world_deliver from to w).net
stay-deliver from to w = stay-at from to emptied (λ a b d. refl) w.net

stay-release : (from to : SiteName) (w : WorldState) → Stay w.net (world_release from to w).net
stay-release from to w = stay-at from to released (λ a b d. refl) w.net

stay-pushed_in : (from to : SiteName) (count : Option ℕ) (w : WorldState) → Stay w.net (pushed_in from to count w).net
stay-pushed_in from to count w a b =
    let released_world : WorldState = world_release from to w in
    stay-deliver from to (world_send_above from to count released_world) a b
    ∙ stay-send_each from to (positions_above from to count released_world) released_world a b
    ∙ stay-release from to w a b

stay-answer : (from to : SiteName) (w : WorldState) → Stay w.net (world_return_mark from to w).net
stay-answer from to w a b = go (is_up from to w.net)
  where
    go : (t : Bool) → is_some (direction_of a b (cond t (world_deliver_mark from to w) w).net) ≡ is_some (direction_of a b w.net)
    go true = stay-deliver from to (world_send_mark from to (world_release from to w)) a b
        ∙ stay-sent_on (mark_from to (site_of from (world_release from to w).sites)) from to (world_release from to w).net a b
        ∙ stay-release from to w a b
    go false = refl

-- a push leaves each direction there
pub stay-push : (from to : SiteName) (count : Option ℕ) (w : WorldState) → Stay w.net (world_push from to count w).net
stay-push from to count w a b = stay-answer to from (world_until_quiet from to (pushed_in from to count w)) a b ∙ stay-pushed_in from to count w a b

-- ---- calls

stay-calls_send_each : (from to : SiteName) (positions : List ℕ) (p : Procs) → Stay p.net (calls_send_each from to positions p).net
stay-calls_send_each from to [] p a b = refl
stay-calls_send_each from to (position ∷ more) p a b =
    stay-calls_send_each from to more (calls_send from to position p) a b ∙ stay-sent_on (calls_from to position (proc_of from p.sites)) from to p.net a b

stay-calls_deliver : (from to : SiteName) (p : Procs) → Stay p.net (calls_deliver from to p).net
stay-calls_deliver from to p = stay-at from to emptied (λ a b d. refl) p.net

stay-calls_release : (from to : SiteName) (p : Procs) → Stay p.net (calls_release from to p).net
stay-calls_release from to p = stay-at from to released (λ a b d. refl) p.net

stay-calls_pushed_in : (from to : SiteName) (p : Procs) → Stay p.net (calls_pushed_in from to p).net
stay-calls_pushed_in from to p a b =
    let released_calls : Procs = calls_release from to p in
    stay-calls_deliver from to (calls_send_above from to released_calls) a b
    ∙ stay-calls_send_each from to (calls_positions from to released_calls) released_calls a b
    ∙ stay-calls_release from to p a b

stay-calls_answer : (up : Bool) (from to : SiteName) (p : Procs) → Stay p.net (calls_return_mark up from to p).net
stay-calls_answer true from to p a b =
    stay-calls_deliver from to (calls_send_mark from to (calls_release from to p)) a b
    ∙ stay-sent_on (calls_mark_from to (proc_of from (calls_release from to p).sites)) from to (calls_release from to p).net a b
    ∙ stay-calls_release from to p a b
stay-calls_answer false from to p a b = refl

-- a push of calls leaves each direction there
pub stay-push_calls : (up : Bool) (from to : SiteName) (p : Procs) → Stay p.net (calls_push up from to p).net
stay-push_calls up from to p a b = stay-calls_answer up to from (calls_until_quiet from to (calls_pushed_in from to p)) a b ∙ stay-calls_pushed_in from to p a b

-- ---- one direction of several

ends_of : (from to : SiteName) (d : Direction) → is_between from to d ≡ true → (d.from ≡ from) × (d.to ≡ to)
ends_of from to d is = go (is_same_site d.from from) (is_same_site d.to to) refl refl is
  where
    go : (b c : Bool) → is_same_site d.from from ≡ b → is_same_site d.to to ≡ c → (b && c) ≡ true → (d.from ≡ from) × (d.to ≡ to)
    go true true one other is = (is_same_site-true d.from from one, is_same_site-true d.to to other)
    go true false one other is = absurd (cc is)
    go false c one other is = absurd (cc is)

-- the direction from one site to another, where one direction changed: it, or another one as it was
pub direction_of-at : (P : Option Direction → Type 0) (from to a b : SiteName) (change : Direction → Direction) → KeepsEnds change → (net : List Direction)
    → (a ≡ from → b ≡ to → P (option_map change (direction_of a b net))) → P (direction_of a b net) → P (direction_of a b (at_direction from to change net))
direction_of-at P from to a b change keeps [] own off = off
direction_of-at P from to a b change keeps (d ∷ ds) own off = go (direction_of-at P from to a b change keeps ds) (is_between from to d) refl (is_between a b d) refl own off
  where
    Rest : Type 0
    Rest = (a ≡ from → b ≡ to → P (option_map change (direction_of a b ds))) → P (direction_of a b ds) → P (direction_of a b (at_direction from to change ds))

    changed : (c : Bool) → is_between from to d ≡ true → is_between a b d ≡ c
        → (a ≡ from → b ≡ to → P (option_map change (cond c (Some d) (direction_of a b ds)))) → P (cond c (Some d) (direction_of a b ds))
        → P (cond (is_between a b (change d)) (Some (change d)) (direction_of a b ds))
    changed true is_one is_other own off =
        let one = ends_of from to d is_one in
        let other = ends_of a b d is_other in
        rw (keeps a b d, is_other) (own (sym other.0 ∙ one.0) (sym other.1 ∙ one.1))
    changed false is_one is_other own off = rw (keeps a b d, is_other) off

    unchanged : (c : Bool) → Rest → (a ≡ from → b ≡ to → P (option_map change (cond c (Some d) (direction_of a b ds)))) → P (cond c (Some d) (direction_of a b ds))
        → P (cond c (Some d) (direction_of a b (at_direction from to change ds)))
    unchanged true rest own off = off
    unchanged false rest own off = rest own off

    go : Rest → (t : Bool) → is_between from to d ≡ t → (c : Bool) → is_between a b d ≡ c
        → (a ≡ from → b ≡ to → P (option_map change (cond (is_between a b d) (Some d) (direction_of a b ds)))) → P (cond (is_between a b d) (Some d) (direction_of a b ds))
        → P (direction_of a b (cond t (change d ∷ ds) (d ∷ at_direction from to change ds)))
    go rest true is_one c is_other own off = changed c is_one is_other (λ e f. rw (← is_other) (own e f)) (rw (← is_other) off)
    go rest false is_one c is_other own off = rw is_other (unchanged c rest (λ e f. rw (← is_other) (own e f)) (rw (← is_other) off))

-- a change leaves the ends of a direction and whether it is up, and uses up so many fates
pub record KeepsLink (used : ℕ) (change : Direction → Direction) : Type 0 where
  pub ends : KeepsEnds change
  pub up : (d : Direction) → (change d).up ≡ d.up
  pub fates : (d : Direction) → (change d).fates ≡ drop used d.fates

pub released_keeps_link : KeepsLink 0 released
released_keeps_link = record { ends = λ a b d. refl; up = λ d. refl; fates = λ d. refl }

pub delivered_keeps_link : KeepsLink 0 delivered
delivered_keeps_link = record { ends = λ a b d. refl; up = λ d. refl; fates = λ d. refl }

-- a packet that is sent uses up one
pub sent_keeps_link : (packet : Packet) → KeepsLink 1 (with_sent packet)
sent_keeps_link packet = record { ends = ends-with_sent packet; up = λ d. go_up (next_fate d.fates) d; fates = λ d. go_fates (next_fate d.fates) d }
  where
    go_up : (fate : Fate) (d : Direction) → (with_packet fate packet d).up ≡ d.up
    go_up Pass d = refl
    go_up Lose d = refl
    go_up Twice d = refl
    go_up Late d = refl

    go_fates : (fate : Fate) (d : Direction) → drop 1 (with_packet fate packet d).fates ≡ drop 1 d.fates
    go_fates Pass d = refl
    go_fates Lose d = refl
    go_fates Twice d = refl
    go_fates Late d = refl
