-- What is taken in, one packet at a time.
use Rattle.std.proofs.Common.{◌≡◌, ℕ, ◌<◌, List, [], ◌∷◌, length, drop, true, false, Some, None, refl, sym, ap, ◌∙◌, subst}
use Rattle.std.specs.Prelude.{Option, option_map, is_some}
use Rattle.rep_values.specs.declared.name.SiteName.{SiteName}
use Rattle.packet_code.specs.declared.packet.Packet.{Packet}
use Rattle.net_plan.specs.Directions.{Direction, at_direction, on_way_between, first_of, first_between, delivered}
use Rattle.proc_state.specs.State.{ProcState}
use Rattle.proc_state.specs.Packets.{proc_accept}
use Rattle.proc_state.proofs.Names.{accept_names}
use Rattle.world_state.specs.World.{WorldState, first_world}
use Rattle.world_state.specs.Procs.{Procs, proc_of, at_proc}
use Rattle.world_state.specs.Pushes.{emptied}
use Rattle.world_state.specs.CallPushes.{calls_release, calls_send, calls_send_each, calls_positions, calls_taken_each, calls_taken_one, calls_deliver_one, calls_deliver, calls_pushed_in}
use Rattle.world_laws.proofs.Calling.{on_way_between-delivered, first_between-first, deliver_one_then_all, deliver_none}
use Rattle.world.proofs.Going.{none_on_way, fewer_on_way}
use Rattle.world.proofs.ProcSites.{at_proc-split}

-- nothing was on the way
pub calls_deliver_one-none : (from to : SiteName) (p : Procs) → None ≡ first_between from to p.net → record p { net = at_direction from to delivered p.net } ≡ calls_deliver_one from to p
calls_deliver_one-none from to p none = ap (λ (o : Option Packet). record p { sites = calls_taken_one to o p.sites; net = at_direction from to delivered p.net }) none

-- a packet was
pub calls_deliver_one-some : (from to : SiteName) (p : Procs) (packet : Packet) (sites : List ProcState) → Some packet ≡ first_between from to p.net → sites ≡ at_proc to (proc_accept packet) p.sites
    → record p { sites = sites; net = at_direction from to delivered p.net } ≡ calls_deliver_one from to p
calls_deliver_one-some from to p packet sites some taken =
    ap (λ (xs : List ProcState). record p { sites = xs; net = at_direction from to delivered p.net }) taken
    ∙ ap (λ (o : Option Packet). record p { sites = calls_taken_one to o p.sites; net = at_direction from to delivered p.net }) some

-- ---- all of them

-- a world that has this net and nothing else
abbrev net_alone : List Direction → WorldState
net_alone net = record first_world { net = net }

emptied_after : (from to : SiteName) (net : List Direction) → at_direction from to emptied (at_direction from to delivered net) ≡ at_direction from to emptied net
emptied_after from to net = ap (λ (w : WorldState). w.net) (deliver_one_then_all from to (net_alone net))

emptied_empty : (from to : SiteName) (net : List Direction) → on_way_between from to net ≡ [] → at_direction from to emptied net ≡ net
emptied_empty from to net none = ap (λ (w : WorldState). w.net) (deliver_none from to (net_alone net) none)

taken_each-first : (to : SiteName) (packets : List Packet) (sites : List ProcState) → calls_taken_each to (drop 1 packets) (calls_taken_one to (first_of packets) sites) ≡ calls_taken_each to packets sites
taken_each-first to [] sites = refl
taken_each-first to (packet ∷ packets) sites = refl

-- one that is taken in leaves what all of them lead to
take_then_rest : (from to : SiteName) (p : Procs) → calls_deliver from to (calls_deliver_one from to p) ≡ calls_deliver from to p
take_then_rest from to p =
    rw (on_way_between-delivered from to p.net, emptied_after from to p.net, first_between-first from to p.net, taken_each-first to (on_way_between from to p.net) p.sites) refl

rest_none : (from to : SiteName) (p : Procs) → on_way_between from to p.net ≡ [] → calls_deliver from to p ≡ p
rest_none from to p none = rw (none, emptied_empty from to p.net none) refl

-- once there was no packet to take in, all are
pub calls_deliver-end : (from to : SiteName) (p : Procs) → is_some (first_between from to p.net) ≡ false → calls_deliver_one from to p ≡ calls_deliver from to p
calls_deliver-end from to p none = sym (rest_none from to (calls_deliver_one from to p) empty) ∙ take_then_rest from to p
  where
    empty : on_way_between from to (at_direction from to delivered p.net) ≡ []
    empty = on_way_between-delivered from to p.net ∙ ap (λ (packets : List Packet). drop 1 packets) (none_on_way from to p.net none)

-- a packet that is taken in is no longer on the way
pub calls_way-shorter : (from to : SiteName) (p q : Procs) → q ≡ calls_deliver_one from to p → is_some (first_between from to p.net) ≡ true
    → length (on_way_between from to q.net) < length (on_way_between from to p.net)
calls_way-shorter from to p q is some =
    subst (λ (r : Procs). length (on_way_between from to r.net) < length (on_way_between from to p.net)) (sym is) (fewer_on_way from to p.net some)

-- what remains to be taken in is the same
pub calls_still-to_deliver : (from to : SiteName) (p q r : Procs) → q ≡ calls_deliver_one from to p → calls_deliver from to p ≡ r → calls_deliver from to q ≡ r
calls_still-to_deliver from to p q r is same = ap (λ (s : Procs). calls_deliver from to s) is ∙ take_then_rest from to p ∙ same

-- ---- sites that are there stay

some_changed : (change : ProcState → ProcState) (o : Option ProcState) → is_some o ≡ true → is_some (option_map change o) ≡ true
some_changed change None some = some
some_changed change (Some x) some = refl

taken_there : (to name : SiteName) (packets : List Packet) (sites : List ProcState) → is_some (proc_of name sites) ≡ true → is_some (proc_of name (calls_taken_each to packets sites)) ≡ true
taken_there to name [] sites there = there
taken_there to name (packet ∷ packets) sites there = taken_there to name packets (at_proc to (proc_accept packet) sites)
    (at_proc-split (λ (o : Option ProcState). is_some o ≡ true) to name (proc_accept packet) sites (λ x. (accept_names packet x).me) (λ same. some_changed (proc_accept packet) (proc_of name sites) there) there)

sent_sites : (from to : SiteName) (positions : List ℕ) (p : Procs) → (calls_send_each from to positions p).sites ≡ p.sites
sent_sites from to [] p = refl
sent_sites from to (position ∷ more) p = sent_sites from to more (calls_send from to position p)

-- once all has come to the receiver, a site is there that was
pub calls_pushed_there : (from to name : SiteName) (p : Procs) → is_some (proc_of name p.sites) ≡ true → is_some (proc_of name (calls_pushed_in from to p).sites) ≡ true
calls_pushed_there from to name p there =
    let released : Procs = calls_release from to p in
    let sent : Procs = calls_send_each from to (calls_positions from to released) released in
    taken_there to name (on_way_between from to sent.net) sent.sites
    (subst (λ (sites : List ProcState). is_some (proc_of name sites) ≡ true) (sym (sent_sites from to (calls_positions from to released) released)) there)
