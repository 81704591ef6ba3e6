-- A direction that changes is still there.
use Rattle.std.proofs.Common.{◌≡◌, ◌≢◌, Bool, true, false, List, [], ◌∷◌, refl, subst, sym}
use Rattle.std.specs.Prelude.{Some, None, Result, Ok, Err, cond, OnOk, OnErr}
use Rattle.std.specs.List.{find}
use Rattle.rep_values.specs.declared.name.SiteName.{SiteName}
use Rattle.packet_code.specs.declared.packet.Packet.{Packet}
use Rattle.net_plan.specs.declared.fate.Fate.{Fate}
use Rattle.net_plan.specs.declared.fate.Fate.TheVariants.{Pass, Lose, Twice, Late}
use Rattle.net_plan.specs.Directions.{Direction, is_between, at_direction, HasDirection, with_sent, with_packet, with_fate_taken, next_fate}

-- a change leaves it open between which sites a direction is
abbrev pub KeepsSites : SiteName → SiteName → (Direction → Direction) → Type 0
KeepsSites from to change = (d : Direction) → is_between from to (change d) ≡ is_between from to d

-- then the direction is still there
pub HasDirection-at : (from to : SiteName) (change : Direction → Direction) → KeepsSites from to change → (net : List Direction)
    → HasDirection net from to → HasDirection (at_direction from to change net) from to
HasDirection-at from to change keeps [] has = has
HasDirection-at from to change keeps (d ∷ ds) has = go (is_between from to d) refl has (λ later. HasDirection-at from to change keeps ds later)
  where
    go : (b : Bool) → is_between from to d ≡ b → cond b (Some d) (find (is_between from to) ds) ≢ None
        → (find (is_between from to) ds ≢ None → find (is_between from to) (at_direction from to change ds) ≢ None)
        → find (is_between from to) (cond b (change d ∷ ds) (d ∷ at_direction from to change ds)) ≢ None
    go true is there later = rw (keeps d, is) (λ none. cc)
    go false other there later = rw other (later there)

-- whether or not there was memory for the change
pub HasDirection-tried : {X E : Type 0} (result : Result X E) (from to : SiteName) (change : Direction → Direction) → KeepsSites from to change → (old new : List Direction)
    → OnOk result (new ≡ at_direction from to change old) → OnErr result (new ≡ old) → HasDirection old from to → HasDirection new from to
HasDirection-tried (Ok x) from to change keeps old new is same has = subst (λ (net : List Direction). HasDirection net from to) (sym is) (HasDirection-at from to change keeps old has)
HasDirection-tried (Err e) from to change keeps old new is same has = subst (λ (net : List Direction). HasDirection net from to) (sym same) has

-- a packet that is sent leaves it so
pub KeepsSites-sent : (from to : SiteName) (packet : Packet) → KeepsSites from to (with_sent packet)
KeepsSites-sent from to packet d = go (next_fate d.fates)
  where
    go : (fate : Fate) → is_between from to (with_fate_taken (with_packet fate packet d)) ≡ is_between from to d
    go Pass = refl
    go Lose = refl
    go Twice = refl
    go Late = refl
