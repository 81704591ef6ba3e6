-- What goes from one site to another, one at a time: positions that are sent, and packets on the way.
use Rattle.std.proofs.Common.{◌≡◌, ℕ, zero, suc, ◌+◌, ◌<◌, List, [], ◌∷◌, ◌++◌, length, drop, Bool, true, false, Some, None, refl, sym, ap, ◌∙◌, arith, add-zero}
use Rattle.std.specs.Prelude.{Option, is_some}
use Rattle.std.specs.List.{range_with_len}
use Rattle.rep_values.specs.declared.name.SiteName.{SiteName}
use Rattle.packet_code.specs.declared.packet.Packet.{Packet}
use Rattle.net_plan.specs.Directions.{Direction, at_direction, on_way_between, first_of, first_between, delivered}
use Rattle.world_laws.proofs.Calling.{on_way_between-delivered, first_between-first}

-- one position more
pub range_with_len-more : (a n : ℕ) → range_with_len a (suc n) ≡ range_with_len a n ++ (a + n) ∷ []
range_with_len-more a zero = rw (add-zero a) refl
range_with_len-more a (suc n) =
    let same : a + 1 + n ≡ a + suc n = omega arith in
    rw (← same) (ap (λ (ns : List ℕ). a ∷ ns) (range_with_len-more (a + 1) n))

first_of-None : (packets : List Packet) → is_some (first_of packets) ≡ false → packets ≡ []
first_of-None [] none = refl
first_of-None (packet ∷ packets) none = absurd (cc none)

drop-shorter : (packets : List Packet) → is_some (first_of packets) ≡ true → length (drop 1 packets) < length packets
drop-shorter [] some = absurd (cc some)
drop-shorter (packet ∷ packets) some = omega arith

module _ (from to : SiteName) (net : List Direction) where
  -- where no packet is delivered next none is on the way
  pub none_on_way : is_some (first_between from to net) ≡ false → on_way_between from to net ≡ []
  none_on_way none = first_of-None (on_way_between from to net) (ap (λ (o : Option Packet). is_some o) (sym (first_between-first from to net)) ∙ none)

  -- one that is delivered is no longer on the way
  pub fewer_on_way : is_some (first_between from to net) ≡ true → length (on_way_between from to (at_direction from to delivered net)) < length (on_way_between from to net)
  fewer_on_way some =
      let first : is_some (first_of (on_way_between from to net)) ≡ true = ap (λ (o : Option Packet). is_some o) (sym (first_between-first from to net)) ∙ some in
      rw (on_way_between-delivered from to net) (drop-shorter (on_way_between from to net) first)
