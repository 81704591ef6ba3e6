-- Pasts that reach as far as others, and arrivals whose pasts rise.
use Rattle.std.specs.Prelude.{◌≡◌, ℕ, ◌≤◌, ◌&&◌, Bool, true, nat_le, List, [], ◌∷◌}
use Rattle.std.specs.List.{list_any, list_all, AllByRecursion}
use Rattle.rep_calls.specs.declared.past.PastEntry.{PastEntry}
use Rattle.rep_values.specs.SiteNames.{is_same_site}
use Rattle.site_state.specs.declared.arrival.Arrival.{Arrival}

-- a past has what was seen of a master, or more
abbrev pub reaches : List PastEntry → PastEntry → Bool
reaches past seen = list_any (λ (p : PastEntry). is_same_site p.origin seen.origin && nat_le seen.number p.number) past

-- all of a past is within another one
abbrev pub is_within : List PastEntry → List PastEntry → Bool
is_within past later = list_all (reaches later) past

-- of the arrivals from a position on, the past of each one is within the past of each later one
abbrev pub PastsRise : ℕ → List Arrival → Type 0
PastsRise from [] = Unit {0}
PastsRise from (a ∷ arrived) = (from ≤ a.position → AllByRecursion (λ (b : Arrival). is_within a.past b.past ≡ true) arrived) × PastsRise from arrived
