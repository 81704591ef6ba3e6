-- Laws of what was seen: where own turns stand, and that a join keeps each of them.
use Rattle.std.specs.Prelude.{◌≡◌, ℕ, ◌+◌, List, Bool, map, length, slice_get, Some}
use Rattle.std.specs.List.{filter, range_with_len}
use Rattle.site_gate.specs.Seen.{turns_in, own_turns, is_own, joined, Meets}
use Rattle.site_gate.specs.declared.view.Meeting.{Meeting}

-- the places of one's own turns, in rising order
abbrev pub own_places : {U : Type 0} → List (U × Bool) → List ℕ
own_places seen = filter (is_own seen) (range_with_len 0 (length seen))

-- one's own turns are those at these places of the history, each once and in their order
abbrev pub OwnTurnsStand : Type 0 → Type 0
OwnTurnsStand U = (seen : List (U × Bool)) → map (slice_get (turns_in seen)) (own_places seen) ≡ map Some (own_turns seen)

-- who took in a pass that met has as many own turns as both had
abbrev pub JoinsKeepOwnTurns : Type 0 → Type 0
JoinsKeepOwnTurns U = (history : List U) (m : Meeting U) → Meets history m
    → length (own_turns (joined m.one m.other)) ≡ length (own_turns m.one) + length (own_turns m.other)
