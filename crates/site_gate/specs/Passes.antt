-- What contracts see of passes and turns at a gate.
use Rattle.std.specs.Prelude.{◌≡◌, ℕ, List, Bool}
use Rattle.std.specs.declared.option.Option.{Option}
use Rattle.site_gate.specs.Seen.{turns_in, own_turns, is_own}
use Rattle.site_gate.specs.declared.turns.Turns.{Ghosts}
use Rattle.site_gate.specs.declared.gate.SiteGate.{SiteGate}
use Rattle.site_gate.specs.declared.pass.Pass.{Pass}
use Rattle.site_gate.specs.declared.pass.Turn.{Turn}
use Rattle.site_gate.specs.declared.view.View.{View}
use Rattle.site_gate.specs.declared.view.Meeting.{Meeting}

module _ {T U O : Type 0} {g : Ghosts T U O} where
  -- the gate gave the pass
  abbrev pub IsPassOf : SiteGate T U O → Pass T U O g → Type 0
  IsPassOf gate pass = pass.seat.table_id ≡ gate.table.shared.table_id

  -- the turn is at the gate
  abbrev pub IsTurnOf : SiteGate T U O → Turn T U O g → Type 0
  IsTurnOf gate turn = turn.seat.table_id ≡ gate.table.shared.table_id

  -- all that a pass knows
  abbrev pub view_of : Pass T U O g → View U O
  view_of pass = pass.seat.me.0

  -- how the value was before its first turn
  abbrev pub opening_of : Pass T U O g → Option O
  opening_of pass = (view_of pass).opening

  -- the turns that were seen, each with whether it is the pass's own
  abbrev pub seen_of : Pass T U O g → List (U × Bool)
  seen_of pass = (view_of pass).seen

  -- the history that was seen
  abbrev pub seen_by : Pass T U O g → List U
  seen_by pass = turns_in (view_of pass).seen

  -- the own turns of the pass, in their order
  abbrev pub own_of : Pass T U O g → List U
  own_of pass = own_turns (view_of pass).seen

  -- whether the turn at the place of the history is the pass's own
  abbrev pub owns : Pass T U O g → ℕ → Bool
  owns pass place = is_own (view_of pass).seen place

  -- for each join that the pass comes from, what the two had seen
  abbrev pub joins_of : Pass T U O g → List (Meeting U)
  joins_of pass = (view_of pass).joins

  -- the same of a turn, from its beginning to its end
  abbrev pub view_at : Turn T U O g → View U O
  view_at turn = turn.seat.me.0

  abbrev pub opening_at : Turn T U O g → Option O
  opening_at turn = (view_at turn).opening

  -- the value's history when the turn began
  abbrev pub seen_at : Turn T U O g → List U
  seen_at turn = turns_in (view_at turn).seen

  -- the own turns, without this one
  abbrev pub own_at : Turn T U O g → List U
  own_at turn = own_turns (view_at turn).seen

  abbrev pub owns_at : Turn T U O g → ℕ → Bool
  owns_at turn place = is_own (view_at turn).seen place

  abbrev pub joins_at : Turn T U O g → List (Meeting U)
  joins_at turn = (view_at turn).joins
