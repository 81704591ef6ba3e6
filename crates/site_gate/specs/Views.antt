-- What seats at the gate know, at first and after a split and a join.
use Rattle.std.specs.Prelude.{◌≡◌, ℕ, List, [], ◌∷◌, ◌++◌, Bool, true, false, Some, None}
use Rattle.std.specs.declared.option.Option.{Option}
use Rattle.atomic_table.specs.declared.shared.Seat.{Seat}
use Rattle.site_gate.specs.Seen.{turns_in, marked, seen_to, joined, meeting}
use Rattle.site_gate.specs.declared.view.View.{View}
use Rattle.site_gate.specs.declared.view.Meeting.{Meeting}
use Rattle.site_gate.specs.declared.view.Stage.{Stage}
use Rattle.site_gate.specs.declared.view.Stage.TheVariants.{Outside, Waiting, Inside}

module _ {U O : Type 0} where
  -- a view of these parts
  abbrev pub view : Option O → List (U × Bool) → Stage → List (Meeting U) → View U O
  view opening seen stage joins = record { opening = opening; seen = seen; stage = stage; joins = joins }

  -- nothing was seen but the opening
  abbrev pub first_view : O → View U O
  first_view opening = view (Some opening) [] Outside []

  -- a ticket was drawn
  abbrev pub with_ticket : View U O → ℕ → View U O
  with_ticket v ticket = view v.opening v.seen (Waiting ticket) v.joins

  -- the value was taken out at the ticket's turn, and its history is seen
  abbrev pub with_value : View U O → ℕ → List U → View U O
  with_value v ticket history = view v.opening (seen_to false v.seen history) (Inside ticket) v.joins

  -- the value was put back, and its last turn is one's own
  abbrev pub with_turn : View U O → List U → View U O
  with_turn v history = view v.opening (seen_to true v.seen history) Outside v.joins

  -- as much was seen, and nothing is one's own
  abbrev pub split_view : View U O → View U O
  split_view v = view v.opening (marked false (turns_in v.seen)) Outside []

  -- what both have seen
  abbrev pub joined_view : View U O → View U O → View U O
  joined_view v w = view v.opening (joined v.seen w.seen) Outside (meeting v.seen w.seen ∷ v.joins ++ w.joins)

  -- what is left of a view that another took in
  abbrev pub spent_view : View U O
  spent_view = view None [] Outside []

-- the slot is held, and the value was taken out of it
abbrev pub empty_handed : {T : Type 0} → List (ℕ × Option T)
empty_handed = (0, None) ∷ []

-- a step changes neither the table nor the number of its seat
abbrev pub IsSameSeat : {S V : Type 0} → Seat S V → Seat S V → Type 0
IsSameSeat old new = (new.table_id ≡ old.table_id) × (new.id ≡ old.id)
