-- What the steps on the gate's table tell.
use Rattle.std.specs.Prelude.{◌≡◌, ℕ, ◌≢◌, List, [], ◌∷◌, length, Some}
use Rattle.std.specs.List.{AllByRecursion}
use Rattle.std.specs.declared.option.Option.{Option}
use Rattle.atomic_table.specs.Table.{Me, Step}
use Rattle.site_gate.specs.Seen.{Begins, turns_in, seen_to}
use Rattle.site_gate.specs.Seen as seen
use Rattle.site_gate.specs.Views.{with_ticket, with_value, with_turn}
use Rattle.site_gate.specs.Rule.{Agrees}
use Rattle.site_gate.specs.declared.view.View.{View}
use Rattle.site_gate.specs.declared.view.Stage.TheVariants.{Waiting, Inside}

module _ {T U O : Type 0} (history_of : T → List U) (opening_of : T → O) where
  -- a seat's view and what it holds
  abbrev pub Mine : Type 0
  Mine = Me (Option T) (View U O)

  -- where the number found is the one wanted, it is the seat's ticket
  abbrev pub Draws : Step (Option T) → Mine → ℕ → Mine → Type 0
  Draws st old found new = (new.1 ≡ old.1)
      × (found ≡ st.first → new.0 ≡ with_ticket old.0 found)
      × (found ≢ st.first → new.0 ≡ old.0)

  -- at its ticket's number the seat has the value, and has seen its history
  abbrev pub Looks : Step (Option T) → Mine → ℕ → Mine → Type 0
  Looks st old found new = (ticket : ℕ) → old.0.stage ≡ Waiting ticket →
      (found ≡ ticket → (x : T) × (new.1 ≡ (0, Some x) ∷ [])
      × (new.0 ≡ with_value old.0 ticket (history_of x))
      × Agrees (opening_of x) old.0.opening × Begins (turns_in old.0.seen) (history_of x) × (length (history_of x) ≡ ticket))
      × (found ≢ ticket → (new.0 ≡ old.0) × (new.1 ≡ old.1))

  -- the value is back in its slot, and its last turn is one's own
  abbrev pub Raises : Step (Option T) → Mine → ℕ → Mine → Type 0
  Raises st old found new = (ticket : ℕ) (x : T) → old.0.stage ≡ Inside ticket → old.1 ≡ (0, Some x) ∷ [] →
      (new.1 ≡ []) × (new.0 ≡ with_turn old.0 (history_of x))

  -- nothing changes, and what joined passes had seen begins what is seen now
  abbrev pub Meets : Step (Option T) → Mine → ℕ → Mine → Type 0
  Meets st old found new = (new.0 ≡ old.0) × (new.1 ≡ old.1) × AllByRecursion (seen.Meets (turns_in old.0.seen)) old.0.joins
