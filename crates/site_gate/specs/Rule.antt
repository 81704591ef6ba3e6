-- The rule of the gate's table. Word 0 is the number of turns that were made, word 1 is the next ticket.
use Rattle.std.specs.Prelude.{◌≡◌, ℕ, ◌+◌, ◌^◌, ◌<◌, ◌≤◌, ◌⊎◌, List, [], ◌∷◌, true, length, sum_by, Some, None}
use Rattle.std.specs.List.{AllByRecursion}
use Rattle.std.specs.declared.option.Option.{Option}
use mathlib.Core.Option.{Option as Maybe, some, none}
use lib.ListN.{get_elem?}
use Rattle.atomic_table.specs.Table.{State}
use Rattle.site_gate.specs.Seen.{Begins, turns_in, is_own, Meets}
use Rattle.site_gate.specs.declared.view.View.{View}
use Rattle.site_gate.specs.declared.view.Stage.{Stage}
use Rattle.site_gate.specs.declared.view.Stage.TheVariants.{Outside, Waiting, Inside}

-- a view that a join has spent tells no opening
abbrev pub Agrees : {O : Type 0} → O → Option O → Type 0
Agrees opening None = Unit {0}
Agrees opening (Some told) = told ≡ opening

-- no two of the views claim one number
abbrev pub Exclusive : {V : Type 0} → (V → ℕ → Type 0) → List V → Type 0
Exclusive {V} Claims views = (i j n : ℕ) (v w : V) → get_elem? views i ≡ some v → get_elem? views j ≡ some w → Claims v n → Claims w n → i ≡ j

-- the ticket is of this number
abbrev pub HasTicket : Stage → ℕ → Type 0
HasTicket Outside n = ⊥
HasTicket (Waiting ticket) n = ticket ≡ n
HasTicket (Inside ticket) n = ticket ≡ n

-- how many tickets a view has
abbrev pub ticket_count : Stage → ℕ
ticket_count Outside = 0
ticket_count (Waiting ticket) = 1
ticket_count (Inside ticket) = 1

-- a ticket is of a turn to come, and who is inside has seen the whole history
abbrev pub FitsStage : {U : Type 0} → List U → ℕ → List U → Stage → Type 0
FitsStage history next seen Outside = Unit {0}
FitsStage history next seen (Waiting ticket) = (length history ≤ ticket) × (ticket < next)
FitsStage history next seen (Inside ticket) = (ticket ≡ length history) × (ticket < next) × (seen ≡ history)

module _ {U O : Type 0} where
  -- the view has this ticket
  abbrev pub Holds : View U O → ℕ → Type 0
  Holds v n = HasTicket v.stage n

  -- the turn at this place is the view's own
  abbrev pub Owns : View U O → ℕ → Type 0
  Owns v place = is_own v.seen place ≡ true

  -- how many tickets were drawn and aren't spent
  abbrev pub tickets_out : List (View U O) → ℕ
  tickets_out views = sum_by (λ v. ticket_count v.stage) views

  -- what a view tells is so
  pub record Fits (history : List U) (start : O) (next : ℕ) (v : View U O) : Type 0 where
    pub opening : Agrees start v.opening
    pub seen : Begins (turns_in v.seen) history
    pub joins : AllByRecursion (Meets (turns_in v.seen)) v.joins
    pub stage : FitsStage history next (turns_in v.seen) v.stage

module _ {T U O : Type 0} (history_of : T → List U) (opening_of : T → O) where
  -- the value is in its slot
  abbrev pub IsHome : List U → O → List (Maybe (Option T)) → Type 0
  IsHome history start homes = (x : T) × (homes ≡ some (Some x) ∷ []) × (history_of x ≡ history) × (opening_of x ≡ start)

  -- the slot is out, with a seat that is inside
  abbrev pub IsOut : List (View U O) → List (Maybe (Option T)) → Type 0
  IsOut views homes = (homes ≡ none ∷ []) × (j ticket : ℕ) × (v : View U O) × (get_elem? views j ≡ some v) × (v.stage ≡ Inside ticket)

  -- the rule, with the history, the opening and the next ticket of which the words, the slot and the views tell
  pub record IsKept (s : State (Option T) (View U O)) : Type 0 where
    pub history : List U
    pub start : O
    pub next : ℕ
    pub words : s.words ≡ length history ∷ next ∷ []
    pub order : length history ≤ next
    pub few : next < 2 ^ 64
    pub counted : next ≡ length history + tickets_out s.views
    pub place : IsHome history start s.homes ⊎ IsOut s.views s.homes
    pub each : (j : ℕ) (v : View U O) → get_elem? s.views j ≡ some v → Fits history start next v
    pub tickets : Exclusive Holds s.views
    pub places : Exclusive Owns s.views
