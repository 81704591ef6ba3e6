-- Why something is refused: its steps in order, the first of which that refuses it counts.
use Rattle.std.specs.Prelude.{ℕ, nat_le, Bool, cond, not, List, [], ◌∷◌, Option, Some, None, is_some, is_none}
use Rattle.rep_values.specs.declared.refusal.Refusal.{Refusal}
use Rattle.rep_values.specs.declared.refusal.Refusal.TheVariants as refusal
use Rattle.rep_values.specs.declared.refusal.Limit.{Limit}

-- refused for this where the test holds
abbrev pub refused : Bool → Refusal → Option Refusal
refused test why = cond test (Some why) None

-- the first of two refusals
abbrev pub or_then : Option Refusal → Option Refusal → Option Refusal
or_then None following = following
or_then (Some why) following = Some why

-- the first step that refuses
abbrev pub first_refusal : List (Option Refusal) → Option Refusal
first_refusal [] = None
first_refusal (step ∷ steps) = or_then step (first_refusal steps)

-- what a name stands for has to be there
abbrev pub unknown : {X : Type 0} → Option X → Option Refusal
unknown found = refused (is_none found) refusal.UnknownName

-- what a name stands for must not be there yet
abbrev pub taken : {X : Type 0} → Option X → Option Refusal
taken found = refused (is_some found) refusal.NameTaken

-- what follows where something of this name is there; else the name is unknown
abbrev pub known : {X : Type 0} → Option X → (X → List (Option Refusal)) → List (Option Refusal)
known None steps = Some refusal.UnknownName ∷ []
known (Some found) steps = steps found

-- there are so many, and that is the most
abbrev pub full : ℕ → ℕ → Limit → Option Refusal
full most count what = refused (nat_le most count) (refusal.LimitReached what)

-- there would be too many
abbrev pub too_many : ℕ → ℕ → Limit → Option Refusal
too_many most count what = refused (not (nat_le count most)) (refusal.LimitReached what)
