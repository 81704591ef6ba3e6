-- Lists as collections without order, and that a join is one for each collection.
use Rattle.std.specs.Prelude.{◌≡◌, ◌⊎◌, ℕ, List, [], ◌∷◌}
use Rattle.std.specs.declared.cmp.Ordering.TheVariants.{Equal}
use Rattle.rep_schema.specs.declared.schema.Schema.{Schema}
use Rattle.rep_schema.specs.Tables.{Cells}
use Rattle.schema_rules.specs.declared.forms.Form.{Form}
use Rattle.schema_rules.specs.declared.forms.Form.TheVariants as form
use Rattle.rep_calls.specs.declared.call.Part.{Part}
use Rattle.resolve_methods.specs.SequenceLaws.{one_group_number}
use Rattle.rep_laws.specs.GroupForms.{wins}
use Rattle.convergence_laws.specs.Joins.{candidates_of, IsJoin}

-- the same elements, each as often
pub data IsReordered {X : Type 0} : List X → List X → Type 0 where
  None : IsReordered [] []
  Skip : (x : X) {xs ys : List X} → IsReordered xs ys → IsReordered (x ∷ xs) (x ∷ ys)
  Swap : (x y : X) (xs : List X) → IsReordered (x ∷ y ∷ xs) (y ∷ x ∷ xs)
  Then : {xs ys zs : List X} → IsReordered xs ys → IsReordered ys zs → IsReordered xs zs

-- x is an element
abbrev pub Among : {X : Type 0} → X → List X → Type 0
Among x [] = ⊥
Among x (y ∷ ys) = (y ≡ x) ⊎ Among x ys

-- of two of these values neither wins only where they are the same
abbrev pub TellApart : Schema → List ℕ → Form → List Cells → Type 0
TellApart schema columns f candidates = (one other : Cells) → Among one candidates → Among other candidates → wins schema columns f one other ≡ Equal → one ≡ other

-- the same number of a sum; else the same values
abbrev pub AreOneJoin : Form → Cells → Cells → Type 0
AreOneJoin form.Sum now other = one_group_number now ≡ one_group_number other
AreOneJoin (form.Greatest column) now other = now ≡ other
AreOneJoin (form.Least column) now other = now ≡ other
AreOneJoin (form.Latest stamp site) now other = now ≡ other

-- whatever the order in which parts are applied to a group's values, one join comes of it
abbrev pub JoinsAreOne : Type 0
JoinsAreOne = (schema : Schema) (columns : List ℕ) (f : Form) (first now other : Cells) (parts reordered : List Part) → IsReordered parts reordered
    → TellApart schema columns f (candidates_of first parts) → IsJoin schema columns f first parts now → IsJoin schema columns f first reordered other
    → AreOneJoin f now other
