-- Laws of what the methods decide.
use Rattle.std.specs.Prelude.{◌≡◌, ℕ, ℤ, List, [], ◌∷◌, Option, Some, slice_get}
use Rattle.std.specs.List.{AllByRecursion}
use Rattle.std.specs.List.Sorted.{IsPermutation}
use Rattle.std.specs.Int.{int_max, int_min}
use Rattle.rep_schema.specs.declared.schema.Schema.{Schema}
use Rattle.rep_schema.specs.declared.schema.Method.{Method}
use Rattle.rep_schema.specs.declared.schema.Method.TheVariants as method
use Rattle.rep_schema.specs.Tables.{Cells}
use Rattle.rep_calls.specs.declared.call.Part.{Part}
use Rattle.resolve_methods.specs.declared.decision.Decision.{Decision}
use Rattle.resolve_methods.specs.declared.decision.Decision.TheVariants.{TakeNew, TakeNumber, Keep, Undecided, Range}
use Rattle.resolve_methods.specs.Ranks.{number_of}
use Rattle.resolve_methods.specs.Decide.{new_in, added, averaged, decided_by}

-- a part has a new number for a column in which the row has the current one
pub record AreCompared (schema : Schema) (table : ℕ) (part : Part) (row : Cells) (column : ℕ) (new current : ℤ) : Type 0 where
  pub incoming : number_of (new_in schema table part row column) ≡ Some new
  pub present : number_of (slice_get row column) ≡ Some current

-- the number that a decision leaves, of a new one and the current one
abbrev pub number_after : Decision → ℤ → ℤ → ℤ
number_after TakeNew new current = new
number_after (TakeNumber n) new current = n
number_after Keep new current = current
number_after Undecided new current = current
number_after Range new current = current

-- the methods by which the greater number of a column stays
abbrev pub greater_methods : ℕ → List Method
greater_methods column = method.Latest column ∷ method.Maximum column ∷ []

-- the methods by which the lesser number stays
abbrev pub lesser_methods : ℕ → List Method
lesser_methods column = method.Earliest column ∷ method.Minimum column ∷ []

-- latest and maximum leave the greater number
abbrev pub GreaterNumberStays : Type 0
GreaterNumberStays = (schema : Schema) (table : ℕ) (part : Part) (row : Cells) (column : ℕ) (new current : ℤ) → AreCompared schema table part row column new current
    → AllByRecursion (λ m. number_after (decided_by schema table part row m) new current ≡ int_max new current) (greater_methods column)

-- earliest and minimum leave the lesser number
abbrev pub LesserNumberStays : Type 0
LesserNumberStays = (schema : Schema) (table : ℕ) (part : Part) (row : Cells) (column : ℕ) (new current : ℤ) → AreCompared schema table part row column new current
    → AllByRecursion (λ m. number_after (decided_by schema table part row m) new current ≡ int_min new current) (lesser_methods column)

-- of two rows, each with a part that brings the other's number, both end with the same one
abbrev pub EitherSideEndsTheSame : Type 0
EitherSideEndsTheSame = (schema : Schema) (table : ℕ) (here there : Cells) (to_here to_there : Part) (column : ℕ) (a b : ℤ)
    → AreCompared schema table to_here here column b a → AreCompared schema table to_there there column a b
    → (AllByRecursion (λ m. number_after (decided_by schema table to_here here m) b a ≡ number_after (decided_by schema table to_there there m) a b) (greater_methods column))
    × (AllByRecursion (λ m. number_after (decided_by schema table to_here here m) b a ≡ number_after (decided_by schema table to_there there m) a b) (lesser_methods column))

-- the old and the new number of an amount that is added
pub record Amount : Type 0 where
  pub old : ℤ
  pub new : ℤ

-- amounts that are added one after the other to a number lead to the sum, each time in range
abbrev pub AddUp : List Amount → ℤ → ℤ → Type 0
AddUp [] start sum = start ≡ sum
AddUp (amount ∷ amounts) start sum = (next : ℤ) × (added (Some amount.old) (Some amount.new) (Some start) ≡ TakeNumber next) × AddUp amounts next sum

-- in every order they lead to the same sum
abbrev pub AmountsAddInAnyOrder : Type 0
AmountsAddInAnyOrder = (amounts turned : List Amount) (start sum other : ℤ) → IsPermutation amounts turned → AddUp amounts start sum → AddUp turned start other → sum ≡ other

-- the mean is the same from either side
abbrev pub MeanIsTheSameFromEitherSide : Type 0
MeanIsTheSameFromEitherSide = (a b : Option ℤ) → averaged a b ≡ averaged b a

-- overwrite takes the new values and discard keeps the current ones, whatever they are
abbrev pub OrderIsIgnored : Type 0
OrderIsIgnored = (schema : Schema) (table : ℕ) (part : Part) (row : Cells)
    → (decided_by schema table part row method.Overwrite ≡ TakeNew) × (decided_by schema table part row method.Discard ≡ Keep)
