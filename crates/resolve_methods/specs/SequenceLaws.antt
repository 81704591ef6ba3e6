-- Laws of what the method sequences of convergent groups decide.
use Rattle.std.specs.Prelude.{◌≡◌, ◌↔◌, ◌⊎◌, ℕ, ℤ, pos, ◌+ℤ◌, ◌-ℤ◌, ◌<ℤ◌, int_lt, true, cond, List, [], ◌∷◌, Option, Some, None, slice_get}
use Rattle.std.specs.List.{AllByRecursion}
use Rattle.std.specs.List.Sorted.{IsPermutation}
use Rattle.rep_values.specs.declared.value.Value.TheVariants.{Num}
use Rattle.rep_schema.specs.declared.schema.Schema.{Schema}
use Rattle.rep_schema.specs.declared.schema.Method.{Method}
use Rattle.rep_schema.specs.declared.schema.Method.TheVariants as method
use Rattle.rep_schema.specs.Tables.{Cells, columns_of, RowFits}
use Rattle.rep_schema.specs.Fitting.{is_in_range}
use Rattle.rep_schema.specs.Groups.{group_columns_of, group_values, with_group_values}
use Rattle.rep_schema.specs.Kinds.{takes_numbers, has_kind, has_place}
use Rattle.rep_schema.specs.Shape.{HasShape}
use Rattle.rep_calls.specs.declared.call.Part.{Part}
use Rattle.resolve_methods.specs.PartValues.{HasGroupValues}
use Rattle.resolve_methods.specs.declared.decision.Decision.{Decision}
use Rattle.resolve_methods.specs.declared.decision.Decision.TheVariants.{TakeNew, TakeNumber, Keep, Undecided}
use Rattle.resolve_methods.specs.Ranks.{number_of, site_level_of}
use Rattle.resolve_methods.specs.Decide.{only, taken_in_range, methods_of, decision_of}

-- the methods of a group whose amounts are added
abbrev pub sum_methods : List Method
sum_methods = method.Additive ∷ []

-- the methods of a group whose greatest number stays
abbrev pub greatest_methods : ℕ → List Method
greatest_methods column = method.Maximum column ∷ method.Discard ∷ []

-- the methods of a group whose least number stays
abbrev pub least_methods : ℕ → List Method
least_methods column = method.Minimum column ∷ method.Discard ∷ []

-- the methods of a group whose latest values stay, by a stamp and a site
abbrev pub newest_methods : ℕ → ℕ → List Method
newest_methods stamp site = method.Latest stamp ∷ method.SitePriority site ∷ []

-- a group has one column, which takes numbers, and this sequence of methods
pub record IsOfOneNumber (schema : Schema) (table group column : ℕ) (sequence : List Method) : Type 0 where
  pub columns : group_columns_of schema table group ≡ column ∷ []
  pub numbers : has_kind takes_numbers (columns_of schema table) column ≡ true
  pub methods : methods_of schema table group ≡ sequence

-- a number, or 0 where there is none
abbrev pub number_or_zero : Option ℤ → ℤ
number_or_zero None = pos 0
number_or_zero (Some n) = n

-- the one number of a group's values
abbrev pub one_group_number : Cells → ℤ
one_group_number values = number_or_zero (number_of (only values))

-- the number that a row has in a group
abbrev pub group_number : Schema → ℕ → ℕ → Cells → ℤ
group_number schema table group row = one_group_number (group_values schema table group row)

-- by how much a part moves its group's number
abbrev pub move_of : Part → ℤ
move_of part = one_group_number part.new -ℤ one_group_number part.old

-- by how much parts move it together
abbrev pub sum_of_moves : List Part → ℤ
sum_of_moves [] = pos 0
sum_of_moves (part ∷ parts) = move_of part +ℤ sum_of_moves parts

-- parts of a group lead from a row to another one: of each in its turn the methods take a number
abbrev pub TakenInTurn : Schema → ℕ → ℕ → List Part → Cells → Cells → Type 0
TakenInTurn schema table group [] row last = row ≡ last
TakenInTurn schema table group (part ∷ parts) row last = (n : ℤ) × (part.group ≡ group)
    × (decision_of schema table part row ≡ TakeNumber n)
    × TakenInTurn schema table group parts (with_group_values schema table group (Num n ∷ []) row) last

-- each sum of a number and what the parts move lies within ±10^15
abbrev pub StayInRange : ℤ → List Part → Type 0
StayInRange number [] = Unit {0}
StayInRange number (part ∷ parts) = (is_in_range (number +ℤ move_of part) ≡ true) × StayInRange (number +ℤ move_of part) parts

-- additive adds what the part moves to the row's number, where the sum stays in range
abbrev pub MoveIsAdded : Type 0
MoveIsAdded = (schema : Schema) (table column : ℕ) (part : Part) (row : Cells)
    → IsOfOneNumber schema table part.group column sum_methods
    → HasGroupValues schema table part → RowFits (columns_of schema table) row
    → decision_of schema table part row ≡ taken_in_range (group_number schema table part.group row +ℤ move_of part)

-- where the sums stay in range, additive takes all parts of a group in turn
abbrev pub MovesAreTaken : Type 0
MovesAreTaken = (schema : Schema) (table group column : ℕ) (parts : List Part) (row : Cells)
    → IsOfOneNumber schema table group column sum_methods
    → AllByRecursion (λ part. (part.group ≡ group) × HasGroupValues schema table part) parts
    → RowFits (columns_of schema table) row → StayInRange (group_number schema table group row) parts
    → (last : Cells) × TakenInTurn schema table group parts row last

-- by additive parts leave the row's number and all that they move
abbrev pub MovesAddUp : Type 0
MovesAddUp = (schema : Schema) (table group column : ℕ) (parts : List Part) (row last : Cells)
    → IsOfOneNumber schema table group column sum_methods
    → RowFits (columns_of schema table) row → TakenInTurn schema table group parts row last
    → group_number schema table group last ≡ group_number schema table group row +ℤ sum_of_moves parts

-- in every order they leave the same number
abbrev pub MovesAddInAnyOrder : Type 0
MovesAddInAnyOrder = (schema : Schema) (table group column : ℕ) (parts turned : List Part) (row last other : Cells)
    → IsOfOneNumber schema table group column sum_methods
    → RowFits (columns_of schema table) row → IsPermutation parts turned
    → TakenInTurn schema table group parts row last → TakenInTurn schema table group turned row other
    → group_number schema table group last ≡ group_number schema table group other

-- maximum and discard take the new number where it is greater, else the current one stays
abbrev pub GreatestStays : Type 0
GreatestStays = (schema : Schema) (table column : ℕ) (part : Part) (row : Cells)
    → IsOfOneNumber schema table part.group column (greatest_methods column)
    → HasGroupValues schema table part → RowFits (columns_of schema table) row
    → decision_of schema table part row ≡ cond (int_lt (group_number schema table part.group row) (one_group_number part.new)) TakeNew Keep

-- minimum and discard take the new number where it is lesser, else the current one stays
abbrev pub LeastStays : Type 0
LeastStays = (schema : Schema) (table column : ℕ) (part : Part) (row : Cells)
    → IsOfOneNumber schema table part.group column (least_methods column)
    → HasGroupValues schema table part → RowFits (columns_of schema table) row
    → decision_of schema table part row ≡ cond (int_lt (one_group_number part.new) (group_number schema table part.group row)) TakeNew Keep

-- a stamp, and the level of a site that may have none
pub record Rank : Type 0 where
  pub stamp : ℤ
  pub level : Option ℤ

-- the rank that a row has by its stamp and its site
abbrev pub rank_in : Schema → ℕ → ℕ → Cells → Rank
rank_in schema stamp site row = record {
  stamp = number_or_zero (number_of (slice_get row stamp));
  level = site_level_of schema (slice_get row site);
}

-- the rank that a row has with a part's new values
abbrev pub new_rank : Schema → ℕ → ℕ → ℕ → Part → Cells → Rank
new_rank schema table stamp site part row = rank_in schema stamp site (with_group_values schema table part.group part.new row)

-- both levels are there, and the first is lower
abbrev pub IsLowerLevel : Option ℤ → Option ℤ → Type 0
IsLowerLevel None b = ⊥
IsLowerLevel (Some a) None = ⊥
IsLowerLevel (Some a) (Some b) = a <ℤ b

-- the levels are the same, or one of them is missing
abbrev pub IsSameLevel : Option ℤ → Option ℤ → Type 0
IsSameLevel None b = Unit {0}
IsSameLevel (Some a) None = Unit {0}
IsSameLevel (Some a) (Some b) = a ≡ b

-- an earlier stamp, or the same stamp and a lower level
abbrev pub IsLowerRank : Rank → Rank → Type 0
IsLowerRank a b = (a.stamp <ℤ b.stamp) ⊎ ((a.stamp ≡ b.stamp) × IsLowerLevel a.level b.level)

-- a decision goes by the ranks of the new and of the current values
pub record GoesByRank (decision : Decision) (new current : Rank) : Type 0 where
  pub takes : (decision ≡ TakeNew) ↔ IsLowerRank current new
  pub keeps : (decision ≡ Keep) ↔ IsLowerRank new current
  pub undecided : (decision ≡ Undecided) ↔ ((new.stamp ≡ current.stamp) × IsSameLevel new.level current.level)

-- latest and site-priority leave the values of the greater rank, and are undecided only where no rank is lower
abbrev pub GreaterRankStays : Type 0
GreaterRankStays = (schema : Schema) (table stamp site : ℕ) (part : Part) (row : Cells)
    → HasShape schema → has_kind takes_numbers (columns_of schema table) stamp ≡ true
    → methods_of schema table part.group ≡ newest_methods stamp site
    → HasGroupValues schema table part → RowFits (columns_of schema table) row
    → GoesByRank (decision_of schema table part row) (new_rank schema table stamp site part row) (rank_in schema stamp site row)

-- a part that brings a stamp and a site of its own has the same rank over every row
abbrev pub NewRankIsThePartsOwn : Type 0
NewRankIsThePartsOwn = (schema : Schema) (table stamp site : ℕ) (part : Part) (row other : Cells) → HasShape schema
    → has_place (group_columns_of schema table part.group) stamp ≡ true
    → has_place (group_columns_of schema table part.group) site ≡ true
    → HasGroupValues schema table part → RowFits (columns_of schema table) row → RowFits (columns_of schema table) other
    → new_rank schema table stamp site part row ≡ new_rank schema table stamp site part other
