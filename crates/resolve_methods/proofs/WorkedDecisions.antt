-- What the methods decide, worked out by hand.
use Rattle.std.proofs.Common.{◌≡◌, List, [], ◌∷◌, true, false, refl, pos, negsuc, map, arith}
use Rattle.std.specs.Prelude.{ℕ, ℤ, codes, Some, None}
use Rattle.rep_values.specs.declared.value.Value.TheVariants.{Num, Words}
use Rattle.rep_schema.specs.declared.schema.Schema.{Schema}
use Rattle.rep_schema.specs.declared.schema.SiteEntry.{SiteEntry}
use Rattle.rep_schema.specs.declared.schema.TableEntry.{TableEntry}
use Rattle.rep_schema.specs.declared.schema.Column.{Column}
use Rattle.rep_schema.specs.declared.schema.PriorityGroup.{PriorityGroup}
use Rattle.rep_schema.specs.declared.schema.Kind.TheVariants as kind
use Rattle.rep_schema.specs.declared.schema.Method.{Method}
use Rattle.rep_schema.specs.declared.schema.Method.TheVariants as method
use Rattle.rep_schema.specs.Tables.{Cells}
use Rattle.rep_schema.specs.Shape.{HasLevelShape}
use Rattle.rep_schema.specs.Groups.{group_columns_of}
use Rattle.rep_calls.specs.declared.call.Part.{Part}
use Rattle.resolve_methods.specs.declared.decision.Decision.{Decision}
use Rattle.resolve_methods.specs.declared.decision.Decision.TheVariants.{TakeNew, TakeNumber, Keep, Undecided, Range}
use Rattle.resolve_methods.specs.Decide.{decided_by, decision_of}
use Rattle.resolve_methods.specs.SequenceLaws.{sum_methods, IsOfOneNumber}

-- the columns ID (the key), A, RANK, SITE and Q
abbrev columns : List Column
columns =
    record { name = codes "ID"; kind = kind.Number; key = true }
    ∷ record { name = codes "A"; kind = kind.Number; key = false }
    ∷ record { name = codes "RANK"; kind = kind.Words; key = false }
    ∷ record { name = codes "SITE"; kind = kind.Site; key = false }
    ∷ record { name = codes "Q"; kind = kind.Number; key = false }
    ∷ []

-- the group g of A, RANK and SITE, and q of Q, with these methods
abbrev table_t : List Method → List Method → TableEntry
table_t of_g of_q = record {
  name = record { 0 = codes "T" };
  columns = columns;
  groups = record { name = codes "g"; columns = 1 ∷ 2 ∷ 3 ∷ []; methods = of_g } ∷ record { name = codes "q"; columns = 4 ∷ []; methods = of_q } ∷ [];
  key_methods = [];
  constraints = [];
  checks = [];
  convergent = false;
}

-- the ranks low, middle and high have the levels 1, 2 and 3; they stand in rising order of value
abbrev ranks : PriorityGroup
ranks = record {
  name = codes "p";
  levels = record { value = Words (codes "high"); level = pos 3 } ∷ record { value = Words (codes "low"); level = pos 1 } ∷ record { value = Words (codes "middle"); level = pos 2 } ∷ [];
}

ranks_have_shape : HasLevelShape ranks
ranks_have_shape = record { number = omega arith; rising = ((refl, (refl, tt)), ((refl, tt), (tt, tt))) }

-- so do the sites L, M and H; N has none
abbrev sites : List SiteEntry
sites =
    record { name = record { 0 = codes "L" }; master = None; level = Some (pos 1); late = false }
    ∷ record { name = record { 0 = codes "M" }; master = None; level = Some (pos 2); late = false }
    ∷ record { name = record { 0 = codes "H" }; master = None; level = Some (pos 3); late = false }
    ∷ record { name = record { 0 = codes "N" }; master = None; level = None; late = false }
    ∷ []

abbrev schema : List Method → List Method → Schema
schema of_g of_q = record { sites = sites; tables = table_t of_g of_q ∷ []; priorities = ranks ∷ [] }

abbrev row : ℤ → List ℕ → List ℕ → ℤ → Cells
row a rank site q = Num (pos 1) ∷ Num a ∷ Words rank ∷ Words site ∷ Num q ∷ []

-- an update of g to these values, from others
abbrev part_g : ℤ → List ℕ → List ℕ → Part
part_g a rank site = record { group = 0; old = Num (pos 0) ∷ Words (codes "old") ∷ Words (codes "old") ∷ []; new = Num a ∷ Words rank ∷ Words site ∷ [] }

-- an update of Q
abbrev part_q : ℤ → ℤ → Part
part_q old new = record { group = 1; old = Num old ∷ []; new = Num new ∷ [] }

-- what a method decides where A is 5 and becomes 4, 5 and 6
abbrev by_number : Method → List Decision
by_number m = map (λ a. decided_by (schema [] []) 0 (part_g a (codes "low") (codes "L")) (row (pos 5) (codes "low") (codes "L") (pos 0)) m) (pos 4 ∷ pos 5 ∷ pos 6 ∷ [])

latest_keeps_the_greater : by_number (method.Latest 1) ≡ Keep ∷ Undecided ∷ TakeNew ∷ []
unfolding group_columns_of
latest_keeps_the_greater = refl

earliest_keeps_the_lesser : by_number (method.Earliest 1) ≡ TakeNew ∷ Undecided ∷ Keep ∷ []
unfolding group_columns_of
earliest_keeps_the_lesser = refl

maximum_keeps_the_greater : by_number (method.Maximum 1) ≡ Keep ∷ Undecided ∷ TakeNew ∷ []
unfolding group_columns_of
maximum_keeps_the_greater = refl

minimum_keeps_the_lesser : by_number (method.Minimum 1) ≡ TakeNew ∷ Undecided ∷ Keep ∷ []
unfolding group_columns_of
minimum_keeps_the_lesser = refl

overwrite_takes_all : by_number method.Overwrite ≡ TakeNew ∷ TakeNew ∷ TakeNew ∷ []
overwrite_takes_all = refl

discard_takes_none : by_number method.Discard ≡ Keep ∷ Keep ∷ Keep ∷ []
discard_takes_none = refl

-- a column outside the part's group is the current row's, and so is equal
other_columns_are_equal : by_number (method.Latest 4) ≡ Undecided ∷ Undecided ∷ Undecided ∷ []
unfolding group_columns_of
other_columns_are_equal = refl

-- what priority decides where the rank is this one and becomes low, middle, high and one without a level
abbrev by_rank : List ℕ → List Decision
by_rank current = map (λ rank. decided_by (schema [] []) 0 (part_g (pos 4) rank (codes "L")) (row (pos 5) current (codes "L") (pos 0)) (method.Priority 2 0))
    (codes "low" ∷ codes "middle" ∷ codes "high" ∷ codes "other" ∷ [])

priority_takes_the_higher_level : by_rank (codes "middle") ≡ Keep ∷ Undecided ∷ TakeNew ∷ Undecided ∷ []
unfolding group_columns_of
priority_takes_the_higher_level = refl

no_level_is_undecided : by_rank (codes "other") ≡ Undecided ∷ Undecided ∷ Undecided ∷ Undecided ∷ []
unfolding group_columns_of
no_level_is_undecided = refl

-- what site-priority decides where the site is this one and becomes L, M, H, N, which has no level, and none
abbrev by_site : List ℕ → List Decision
by_site current = map (λ site. decided_by (schema [] []) 0 (part_g (pos 4) (codes "low") site) (row (pos 5) (codes "low") current (pos 0)) (method.SitePriority 3))
    (codes "L" ∷ codes "M" ∷ codes "H" ∷ codes "N" ∷ codes "Z" ∷ [])

site_priority_takes_the_higher_level : by_site (codes "M") ≡ Keep ∷ Undecided ∷ TakeNew ∷ Undecided ∷ Undecided ∷ []
unfolding group_columns_of
site_priority_takes_the_higher_level = refl

no_site_level_is_undecided : by_site (codes "N") ≡ Undecided ∷ Undecided ∷ Undecided ∷ Undecided ∷ Undecided ∷ []
unfolding group_columns_of
no_site_level_is_undecided = refl

-- what a method decides of Q, of its old, new and current number
abbrev of_q : Method → ℤ → ℤ → ℤ → Decision
of_q m old new current = decided_by (schema [] []) 0 (part_q old new) (row (pos 5) (codes "low") (codes "L") current) m

-- Q's group has one column of numbers
q_is_of_one_number : IsOfOneNumber (schema [] sum_methods) 0 1 4 sum_methods
unfolding group_columns_of
q_is_of_one_number = record { columns = refl; numbers = refl; methods = refl }

amounts_are_added : of_q method.Additive (pos 10) (pos 7) (pos 20) ≡ TakeNumber (pos 17)
unfolding group_columns_of
amounts_are_added = refl

-- also where the new number is there already
amounts_are_added_again : of_q method.Additive (pos 10) (pos 13) (pos 13) ≡ TakeNumber (pos 16)
unfolding group_columns_of
amounts_are_added_again = refl

greatest_sum_is_taken : of_q method.Additive (pos 0) (pos 1) (pos 999999999999999) ≡ TakeNumber (pos 1000000000000000)
unfolding group_columns_of
greatest_sum_is_taken = refl

greater_sum_is_out_of_range : of_q method.Additive (pos 0) (pos 1) (pos 1000000000000000) ≡ Range
unfolding group_columns_of
greater_sum_is_out_of_range = refl

-- -999,999,999,999,999 less one
least_sum_is_taken : of_q method.Additive (pos 1) (pos 0) (negsuc 999999999999998) ≡ TakeNumber (negsuc 999999999999999)
unfolding group_columns_of
least_sum_is_taken = refl

lesser_sum_is_out_of_range : of_q method.Additive (pos 1) (pos 0) (negsuc 999999999999999) ≡ Range
unfolding group_columns_of
lesser_sum_is_out_of_range = refl

mean_is_rounded_towards_zero : of_q method.Average (pos 9) (negsuc 2) (pos 0) ≡ TakeNumber (negsuc 0)
unfolding group_columns_of
mean_is_rounded_towards_zero = refl

mean_of_3_and_0_is_1 : of_q method.Average (pos 9) (pos 3) (pos 0) ≡ TakeNumber (pos 1)
unfolding group_columns_of
mean_of_3_and_0_is_1 = refl

mean_at_the_upper_edge : of_q method.Average (pos 0) (pos 1000000000000000) (pos 1000000000000000) ≡ TakeNumber (pos 1000000000000000)
unfolding group_columns_of
mean_at_the_upper_edge = refl

mean_at_the_lower_edge : of_q method.Average (pos 0) (negsuc 999999999999999) (negsuc 999999999999999) ≡ TakeNumber (negsuc 999999999999999)
unfolding group_columns_of
mean_at_the_lower_edge = refl

-- a group of three columns has no one number
many_columns_are_undecided : by_number method.Additive ≡ Undecided ∷ Undecided ∷ Undecided ∷ []
unfolding group_columns_of
many_columns_are_undecided = refl

-- latest, and site-priority where it is a tie
abbrev latest_then_site : ℤ → List ℕ → Decision
latest_then_site a site = decision_of (schema (method.Latest 1 ∷ method.SitePriority 3 ∷ []) []) 0 (part_g a (codes "low") site) (row (pos 5) (codes "low") (codes "M") (pos 0))

ties_go_to_the_site : latest_then_site (pos 5) (codes "L") ∷ latest_then_site (pos 5) (codes "H") ∷ latest_then_site (pos 5) (codes "M") ∷ [] ≡ Keep ∷ TakeNew ∷ Undecided ∷ []
unfolding group_columns_of
ties_go_to_the_site = refl

others_go_to_the_greater : latest_then_site (pos 6) (codes "L") ∷ latest_then_site (pos 4) (codes "H") ∷ [] ≡ TakeNew ∷ Keep ∷ []
unfolding group_columns_of
others_go_to_the_greater = refl

range_ends_the_sequence : decision_of (schema [] (method.Additive ∷ method.Overwrite ∷ [])) 0 (part_q (pos 0) (pos 1)) (row (pos 5) (codes "low") (codes "L") (pos 1000000000000000)) ≡ Range
unfolding group_columns_of
range_ends_the_sequence = refl

no_methods_are_undecided : decision_of (schema [] []) 0 (part_q (pos 0) (pos 1)) (row (pos 5) (codes "low") (codes "L") (pos 9)) ≡ Undecided
no_methods_are_undecided = refl

mean_of_minus_7_and_4_is_minus_1 : of_q method.Average (pos 0) (negsuc 6) (pos 4) ≡ TakeNumber (negsuc 0)
unfolding group_columns_of
mean_of_minus_7_and_4_is_minus_1 = refl

greatest_number_and_1_are_out_of_range : of_q method.Additive (pos 0) (pos 1000000000000000) (pos 1) ≡ Range
unfolding group_columns_of
greatest_number_and_1_are_out_of_range = refl

-- priority, and overwrite where the current rank has no level
missing_level_goes_to_the_next : decision_of (schema (method.Priority 2 0 ∷ method.Overwrite ∷ []) []) 0 (part_g (pos 4) (codes "high") (codes "L")) (row (pos 5) (codes "other") (codes "L") (pos 0)) ≡ TakeNew
unfolding group_columns_of
missing_level_goes_to_the_next = refl

tie_of_minimum_alone_is_undecided : decision_of (schema (method.Minimum 1 ∷ []) []) 0 (part_g (pos 5) (codes "low") (codes "L")) (row (pos 5) (codes "low") (codes "L") (pos 0)) ≡ Undecided
unfolding group_columns_of
tie_of_minimum_alone_is_undecided = refl
