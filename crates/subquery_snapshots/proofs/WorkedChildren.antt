-- The children of a parent, one after the other.
use Rattle.std.proofs.Common.{◌≡◌, ℕ, List, [], ◌∷◌, pos, true, false, Some, None, refl}
use Rattle.std.specs.Prelude.{codes}
use Rattle.rep_values.specs.declared.value.Value.TheVariants.{Num}
use Rattle.rep_schema.specs.declared.schema.Column.{Column}
use Rattle.rep_schema.specs.declared.schema.Kind.TheVariants.{Number}
use Rattle.rep_schema.specs.Tables.{Cells, Rows}
use Rattle.subquery_snapshots.specs.Children.{children, child_count, rows_above, child_above}

-- a number as the key, and a shop and a customer, by which rows are children
abbrev columns : List Column
columns = record { name = codes "NO"; kind = Number; key = true } ∷ record { name = codes "SHOP"; kind = Number; key = false } ∷ record { name = codes "CUST"; kind = Number; key = false } ∷ []

abbrev row : ℕ → ℕ → ℕ → Cells
row number shop customer = Num (pos number) ∷ Num (pos shop) ∷ Num (pos customer) ∷ []

abbrev one : ℕ → Cells
one number = Num (pos number) ∷ []

abbrev two : ℕ → ℕ → Cells
two first second = Num (pos first) ∷ Num (pos second) ∷ []

abbrev rows : Rows
rows = row 1 5 7 ∷ row 2 5 8 ∷ row 4 6 7 ∷ row 6 5 7 ∷ []

of_customer_7 : children (2 ∷ []) (one 7) rows ≡ row 1 5 7 ∷ row 4 6 7 ∷ row 6 5 7 ∷ []
of_customer_7 = refl

-- by two columns, the customer first
of_both : children (2 ∷ 1 ∷ []) (two 7 5) rows ≡ row 1 5 7 ∷ row 6 5 7 ∷ []
of_both = refl

the_first : child_above columns (2 ∷ []) (one 7) None rows ≡ Some (row 1 5 7)
the_first = refl

-- a child isn't above its own key
the_next : child_above columns (2 ∷ []) (one 7) (Some (one 1)) rows ≡ Some (row 4 6 7)
the_next = refl

-- the key needn't be a row's
above_no_row : child_above columns (2 ∷ []) (one 7) (Some (one 3)) rows ≡ Some (row 4 6 7)
above_no_row = refl

no_more : child_above columns (2 ∷ []) (one 7) (Some (one 6)) rows ≡ None
no_more = refl

no_child : child_above columns (2 ∷ []) (one 9) None rows ≡ None
no_child = refl

above_two : rows_above columns (Some (one 2)) rows ≡ row 4 6 7 ∷ row 6 5 7 ∷ []
above_two = refl

-- of three customers, one without a child
four_children : child_count (2 ∷ []) (one 7 ∷ one 8 ∷ one 9 ∷ []) rows ≡ 4
four_children = refl
