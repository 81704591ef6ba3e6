-- Which rows some rules pick and which of them wait: the orders of the customers of zone 1, and people by their chief.
use Rattle.std.proofs.Common.{◌≡◌, ℕ, ◌+◌, ◌*◌, List, [], ◌∷◌, length, pos, true, false, refl}
use Rattle.std.specs.Prelude.{codes}
use Rattle.rep_values.specs.declared.value.Value.{Value}
use Rattle.rep_values.specs.declared.value.Value.TheVariants.{Num}
use Rattle.rep_schema.specs.declared.schema.Schema.{Schema}
use Rattle.rep_schema.specs.declared.schema.TableEntry.{TableEntry}
use Rattle.rep_schema.specs.declared.schema.Column.{Column}
use Rattle.rep_schema.specs.declared.schema.Kind.TheVariants.{Number}
use Rattle.rep_schema.specs.Tables.{Cells, Rows, columns_of}
use Rattle.snapshot_query.specs.declared.query.Query.{Query}
use Rattle.snapshot_query.specs.declared.query.Op.TheVariants.{Eq}
use Rattle.subquery_snapshots.specs.declared.rule.Rule.{Rule}
use Rattle.subquery_snapshots.specs.declared.rule.Rule.TheVariants as rules
use Rattle.subquery_snapshots.specs.Rules.{rows_picked, waits, waiting_rows, waiting_keys}

abbrev n : ℕ → Value
n number = Num (pos number)

abbrev key : ℕ → Cells
key number = n number ∷ []

abbrev column_of : List ℕ → Column
column_of name = record { name = name; kind = Number; key = false }

abbrev table_of : List ℕ → List Column → TableEntry
table_of name columns = record { name = record { 0 = name }; columns = record { name = codes "ID"; kind = Number; key = true } ∷ columns; groups = []; key_methods = []; constraints = []; checks = []; convergent = false }

-- customers with their zones, orders with their customers and amounts, and people with their chiefs and ranks
abbrev schema : Schema
schema = record {
  sites = [];
  tables = table_of (codes "CUST") (column_of (codes "ZONE") ∷ [])
      ∷ table_of (codes "ORD") (column_of (codes "CUST") ∷ column_of (codes "AMT") ∷ [])
      ∷ table_of (codes "MAN") (column_of (codes "CHIEF") ∷ column_of (codes "RANK") ∷ []) ∷ [];
  priorities = [];
}

abbrev two : ℕ → ℕ → Cells
two first second = n first ∷ n second ∷ []

abbrev three : ℕ → ℕ → ℕ → Cells
three first second third = n first ∷ n second ∷ n third ∷ []

-- customer 7 goes to zone 3, and customer 8 comes to zone 1
abbrev customers_before : Rows
customers_before = two 7 1 ∷ two 8 2 ∷ []

abbrev customers : Rows
customers = two 7 3 ∷ two 8 1 ∷ []

abbrev orders : Rows
orders = three 1 7 10 ∷ three 2 8 20 ∷ three 3 9 30 ∷ []

-- 1 is the chief of 2 and of itself, 2 that of 3
abbrev people : Rows
people = three 1 1 9 ∷ three 2 1 5 ∷ three 3 2 1 ∷ []

abbrev where_is : ℕ → ℕ → Query
where_is place number = record { tests = record { column = place; op = Eq; value = n number } ∷ [] }

abbrev by_customer : Rule
by_customer = rules.Parent (record { ref_ptr = (0, 0); now = record { table = 0; columns = 1 ∷ []; tests = where_is 1 1 } })

picked_before : rows_picked schema (customers_before ∷ orders ∷ people ∷ []) 1 by_customer ≡ three 1 7 10 ∷ []
picked_before = refl

picked : rows_picked schema (customers ∷ orders ∷ people ∷ []) 1 by_customer ≡ three 2 8 20 ∷ []
picked = refl

-- an order whose customer isn't there is picked nowhere, also where nothing is asked of the customer
of_any_customer : rows_picked schema (customers ∷ orders ∷ people ∷ []) 1 (rules.Parent (record { ref_ptr = (0, 0); now = record { table = 0; columns = 1 ∷ []; tests = record { tests = [] } } })) ≡ three 1 7 10 ∷ three 2 8 20 ∷ []
of_any_customer = refl

-- both customers changed: their orders wait, the third doesn't
both_wait : waiting_rows by_customer (key 7 ∷ key 8 ∷ []) orders ≡ three 1 7 10 ∷ three 2 8 20 ∷ []
both_wait = refl

their_keys : waiting_keys (columns_of schema 1) by_customer (key 7 ∷ key 8 ∷ []) orders ≡ key 1 ∷ key 2 ∷ []
their_keys = refl

-- no key and two parents are looked up: two look-ups for each, and one for each of their orders
six_look_ups : 2 * length {A = Cells} [] + 2 * length (key 7 ∷ key 8 ∷ []) + length (waiting_rows by_customer (key 7 ∷ key 8 ∷ []) orders) ≡ 6
six_look_ups = refl

-- by a query alone no row waits
abbrev large_orders : Rule
large_orders = rules.Whole (record { ref_ptr = (0, 0); now = where_is 2 30 })

picked_by_query : rows_picked schema (customers ∷ orders ∷ people ∷ []) 1 large_orders ≡ three 3 9 30 ∷ []
picked_by_query = refl

none_waits : waiting_rows large_orders (key 7 ∷ key 8 ∷ []) orders ≡ []
none_waits = refl

-- a table may be its own parent: those whose chief has rank 9, also where that is the row itself
abbrev by_chief : Rule
by_chief = rules.Parent (record { ref_ptr = (0, 0); now = record { table = 2; columns = 1 ∷ []; tests = where_is 2 9 } })

under_nine : rows_picked schema (customers ∷ orders ∷ people ∷ []) 2 by_chief ≡ three 1 1 9 ∷ three 2 1 5 ∷ []
under_nine = refl

waits_for_itself : waits by_chief (key 1 ∷ []) (three 1 1 9) ≡ true
waits_for_itself = refl
