-- Which rows some snapshots show by parents: orders of the customers of zone 1, and those of which the part is of zone 1.
use Rattle.std.proofs.Common.{◌≡◌, ℕ, List, [], ◌∷◌, pos, true, false, Some, None, refl}
use Rattle.std.specs.Prelude.{codes}
use Rattle.rep_values.specs.declared.value.Value.{Value}
use Rattle.rep_values.specs.declared.value.Value.TheVariants.{Num}
use Rattle.rep_schema.specs.declared.schema.Schema.{Schema}
use Rattle.rep_schema.specs.declared.schema.TableEntry.{TableEntry}
use Rattle.rep_schema.specs.declared.schema.Column.{Column}
use Rattle.rep_schema.specs.declared.schema.Kind.TheVariants.{Number}
use Rattle.rep_schema.specs.Tables.{Cells, Rows, rows_of}
use Rattle.snapshot_query.specs.declared.query.Query.{Query}
use Rattle.snapshot_query.specs.declared.query.Op.TheVariants.{Eq}
use Rattle.snapshot_query.specs.declared.parent.Parent.{Parent}
use Rattle.snapshot_query.specs.declared.snapshot.Snapshot.{Snapshot}
use Rattle.snapshot_query.specs.Queries.{query_rows}
use Rattle.snapshot_query.specs.Parents.{parent_key, has_parent, picks, rule_rows}

abbrev n : ℕ → Value
n number = Num (pos number)

abbrev key_column : List ℕ → Column
key_column name = record { name = name; kind = Number; key = true }

abbrev number_column : List ℕ → Column
number_column name = record { name = name; kind = Number; key = false }

abbrev table_of : List ℕ → List Column → TableEntry
table_of name columns = record { name = record { 0 = name }; columns = columns; groups = []; key_methods = []; constraints = []; checks = []; convergent = false }

-- customers, their orders, and parts, whose key is a shop and a customer
abbrev schema : Schema
schema = record {
  sites = [];
  tables = table_of (codes "CUST") (key_column (codes "ID") ∷ number_column (codes "ZONE") ∷ [])
      ∷ table_of (codes "ORD") (key_column (codes "NO") ∷ number_column (codes "CUST") ∷ number_column (codes "SHOP") ∷ [])
      ∷ table_of (codes "PART") (key_column (codes "SHOP") ∷ number_column (codes "ZONE") ∷ key_column (codes "CUST") ∷ []) ∷ [];
  priorities = [];
}

-- customer 7 is of zone 1, customer 8 of zone 2, and a customer 9 isn't there
abbrev customers : Rows
customers = (n 7 ∷ n 1 ∷ []) ∷ (n 8 ∷ n 2 ∷ []) ∷ []

abbrev order : ℕ → ℕ → ℕ → Cells
order number customer shop = n number ∷ n customer ∷ n shop ∷ []

abbrev orders : Rows
orders = order 1 7 5 ∷ order 2 8 5 ∷ order 3 9 5 ∷ order 4 5 7 ∷ []

-- the part of shop 5 and customer 7
abbrev parts : Rows
parts = (n 5 ∷ n 1 ∷ n 7 ∷ []) ∷ []

abbrev tables : List Rows
tables = customers ∷ orders ∷ parts ∷ []

-- the second value is 1
abbrev of_zone_1 : Query
of_zone_1 = record { tests = record { column = 1; op = Eq; value = n 1 } ∷ [] }

abbrev customer : Parent
customer = record { table = 0; columns = 1 ∷ []; tests = of_zone_1 }

abbrev by_customer : Snapshot
by_customer = record { table = 1; query = record { tests = [] }; parent = Some customer; mark = 0; touched = [] }

customer_passes : picks schema tables by_customer (order 1 7 5) ≡ true
customer_passes = refl

customer_fails : picks schema tables by_customer (order 2 8 5) ≡ false
customer_fails = refl

customer_is_absent : picks schema tables by_customer (order 3 9 5) ≡ false
customer_is_absent = refl

orders_of_zone_1 : rule_rows schema tables by_customer ≡ order 1 7 5 ∷ []
orders_of_zone_1 = refl

-- a part's key is its shop and its customer, and in an order the customer stands first
abbrev part : Parent
part = record { table = 2; columns = 2 ∷ 1 ∷ []; tests = of_zone_1 }

key_of_two : parent_key part (order 1 7 5) ≡ n 5 ∷ n 7 ∷ []
key_of_two = refl

shop_before_customer : has_parent schema tables part (order 1 7 5) ≡ true
shop_before_customer = refl

customer_before_shop : has_parent schema tables part (order 4 5 7) ≡ false
customer_before_shop = refl

-- without a parent a snapshot shows what its query picks
no_parent : (table mark : ℕ) (query : Query) (touched : List Cells) → rule_rows schema tables (record { table = table; query = query; parent = None; mark = mark; touched = touched }) ≡ query_rows query (rows_of tables table)
no_parent table mark query touched = refl
