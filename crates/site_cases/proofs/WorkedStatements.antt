-- Statements on a table of two rows, worked out by hand.
use Rattle.std.proofs.Common.{◌≡◌, ℕ, List, [], ◌∷◌, Bool, true, false, Ok, Err, refl, pos, negsuc}
use Rattle.std.specs.Prelude.{ℤ, codes, Option, Some, None, Result, replicate}
use Rattle.rep_values.specs.declared.literal.Literal.{Literal}
use Rattle.rep_values.specs.declared.literal.Literal.TheVariants as literal
use Rattle.rep_values.specs.declared.value.Value.TheVariants.{Num, Words}
use Rattle.rep_values.specs.declared.refusal.Refusal.{Refusal}
use Rattle.rep_values.specs.declared.refusal.Refusal.TheVariants as refusal
use Rattle.rep_values.specs.declared.refusal.Limit.TheVariants as limit
use Rattle.rep_schema.specs.declared.schema.Schema.{Schema}
use Rattle.rep_schema.specs.declared.schema.SiteEntry.{SiteEntry}
use Rattle.rep_schema.specs.declared.schema.TableEntry.{TableEntry}
use Rattle.rep_schema.specs.declared.schema.Column.{Column}
use Rattle.rep_schema.specs.declared.schema.Kind.{Kind}
use Rattle.rep_schema.specs.declared.schema.Kind.TheVariants as kind
use Rattle.rep_schema.specs.declared.change.Change.{Change}
use Rattle.rep_schema.specs.Groups.{group_columns_of}
use Rattle.rep_schema.specs.Tables.{Cells, Rows}
use Rattle.rep_calls.specs.declared.statement.Statement.{Statement}
use Rattle.rep_calls.specs.declared.statement.Statement.TheVariants.{Insert, Update, Delete}
use Rattle.rep_calls.specs.declared.statement.Set.{Set}
use Rattle.rep_calls.specs.declared.statement.How.TheVariants.{To, Add}
use Rattle.txn_effects.specs.declared.local.Here.{Here}
use Rattle.txn_effects.specs.declared.local.Stamps.{Stamps}
use Rattle.txn_effects.specs.declared.local.LocalStop.{LocalStop}
use Rattle.txn_effects.specs.Statements.{statement_refusal, statement_changes}
use Rattle.txn_effects.specs.Locals.{BlockEffect, block_beginning, local_effect}

abbrev column : List ℕ → Kind → Bool → Column
column name kind key = record { name = name; kind = kind; key = key }

-- the table T of the columns ID (the key) and Q; Q alone is the constraint u
abbrev table_t : TableEntry
table_t = record {
  name = record { 0 = codes "T" };
  columns = column (codes "ID") kind.Number true ∷ column (codes "Q") kind.Number false ∷ [];
  groups = [];
  key_methods = [];
  constraints = record { name = codes "u"; columns = 1 ∷ []; methods = [] } ∷ [];
  checks = [];
  convergent = false;
}

-- the table H of the columns HOME, a site that is the key, W, a text, and Z, a stamp
abbrev table_h : TableEntry
table_h = record {
  name = record { 0 = codes "H" };
  columns = column (codes "HOME") kind.Site true ∷ column (codes "W") kind.Words false ∷ column (codes "Z") kind.Stamp false ∷ [];
  groups = [];
  key_methods = [];
  constraints = [];
  checks = [];
  convergent = false;
}

-- the table M, which is not held here
abbrev table_m : TableEntry
table_m = record { name = record { 0 = codes "M" }; columns = column (codes "ID") kind.Number true ∷ []; groups = []; key_methods = []; constraints = []; checks = []; convergent = false }

abbrev site_a : SiteEntry
site_a = record { name = record { 0 = codes "A" }; master = None; level = None; late = false }

abbrev schema : Schema
schema = record { sites = site_a ∷ []; tables = table_t ∷ table_h ∷ table_m ∷ []; priorities = [] }

abbrev here : Here
here = record { site = record { 0 = codes "A" }; is_master = true; tables = true ∷ true ∷ false ∷ [] }

abbrev row : ℕ → ℕ → Cells
row id q = Num (pos id) ∷ Num (pos q) ∷ []

abbrev home : List ℕ → ℕ → Cells
home w z = Words (codes "A") ∷ Words w ∷ Num (pos z) ∷ []

-- T has the rows 1 and 2, H the row of A
abbrev tables : List Rows
tables = (row 1 5 ∷ row 2 6 ∷ []) ∷ (home (codes "x") 3 ∷ []) ∷ [] ∷ []

abbrev num : ℕ → Literal
num n = literal.Num (pos n)

abbrev to : List ℕ → ℕ → Set
to name n = record { column = name; how = To (num n) }

abbrev add : List ℕ → ℤ → Set
add name n = record { column = name; how = Add n }

abbrev insert : List Literal → Statement
insert values = Insert (record { 0 = codes "T" }) values

abbrev update : ℕ → List Set → Statement
update id sets = Update (record { 0 = codes "T" }) (num id ∷ []) sets

abbrev delete : ℕ → Statement
delete id = Delete (record { 0 = codes "T" }) (num id ∷ [])

abbrev insert_home : List ℕ → Literal → Statement
insert_home name w = Insert (record { 0 = codes "H" }) (literal.Words name ∷ w ∷ [])

abbrev update_home : List Set → Statement
update_home sets = Update (record { 0 = codes "H" }) (literal.Words (codes "A") ∷ []) sets

abbrev stamps : ℕ → Stamps
stamps last = record { clock = 0; last = last }

abbrev why : Statement → Option Refusal
why statement = statement_refusal schema here (block_beginning (stamps 7) tables) statement

abbrev changes : Statement → List Change
changes statement = statement_changes schema here (block_beginning (stamps 7) tables) statement

abbrev change : Option Cells → Option Cells → List Change
change before after = record { table = 0; before = before; after = after } ∷ []

-- step by step, a statement that would be refused for later reasons too

no_such_table : why (Delete (record { 0 = codes "X" }) []) ≡ Some refusal.UnknownName
unfolding group_columns_of
no_such_table = refl

table_not_held : why (Delete (record { 0 = codes "M" }) []) ≡ Some refusal.UnknownName
unfolding group_columns_of
table_not_held = refl

unknown_column_before_the_shape : why (Update (record { 0 = codes "T" }) [] (to (codes "ID") 1 ∷ to (codes "X") 1 ∷ [])) ≡ Some refusal.UnknownName
unfolding group_columns_of
unknown_column_before_the_shape = refl

too_few_literals : why (insert (num 1 ∷ [])) ≡ Some refusal.RowShape
unfolding group_columns_of
too_few_literals = refl

too_many_literals : why (insert (num 1 ∷ num 2 ∷ num 3 ∷ [])) ≡ Some refusal.RowShape
unfolding group_columns_of
too_many_literals = refl

literal_of_the_wrong_kind : why (insert (num 1 ∷ literal.Words (codes "x") ∷ [])) ≡ Some refusal.RowShape
unfolding group_columns_of
literal_of_the_wrong_kind = refl

key_of_too_many_values : why (Delete (record { 0 = codes "T" }) (num 9 ∷ num 9 ∷ [])) ≡ Some refusal.RowShape
unfolding group_columns_of
key_of_too_many_values = refl

key_of_the_wrong_kind : why (Delete (record { 0 = codes "T" }) (literal.Words (codes "x") ∷ [])) ≡ Some refusal.RowShape
unfolding group_columns_of
key_of_the_wrong_kind = refl

no_declared_site : why (insert_home (codes "B") (literal.Words [])) ≡ Some refusal.RowShape
unfolding group_columns_of
no_declared_site = refl

key_column_is_set : why (update 9 (to (codes "ID") 1 ∷ [])) ≡ Some refusal.RowShape
unfolding group_columns_of
key_column_is_set = refl

column_is_named_twice : why (update 9 (to (codes "Q") 7 ∷ add (codes "Q") (pos 1) ∷ [])) ≡ Some refusal.RowShape
unfolding group_columns_of
column_is_named_twice = refl

value_of_the_wrong_kind : why (update_home (to (codes "W") 1 ∷ [])) ≡ Some refusal.RowShape
unfolding group_columns_of
value_of_the_wrong_kind = refl

amount_on_a_stamp : why (update_home (add (codes "Z") (pos 1) ∷ [])) ≡ Some refusal.RowShape
unfolding group_columns_of
amount_on_a_stamp = refl

key_is_taken_before_the_range : why (insert (num 1 ∷ num 1000000000000001 ∷ [])) ≡ Some refusal.KeyTaken
unfolding group_columns_of
key_is_taken_before_the_range = refl

no_row_to_set : why (update 9 (to (codes "Q") 1000000000000001 ∷ [])) ≡ Some refusal.NoRow
unfolding group_columns_of
no_row_to_set = refl

no_row_to_delete : why (delete 9) ≡ Some refusal.NoRow
unfolding group_columns_of
no_row_to_delete = refl

key_out_of_range_is_no_row : why (delete 1000000000000001) ≡ Some refusal.NoRow
unfolding group_columns_of
key_out_of_range_is_no_row = refl

new_key_out_of_range : why (insert (num 1000000000000001 ∷ num 5 ∷ [])) ≡ Some refusal.ValueRange
unfolding group_columns_of
new_key_out_of_range = refl

sum_out_of_range : why (update 1 (add (codes "Q") (pos 999999999999996) ∷ [])) ≡ Some refusal.ValueRange
unfolding group_columns_of
sum_out_of_range = refl

-- an amount beyond 10^15 is as good as any where the sum is in range
amount_itself_is_not_tested : why (update 1 (add (codes "Q") (negsuc 1000000000000004) ∷ [])) ≡ None
unfolding group_columns_of
amount_itself_is_not_tested = refl

value_is_another_row's : why (insert (num 3 ∷ num 6 ∷ [])) ≡ Some (refusal.UniqueTaken (codes "u"))
unfolding group_columns_of
value_is_another_row's = refl

own_value_is_free : why (update 2 (to (codes "Q") 6 ∷ [])) ≡ None
unfolding group_columns_of
own_value_is_free = refl

-- what a statement that isn't refused does

row_is_inserted : changes (insert (num 3 ∷ num 7 ∷ [])) ≡ change None (Some (row 3 7))
unfolding group_columns_of
row_is_inserted = refl

row_is_set : changes (update 2 (add (codes "Q") (pos 3) ∷ [])) ≡ change (Some (row 2 6)) (Some (row 2 9))
unfolding group_columns_of
row_is_set = refl

row_is_deleted : changes (delete 2) ≡ change (Some (row 2 6)) None
unfolding group_columns_of
row_is_deleted = refl

same_value_is_no_change : changes (update 2 (to (codes "Q") 6 ∷ [])) ≡ []
unfolding group_columns_of
same_value_is_no_change = refl

-- a column of the group with a stamp
stamp_is_filled_in : changes (update_home (record { column = codes "W"; how = To (literal.Words (codes "y")) } ∷ []))
    ≡ record { table = 1; before = Some (home (codes "x") 3); after = Some (home (codes "y") 8) } ∷ []
unfolding group_columns_of
stamp_is_filled_in = refl

-- whole blocks

abbrev block : List Statement → Result BlockEffect LocalStop
block statements = local_effect schema here (stamps 7) statements tables

abbrev done : List Change → Result BlockEffect LocalStop
done changes = Ok (record { changes = changes; stamps = stamps 7 })

abbrev stop : ℕ → Refusal → Result BlockEffect LocalStop
stop number why = Err (record { statement = number; refusal = why })

-- a statement sees what those before it did
statements_run_one_after_the_other : block (insert (num 3 ∷ num 7 ∷ []) ∷ update 3 (add (codes "Q") (pos 1) ∷ []) ∷ delete 3 ∷ [])
    ≡ done (record { table = 0; before = None; after = Some (row 3 7) } ∷ record { table = 0; before = Some (row 3 7); after = Some (row 3 8) } ∷ change (Some (row 3 8)) None)
unfolding group_columns_of
statements_run_one_after_the_other = refl

third_statement_is_refused : block (insert (num 3 ∷ num 7 ∷ []) ∷ delete 1 ∷ insert (num 3 ∷ num 8 ∷ []) ∷ delete 9 ∷ []) ≡ stop 3 refusal.KeyTaken
unfolding group_columns_of
third_statement_is_refused = refl

no_statement_changes_nothing : block [] ≡ done []
unfolding group_columns_of
no_statement_changes_nothing = refl

too_many_statements : block (replicate 1001 (delete 9)) ≡ stop 1001 (refusal.LimitReached limit.Statements)
unfolding group_columns_of
too_many_statements = refl

as_many_as_may_be : block (replicate 1000 (delete 9)) ≡ stop 1 refusal.NoRow
unfolding group_columns_of
as_many_as_may_be = refl
