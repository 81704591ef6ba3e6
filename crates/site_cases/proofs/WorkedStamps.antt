-- Blocks on tables with stamps and on convergent tables, worked out by hand.
use Rattle.std.proofs.Common.{◌≡◌, ℕ, List, [], ◌∷◌, Bool, true, false, Ok, Err, refl, pos, negsuc}
use Rattle.std.specs.Prelude.{ℤ, codes, Some, None, Result}
use Rattle.rep_values.specs.declared.literal.Literal.{Literal}
use Rattle.rep_values.specs.declared.literal.Literal.TheVariants as literal
use Rattle.rep_values.specs.declared.value.Value.TheVariants.{Num, Words}
use Rattle.rep_values.specs.declared.refusal.Refusal.{Refusal}
use Rattle.rep_values.specs.declared.refusal.Refusal.TheVariants as refusal
use Rattle.rep_schema.specs.declared.schema.Schema.{Schema}
use Rattle.rep_schema.specs.declared.schema.SiteEntry.{SiteEntry}
use Rattle.rep_schema.specs.declared.schema.TableEntry.{TableEntry}
use Rattle.rep_schema.specs.declared.schema.Column.{Column}
use Rattle.rep_schema.specs.declared.schema.Group.{Group}
use Rattle.rep_schema.specs.declared.schema.Kind.{Kind}
use Rattle.rep_schema.specs.declared.schema.Kind.TheVariants as kind
use Rattle.rep_schema.specs.declared.schema.Method.{Method}
use Rattle.rep_schema.specs.declared.schema.Method.TheVariants as method
use Rattle.rep_schema.specs.declared.check.Rel.TheVariants.{Ge}
use Rattle.rep_schema.specs.declared.change.Change.{Change}
use Rattle.rep_schema.specs.Groups.{group_columns_of}
use Rattle.rep_schema.specs.Tables.{Cells, Rows}
use Rattle.rep_calls.specs.declared.statement.Statement.{Statement}
use Rattle.rep_calls.specs.declared.statement.Statement.TheVariants.{Insert, Update, Delete}
use Rattle.rep_calls.specs.declared.statement.Set.{Set}
use Rattle.rep_calls.specs.declared.statement.How.TheVariants.{To, Add}
use Rattle.txn_effects.specs.declared.local.Here.{Here}
use Rattle.txn_effects.specs.declared.local.Stamps.{Stamps}
use Rattle.txn_effects.specs.declared.local.LocalStop.{LocalStop}
use Rattle.txn_effects.specs.Locals.{BlockEffect, local_effect}
use Rattle.local_txn.specs.BaseRows.{base_refusal, filled_tables}

abbrev column : List ℕ → Kind → Bool → Column
column name kind key = record { name = name; kind = kind; key = key }

abbrev group : List ℕ → List ℕ → List Method → Group
group name columns methods = record { name = name; columns = columns; methods = methods }

-- the convergent table T: HOME and ID are the key, TOP only grows, NAME has the stamp CHG and the site BY
abbrev table_t : TableEntry
table_t = record {
  name = record { 0 = codes "T" };
  columns = column (codes "HOME") kind.Site true ∷ column (codes "ID") kind.Number true ∷ column (codes "TOP") kind.Number false
      ∷ column (codes "NAME") kind.Words false ∷ column (codes "CHG") kind.Stamp false ∷ column (codes "BY") kind.Site false ∷ [];
  groups = group (codes "t") (2 ∷ []) (method.Maximum 2 ∷ method.Discard ∷ []) ∷ group (codes "n") (3 ∷ 4 ∷ 5 ∷ []) (method.Latest 4 ∷ method.SitePriority 5 ∷ []) ∷ [];
  key_methods = [];
  constraints = [];
  checks = [];
  convergent = true;
}

-- the ordinary table O: Q and AT are a group, and V and AU are the shadow group; Q isn't below 0
abbrev table_o : TableEntry
table_o = record {
  name = record { 0 = codes "O" };
  columns = column (codes "ID") kind.Number true ∷ column (codes "Q") kind.Number false ∷ column (codes "AT") kind.Stamp false
      ∷ column (codes "V") kind.Number false ∷ column (codes "AU") kind.Stamp false ∷ [];
  groups = group (codes "q") (1 ∷ 2 ∷ []) [] ∷ [];
  key_methods = [];
  constraints = record { name = codes "u"; columns = 3 ∷ []; methods = [] } ∷ [];
  checks = record { name = codes "low"; column = 1; rel = Ge; value = Num (pos 0) } ∷ [];
  convergent = false;
}

abbrev site : List ℕ → SiteEntry
site name = record { name = record { 0 = name }; master = None; level = Some (pos 1); late = false }

abbrev schema : Schema
schema = record { sites = site (codes "A") ∷ site (codes "B") ∷ []; tables = table_t ∷ table_o ∷ []; priorities = [] }

abbrev here : Here
here = record { site = record { 0 = codes "B" }; is_master = true; tables = true ∷ true ∷ [] }

abbrev t_row : ℕ → List ℕ → ℕ → List ℕ → Cells
t_row top name stamp by = Words (codes "A") ∷ Num (pos 1) ∷ Num (pos top) ∷ Words name ∷ Num (pos stamp) ∷ Words by ∷ []

abbrev o_row : ℕ → ℕ → ℕ → ℕ → Cells
o_row q at v au = Num (pos 1) ∷ Num (pos q) ∷ Num (pos at) ∷ Num (pos v) ∷ Num (pos au) ∷ []

-- T has the row (A, 1), O the one with key 1
abbrev tables : List Rows
tables = (t_row 5 (codes "x") 0 (codes "A") ∷ []) ∷ (o_row 5 30 6 40 ∷ []) ∷ []

abbrev stamps : ℕ → ℕ → Stamps
stamps clock last = record { clock = clock; last = last }

abbrev num : ℕ → Literal
num n = literal.Num (pos n)

abbrev words : List ℕ → Literal
words text = literal.Words text

abbrev to : List ℕ → Literal → Set
to name value = record { column = name; how = To value }

abbrev add : List ℕ → ℤ → Set
add name amount = record { column = name; how = Add amount }

abbrev in_t : List Set → Statement
in_t sets = Update (record { 0 = codes "T" }) (words (codes "A") ∷ num 1 ∷ []) sets

abbrev in_o : List Set → Statement
in_o sets = Update (record { 0 = codes "O" }) (num 1 ∷ []) sets

abbrev insert_t : List ℕ → ℕ → Statement
insert_t home id = Insert (record { 0 = codes "T" }) (words home ∷ num id ∷ num 5 ∷ words (codes "y") ∷ [])

abbrev delete_t : Statement
delete_t = Delete (record { 0 = codes "T" }) (words (codes "A") ∷ num 1 ∷ [])

abbrev run : ℕ → ℕ → List Statement → Result BlockEffect LocalStop
run clock last statements = local_effect schema here (stamps clock last) statements tables

abbrev refused_at : ℕ → Refusal → Result BlockEffect LocalStop
refused_at statement why = Err (record { statement = statement; refusal = why })

abbrev changed : ℕ → Cells → Cells → Change
changed table before after = record { table = table; before = Some before; after = Some after }

-- an update of NAME fills in the stamp and the site; TOP's group stays
update_fills_its_group : run 0 0 (in_t (to (codes "NAME") (words (codes "b")) ∷ []) ∷ [])
    ≡ Ok (record { changes = changed 0 (t_row 5 (codes "x") 0 (codes "A")) (t_row 5 (codes "b") 1 (codes "B")) ∷ []; stamps = stamps 0 1 })
unfolding group_columns_of
update_fills_its_group = refl

-- the clock, where it is ahead
clock_ahead : run 7 3 (in_t (to (codes "NAME") (words (codes "b")) ∷ []) ∷ [])
    ≡ Ok (record { changes = changed 0 (t_row 5 (codes "x") 0 (codes "A")) (t_row 5 (codes "b") 7 (codes "B")) ∷ []; stamps = stamps 7 7 })
unfolding group_columns_of
clock_ahead = refl

-- the last stamp plus 1, where that is ahead
last_ahead : run 7 9 (in_t (to (codes "NAME") (words (codes "b")) ∷ []) ∷ [])
    ≡ Ok (record { changes = changed 0 (t_row 5 (codes "x") 0 (codes "A")) (t_row 5 (codes "b") 10 (codes "B")) ∷ []; stamps = stamps 7 10 })
unfolding group_columns_of
last_ahead = refl

-- the stamp of the modified group plus 1, where that is ahead; the other group's stamp doesn't count and stays
modified_group_ahead : run 7 9 (in_o (add (codes "Q") (pos 1) ∷ []) ∷ [])
    ≡ Ok (record { changes = changed 1 (o_row 5 30 6 40) (o_row 6 31 6 40) ∷ []; stamps = stamps 7 31 })
unfolding group_columns_of
modified_group_ahead = refl

-- the shadow group has its stamp too
shadow_group_ahead : run 7 9 (in_o (add (codes "V") (pos 1) ∷ []) ∷ [])
    ≡ Ok (record { changes = changed 1 (o_row 5 30 6 40) (o_row 5 30 7 41) ∷ []; stamps = stamps 7 41 })
unfolding group_columns_of
shadow_group_ahead = refl

-- an update of a group without a STAMP column leaves the last stamp
no_stamp_given : run 0 4 (in_t (to (codes "TOP") (num 6) ∷ []) ∷ [])
    ≡ Ok (record { changes = changed 0 (t_row 5 (codes "x") 0 (codes "A")) (t_row 6 (codes "x") 0 (codes "A")) ∷ []; stamps = stamps 0 4 })
unfolding group_columns_of
no_stamp_given = refl

-- an update that changes nothing makes no call and fills nothing in
nothing_changes : run 0 4 (in_t (to (codes "NAME") (words (codes "x")) ∷ []) ∷ []) ≡ Ok (record { changes = []; stamps = stamps 0 4 })
unfolding group_columns_of
nothing_changes = refl

-- an insert is filled in everywhere
insert_filled : run 0 4 (insert_t (codes "B") 2 ∷ [])
    ≡ Ok (record { changes = record { table = 0; before = None; after = Some (Words (codes "B") ∷ Num (pos 2) ∷ Num (pos 5) ∷ Words (codes "y") ∷ Num (pos 5) ∷ Words (codes "B") ∷ []) } ∷ []; stamps = stamps 0 5 })
unfolding group_columns_of
insert_filled = refl

-- each statement of a block has a stamp of its own
stamps_of_a_block : run 0 0 (insert_t (codes "B") 2 ∷ in_t (to (codes "NAME") (words (codes "b")) ∷ []) ∷ [])
    ≡ Ok (record {
      changes = record { table = 0; before = None; after = Some (Words (codes "B") ∷ Num (pos 2) ∷ Num (pos 5) ∷ Words (codes "y") ∷ Num (pos 1) ∷ Words (codes "B") ∷ []) }
          ∷ changed 0 (t_row 5 (codes "x") 0 (codes "A")) (t_row 5 (codes "b") 2 (codes "B")) ∷ [];
      stamps = stamps 0 2;
    })
unfolding group_columns_of
stamps_of_a_block = refl

-- what convergent tables bar, in the order of the steps
delete_barred : run 0 0 (delete_t ∷ []) ≡ refused_at 1 refusal.Barred
unfolding group_columns_of
delete_barred = refl

insert_at_a_snapshot_site_barred : local_effect schema (record here { is_master = false }) (stamps 0 0) (insert_t (codes "A") 2 ∷ []) tables ≡ refused_at 1 refusal.Barred
unfolding group_columns_of
insert_at_a_snapshot_site_barred = refl

key_taken_before_barred : local_effect schema (record here { is_master = false }) (stamps 0 0) (insert_t (codes "A") 1 ∷ []) tables ≡ refused_at 1 refusal.KeyTaken
unfolding group_columns_of
key_taken_before_barred = refl

key_of_another_site : run 0 0 (insert_t (codes "A") 2 ∷ []) ≡ refused_at 1 refusal.KeyNotOwn
unfolding group_columns_of
key_of_another_site = refl

greatest_falls : run 0 0 (in_t (to (codes "TOP") (num 4) ∷ []) ∷ []) ≡ refused_at 1 (refusal.RuleBroken (codes "t"))
unfolding group_columns_of
greatest_falls = refl

stamp_written : run 0 0 (in_t (to (codes "CHG") (num 9) ∷ []) ∷ []) ≡ refused_at 1 refusal.FilledBySite
unfolding group_columns_of
stamp_written = refl

stamp_added_to : run 0 0 (in_t (add (codes "CHG") (pos 1) ∷ []) ∷ []) ≡ refused_at 1 refusal.RowShape
unfolding group_columns_of
stamp_added_to = refl

tables_mixed : run 0 0 (in_t (to (codes "NAME") (words (codes "x")) ∷ []) ∷ in_o (add (codes "Q") (pos 1) ∷ []) ∷ []) ≡ refused_at 2 refusal.Barred
unfolding group_columns_of
tables_mixed = refl

rule_before_range : run 0 0 (in_t (add (codes "TOP") (negsuc 1000000000000009) ∷ []) ∷ []) ≡ refused_at 1 (refusal.RuleBroken (codes "t"))
unfolding group_columns_of
rule_before_range = refl

stamp_out_of_range : run 0 1000000000000000 (in_t (to (codes "NAME") (words (codes "b")) ∷ []) ∷ []) ≡ refused_at 1 refusal.ValueRange
unfolding group_columns_of
stamp_out_of_range = refl

-- a stamp that no column gets isn't tested
stamp_unused : run 0 1000000000000000 (in_t (to (codes "TOP") (num 6) ∷ []) ∷ [])
    ≡ Ok (record { changes = changed 0 (t_row 5 (codes "x") 0 (codes "A")) (t_row 6 (codes "x") 0 (codes "A")) ∷ []; stamps = stamps 0 1000000000000000 })
unfolding group_columns_of
stamp_unused = refl

check_not_met : run 0 0 (in_o (add (codes "Q") (negsuc 5) ∷ []) ∷ []) ≡ refused_at 1 (refusal.CheckFailed (codes "low"))
unfolding group_columns_of
check_not_met = refl

-- a base row holds 0 and the empty text until it is filled in
base_row_out_of_range : base_refusal schema tables (record { 0 = codes "O" }) (num 2 ∷ num 1000000000000001 ∷ num 5 ∷ []) ≡ Some refusal.ValueRange
unfolding group_columns_of
base_row_out_of_range = refl

base_row_taken : base_refusal schema tables (record { 0 = codes "O" }) (num 2 ∷ num 1 ∷ num 6 ∷ []) ≡ Some (refusal.UniqueTaken (codes "u"))
unfolding group_columns_of
base_row_taken = refl

base_row_in_order : base_refusal schema tables (record { 0 = codes "O" }) (num 2 ∷ num 1 ∷ num 7 ∷ []) ≡ None
unfolding group_columns_of
base_row_in_order = refl

base_rows_filled : filled_tables (record { stamp = 0; site = record { 0 = codes "A" } }) (table_t ∷ []) ((t_row 5 (codes "x") 0 [] ∷ []) ∷ []) ≡ (t_row 5 (codes "x") 0 (codes "A") ∷ []) ∷ []
base_rows_filled = refl
