-- What Setup's lines declare of procedures is well declared, and Setup's end makes sites of it.
use Rattle.std.proofs.Common.{◌≡◌, ℕ, zero, suc, ◌+◌, ◌<◌, ◌≤◌, List, [], ◌∷◌, ◌++◌, length, map, Bool, true, false, not, Some, None, refl, sym, ap, ◌∙◌, arith, subst}
use Rattle.std.specs.Prelude.{◌&&◌, ◌||◌, cond, nat_le, slice_get, Option}
use Rattle.std.specs.List.{find, position, list_any, list_all, AllByRecursion}
use Rattle.std.proofs.lemmas.Bool.{leb-true}
use Rattle.std.proofs.lemmas.Bool.Decides.{nat_tests}
use Rattle.rep_lists.proofs.Each.{each_push, each_then, each_found}
use Rattle.rep_values.specs.declared.name.TableName.{TableName}
use Rattle.rep_values.specs.declared.refusal.Refusal.{Refusal}
use Rattle.rep_values.specs.declared.refusal.Refusal.TheVariants as refusal
use Rattle.rep_values.specs.declared.refusal.Limit.{Limit}
use Rattle.rep_values.specs.declared.refusal.Limit.TheVariants as limit
use Rattle.rep_values.specs.RefusalSteps.{refused, first_refusal, taken, known, full, too_many}
use Rattle.rep_values.proofs.RefusalSteps.{or_then-None, refused_not-None, full-None, too_many-None}
use Rattle.rep_schema.specs.declared.schema.Schema.{Schema}
use Rattle.rep_schema.specs.declared.schema.TableEntry.{TableEntry}
use Rattle.rep_schema.specs.declared.schema.Column.{Column}
use Rattle.rep_schema.specs.declared.schema.Kind.{Kind}
use Rattle.rep_schema.specs.declared.schema.Kind.TheVariants as kind
use Rattle.rep_schema.specs.Limits.{most_tables, most_columns, most_keys}
use Rattle.rep_schema.specs.Shape.{HasShape}
use Rattle.rep_schema.specs.Tables.{columns_in, columns_of, constraints_in, key_count}
use Rattle.rep_schema.specs.Kinds.{is_number}
use Rattle.rep_schema.specs.Named.{is_table, is_column, has_column, column_named, table_named}
use Rattle.rep_schema.specs.Entries.{plain_table}
use Rattle.rep_schema.proofs.Shapes.{key_count-columns_of}
use Rattle.rep_declare.specs.declared.declaration.Declare.TheVariants as declare
use Rattle.rep_declare.specs.Additions.{column_number}
use Rattle.rep_declare.specs.Refusals.{share_a_name, declare_refusal}
use Rattle.rep_declare.proofs.DeclaredShapes.{HasShape-declared}
use Rattle.rep_laws.proofs.SoundSchemas.{both_hold, passes}
use Rattle.schema_rules.specs.KeyRules.{is_well_keyed}
use Rattle.conflict_detect.specs.KeysNamed.{HasKeys}
use Rattle.txn_effects.specs.Calls.{KeysStandAlone}
use Rattle.snapshot_query.specs.declared.query.Test.{Test}
use Rattle.site_state.specs.Fits.{SchemaIsKeyed}
use Rattle.proc_state.specs.declared.procedure.Action.{Action}
use Rattle.proc_state.specs.declared.procedure.Procedure.{Procedure}
use Rattle.proc_state.specs.Calls.{AreTestsOf, TakesAmounts, ActsOn, IsProcedure, AreProcedures}
use Rattle.script_parse.specs.declared.command.TestWords.{TestWords}
use Rattle.script_parse.specs.declared.proc_line.ActionWords.{ActionWords}
use Rattle.script_parse.specs.declared.proc_line.ActionWords.TheVariants as words
use Rattle.world_state.specs.World.{WorldState}
use Rattle.world_state.specs.Declaring.{test_of, tests_in}
use Rattle.world_state.specs.Testing.{has_columns, is_of_column}
use Rattle.world_state.specs.Procs.{Procs, proc_schema}
use Rattle.world_state.specs.ProcDeclaring.{proc_table_named, procedure_named, with_proc_table, query_of, action_of, procedure_at, with_procedure}
use Rattle.world_state.specs.ProcRefusals.{table_step, most_proc_columns, proc_table_steps, takes_amount, test_steps, action_steps, procedure_steps}
use Rattle.world_laws.specs.Built.{IsProcTable, tables_alone, AreProcsDeclared}
use Rattle.world_laws.proofs.CallSending.{first_at}

-- ---- a table

-- the tables of procedures have the shape of a schema's, whatever its sites are
pub proc_shape : (schema : Schema) (tables : List TableEntry) → HasShape schema → HasShape (tables_alone tables) → HasShape (proc_schema schema tables)
proc_shape schema tables shape alone = record {
  masters = shape.masters;
  snapshots = shape.snapshots;
  site_names = shape.site_names;
  site_masters = shape.site_masters;
  tables = alone.tables;
  table_number = alone.table_number;
  table_names = alone.table_names;
  priorities = alone.priorities;
  priority_names = alone.priority_names;
}

none_full : (most count : ℕ) (what : Limit) → count < most → full most count what ≡ None
none_full most count what below = let fits : nat_le most count ≡ false = grind (arith, nat_tests, below) in rw fits refl

none_too_many : (most count : ℕ) (what : Limit) → count ≤ most → too_many most count what ≡ None
none_too_many most count what below = let fits : nat_le count most ≡ true = grind (arith, nat_tests, below) in rw fits refl

five_pass : (a b c d e : Option Refusal) → a ≡ None → b ≡ None → c ≡ None → d ≡ None → e ≡ None → first_refusal (a ∷ b ∷ c ∷ d ∷ e ∷ []) ≡ None
five_pass a b c d e p q r s t = rw (p, q, r, s, t) refl

-- what a table that isn't refused has
record IsNewTable (name : TableName) (columns : List Column) (w : WorldState) : Type 0 where
  free : taken (proc_table_named w.procs.tables name) ≡ None
  names : refused (share_a_name columns) refusal.NameTaken ≡ None
  number : length w.schema.tables + length w.procs.tables < most_tables
  width : length columns ≤ most_proc_columns
  keys : key_count columns ≤ most_keys

new_table : (name : TableName) (columns : List Column) (w : WorldState) → first_refusal (proc_table_steps name columns w) ≡ None → IsNewTable name columns w
new_table name columns w passes =
    let outer = or_then-None (table_step name columns w) _ passes in
    let limits = or_then-None (too_many most_proc_columns (length columns) limit.Columns) _ outer.1 in
    let first = or_then-None (taken (table_named w.schema name)) _ outer.0 in
    let second = or_then-None (taken (proc_table_named w.procs.tables name)) _ first.1 in
    let third = or_then-None (refused (share_a_name columns) refusal.NameTaken) _ second.1 in
    record {
      free = second.0;
      names = third.0;
      number = full-None most_tables (length w.schema.tables + length w.procs.tables) limit.Tables (or_then-None (full most_tables (length w.schema.tables + length w.procs.tables) limit.Tables) None third.1).0;
      width = too_many-None most_proc_columns (length columns) limit.Columns limits.0;
      keys = too_many-None most_keys (key_count columns) limit.Keys (or_then-None (too_many most_keys (key_count columns) limit.Keys) None limits.1).0;
    }

-- a place among tables is the same where one more stands behind them
slice_get-push : {X : Type 0} (xs : List X) (y : X) (i : ℕ) → i < length xs → slice_get (xs ++ y ∷ []) i ≡ slice_get xs i
slice_get-push [] y i below = absurd (omega arith)
slice_get-push (x ∷ xs) y zero below = refl
slice_get-push (x ∷ xs) y (suc i) below = slice_get-push xs y i (omega arith)

longer : {X : Type 0} (xs : List X) (y : X) (i : ℕ) → i < length xs → i < length (xs ++ y ∷ [])
longer [] y i below = absurd (omega arith)
longer (x ∷ xs) y zero below = omega arith
longer (x ∷ xs) y (suc i) below = omega (arith, longer xs y i (omega arith))

-- a procedure is one of these tables still
procedure_more : (tables : List TableEntry) (entry : TableEntry) (q : Procedure) → IsProcedure (tables_alone tables) q → IsProcedure (tables_alone (tables ++ entry ∷ [])) q
procedure_more tables entry q is =
    let same : slice_get (tables ++ entry ∷ []) q.table ≡ slice_get tables q.table = slice_get-push tables entry q.table is.table in
    record {
      table = longer tables entry q.table is.table;
      width = subst (λ (o : Option TableEntry). length (columns_in o) ≤ 30) (sym same) is.width;
      unconstrained = ap constraints_in same ∙ is.unconstrained;
      acts = subst (λ (o : Option TableEntry). ActsOn (columns_in o) q.action) (sym same) is.acts;
    }

pub declared_table : (name : TableName) (columns : List Column) (w : WorldState) → first_refusal (proc_table_steps name columns w) ≡ None → AreProcsDeclared w.procs → AreProcsDeclared (with_proc_table name columns w.procs)
declared_table name columns w passes d =
    let new = new_table name columns w passes in
    let tables = w.procs.tables in
    let none : declare_refusal (tables_alone tables) (declare.Table name columns) ≡ None = five_pass
    (taken (proc_table_named tables name)) (refused (share_a_name columns) refusal.NameTaken) (full most_tables (length tables) limit.Tables)
    (too_many most_columns (length columns) limit.Columns) (too_many most_keys (key_count columns) limit.Keys)
    new.free new.names (none_full most_tables (length tables) limit.Tables (omega (arith, new.number))) (none_too_many most_columns (length columns) limit.Columns (omega (arith, new.width)))
    (none_too_many most_keys (key_count columns) limit.Keys new.keys) in
    record {
      shape = HasShape-declared (declare.Table name columns) (tables_alone tables) d.shape tt none;
      tables = each_push IsProcTable tables (plain_table name columns) d.tables (record { width = new.width; groups = refl; constraints = refl });
      procedures = each_then (IsProcedure (tables_alone tables)) (IsProcedure (tables_alone (tables ++ plain_table name columns ∷ []))) (procedure_more tables (plain_table name columns)) w.procs.procedures d.procedures;
    }

-- ---- a procedure

any_found : {X : Type 0} (test : X → Bool) (xs : List X) → list_any test xs ≡ true → (x : X) × (find test xs ≡ Some x)
any_found {X} test [] is = absurd (cc is)
any_found {X} test (x ∷ xs) is = go (test x) refl is (any_found test xs)
  where
    go : (b : Bool) → test x ≡ b → (b || list_any test xs) ≡ true → (list_any test xs ≡ true → (y : X) × (find test xs ≡ Some y)) → (y : X) × (cond b (Some x) (find test xs) ≡ Some y)
    go true here is later = (x, refl)
    go false here is later = later is

-- the columns that tests name are columns of the table
tests_of : (columns : List Column) (tests : List TestWords) → has_columns columns tests ≡ true → AllByRecursion (λ (t : Test). t.column < length columns) (map (test_of columns) tests)
tests_of columns [] has = tt
tests_of columns (t ∷ ts) has =
    let both = both_hold (has_column columns t.column) (has_columns columns ts) has in
    let found = any_found (is_column t.column) columns both.0 in
    let first = first_at (is_column t.column) columns found.0 found.1 in
    (rw first.at first.within, tests_of columns ts both.1)

number_kind : (k : Kind) → is_number k ≡ true → k ≡ kind.Number
number_kind kind.Number is = refl
number_kind kind.Words is = absurd (cc is)
number_kind kind.Date is = absurd (cc is)
number_kind kind.Stamp is = absurd (cc is)
number_kind kind.Site is = absurd (cc is)

isnt : (b : Bool) → not b ≡ true → b ≡ false
isnt true is = absurd (cc is)
isnt false is = refl

-- what tests that aren't refused have
record AreRightTests (is_right : Bool) (columns : List Column) (tests : List TestWords) : Type 0 where
  named : has_columns columns tests ≡ true
  right : is_right ≡ true

right_tests : (is_right : Bool) (columns : List Column) (tests : List TestWords) → first_refusal (test_steps is_right columns tests) ≡ None → AreRightTests is_right columns tests
right_tests is_right columns tests passes =
    let names = or_then-None (refused (not (has_columns columns tests)) refusal.UnknownName) _ passes in
    let shapes = or_then-None (refused (not (is_right && list_all (is_of_column columns) tests)) refusal.RowShape) _ names.1 in
    record {
      named = refused_not-None (has_columns columns tests) refusal.UnknownName names.0;
      right = (both_hold is_right (list_all (is_of_column columns) tests) (refused_not-None (is_right && list_all (is_of_column columns) tests) refusal.RowShape shapes.0)).0;
    }

action_acts : (columns : List Column) (does : ActionWords) → first_refusal (action_steps columns does) ≡ None → ActsOn columns (action_of columns does)
action_acts columns words.Put passes = tt
action_acts columns (words.Drop tests) passes = tests_of columns (tests_in tests) (right_tests true columns (tests_in tests) passes).named
action_acts columns (words.Add column tests) passes = go (column_named columns column) refl passes
  where
    go : (o : Option Column) → column_named columns column ≡ o → first_refusal (known o (λ (found : Column). test_steps (takes_amount found) columns (tests_in tests))) ≡ None
        → TakesAmounts (slice_get columns (column_number columns column)) × AreTestsOf columns (query_of columns tests)
    go None found passes = absurd (cc passes)
    go (Some c) found passes =
        let right = right_tests (takes_amount c) columns (tests_in tests) passes in
        let amounts = both_hold (is_number c.kind) (not c.key) right.right in
        let first = first_at (is_column column) columns c found in
        (rw (first.at, first.is) (number_kind c.kind amounts.0, isnt c.key amounts.1), tests_of columns (tests_in tests) right.named)

pub declared_procedure : (name : List ℕ) (table : TableName) (does : ActionWords) (p : Procs) → first_refusal (procedure_steps name table does p) ≡ None → AreProcsDeclared p → AreProcsDeclared (with_procedure name table does p)
declared_procedure name table does p passes d = go (proc_table_named p.tables table) refl (or_then-None (taken (procedure_named p.procedures name)) _ passes).1
  where
    with_place : (o : Option ℕ) (one : Action) → ((place : ℕ) → o ≡ Some place → IsProcedure (tables_alone p.tables) (record { name = name; table = place; action = one })) → AreProcsDeclared (procedure_at o name one p)
    with_place None one is = d
    with_place (Some place) one is = record {
      shape = d.shape;
      tables = d.tables;
      procedures = each_push (IsProcedure (tables_alone p.tables)) p.procedures (record { name = name; table = place; action = one }) d.procedures (is place refl);
    }

    by : (entry : TableEntry) → proc_table_named p.tables table ≡ Some entry → ActsOn entry.columns (action_of entry.columns does) → (place : ℕ) → position (is_table table) p.tables ≡ Some place
        → IsProcedure (tables_alone p.tables) (record { name = name; table = place; action = action_of entry.columns does })
    by entry found acts place at =
        let first = first_at (is_table table) p.tables entry found in
        let both : Some first.place ≡ Some place = sym first.at ∙ at in
        let same : first.place ≡ place = cc both in
        let there : slice_get p.tables place ≡ Some entry = subst (λ (i : ℕ). slice_get p.tables i ≡ Some entry) same first.is in
        let within : place < length p.tables = subst (λ (i : ℕ). i < length p.tables) same first.within in
        let of = each_found IsProcTable p.tables place within d.tables in
        let one : Some of.0 ≡ Some entry = sym of.1 ∙ there in
        let is_entry : of.0 ≡ entry = cc one in
        let is_proc : IsProcTable entry = subst IsProcTable is_entry of.2 in
        record {
          table = within;
          width = subst (λ (o : Option TableEntry). length (columns_in o) ≤ 30) (sym there) is_proc.width;
          unconstrained = ap constraints_in there ∙ is_proc.constraints;
          acts = subst (λ (o : Option TableEntry). ActsOn (columns_in o) (action_of entry.columns does)) (sym there) acts;
        }

    go : (o : Option TableEntry) → proc_table_named p.tables table ≡ o → first_refusal (known o (λ (entry : TableEntry). action_steps entry.columns does)) ≡ None
        → AreProcsDeclared (procedure_at (position (is_table table) p.tables) name (action_of (columns_in (proc_table_named p.tables table)) does) p)
    go None found passes = absurd (cc passes)
    go (Some entry) found passes =
        rw found (with_place (position (is_table table) p.tables) (action_of entry.columns does) (λ place at. by entry found (action_acts entry.columns does passes) place at))

-- ---- Setup's end

-- where each table has a key, the schema of procedure tables has what applying calls asks of it
pub proc_keyed : (schema : Schema) (p : Procs) → HasShape schema → AreProcsDeclared p → list_all is_well_keyed p.tables ≡ true → SchemaIsKeyed (proc_schema schema p.tables)
proc_keyed schema p shape d keyed = record { shape = whole; keys = keys; apart = apart }
  where
    whole : HasShape (proc_schema schema p.tables)
    whole = proc_shape schema p.tables shape d.shape

    keys : HasKeys (proc_schema schema p.tables)
    keys table below =
        let found = each_found IsProcTable p.tables table below d.tables in
        let well = passes is_well_keyed p.tables table found.0 keyed found.1 in
        let some = both_hold (nat_le 1 (key_count found.0.columns)) _ well in
        let columns : columns_of (proc_schema schema p.tables) table ≡ found.0.columns = ap columns_in found.1 in
        (rw columns (leb-true 1 (key_count found.0.columns) some.0), key_count-columns_of (proc_schema schema p.tables) whole table)

    apart : KeysStandAlone (proc_schema schema p.tables)
    apart table below group = let found = each_found IsProcTable p.tables table below d.tables in rw (found.1, found.2.groups) tt

-- a procedure of the tables is one of them beside any sites
pub procedures_beside : (schema : Schema) (tables : List TableEntry) (qs : List Procedure) → AreProcedures (tables_alone tables) qs → AreProcedures (proc_schema schema tables) qs
procedures_beside schema tables qs all =
    each_then (IsProcedure (tables_alone tables)) (IsProcedure (proc_schema schema tables)) (λ q is. record { table = is.table; width = is.width; unconstrained = is.unconstrained; acts = is.acts }) qs all
