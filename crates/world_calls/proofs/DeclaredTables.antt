-- The table of a procedure, among those that are declared.
use Rattle.std.proofs.Common.{◌≡◌, ◌≤◌, List, [], ◌∷◌, length, Bool, true, false, cond, Some, sym, ap, ◌∙◌, arith, subst}
use Rattle.std.specs.List.{find, AllByRecursion}
use Rattle.rep_values.specs.declared.name.TableName.{TableName}
use Rattle.rep_schema.specs.declared.schema.TableEntry.{TableEntry}
use Rattle.rep_schema.specs.Tables.{columns_in}
use Rattle.rep_schema.specs.Named.{is_table}
use Rattle.world_state.specs.Procs.{Procs}
use Rattle.world_state.specs.ProcDeclaring.{proc_table_named}
use Rattle.world_laws.specs.Built.{IsProcTable, AreProcsDeclared}

few_in : (name : TableName) (tables : List TableEntry) → AllByRecursion IsProcTable tables → length (columns_in (proc_table_named tables name)) ≤ 32
few_in name [] each = omega arith
few_in name (t ∷ ts) each = go (is_table name t) each.0.width (few_in name ts each.1)
  where
    go : (b : Bool) → length t.columns ≤ 30 → length (columns_in (find (is_table name) ts)) ≤ 32 → length (columns_in (cond b (Some t) (find (is_table name) ts))) ≤ 32
    go true few later = omega (arith, few)
    go false few later = later

-- the table of a name has no more columns than a procedure's query can name
pub few_columns : (p old : Procs) (tables : List TableEntry) → p ≡ old → tables ≡ p.tables → AreProcsDeclared old → (name : TableName) → length (columns_in (proc_table_named tables name)) ≤ 32
few_columns p old tables old_is tables_are declared name =
    let these : tables ≡ old.tables = tables_are ∙ ap (λ (q : Procs). q.tables) old_is in
    subst (λ (ts : List TableEntry). length (columns_in (proc_table_named ts name)) ≤ 32) (sym these) (few_in name old.tables declared.tables)
