-- The table is among those that are declared.
use Rattle.std.proofs.Common.{◌≤◌, List, length, sym, subst}
use Rattle.rep_schema.specs.declared.schema.Column.{Column}
use Rattle.world_calls.proofs.DeclaredTables.{few_columns}
use Rattle.world_calls.proofs.declaring.put_procedure.Goals as goal

pub action_of-requires : goal.action_of-requires
action_of-requires c =
    subst (λ (columns : List Column). length columns ≤ 32) (sym c.columns_named.ensures)
    (few_columns _ _ _ c.procs.view_is c.as_slice-tables.ensures c.requires c.args.table.now)
