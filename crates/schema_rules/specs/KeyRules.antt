-- The rules of keys.
use Rattle.std.specs.Prelude.{nat_le, Bool, not, ◌&&◌, List}
use Rattle.std.specs.List.{list_all}
use Rattle.rep_schema.specs.declared.schema.TableEntry.{TableEntry}
use Rattle.rep_schema.specs.declared.schema.Column.{Column}
use Rattle.rep_schema.specs.declared.schema.Group.{Group}
use Rattle.rep_schema.specs.Tables.{key_count}
use Rattle.rep_schema.specs.Kinds.{is_stamp, is_key_at}

-- a table has a key column, and no key column of it is a STAMP
abbrev pub is_well_keyed : TableEntry → Bool
is_well_keyed table = nat_le 1 (key_count table.columns) && list_all (λ column. not (column.key && is_stamp column.kind)) table.columns

-- no column of a group is a key column
abbrev pub is_off_the_key : List Column → Group → Bool
is_off_the_key columns group = list_all (λ place. not (is_key_at columns place)) group.columns
