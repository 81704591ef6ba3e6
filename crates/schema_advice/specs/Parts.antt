-- Parts of a schema.
use Rattle.std.specs.Prelude.{true, false, [], ◌∷◌}
use Rattle.rep_schema.specs.declared.schema.Schema.{Schema}
use Rattle.rep_schema.specs.declared.schema.TableEntry.{TableEntry}
use Rattle.rep_schema.specs.declared.schema.Group.{Group}

-- the schema with this table alone
abbrev pub table_part : Schema → TableEntry → Schema
table_part schema table = record { sites = schema.sites; tables = table ∷ []; priorities = schema.priorities }

-- the table with this group alone, no constraint and no check, and as one that isn't convergent
abbrev pub group_table : TableEntry → Group → TableEntry
group_table table group = record {
  name = table.name;
  columns = table.columns;
  groups = group ∷ [];
  key_methods = [];
  constraints = [];
  checks = [];
  convergent = false;
}

-- the table as a convergent one
abbrev pub convergent_table : TableEntry → TableEntry
convergent_table table = record table { convergent = true }
