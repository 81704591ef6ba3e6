-- A shared schema may cross threads, and so may tables that have one.
use denote.Param.Send.{IsSend, IsSync, sendable}
use Rattle.std.proofs.Crossing.{crosses}
use Rattle.rep_values.specs.contracts.name.SiteName as site_name
use Rattle.rep_values.specs.contracts.value.Value as value
use Rattle.rep_values.specs.contracts.row.Row as row
use Rattle.rep_schema.specs.contracts.check.Check as check
use Rattle.rep_schema.specs.contracts.schema.SiteEntry as site_entry
use Rattle.rep_schema.specs.contracts.schema.Column as column
use Rattle.rep_schema.specs.contracts.schema.Group as group
use Rattle.rep_schema.specs.contracts.schema.Constraint as constraint
use Rattle.rep_schema.specs.contracts.schema.UniqueMethod as unique_method
use Rattle.rep_schema.specs.contracts.schema.TableEntry as table_entry
use Rattle.rep_schema.specs.contracts.schema.PriorityLevel as level
use Rattle.rep_schema.specs.contracts.schema.PriorityGroup as priority_group
use Rattle.rep_schema.specs.contracts.schema.Schema as schema
use Rattle.row_tables.specs.contracts.shared_schema.SharedSchema as shared_schema
use Rattle.row_tables.specs.contracts.sorted_rows.SortedRows as sorted_rows
use Rattle.row_tables.specs.contracts.list_tables.ListTables as list_tables

value_send : IsSend value.the_row
value_send = search sendable depth 30

name_send : IsSend site_name.the_row
name_send = search sendable depth 30

name_sync : IsSync site_name.the_row
name_sync = search sendable depth 30

check_send : IsSend check.the_row
check_send = search sendable depth 30

check_sync : IsSync check.the_row
check_sync = search sendable depth 30

site_entry_send : IsSend site_entry.the_row
site_entry_send = search (sendable, name_send) depth 30

site_entry_sync : IsSync site_entry.the_row
site_entry_sync = search (sendable, name_sync) depth 30

column_send : IsSend column.the_row
column_send = search sendable depth 30

column_sync : IsSync column.the_row
column_sync = search sendable depth 30

group_send : IsSend group.the_row
group_send = search (sendable, crosses) depth 30

group_sync : IsSync group.the_row
group_sync = search (sendable, crosses) depth 30

constraint_send : IsSend constraint.the_row
constraint_send = search (sendable, crosses) depth 30

constraint_sync : IsSync constraint.the_row
constraint_sync = search (sendable, crosses) depth 30

unique_method_send : IsSend unique_method.the_row
unique_method_send = search sendable depth 30

unique_method_sync : IsSync unique_method.the_row
unique_method_sync = search sendable depth 30

table_entry_send : IsSend table_entry.the_row
table_entry_send = search (sendable, crosses, check_send, column_send, group_send, constraint_send, unique_method_send) depth 30

table_entry_sync : IsSync table_entry.the_row
table_entry_sync = search (sendable, crosses, check_sync, column_sync, group_sync, constraint_sync, unique_method_sync) depth 30

level_send : IsSend level.the_row
level_send = search sendable depth 30

level_sync : IsSync level.the_row
level_sync = search sendable depth 30

priority_group_send : IsSend priority_group.the_row
priority_group_send = search (sendable, crosses, level_send) depth 30

priority_group_sync : IsSync priority_group.the_row
priority_group_sync = search (sendable, crosses, level_sync) depth 30

schema_send : IsSend schema.the_row
schema_send = search (sendable, crosses, site_entry_send, table_entry_send, priority_group_send) depth 30

schema_sync : IsSync schema.the_row
schema_sync = search (sendable, crosses, site_entry_sync, table_entry_sync, priority_group_sync) depth 30

pub shared_schema_send : IsSend shared_schema.the_row
shared_schema_send = search (sendable, crosses, schema_send, schema_sync) depth 30

-- as a field of another struct
pub field_shared_schema_send : IsSend shared_schema.the_field.row
field_shared_schema_send = search (sendable, crosses, schema_send, schema_sync) depth 30

row_send : IsSend row.the_row
row_send = search (sendable, crosses, value_send) depth 30

sorted_rows_send : IsSend sorted_rows.the_row
sorted_rows_send = search (sendable, crosses, row_send) depth 30

pub list_tables_send : IsSend list_tables.the_row
list_tables_send = search (sendable, crosses, shared_schema_send, sorted_rows_send) depth 30
