-- Sites and tables as a declaration first brings them.
use Rattle.std.specs.Prelude.{true, false, List, [], Some, None}
use Rattle.rep_values.specs.declared.name.SiteName.{SiteName}
use Rattle.rep_values.specs.declared.name.TableName.{TableName}
use Rattle.rep_schema.specs.declared.schema.SiteEntry.{SiteEntry}
use Rattle.rep_schema.specs.declared.schema.TableEntry.{TableEntry}
use Rattle.rep_schema.specs.declared.schema.Column.{Column}

-- a master site that is there from the start
abbrev pub master_site : SiteName → SiteEntry
master_site name = record { name = name; master = None; level = None; late = false }

-- a master site that joins later
abbrev pub late_site : SiteName → SiteEntry
late_site name = record { name = name; master = None; level = None; late = true }

-- a snapshot site of a master
abbrev pub snapshot_site : SiteName → SiteName → SiteEntry
snapshot_site name master = record { name = name; master = Some master; level = None; late = false }

-- a table without groups, constraints and checks, which is not convergent
abbrev pub plain_table : TableName → List Column → TableEntry
plain_table name columns = record { name = name; columns = columns; groups = []; key_methods = []; constraints = []; checks = []; convergent = false }
