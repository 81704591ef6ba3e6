-- The forms of declarations, one row each, with what stands behind the first word.
use Rattle.rep_declare.specs.declared.declaration.Declare.{Declare}
use Rattle.rep_declare.specs.declared.declaration.Declare.TheVariants as declare
use Rattle.script_words.specs.Words.{is_named}
use Rattle.script_words.specs.Reading.{Reading, row, ◌⊛◌, one_or_more}
use Rattle.script_words.specs.Parts.{name, number, value, choice}
use Rattle.script_parse.specs.declared.heads.Declaring.{Declaring}
use Rattle.script_parse.specs.declared.heads.Declaring.TheVariants as declaring
use Rattle.script_parse.specs.Columns.{column}
use Rattle.script_parse.specs.Methods.{method, unique_method}
use Rattle.script_parse.specs.Parts.{site, table, rels}

-- site NAME
abbrev pub site_row : Reading Declare
site_row = row declare.Site ⊛ site

-- latesite NAME
abbrev pub late_site_row : Reading Declare
late_site_row = row declare.LateSite ⊛ site

-- snapsite NAME NAME
abbrev pub snapshot_site_row : Reading Declare
snapshot_site_row = row declare.SnapSite ⊛ site ⊛ site

-- table NAME COLUMN+
abbrev pub table_row : Reading Declare
table_row = row declare.Table ⊛ table ⊛ one_or_more is_named column

-- group NAME NAME NAME+
abbrev pub group_row : Reading Declare
group_row = row declare.Group ⊛ table ⊛ name ⊛ one_or_more is_named name

-- method NAME NAME M
abbrev pub method_row : Reading Declare
method_row = row declare.Method ⊛ table ⊛ name ⊛ method

-- priority NAME VALUE number
abbrev pub priority_row : Reading Declare
priority_row = row declare.Priority ⊛ name ⊛ value ⊛ number

-- site-level NAME number
abbrev pub site_level_row : Reading Declare
site_level_row = row declare.SiteLevel ⊛ site ⊛ number

-- unique NAME NAME NAME+
abbrev pub unique_row : Reading Declare
unique_row = row declare.Unique ⊛ table ⊛ name ⊛ one_or_more is_named name

-- unique-method NAME NAME U
abbrev pub unique_method_row : Reading Declare
unique_method_row = row declare.UniqueMethod ⊛ table ⊛ name ⊛ unique_method

-- check NAME NAME NAME OP VALUE
abbrev pub check_row : Reading Declare
check_row = row declare.Check ⊛ table ⊛ name ⊛ name ⊛ choice rels ⊛ value

-- convergent NAME
abbrev pub convergent_row : Reading Declare
convergent_row = row declare.Convergent ⊛ table

-- the form behind the first word of a declaration
abbrev pub declaration_of : Declaring → Reading Declare
declaration_of declaring.Site = site_row
declaration_of declaring.LateSite = late_site_row
declaration_of declaring.SnapSite = snapshot_site_row
declaration_of declaring.Table = table_row
declaration_of declaring.Group = group_row
declaration_of declaring.Method = method_row
declaration_of declaring.Priority = priority_row
declaration_of declaring.SiteLevel = site_level_row
declaration_of declaring.Unique = unique_row
declaration_of declaring.UniqueMethod = unique_method_row
declaration_of declaring.Check = check_row
declaration_of declaring.Convergent = convergent_row
