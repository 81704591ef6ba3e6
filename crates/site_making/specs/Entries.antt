-- The entries of the sites that Setup's end makes.
use Rattle.std.specs.Prelude.{◌≡◌, Some}
use Rattle.rep_schema.specs.declared.schema.Schema.{Schema}
use Rattle.rep_schema.specs.declared.schema.SiteEntry.{SiteEntry}
use Rattle.rep_schema.specs.Named.{site_named}

-- an entry is the one that the schema has under its name
abbrev pub IsEntryOf : Schema → SiteEntry → Type 0
IsEntryOf schema entry = site_named schema entry.name ≡ Some entry
