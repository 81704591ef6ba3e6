-- What values are compared by beside their levels in a priority group: numbers, and levels of sites.
use Rattle.std.specs.Prelude.{ℤ, Option, Some, None}
use Rattle.std.specs.List.{find}
use Rattle.rep_values.specs.declared.value.Value.{Value}
use Rattle.rep_values.specs.declared.value.Value.TheVariants.{Num, Words}
use Rattle.rep_values.specs.Name.{same_bytes}
use Rattle.rep_schema.specs.declared.schema.Schema.{Schema}
use Rattle.rep_schema.specs.declared.schema.SiteEntry.{SiteEntry}

-- the number that a value is
abbrev pub number_of : Option Value → Option ℤ
number_of None = None
number_of (Some (Num n)) = Some n
number_of (Some (Words text)) = None

abbrev pub site_found : Option SiteEntry → Option ℤ
site_found None = None
site_found (Some site) = site.level

-- the level of the site that a text names, where it has one
abbrev pub site_level_of : Schema → Option Value → Option ℤ
site_level_of schema None = None
site_level_of schema (Some (Num n)) = None
site_level_of schema (Some (Words text)) = site_found (find (λ site. same_bytes site.name.0 text) schema.sites)
