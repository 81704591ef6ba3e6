-- Names of sites that are the same.
use Rattle.std.specs.Prelude.{Bool}
use Rattle.rep_values.specs.declared.name.SiteName.{SiteName}
use Rattle.rep_values.specs.Name.{same_bytes}

abbrev pub is_same_site : SiteName → SiteName → Bool
is_same_site site other = same_bytes site.0 other.0
