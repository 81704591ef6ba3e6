-- The place of a site among the others.
use Rattle.std.specs.Prelude.{ℕ, List}
use Rattle.std.specs.List.{position_or_len}
use Rattle.rep_values.specs.declared.name.SiteName.{SiteName}
use Rattle.rep_values.specs.SiteNames.{is_same_site}
use Rattle.site_state.specs.State.{SiteState}

-- the place of the first site of a name; their end where none has it
abbrev pub site_place : SiteName → List SiteState → ℕ
site_place name xs = position_or_len (λ (x : SiteState). is_same_site x.here.site name) xs
