-- Origins of which nothing is ready.
use Rattle.std.specs.Prelude.{◌≡◌, ℕ, ◌<◌, false, List, slice_get, Some}
use Rattle.rep_values.specs.declared.name.SiteName.{SiteName}
use Rattle.site_state.specs.State.{SiteState}
use Rattle.site_state.specs.Ready.{is_ready}

-- no position of an origin is ready
abbrev pub OriginIsQuiet : SiteName → SiteState → Type 0
OriginIsQuiet origin x = (position : ℕ) → is_ready origin position x ≡ false

-- no position of the origin at a place is ready
abbrev pub IsQuietAt : ℕ → List SiteName → SiteState → Type 0
IsQuietAt place origins x = (origin : SiteName) → slice_get origins place ≡ Some origin → OriginIsQuiet origin x

-- nor of those before a place
abbrev pub AreQuietBefore : ℕ → List SiteName → SiteState → Type 0
AreQuietBefore end origins x = (place : ℕ) → place < end → IsQuietAt place origins x
