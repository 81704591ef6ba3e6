-- A site of a world, and its place.
use Rattle.std.specs.Prelude.{◌≡◌, ℕ, ◌<◌, List, length, Option, Some, None, slice_get}
use Rattle.std.specs.List.{position_or_len}
use Rattle.rep_values.specs.declared.name.SiteName.{SiteName}
use Rattle.site_state.specs.State.{SiteState}
use Rattle.rep_values.specs.SiteNames.{is_same_site}
use Rattle.site_events.specs.Cluster.{site_of}
use Rattle.proc_state.specs.State.{ProcState}
use Rattle.world_state.specs.Procs.{proc_of}
use Rattle.world_laws.specs.Places.{site_place}

-- the site of a name is there, and this is its place
pub record IsAt (name : SiteName) (sites : List SiteState) (place : ℕ) : Type 0 where
  pub site : SiteState
  pub found : site_of name sites ≡ Some site
  pub is : place ≡ site_place name sites
  pub within : place < length sites
  pub there : slice_get sites place ≡ Some site

-- the place that is found is the site's; where none is, it isn't there
abbrev pub FindsSite : SiteName → List SiteState → Option ℕ → Type 0
FindsSite name sites None = site_of name sites ≡ None
FindsSite name sites (Some place) = IsAt name sites place

-- ---- sites of procedures

-- the place of the first site of procedures of a name; their end where none has it
abbrev pub proc_place : SiteName → List ProcState → ℕ
proc_place name xs = position_or_len (λ (x : ProcState). is_same_site x.me name) xs

-- the site of procedures of a name is there, and this is its place
pub record IsProcAt (name : SiteName) (sites : List ProcState) (place : ℕ) : Type 0 where
  pub site : ProcState
  pub found : proc_of name sites ≡ Some site
  pub is : place ≡ proc_place name sites
  pub within : place < length sites
  pub there : slice_get sites place ≡ Some site

-- the place that is found is the site's; where none is, it isn't there
abbrev pub FindsProc : SiteName → List ProcState → Option ℕ → Type 0
FindsProc name sites None = proc_of name sites ≡ None
FindsProc name sites (Some place) = IsProcAt name sites place
