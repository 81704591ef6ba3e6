-- When the masters are quiet.
use Rattle.std.specs.Prelude.{ℕ, ◌==◌, ◌&&◌, Bool, not, List, map, filter, length}
use Rattle.std.specs.List.{list_all}
use Rattle.rep_values.specs.declared.name.SiteName.{SiteName}
use Rattle.rep_calls.specs.declared.past.PastEntry.{PastEntry}
use Rattle.rep_values.specs.SiteNames.{is_same_site}
use Rattle.site_state.specs.State.{SiteState}
use Rattle.site_state.specs.Streams.{stream_to}
use Rattle.site_state.specs.Joining.{unfinished}

-- another master than the site of this name
abbrev pub is_other_master : SiteName → SiteState → Bool
is_other_master site x = x.here.is_master && not (is_same_site x.here.site site)

abbrev pub last_position_to : SiteName → SiteState → PastEntry
last_position_to site x = record { origin = x.here.site; number = length (stream_to site x) }

-- of each other master that is there, its last position for a site
abbrev pub last_positions : SiteName → List SiteState → List PastEntry
last_positions site sites = map (last_position_to site) (filter (is_other_master site) sites)

-- how much hinders quiet at a site: what the other masters queued for it and it hasn't finished, and the errors of
-- masters' transactions that stand there
abbrev pub unquiet_at : List SiteState → SiteState → ℕ
unquiet_at sites x = unfinished (last_positions x.here.site sites) x

abbrev pub is_quiet_at : List SiteState → SiteState → Bool
is_quiet_at sites x = unquiet_at sites x == 0

-- nothing hinders it at any master that is there
abbrev pub are_quiet : List SiteState → Bool
are_quiet sites = list_all (is_quiet_at sites) (filter (λ (x : SiteState). x.here.is_master) sites)
