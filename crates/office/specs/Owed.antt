-- What other offices haven't acknowledged.
use Rattle.std.specs.Prelude.{Bool, nat_lt, List, length, map}
use Rattle.std.specs.List.{filter}
use Rattle.rep_values.specs.declared.name.SiteName.{SiteName}
use Rattle.rep_schema.specs.Sites.{destinations_of}
use Rattle.site_state.specs.State.{SiteState, acked_of}
use Rattle.site_state.specs.Streams.{stream_to}
use Rattle.office.specs.declared.due.Due.{Due}

-- how far an office has acknowledged its stream, and how long that is
abbrev pub due_to : SiteState → SiteName → Due
due_to x to = record { to = to; acked = acked_of to x; last = length (stream_to to x) }

-- it has not acknowledged all
abbrev pub is_behind : Due → Bool
is_behind due = nat_lt due.acked due.last

-- of each destination, as declared, where it has not acknowledged all
abbrev pub all_due : SiteState → List Due
all_due x = filter is_behind (map (due_to x) (destinations_of x.schema x.here.site))
