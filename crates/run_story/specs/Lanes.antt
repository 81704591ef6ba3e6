-- The lanes of declared sites.
use Rattle.std.specs.Prelude.{◌≡◌, Bool, true, false, List, [], ◌∷◌, map, Option, Some, None}
use Rattle.rep_values.specs.declared.name.SiteName.{SiteName}
use Rattle.rep_schema.specs.declared.schema.SiteEntry.{SiteEntry}
use Rattle.rep_declare.specs.declared.declaration.Declare.{Declare}
use Rattle.rep_declare.specs.declared.declaration.Declare.TheVariants as declare
use Rattle.script_parse.specs.declared.command.Command.{Command}
use Rattle.script_parse.specs.declared.command.Command.TheVariants as command
use Rattle.world_state.specs.World.{WorldState}
use Rattle.run_story.specs.declared.lane.Lane.{Lane}
use Rattle.run_story.specs.declared.lane.LaneKind.{LaneKind}
use Rattle.run_story.specs.declared.lane.LaneKind.TheVariants as kind

-- a lane of which nothing was told, of a site that isn't there yet
abbrev pub new_lane : SiteName → LaneKind → Lane
new_lane site kind = record { site = site; kind = kind; since = None; told = 0; told_calls = 0 }

-- ---- declared sites

-- of what kind a site is that has this master or none, and joins late or doesn't
abbrev pub kind_of : Option SiteName → Bool → LaneKind
kind_of (Some master) late = kind.Snapshot master
kind_of None true = kind.Late
kind_of None false = kind.Master

-- the lane of a declared site
abbrev pub lane_of : SiteEntry → Lane
lane_of entry = new_lane entry.name (kind_of entry.master entry.late)

-- what is declared of a lane
abbrev pub bare : Lane → Lane
bare lane = new_lane lane.site lane.kind

-- each declared site has a lane of its kind, in declared order, and there are no others
abbrev pub HasLanes : WorldState → List Lane → Type 0
HasLanes w lanes = map bare lanes ≡ map lane_of w.schema.sites

-- ---- declarations

-- the lanes of the sites that a declaration adds
abbrev pub lanes_in : Declare → List Lane
lanes_in (declare.Site name) = new_lane name kind.Master ∷ []
lanes_in (declare.LateSite name) = new_lane name kind.Late ∷ []
lanes_in (declare.SnapSite name master) = new_lane name (kind.Snapshot master) ∷ []
lanes_in other = []

-- the lanes of those that a command adds
abbrev pub lanes_declared : Command → List Lane
lanes_declared (command.Declare declaration) = lanes_in declaration
lanes_declared other = []
