-- A world of which a master may be lent out for a live part.
use Rattle.std.specs.Prelude.{◌≡◌, ◌≤◌, ℕ, Bool, true, false, cond, List, length, Option, Some, None}
use Rattle.std.specs.List.{insert}
use Rattle.rep_values.specs.declared.name.SiteName.{SiteName}
use Rattle.rep_values.specs.SiteNames.{is_same_site}
use Rattle.site_state.specs.State.{SiteState}
use Rattle.site_events.specs.Cluster.{site_of}
use Rattle.live_laws.specs.declared.turn.LiveTurn.{LiveTurn}
use Rattle.live_laws.specs.declared.turn.Session.{Session}
use Rattle.live_laws.specs.Turns.{site_after}
use Rattle.world_state.specs.World.{WorldState}
use Rattle.world_state.specs.Phases.{is_running}
use Rattle.world.specs.Following.{IsBuilt}
use Rattle.world_push.specs.Lending.{live_refusal, live_opened, given_back}

-- a master that is lent out: its name, its place among the sites, and how it was then
pub record LentSite : Type 0 where
  pub name : SiteName
  pub place : ℕ
  pub opened : SiteState

-- the world, in which a master that is lent out stands as it was then, and the name of that master
pub record LentWorld : Type 0 where
  pub world : WorldState
  pub lent : Option SiteName

-- the master stands in its place again, as it was
abbrev pub with_lent : Option LentSite → WorldState → WorldState
with_lent None w = w
with_lent (Some l) w = record w { sites = insert w.sites l.place l.opened }

abbrev pub name_lent : Option LentSite → Option SiteName
name_lent None = None
name_lent (Some l) = Some l.name

-- what is seen of a world from which a master may be lent out
abbrev pub seen_with : Option LentSite → WorldState → LentWorld
seen_with lent w = record { world = with_lent lent w; lent = name_lent lent }

-- its place is one among the others, its name is its own and none of theirs, and the phase is Running
pub record StandsAt (l : LentSite) (w : WorldState) : Type 0 where
  pub place : l.place ≤ length w.sites
  pub named : l.opened.here.site ≡ l.name
  pub alone : site_of l.name w.sites ≡ None
  pub running : is_running w.phase ≡ true

abbrev pub IsLentFrom : Option LentSite → WorldState → Type 0
IsLentFrom None w = Unit {0}
IsLentFrom (Some l) w = StandsAt l w

-- ---- what is seen of it

abbrev pub is_lent : SiteName → Option SiteName → Bool
is_lent name None = false
is_lent name (Some lent) = is_same_site lent name

-- the site of a name, None where it is lent out
abbrev pub site_here : SiteName → LentWorld → Option SiteState
site_here name v = cond (is_lent name v.lent) None (site_of name v.world.sites)

-- ---- what comes back

-- a site may come back: one is lent out, and the world with this one in its place is built
abbrev pub MayComeBack : SiteState → LentWorld → Type 0
MayComeBack x v = (name : SiteName) × ((v.lent ≡ Some name) × IsBuilt (given_back name x v.world))

-- a site may come back as turns leave it, whatever turns these are
abbrev pub MayComeBackFromTurns : SiteState → LentWorld → Type 0
MayComeBackFromTurns x v = (sessions : List Session) (turns : List LiveTurn) (y : SiteState) → y ≡ site_after sessions turns x → MayComeBack y v

-- so it is with each master that was lent out from a world that is built
abbrev pub LentMastersMayComeBack : Type 0
LentMastersMayComeBack = (name : SiteName) (old new : LentWorld) (x : SiteState) → IsBuilt old.world → live_refusal name old.world ≡ None
    → new.world ≡ live_opened name old.world → new.lent ≡ Some name → site_of name new.world.sites ≡ Some x → MayComeBackFromTurns x new
