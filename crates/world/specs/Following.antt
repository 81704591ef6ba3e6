-- What a world may become, and what holds of it whatever its script is.
use Rattle.std.specs.Prelude.{◌≡◌, ◌≢◌, ℕ, Bool, true, false, drop, List, [], ◌∷◌, Option, Some, None, option_map}
use Rattle.rep_values.specs.declared.name.SiteName.{SiteName}
use Rattle.rep_schema.specs.Shape.{HasShape}
use Rattle.net_plan.specs.declared.fate.Fate.{Fate}
use Rattle.net_plan.specs.Directions.{Direction, HasDirection, direction_of, at_direction, delivered}
use Rattle.site_events.specs.Cluster.{site_of}
use Rattle.site_rounds.specs.Parts.{parts_done}
use Rattle.event_laws.specs.Names.{SitesApart}
use Rattle.world_state.specs.World.{WorldState, with_site, gets_from}
use Rattle.world_state.specs.Phases.{is_setup}
use Rattle.world_state.specs.Pushes.{world_release, world_send, world_deliver_one, world_send_mark}
use Rattle.world_laws.specs.Reached.{IsOfScript}
use Rattle.world_laws.specs.AlikeWorlds.{IsOfConvergence}
use Rattle.world_laws.specs.Built.{AreProcsBuilt}
use Rattle.world.specs.Procedures.{LinksForCalls}

-- ---- what a push does

-- what becomes of packets from one site to another: those that are held go on the way, and the first on the way is taken in, or
-- is lost
pub data Travel : Type 0 where
  Release : Travel
  Take : Travel
  Lose : Travel

-- the first packet on the way is lost
abbrev pub world_lose : SiteName → SiteName → WorldState → WorldState
world_lose from to w = record w { net = at_direction from to delivered w.net }

abbrev pub travel_done : SiteName → SiteName → Travel → WorldState → WorldState
travel_done from to Release w = world_release from to w
travel_done from to Take w = world_deliver_one from to w
travel_done from to Lose w = world_lose from to w

-- the steps of a push: packets travel to the receiver, that of a position is sent, the receiver makes passes, in each of which
-- it applies some positions, its mark is sent, and packets travel back
pub data PushStep : Type 0 where
  There : (travel : Travel) → PushStep
  Send : (position : ℕ) → PushStep
  MakePasses : (parts : List (SiteName × List ℕ)) → PushStep
  SendMark : PushStep
  Back : (travel : Travel) → PushStep

-- what a step of a push from one site to another does
abbrev pub step_done : SiteName → SiteName → PushStep → WorldState → WorldState
step_done from to (There travel) w = travel_done from to travel w
step_done from to (Send position) w = world_send from to position w
step_done from to (MakePasses parts) w = with_site to (parts_done parts) w
step_done from to SendMark w = world_send_mark to from w
step_done from to (Back travel) w = travel_done to from travel w

-- one step after the other
abbrev pub steps_done : SiteName → SiteName → List PushStep → WorldState → WorldState
steps_done from to [] w = w
steps_done from to (step ∷ steps) w = steps_done from to steps (step_done from to step w)

-- ---- what a push leaves

-- whether a direction is up, where there is one
abbrev pub up_between : SiteName → SiteName → List Direction → Option Bool
up_between from to net = option_map (λ (d : Direction). d.up) (direction_of from to net)

abbrev pub fates_in : Option Direction → List Fate
fates_in None = []
fates_in (Some d) = d.fates

-- the fates that are left for the packets from one site to another
abbrev pub fates_between : SiteName → SiteName → List Direction → List Fate
fates_between from to net = fates_in (direction_of from to net)

-- beside two sites and the packets between them all is as it was: the other sites, the other directions and what stands in
-- them, which directions are up, the phase, what is declared, the open block, and what there is of procedures; of fates, some in front
-- are used up
pub record LeavesAllElse (from to : SiteName) (old new : WorldState) : Type 0 where
  pub sites : (name : SiteName) → name ≢ from → name ≢ to → site_of name new.sites ≡ site_of name old.sites
  pub directions : (a b : SiteName) → (a ≡ from → b ≢ to) → (a ≡ to → b ≢ from) → direction_of a b new.net ≡ direction_of a b old.net
  pub up : (a b : SiteName) → up_between a b new.net ≡ up_between a b old.net
  pub fates : (a b : SiteName) → (used : ℕ) × (fates_between a b new.net ≡ drop used (fates_between a b old.net))
  pub phase : new.phase ≡ old.phase
  pub schema : new.schema ≡ old.schema
  pub base : new.base ≡ old.base
  pub snapshots : new.snapshots ≡ old.snapshots
  pub block : new.block ≡ old.block
  pub procs : new.procs ≡ old.procs

-- a push from one site to another was done in part: some of its steps were done, one after the other, and all else is as it was
pub record PushesInPart (from to : SiteName) (old new : WorldState) : Type 0 where
  pub steps : List PushStep
  pub made : new ≡ steps_done from to steps old
  pub beside : LeavesAllElse from to old new

-- ---- what holds of it

-- a world of some script: the laws over events, of snapshots and of convergence hold of it, no two of its sites have the same
-- name, behind Setup there is a direction from each site to its senders and back, its procedures are built, and so are the
-- directions for calls
pub record IsBuilt (w : WorldState) : Type 0 where
  pub of_script : IsOfScript w
  pub of_convergence : IsOfConvergence w
  pub shape : HasShape w.schema
  pub apart : SitesApart w.sites
  pub linked : is_setup w.phase ≡ false → (site origin : SiteName) → gets_from w site origin ≡ true
      → HasDirection w.net site origin × HasDirection w.net origin site
  pub procs : AreProcsBuilt w
  pub calls_linked : is_setup w.phase ≡ false → LinksForCalls w
