-- What a push of calls does, step by step, and what it leaves.
use Rattle.std.specs.Prelude.{◌≡◌, ◌≢◌, ℕ, drop, List, [], ◌∷◌}
use Rattle.rep_values.specs.declared.name.SiteName.{SiteName}
use Rattle.net_plan.specs.Directions.{Direction, direction_of, at_direction, delivered}
use Rattle.proc_state.specs.State.{ProcState}
use Rattle.proc_state.specs.Passes.{proc_apply}
use Rattle.world_state.specs.Procs.{Procs, proc_of, at_proc}
use Rattle.world_state.specs.CallPushes.{calls_release, calls_send, calls_deliver_one, calls_send_mark}
use Rattle.world.specs.Following.{Travel, Release, Take, Lose, PushStep, There, Send, MakePasses, SendMark, Back, up_between, fates_between}

-- ---- its steps

-- the first packet on the way is lost
abbrev pub calls_lose : SiteName → SiteName → Procs → Procs
calls_lose from to p = record p { net = at_direction from to delivered p.net }

-- what becomes of calls on their way from one site to another
abbrev pub calls_travel : SiteName → SiteName → Travel → Procs → Procs
calls_travel from to Release p = calls_release from to p
calls_travel from to Take p = calls_deliver_one from to p
calls_travel from to Lose p = calls_lose from to p

-- these positions of a sender are applied, one after the other
abbrev pub calls_applied : SiteName → List ℕ → ProcState → ProcState
calls_applied origin [] x = x
calls_applied origin (position ∷ more) x = calls_applied origin more (proc_apply origin position x)

-- parts of passes, one after the other
abbrev pub proc_parts : List (SiteName × List ℕ) → ProcState → ProcState
proc_parts [] x = x
proc_parts (part ∷ parts) x = proc_parts parts (calls_applied part.0 part.1 x)

-- what a step of a push of calls from one site to another does; the steps are those of any push
abbrev pub calls_step : SiteName → SiteName → PushStep → Procs → Procs
calls_step from to (There travel) p = calls_travel from to travel p
calls_step from to (Send position) p = calls_send from to position p
calls_step from to (MakePasses parts) p = record p { sites = at_proc to (proc_parts parts) p.sites }
calls_step from to SendMark p = calls_send_mark to from p
calls_step from to (Back travel) p = calls_travel to from travel p

-- one step after the other
abbrev pub calls_steps : SiteName → SiteName → List PushStep → Procs → Procs
calls_steps from to [] p = p
calls_steps from to (step ∷ steps) p = calls_steps from to steps (calls_step from to step p)

-- ---- what it leaves

-- the other directions and what stands in them are as before, and so is which directions are up; of fates, some in front are
-- used up
pub record LeavesOtherDirections (from to : SiteName) (old new : List Direction) : Type 0 where
  pub directions : (a b : SiteName) → (a ≡ from → b ≢ to) → (a ≡ to → b ≢ from) → direction_of a b new ≡ direction_of a b old
  pub up : (a b : SiteName) → up_between a b new ≡ up_between a b old
  pub fates : (a b : SiteName) → (used : ℕ) × (fates_between a b new ≡ drop used (fates_between a b old))

-- beside two sites and the calls between them all is as it was: the other sites, the other directions, what is declared, and the
-- open block
pub record LeavesOtherCalls (from to : SiteName) (old new : Procs) : Type 0 where
  pub sites : (name : SiteName) → name ≢ from → name ≢ to → proc_of name new.sites ≡ proc_of name old.sites
  pub net : LeavesOtherDirections from to old.net new.net
  pub tables : new.tables ≡ old.tables
  pub procedures : new.procedures ≡ old.procedures
  pub block : new.block ≡ old.block

-- a push of calls from one site to another was done in part: some of its steps were done, one after the other, and all else is
-- as it was
pub record CallsPushInPart (from to : SiteName) (old new : Procs) : Type 0 where
  pub steps : List PushStep
  pub made : new ≡ calls_steps from to steps old
  pub beside : LeavesOtherCalls from to old new
