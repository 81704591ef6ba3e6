-- Worlds in which masters begin alike go on so, line by line.
use Rattle.std.proofs.Common.{◌≡◌, ℕ, ◌++◌, refl, sym, ◌∙◌, subst}
use Rattle.site_events.specs.Cluster.{Cluster}
use Rattle.site_events.specs.Events.{run}
use Rattle.script_parse.specs.declared.command.Command.{Command}
use Rattle.script_parse.specs.Named.{NamesColumn}
use Rattle.world_state.specs.World.{WorldState, first_world}
use Rattle.world_state.specs.Making.{world_made}
use Rattle.world_state.specs.Steps.{world_step}
use Rattle.world_laws.specs.Simulation.{Simulates, Leads}
use Rattle.event_laws.proofs.Runs.{run-append}
use Rattle.world_laws.proofs.Pieces.{none_lead, steps_are_events}
use Rattle.world_laws.proofs.Starting.{made_simulates, made_linked}
use Rattle.world_laws.proofs.FittingWorlds.{made_fit_start}
use Rattle.world_laws.specs.WellDeclared.{DeclaresWell}
use Rattle.world_laws.specs.Starts.{start_of}
use Rattle.world_laws.specs.SnapshotWorlds.{GoesOn, IsOfSnapshots, Declares, Goes}
use Rattle.world_laws.proofs.DeclaredStays.{step_schema}
use Rattle.world_laws.proofs.SnapshotScripts.{goes_on, made_goes_on, step_of_snapshots, first_of_snapshots}
use Rattle.world_laws.specs.AlikeWorlds.{GoesOnAlike, IsOfConvergence, Declaring, Going}
use Rattle.world_laws.proofs.AlikeMasters.{made_worlds_begin_alike}
use Rattle.world_laws.proofs.SetupEnds.{ends_setup, declares_well}

-- where events lead on and the schema stays, a world goes on alike
pub goes_on_alike : (old new : WorldState) → new.schema ≡ old.schema → ((v : Cluster) → Simulates old v → Leads new v) → GoesOnAlike old → GoesOnAlike new
goes_on_alike old new same leads a = let b = leads (run a.leads.events a.start) a.leads.simulates in record {
  goes = goes_on old new same leads a.goes;
  schema = a.schema;
  of_schema = a.of_schema ∙ sym same;
  start = a.start;
  fit = a.fit;
  meshed = a.meshed;
  alike = a.alike;
  leads = record { events = b.events ++ a.leads.events; simulates = subst (Simulates new) (sym (run-append b.events a.leads.events a.start)) b.simulates };
}

pub step_goes_on_alike : (number : ℕ) (c : Command) (w : WorldState) → GoesOnAlike w → GoesOnAlike (world_step number c w)
step_goes_on_alike number c w a = goes_on_alike w (world_step number c w) (step_schema number c w a.leads.simulates.behind) (λ v s. steps_are_events number c w v s) a

-- Setup's end is where it begins
pub made_goes_on_alike : (w : WorldState) → DeclaresWell w → GoesOnAlike (world_made w)
made_goes_on_alike w well = record {
  goes = made_goes_on w well;
  schema = w.schema;
  of_schema = refl;
  start = start_of (world_made w);
  fit = made_fit_start w well.sound;
  meshed = made_linked w well.sound.sound.shape;
  alike = made_worlds_begin_alike w well;
  leads = none_lead (world_made w) (start_of (world_made w)) (made_simulates w);
}

pub step_of_convergence : (number : ℕ) (c : Command) (w : WorldState) → NamesColumn c → IsOfConvergence w → IsOfConvergence (world_step number c w)
step_of_convergence number c w named (Going a) = Going (step_goes_on_alike number c w a)
step_of_convergence number c w named (Declaring so_far) = go (step_of_snapshots number c w named (Declares so_far))
  where
    go : IsOfSnapshots (world_step number c w) → IsOfConvergence (world_step number c w)
    go (Declares still) = Declaring still
    go (Goes g) =
        let made = ends_setup number w so_far.setup c g.leads.simulates.behind in
        Going (subst GoesOnAlike (sym made) (made_goes_on_alike w (declares_well w so_far (subst GoesOn made g))))

pub first_of_convergence : IsOfConvergence first_world
first_of_convergence = go first_of_snapshots
  where
    go : IsOfSnapshots first_world → IsOfConvergence first_world
    go (Declares so_far) = Declaring so_far
    go (Goes g) = absurd (cc g.leads.simulates.behind)

-- it is a world of which the laws of snapshots hold
pub of_snapshots : (w : WorldState) → IsOfConvergence w → IsOfSnapshots w
of_snapshots w (Declaring so_far) = Declares so_far
of_snapshots w (Going a) = Goes a.goes
