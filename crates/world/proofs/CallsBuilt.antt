-- What a push of calls leaves of a world of a script, done in part, is such a world.
use Rattle.std.proofs.Common.{◌≡◌, ℕ, List, [], ◌∷◌, false, refl, sym, subst}
use Rattle.std.specs.List.{AllByRecursion}
use Rattle.rep_values.specs.declared.name.SiteName.{SiteName}
use Rattle.rep_schema.specs.declared.schema.Schema.{Schema}
use Rattle.rep_schema.specs.declared.schema.TableEntry.{TableEntry}
use Rattle.rep_schema.specs.Shape.{HasShape}
use Rattle.site_events.specs.Cluster.{Cluster}
use Rattle.proc_state.specs.declared.procedure.Procedure.{Procedure}
use Rattle.proc_state.specs.Calls.{AreProcedures}
use Rattle.proc_state.specs.State.{ProcState}
use Rattle.proc_state.specs.Passes.{proc_apply}
use Rattle.proc_state.specs.Events.{Apply}
use Rattle.world_state.specs.World.{WorldState}
use Rattle.world_state.specs.Phases.{is_setup}
use Rattle.world_state.specs.Procs.{Procs, proc_schema}
use Rattle.world_laws.specs.Simulation.{Simulates, Leads}
use Rattle.world_laws.specs.Built.{IsProcTable, tables_alone, AreProcsDeclared, AreMade}
use Rattle.world_laws.proofs.SiteStreams.{KeepsStreams, keeps_same, keeps_then, apply_keeps}
use Rattle.world_laws.proofs.Made.{Happens, none_happens, one_happens, then_happens, site_works, release_made, send_made, take_made, lose_made, mark_made}
use Rattle.world.specs.Following.{Travel, Release, Take, Lose, PushStep, There, Send, MakePasses, SendMark, Back, IsBuilt}
use Rattle.world.specs.Calling.{calls_travel, calls_applied, proc_parts, calls_step, calls_steps}
use Rattle.world.specs.Doing.{PushesCallsInPart}
use Rattle.world.proofs.Following.{of_script_leads, of_convergence_leads}
use Rattle.world.proofs.CallsFollowing.{calls_part_linked}

-- ---- sites that are applied to

applied_happens : (schema : Schema) (procedures : List Procedure) (origin : SiteName) (positions : List ℕ) (x : ProcState) → Happens schema procedures x (calls_applied origin positions x)
applied_happens schema procedures origin [] x = none_happens schema procedures x
applied_happens schema procedures origin (position ∷ more) x =
    let y : ProcState = proc_apply origin position x in
    then_happens schema procedures x y (calls_applied origin more y) (one_happens schema procedures (Apply origin position) x tt) (applied_happens schema procedures origin more y)

parts_happen : (schema : Schema) (procedures : List Procedure) (parts : List (SiteName × List ℕ)) (x : ProcState) → Happens schema procedures x (proc_parts parts x)
parts_happen schema procedures [] x = none_happens schema procedures x
parts_happen schema procedures (part ∷ parts) x =
    let y : ProcState = calls_applied part.0 part.1 x in
    then_happens schema procedures x y (proc_parts parts y) (applied_happens schema procedures part.0 part.1 x) (parts_happen schema procedures parts y)

applied_keep : (sites : List ProcState) (origin : SiteName) (positions : List ℕ) (x : ProcState) → KeepsStreams sites x (calls_applied origin positions x)
applied_keep sites origin [] x = keeps_same sites x
applied_keep sites origin (position ∷ more) x =
    let y : ProcState = proc_apply origin position x in
    keeps_then sites x y (calls_applied origin more y) (apply_keeps sites origin position x) (applied_keep sites origin more y)

parts_keep : (sites : List ProcState) (parts : List (SiteName × List ℕ)) (x : ProcState) → KeepsStreams sites x (proc_parts parts x)
parts_keep sites [] x = keeps_same sites x
parts_keep sites (part ∷ parts) x =
    let y : ProcState = calls_applied part.0 part.1 x in
    keeps_then sites x y (proc_parts parts y) (applied_keep sites part.0 part.1 x) (parts_keep sites parts y)

-- ---- steps of a push

module _ (schema : Schema) where
  travel_made : (from to : SiteName) (travel : Travel) (p : Procs) → AreMade schema p → AreMade schema (calls_travel from to travel p)
  travel_made from to Release p made = release_made schema from to p made
  travel_made from to Take p made = take_made schema from to p made
  travel_made from to Lose p made = lose_made schema from to p made

  step_made : (from to : SiteName) (step : PushStep) (p : Procs) → AreMade schema p → AreMade schema (calls_step from to step p)
  step_made from to (There travel) p made = travel_made from to travel p made
  step_made from to (Send position) p made = send_made schema from to position p made
  step_made from to (MakePasses parts) p made = site_works schema p to (proc_parts parts) (λ x found. parts_happen (proc_schema schema p.tables) p.procedures parts x) (λ sites x. parts_keep sites parts x) made
  step_made from to SendMark p made = mark_made schema to from p made
  step_made from to (Back travel) p made = travel_made to from travel p made

  steps_made : (from to : SiteName) (steps : List PushStep) (p : Procs) → AreMade schema p → AreMade schema (calls_steps from to steps p)
  steps_made from to [] p made = made
  steps_made from to (step ∷ steps) p made = steps_made from to steps (calls_step from to step p) (step_made from to step p made)

-- ---- worlds of scripts

declared_same : (p q : Procs) → q.tables ≡ p.tables → q.procedures ≡ p.procedures → AreProcsDeclared p → AreProcsDeclared q
declared_same p q tables procedures declared = record {
  shape = subst (λ (these : List TableEntry). HasShape (tables_alone these)) (sym tables) declared.shape;
  tables = subst (AllByRecursion IsProcTable) (sym tables) declared.tables;
  procedures = subst (λ (ps : List Procedure). AreProcedures (tables_alone q.tables) ps) (sym procedures)
      (subst (λ (these : List TableEntry). AreProcedures (tables_alone these) p.procedures) (sym tables) declared.procedures);
}

-- where what there is of procedures changes alone, no events happen
none_happen : (w : WorldState) (p : Procs) (v : Cluster) → Simulates w v → Leads (record w { procs = p }) v
none_happen w p v s = record { events = []; simulates = record { behind = s.behind; sites = s.sites; net = s.net } }

-- behind Setup
pub built_calls_part : (from to : SiteName) (w y : WorldState) → is_setup w.phase ≡ false → IsBuilt w → PushesCallsInPart from to w y → IsBuilt y
built_calls_part from to w y behind built pushed = subst IsBuilt (sym pushed.rest) (record {
  of_script = of_script_leads w z behind built.of_script (none_happen w y.procs);
  of_convergence = of_convergence_leads w z behind built.of_convergence refl (none_happen w y.procs);
  shape = built.shape;
  apart = built.apart;
  linked = built.linked;
  procs = record {
    declared = declared_same w.procs y.procs pushed.part.beside.tables pushed.part.beside.procedures built.procs.declared;
    none = λ setup. absurd (cc (setup, behind));
    made = λ later. subst (AreMade w.schema) (sym pushed.part.made) (steps_made w.schema from to pushed.part.steps w.procs (built.procs.made behind));
  };
  calls_linked = λ later site origin gets.
      let both = built.calls_linked behind site origin gets in
      (calls_part_linked from to site origin w.procs y.procs pushed.part both.0, calls_part_linked from to origin site w.procs y.procs pushed.part both.1);
})
  where
    z : WorldState
    z = record w { procs = y.procs }
