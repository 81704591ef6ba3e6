-- Where Setup may end no rule is broken, by the schema or by tables of procedures.
use Rattle.std.proofs.Common.{◌≡◌, ℕ, Some, None, refl, subst}
use Rattle.std.specs.Prelude.{Option, option_map}
use Rattle.rep_values.specs.declared.refusal.Refusal.TheVariants as refusal
use Rattle.rep_values.specs.RefusalSteps.{refused}
use Rattle.rep_values.proofs.RefusalSteps.{or_then-None}
use Rattle.schema_rules.specs.Rules.{broken_rule}
use Rattle.script_parse.specs.declared.command.Command.TheVariants as command
use Rattle.world_state.specs.declared.phase.Phase.{Phase}
use Rattle.world_state.specs.declared.phase.Phase.TheVariants as phase
use Rattle.world_state.specs.World.{WorldState}
use Rattle.world_state.specs.Phases.{has_block, broken_by, lowest_broken, resume_step, phase_step}
use Rattle.world_state.proofs.LowestRules.{lower-None}
use Rattle.world.specs.Precheck.{precheck_refusal}

no_rule : (o : Option ℕ) → option_map refusal.SchemaRule o ≡ None → o ≡ None
no_rule None is = refl
no_rule (Some rule) is = absurd (cc is)

pub unbroken : (w : WorldState) → w.phase ≡ phase.Setup → precheck_refusal command.Resume w ≡ None → (broken_rule w.schema ≡ None) × (broken_by w.procs.tables ≡ None)
unbroken w setup passes =
    let step : resume_step w.phase (lowest_broken w.schema w.procs.tables) ≡ None
    = (or_then-None (refused (has_block w) refusal.WrongPhase) _ (or_then-None (phase_step command.Resume w) None passes).0).1 in
    let rules : lowest_broken w.schema w.procs.tables ≡ None = no_rule _ (subst (λ (p : Phase). resume_step p (lowest_broken w.schema w.procs.tables) ≡ None) setup step) in
    lower-None (broken_rule w.schema) (broken_by w.procs.tables) rules
