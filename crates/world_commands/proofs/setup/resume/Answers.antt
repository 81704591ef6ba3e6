use Rattle.std.proofs.Common.{sym, ap, ◌∙◌}
use Rattle.world_state.specs.World.{WorldState}
use Rattle.world_commands.proofs.Unbroken.{unbroken}
use Rattle.world_commands.proofs.setup.resume.Goals as goal

pub end_setup-requires-clause-sound : goal.end_setup-requires-clause-sound
end_setup-requires-clause-sound c = (unbroken c.args.parts.now (ap (λ (w : WorldState). w.phase) (sym c.parts.view_is) ∙ c.in-Setup.is) c.requires.passes).0

pub end_setup-requires-clause-keyed : goal.end_setup-requires-clause-keyed
end_setup-requires-clause-keyed c = (unbroken c.args.parts.now (ap (λ (w : WorldState). w.phase) (sym c.parts.view_is) ∙ c.in-Setup.is) c.requires.passes).1
