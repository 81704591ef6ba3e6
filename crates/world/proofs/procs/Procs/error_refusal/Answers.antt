-- Where the site isn't there, the two aren't two masters.
use Rattle.std.proofs.Common.{◌≡◌, Bool, true, false, List, ◌∷◌, [], Some, None, refl, ◌∙◌}
use Rattle.std.specs.Prelude.{not, Option}
use Rattle.rep_values.specs.declared.name.SiteName.{SiteName}
use Rattle.rep_values.specs.declared.refusal.Refusal.TheVariants as refusal
use Rattle.rep_values.specs.RefusalSteps.{refused, first_refusal, known}
use Rattle.proc_state.specs.State.{ProcState}
use Rattle.world_state.specs.Procs.{proc_of}
use Rattle.world_state.specs.ProcRefusals.{is_other}
use Rattle.world.proofs.procs.Procs.error_refusal.Goals as goal

-- the other one is known where the first is there
known_other : (origin : SiteName) (o : Option ProcState)
    → refused (not (is_other origin o)) refusal.UnknownName ≡ first_refusal (known o (λ x. refused (not (is_other origin o)) refusal.UnknownName ∷ []))
known_other origin None = refl
known_other origin (Some x) = go (is_other origin (Some x))
  where
    go : (b : Bool) → refused (not b) refusal.UnknownName ≡ first_refusal (refused (not b) refusal.UnknownName ∷ [])
    go true = refl
    go false = refl

pub returns : goal.returns
returns c = c.masters_refusal.ensures ∙ known_other c.args.origin.now (proc_of c.args.site.now c.args.self.now.sites)
