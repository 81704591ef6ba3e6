-- A run whose lines have no choice.
use Rattle.std.proofs.Common.{◌≡◌, ℕ, List, subst}
use Rattle.std.specs.Prelude.{⊤, Option}
use Rattle.script_drive.specs.declared.status.Status.{Status}
use Rattle.script_drive.specs.LineBytes.{line_step}
use Rattle.script_drive.specs.Prompt.{Asked}
use Rattle.script_drive.specs.Outcome.{Ran, RanBy}
use Rattle.world_state.specs.World.{WorldState, first_world}
use Rattle.world_run.specs.Scripts.{script_step}

-- from the first world it tells what is told by the one step that there is
pub ran_from_first : (start : WorldState) (s : Status) (l l' k k' : Option (List ℕ)) (r r' : Option (List Asked)) → start ≡ first_world
    → RanBy (λ (choices : Unit {0}). script_step) (λ _ _. ⊤) (λ _. ⊤) start s l l' k k' r r' → (w : WorldState) × Ran (line_step script_step) first_world w s l l' k k' r r'
ran_from_first start s l l' k k' r r' begins ran =
    let from_first = subst (λ (w : WorldState). RanBy (λ (choices : Unit {0}). script_step) (λ _ _. ⊤) (λ _. ⊤) w s l l' k k' r r') begins ran in
    (from_first.0, from_first.2 tt tt)
