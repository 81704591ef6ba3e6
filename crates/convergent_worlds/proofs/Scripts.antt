-- The world of every script is one of which the laws of convergence hold.
use Rattle.std.proofs.Common.{◌≡◌, ℕ, suc, List, [], ◌∷◌, ◌++◌, ◌∙◌}
use Rattle.std.specs.List.{AllByRecursion}
use Rattle.convergence_laws.specs.Laws.{GroupsAreJoined, GroupsAreJoinedSince}
use Rattle.convergence_laws.specs.QuietAgreement.{QuietMastersAgree, QuietMastersAgreeAgain}
use Rattle.convergence_laws.specs.Latest.{LatestValuesTellApart}
use Rattle.error_cause_laws.specs.Laws.{ErrorsAreExcused}
use Rattle.error_cause_laws.specs.LostInsertLaws.{MissingRowsAreOfInsertsInError, MissingRowsAreOfLostInserts}
use Rattle.script_parse.specs.declared.command.Command.{Command}
use Rattle.script_parse.specs.Named.{NamesColumn}
use Rattle.world_state.specs.World.{WorldState, first_world}
use Rattle.world_state.specs.Making.{world_made}
use Rattle.world_state.specs.Steps.{world_step, world_steps}
use Rattle.world_laws.specs.Scripts.{script_world}
use Rattle.world_laws.specs.SnapshotScripts.{InWorlds, InScripts}
use Rattle.convergent_worlds.specs.Convergence.{ConvergenceHolds}
use Rattle.world_laws.specs.AlikeWorlds.{GoesOnAlike, IsOfConvergence, Going}
use Rattle.convergent_worlds.proofs.ConvergenceHolds.{agree_of, excused_of, lost_of, joined_of, since_of, greatest_of}
use Rattle.convergent_worlds.proofs.Histories.{again_of, history_of}
use Rattle.world_laws.proofs.AlikeWorlds.{step_goes_on_alike, made_goes_on_alike, step_of_convergence, first_of_convergence}

-- ---- behind Setup

steps_go_on_alike : (number : ℕ) (lines : List Command) (w : WorldState) → GoesOnAlike w → GoesOnAlike (world_steps number lines w)
steps_go_on_alike number [] w a = a
steps_go_on_alike number (c ∷ more) w a = steps_go_on_alike (suc number) more (world_step number c w) (step_goes_on_alike number c w a)

-- ---- every script

steps_of_convergence : (number : ℕ) (lines : List Command) (w : WorldState) → AllByRecursion NamesColumn lines → IsOfConvergence w → IsOfConvergence (world_steps number lines w)
steps_of_convergence number [] w named is = is
steps_of_convergence number (c ∷ more) w named is = steps_of_convergence (suc number) more (world_step number c w) named.1 (step_of_convergence number c w named.0 is)

script_is : (lines : List Command) → AllByRecursion NamesColumn lines → IsOfConvergence (script_world lines)
script_is lines named = steps_of_convergence 1 lines first_world named first_of_convergence

-- ---- the laws

pub in_scripts : (Holds : WorldState → Type 0) → ((w : WorldState) → IsOfConvergence w → Holds w) → InScripts Holds
in_scripts Holds law lines named = law (script_world lines) (script_is lines named)

pub in_worlds : (Holds : WorldState → Type 0) → ((w : WorldState) → IsOfConvergence w → Holds w) → InWorlds Holds
in_worlds Holds law w well number lines = law (world_steps number lines (world_made w)) (Going (steps_go_on_alike number lines (world_made w) (made_goes_on_alike w well)))

pub convergence_holds_of : QuietMastersAgree → QuietMastersAgreeAgain → ErrorsAreExcused → MissingRowsAreOfInsertsInError → MissingRowsAreOfLostInserts → GroupsAreJoined → GroupsAreJoinedSince
    → LatestValuesTellApart
    → (w : WorldState) → IsOfConvergence w → ConvergenceHolds w
convergence_holds_of agree again excused lost lost_before joined since greatest w is = record {
  agree = agree_of agree w is;
  excused = excused_of excused w is;
  lost = lost_of lost w is;
  again = again_of again w is;
  history = history_of again lost_before w is;
  joined = joined_of joined w is;
  since = since_of since w is;
  greatest = greatest_of greatest w is;
}
