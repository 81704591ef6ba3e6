-- All that holds of every world.
use Rattle.convergent_worlds.specs.Convergence.{ConvergenceHolds}
use Rattle.convergent_worlds.proofs.Scripts.{in_scripts, in_worlds, convergence_holds_of}
use Rattle.convergent_worlds.proofs.laws.convergence_holds.Goals as goal

pub returns-clause-scripts : goal.returns-clause-scripts
returns-clause-scripts c = in_scripts ConvergenceHolds
    (convergence_holds_of c.quiet_masters_agree.ensures c.quiet_masters_agree_again.ensures c.errors_are_excused.ensures c.missing_rows_are_of_inserts_in_error.ensures c.missing_rows_are_of_lost_inserts.ensures c.groups_are_joined.ensures c.groups_are_joined_since.ensures c.latest_values_tell_apart.ensures)

pub returns-clause-worlds : goal.returns-clause-worlds
returns-clause-worlds c = in_worlds ConvergenceHolds
    (convergence_holds_of c.quiet_masters_agree.ensures c.quiet_masters_agree_again.ensures c.errors_are_excused.ensures c.missing_rows_are_of_inserts_in_error.ensures c.missing_rows_are_of_lost_inserts.ensures c.groups_are_joined.ensures c.groups_are_joined_since.ensures c.latest_values_tell_apart.ensures)

pub returns-clause-kept : goal.returns-clause-kept
returns-clause-kept c = convergence_holds_of c.quiet_masters_agree.ensures c.quiet_masters_agree_again.ensures c.errors_are_excused.ensures c.missing_rows_are_of_inserts_in_error.ensures c.missing_rows_are_of_lost_inserts.ensures c.groups_are_joined.ensures c.groups_are_joined_since.ensures c.latest_values_tell_apart.ensures
