-- The laws of lines outside a live part.
use Rattle.world_run.proofs.LiveLaws.{lines_outside_are_as_before, scripts_without_parts_print_the_same}
use Rattle.world_run.proofs.part_laws.live_scripts_keep_lines.Goals as goal

pub returns-clause-lines : goal.returns-clause-lines
returns-clause-lines c = lines_outside_are_as_before

pub returns-clause-report : goal.returns-clause-report
returns-clause-report c = scripts_without_parts_print_the_same
