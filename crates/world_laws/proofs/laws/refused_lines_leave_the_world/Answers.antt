-- The law of refused lines.
use Rattle.world_laws.proofs.RefusedLines.{refused_lines_leave_all_but_the_block, refused_commits_close_the_block, refused_sends_close_the_block}
use Rattle.world_laws.proofs.laws.refused_lines_leave_the_world.Goals as goal

pub returns-clause-kept : goal.returns-clause-kept
returns-clause-kept c = refused_lines_leave_all_but_the_block

pub returns-clause-closed : goal.returns-clause-closed
returns-clause-closed c = refused_commits_close_the_block

pub returns-clause-ended : goal.returns-clause-ended
returns-clause-ended c = refused_sends_close_the_block
