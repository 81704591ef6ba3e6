-- The laws of lines of scripts with live parts.
use Rattle.script_parse.proofs.LiveLinesAgain.{keeps_lines, keeps_commands, live_reads_again}
use Rattle.script_parse.proofs.laws.live_line_laws.Goals as goal

pub returns-clause-lines : goal.returns-clause-lines
returns-clause-lines c = keeps_lines

pub returns-clause-commands : goal.returns-clause-commands
returns-clause-commands c = keeps_commands

pub returns-clause-again : goal.returns-clause-again
returns-clause-again c command formed = live_reads_again command formed
