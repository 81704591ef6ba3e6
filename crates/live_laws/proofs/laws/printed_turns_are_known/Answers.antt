-- The laws of printed turns.
use Rattle.live_laws.proofs.Printed.{printed_turns_are_known, listed_turns_are_known}
use Rattle.live_laws.proofs.TurnLines.{turn_lines_tell_subjects}
use Rattle.live_laws.proofs.laws.printed_turns_are_known.Goals as goal

pub returns-clause-printed : goal.returns-clause-printed
returns-clause-printed c = printed_turns_are_known

pub returns-clause-listed : goal.returns-clause-listed
returns-clause-listed c = listed_turns_are_known

pub returns-clause-lines : goal.returns-clause-lines
returns-clause-lines c = turn_lines_tell_subjects
