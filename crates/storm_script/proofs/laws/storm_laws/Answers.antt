-- The laws of storms.
use Rattle.storm_script.proofs.Lines.{storms_are_lines, storms_read_again}
use Rattle.storm_script.proofs.laws.storm_laws.Goals as goal

pub returns-clause-lines : goal.returns-clause-lines
returns-clause-lines c = storms_are_lines

pub returns-clause-read : goal.returns-clause-read
returns-clause-read c = storms_read_again c.form_laws.ensures
