-- The law of forms.
use Rattle.script_parse.proofs.ReadAgain.{reads_again}
use Rattle.script_parse.proofs.laws.form_laws.Goals as goal

pub returns : goal.returns
returns c command formed = reads_again command formed
