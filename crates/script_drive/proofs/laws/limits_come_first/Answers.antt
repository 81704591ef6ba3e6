use Rattle.script_drive.proofs.LimitLemmas.{limited-many, limited-long, limited-within}
use Rattle.script_drive.proofs.laws.limits_come_first.Goals as goal

pub returns : goal.returns
returns g c step most_lines most_bytes refusal w n line = record {
  many = limited-many most_lines most_bytes refusal step w n line;
  long = limited-long most_lines most_bytes refusal step w n line;
  within = limited-within most_lines most_bytes refusal step w n line;
}
