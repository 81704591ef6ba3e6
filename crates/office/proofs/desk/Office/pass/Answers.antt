-- A journal has no more entries of a kind than a number holds.
use Rattle.std.proofs.Common.{arith}
use Rattle.office.proofs.MadePasses.{count_at_most}
use Rattle.office.proofs.desk.Office.pass.Goals as goal

pub returns-clause-fits : goal.returns-clause-fits
returns-clause-fits c = λ test. omega (arith, count_at_most test c.apply_pass.new.self.journal, c.journal_len.ensures, c.journal_len.type_inv)
