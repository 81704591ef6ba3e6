-- Passes were made, and a count has what they finished.
use Rattle.office.proofs.MadePasses.{Passed}
use Rattle.office.proofs.desk.Office.work.Given as goal

abbrev pub invariant-loop : goal.invariant-loop
invariant-loop l = Passed l.fn.self l.self l.count
