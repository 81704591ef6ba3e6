-- The senders in front have nothing that is ready.
use Rattle.office.proofs.QuietSites.{AreQuietBefore}
use Rattle.office.proofs.desk.Office.ready_sender.Given as goal

abbrev pub invariant-loop-place : goal.invariant-loop-place
invariant-loop-place l = AreQuietBefore l.place l.self
