-- Noting the rows that are left leads to what noting all does, and there is room for them.
use Rattle.std.proofs.Common.{◌≡◌, ◌+◌, ◌≤◌, drop}
use Rattle.change_logs.specs.Noting.{logged_in}
use Rattle.change_logs.proofs.changed.note_in.Given as goal

abbrev pub invariant-loop-change : goal.invariant-loop-change
invariant-loop-change l = record {
  log : logged_in l.schema l.moment (drop l.change-index l.changes) l.log.log ≡ logged_in l.schema l.moment l.changes l.initial.log.log;
  room : l.initial.log.spare ≤ l.log.spare + l.change-index;
}
