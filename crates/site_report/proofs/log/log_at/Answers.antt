-- The log at a place is the first from there on.
use Rattle.rep_lists.proofs.Places.{drop_from_found}
use Rattle.change_logs.specs.RoomyNotes.{log_in}
use Rattle.site_report.proofs.log.log_at.Goals as goal

pub returns : goal.returns
returns c = drop_from_found c.args.notes.now.logs c.args.place (log_in c.log_at.result.now) c.log_at.ensures
