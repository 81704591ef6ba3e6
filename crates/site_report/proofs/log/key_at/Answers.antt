-- The key at a place is the first from there on.
use Rattle.std.proofs.Common.{sym}
use Rattle.rep_lists.proofs.Places.{drop_from_found}
use Rattle.site_report.proofs.log.key_at.Goals as goal

pub returns : goal.returns
returns c = drop_from_found c.args.log.now.log.keys c.args.place c.in-Some.entry.now (sym c.in-Some.ensures)
