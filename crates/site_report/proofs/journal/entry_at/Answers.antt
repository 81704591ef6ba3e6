-- The entry at a place is the first from there on.
use Rattle.std.proofs.Common.{sym, reverse}
use Rattle.rep_lists.proofs.Places.{drop_from_found}
use Rattle.site_report.proofs.journal.entry_at.Goals as goal

pub returns : goal.returns
returns g c = drop_from_found (reverse c.args.site.now.journal) c.args.place c.in-Some.entry.now (sym c.in-Some.ensures)
