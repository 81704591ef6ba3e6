-- The entry at a place from the end is the first from there on.
use Rattle.std.proofs.Common.{sym}
use Rattle.site_rounds.proofs.Newest.{newest_found}
use Rattle.site_rounds.proofs.entries.entry_behind.Goals as goal

pub returns : goal.returns
returns g c =
    let journal = (g.J.Journalled.told_of c.args.site.now).journal in
    newest_found journal c.args.behind c.in-Some.entry.now c.requires (rw c.entry_count.ensures at (sym c.in-Some.ensures))
