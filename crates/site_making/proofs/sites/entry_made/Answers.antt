use Rattle.std.proofs.Common.{ap, ◌∙◌}
use Rattle.std.specs.Prelude.{is_none}
use Rattle.site_making.proofs.EarlySites.{is_master_site-entry}
use Rattle.site_making.proofs.sites.entry_made.Goals as goal

pub master_made-requires-clause-master : goal.master_made-requires-clause-master
master_made-requires-clause-master c = is_master_site-entry c.args.filled.now.schema c.args.entry.now c.requires.keyed.shape c.requires.entry ∙ ap is_none c.in-None.is

pub snapshot_site_made-requires-clause-master : goal.snapshot_site_made-requires-clause-master
snapshot_site_made-requires-clause-master c = is_master_site-entry c.args.filled.now.schema c.args.entry.now c.requires.keyed.shape c.requires.entry ∙ ap is_none c.in-Some.is
