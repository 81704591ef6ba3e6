-- What the snapshots pick is given for each of them.
use Rattle.std.proofs.Common.{sym, subst, ◌∙◌}
use Rattle.site_state.specs.Contents.{tables_of}
use Rattle.refreshes.specs.Refreshing.{AreGivenFor}
use Rattle.world_commands.proofs.GivenRows.{shown_are_given}
use Rattle.world_commands.proofs.refreshing.refresh_complete.Goals as goal

pub refresh_complete_from-requires-clause-rows : goal.refresh_complete_from-requires-clause-rows
refresh_complete_from-requires-clause-rows c lifetimes =
    let x = c.args.site.now in
    let m = c.args.master.now in
    let picked = rw (c.store.ensures.schema, c.requires.schema, c.store.ensures.tables, c.notes.ensures.snapshots) at c.in_ok-rows.ensures in
    subst (AreGivenFor x.schema x.snapshots) (sym (c.as_slice.ensures ∙ picked)) (shown_are_given x.schema (tables_of m) x.snapshots c.requires.apart c.requires.picked)
