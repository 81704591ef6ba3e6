-- What the logs make of each snapshot's rows is what it picks.
use Rattle.std.proofs.Common.{sym, subst, ◌∙◌}
use Rattle.site_state.specs.Contents.{tables_of}
use Rattle.refreshes.specs.Refreshing.{AreGivenFor}
use Rattle.world_commands.proofs.GivenRows.{shown_are_given}
use Rattle.world_commands.proofs.refreshing.refresh_by_rules.Goals as goal

pub refresh_complete_from-requires-clause-rows : goal.refresh_complete_from-requires-clause-rows
refresh_complete_from-requires-clause-rows c lifetimes =
    let x = c.args.site.now in
    let m = c.args.master.now in
    let made = rw (c.store.ensures.schema, c.store-2.ensures.tables, c.notes.ensures.snapshots) at c.in_ok-made.ensures.rows in
    subst (AreGivenFor x.schema x.snapshots) (sym (c.as_slice.ensures ∙ made)) (shown_are_given x.schema (tables_of m) x.snapshots c.requires.can.apart c.requires.can.picked)
