-- Without parents the queries are the rules.
use Rattle.std.proofs.Common.{◌∙◌}
use Rattle.site_state.specs.Contents.{tables_of}
use Rattle.world_commands.proofs.NoParents.{queries_shown, counted_by_keys}
use Rattle.world_commands.proofs.refreshing.refresh_by_keys.Goals as goal

pub refresh_fast_from-requires-clause-others : goal.refresh_fast_from-requires-clause-others
refresh_fast_from-requires-clause-others c lifetimes =
    let x = c.args.site.now in
    rw (c.of-view.ensures.store, c.store.ensures.tables, c.notes.ensures.logs) (queries_shown c.args.master.now x x.snapshots c.requires.none (c.requires.can.others c.requires.reach))

pub returns-clause-count : goal.returns-clause-count
returns-clause-count c =
    let x = c.args.site.now in
    let m = c.args.master.now in
    let keys = rw (c.of-view.ensures.store, c.store.ensures.tables, c.notes.ensures.logs) at c.in_ok-count.ensures.count in
    keys ∙ counted_by_keys c.queries_are_rules.ensures x.schema m.logs (tables_of m) x c.requires.none
