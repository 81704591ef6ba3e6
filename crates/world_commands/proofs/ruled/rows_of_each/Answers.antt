-- What each snapshot shows comes behind what those before it show.
use Rattle.std.proofs.Common.{refl}
use Rattle.world_commands.proofs.ShownRows.{shown_next}
use Rattle.world_commands.proofs.ruled.rows_of_each.Goals as goal

pub loop-place-preserved : goal.loop-place-preserved
loop-place-preserved c =
    shown_next c.args.snapshots.now.snapshots c.loop-place.place c.snapshot_at-snapshot.result.now.snapshot c.snapshot_at-snapshot.ensures c.args.master.now.schema c.args.master.now.tables c.loop-place.shown c.push.new.self
    (record { table = c.table-table.result; rows = c.in_ok-rows.rows }) c.in_ok-push.ensures.ok (rw (c.in_ok-rows.ensures, c.table-table.ensures) refl) c.loop-place.invariant
