-- What each snapshot shows comes behind what those before it show.
use Rattle.std.proofs.Common.{◌+◌, drop, refl, arith}
use Rattle.std.proofs.lemmas.List.Sums.{sum_by-cons}
use Rattle.rep_lists.proofs.Places.{drop_from_found}
use Rattle.site_events.specs.Rules.{looked_up}
use Rattle.world_commands.proofs.ShownRows.{shown_next}
use Rattle.world_commands.proofs.ruled.rows_of_each_by_logs.Goals as goal

pub loop-place-preserved : goal.loop-place-preserved
loop-place-preserved c =
    let all = c.args.snapshots.now.snapshots in
    let place = c.loop-place.place in
    let s = c.snapshot_at-snapshot.result.now.snapshot in
    let counts = looked_up c.args.logs.now.logs in
    let so_far = rw (drop_from_found all place s c.snapshot_at-snapshot.ensures) at c.loop-place.invariant.counted in
    record {
      shown = shown_next all place s c.snapshot_at-snapshot.ensures c.args.own.now.schema c.args.master.now.tables c.loop-place.rows c.push.new.self
          (record { table = c.table.result; rows = c.in_ok-renewed.renewed.rows }) c.in_ok-push.ensures.ok (rw (c.in_ok-renewed.ensures.rows, c.table.ensures) refl) c.loop-place.invariant.shown;
      counted = omega (arith, so_far, sum_by-cons counts s (drop (place + 1) all), c.in_ok-looked_up.ensures, c.in_ok-renewed.ensures.counted);
    }
