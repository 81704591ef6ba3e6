-- One row more is added behind the others.
use Rattle.storm_script.proofs.Pushes.{row_lines-more}
use Rattle.storm_script.proofs.first.add_rows.Goals as goal

pub loop-id-preserved : goal.loop-id-preserved
loop-id-preserved c =
    let more = row_lines-more c.args.commands.now.items c.loop-id.commands.items c.loop-id.id c.loop-id.invariant in
    cc (more, c.in_ok-push.ensures.items, c.in_ok-row.ensures)
