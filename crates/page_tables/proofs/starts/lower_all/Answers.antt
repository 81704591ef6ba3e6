use Rattle.std.proofs.Common.{◌-◌, get_or, arith}
use Rattle.std.proofs.lemmas.List.{get_or_default}
use Rattle.std.proofs.lemmas.List.Edits.{map_over_more}
use Rattle.page_tables.proofs.starts.lower_all.Goals as goal

pub loop-start-preserved : goal.loop-start-preserved
loop-start-preserved c =
    let start = get_or c.loop-start.starts c.loop-start.start-index 0 in
    map_over_more (λ start. start - 1) c.args.starts.now c.loop-start.starts c.loop-start.start-index start c.loop-start-test.true c.loop-start.invariant
    (get_or_default c.loop-start.starts c.loop-start.start-index 0 start (omega (arith, c.loop-start-test.true, c.loop-start.auto.starts)))
