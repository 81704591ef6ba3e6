use Rattle.std.proofs.Common.{◌≤◌, length, ap, arith}
use Rattle.std.proofs.lemmas.List.{drop_all}
use Rattle.std.proofs.lemmas.List.Sums.{sum-map, sum_by-drop_more}
use Rattle.site_state.specs.Joining.{unfinished_of}
use Rattle.master_join.proofs.quiet.unfinished.Goals as goal

pub loop-given-init : goal.loop-given-init
loop-given-init g c = record { counted = omega (arith, sum-map (unfinished_of c.args.site.now) c.args.last.now); few = omega arith }

pub loop-given-preserved : goal.loop-given-preserved
loop-given-preserved g c =
    let last = c.args.last.now in
    let more = sum_by-drop_more (unfinished_of c.args.site.now) last c.loop-given.given-index c.given-item.result c.loop-given-test.true in
    let here = ap (unfinished_of c.args.site.now) c.given-item.is in
    record { counted = omega (arith, c.loop-given.invariant.counted, more, here, c.unfinished_of.ensures, c.saturating_add-count.ensures); few = omega (arith, c.saturating_add-count.ensures) }

pub returns : goal.returns
returns g c =
    let last = c.args.last.now in
    let past : length last ≤ c.loop-given.given-index = omega (arith, c.loop-given-test.false) in
    let counted = rw (drop_all c.loop-given.given-index last past) at c.loop-given.invariant.counted in
    omega (arith, counted, c.loop-given.invariant.few)
