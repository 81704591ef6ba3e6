use Rattle.std.proofs.Common.{◌≡◌, ◌-◌, ◌^◌, ◌≤◌, length, ap, arith}
use Rattle.std.specs.Prelude.{min}
use Rattle.std.proofs.lemmas.List.{drop_all}
use Rattle.std.proofs.lemmas.List.Sums.{sum_by-drop_more}
use Rattle.site_events.specs.Quiet.{unquiet_at}
use Rattle.world.specs.Joining.{unfinished_from}
use Rattle.world.proofs.Quiet.{unquiet_sum}
use Rattle.world.proofs.joins.unquiet_told.Goals as goal

pub loop-other-init : goal.loop-other-init
loop-other-init c = record { counted = omega (arith, unquiet_sum c.args.site.now c.args.sites.now); few = omega arith }

pub loop-other-preserved : goal.loop-other-preserved
loop-other-preserved c =
    let sites = c.args.sites.now in
    let more = sum_by-drop_more (unfinished_from c.args.site.now) sites c.loop-other.other-index c.other-item.result c.loop-other-test.true in
    let here = ap (unfinished_from c.args.site.now) c.other-item.is in
    record { counted = omega (arith, c.loop-other.invariant.counted, more, here, c.unfinished_from.ensures, c.saturating_add-count.ensures); few = omega (arith, c.saturating_add-count.ensures) }

pub returns : goal.returns
returns c =
    let sites = c.args.sites.now in
    let past : length sites ≤ c.loop-other.other-index = omega (arith, c.loop-other-test.false) in
    let counted = rw (drop_all c.loop-other.other-index sites past) at c.loop-other.invariant.counted in
    let all : c.loop-other.count ≡ min (2 ^ 64 - 1) (unquiet_at sites c.args.site.now) = omega (arith, counted, c.loop-other.invariant.few) in
    all
