-- Pass by pass.
use Rattle.std.proofs.Common.{inl}
use Rattle.office.proofs.MadePasses.{sums_fit, passed_next}
use Rattle.office.proofs.desk.Office.work.Goals as goal

pub added-count-requires-clause-done : goal.added-count-requires-clause-done
added-count-requires-clause-done c =
    let made = c.in_ok-more.ensures in
    (sums_fit c.args.self.now c.loop.self c.pass.new.self c.in-Some.origin c.loop.count c.in_ok-more.more c.loop.invariant made.ok made.count made.fits).0

pub added-count-requires-clause-errors : goal.added-count-requires-clause-errors
added-count-requires-clause-errors c =
    let made = c.in_ok-more.ensures in
    (sums_fit c.args.self.now c.loop.self c.pass.new.self c.in-Some.origin c.loop.count c.in_ok-more.more c.loop.invariant made.ok made.count made.fits).1

pub loop-preserved : goal.loop-preserved
loop-preserved c =
    let made = c.in_ok-more.ensures in
    passed_next c.args.self.now c.loop.self c.pass.new.self c.in-Some.origin c.loop.count c.in_ok-more.more c.loop.invariant made.ok made.count c.added-count.result c.added-count.ensures.done c.added-count.ensures.errors

pub returns-clause-err : goal.returns-clause-err
returns-clause-err c = (c.loop.invariant.origins, c.args.self.now.here.site, inl c.loop.invariant.made)
