-- Copying call by call.
use Rattle.std.proofs.Common.{◌+◌, drop}
use Rattle.rep_lists.proofs.Places.{drop_from_place}
use Rattle.txn_apply.proofs.NamedTokens.{alike_or_left}
use Rattle.txn_apply.proofs.naming.rows_named.Goals as goal

pub loop-call-preserved : goal.loop-call-preserved
loop-call-preserved g c =
    let calls = c.as_slice-call-items.result.now in
    let here = drop_from_place calls c.loop-call.call-index c.call-item.result c.loop-call-test.true c.call-item.is in
    let fit = rw here at c.loop-call.invariant.fit in
    record {
      same = c.in_ok-copy_named.ensures.schema;
      some = c.in_ok-copy_named.ensures.ok.some;
      fit = fit.1;
      alike = λ table key among. alike_or_left _ c.call-item.result (drop (c.loop-call.call-index + 1) calls) _ c.loop-call.tables.tables _ c.in_ok-copy_named.ensures.ok table key
          (rw here at (c.loop-call.invariant.alike table key among));
    }
