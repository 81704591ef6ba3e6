-- What comes of the copies holds wherever they are agreed with.
use Rattle.unique_resolve.specs.Numbers.{AreCounters, first_numbers}
use Rattle.unique_resolve.proofs.Settlements.{AreCounters-first}
use Rattle.txn_apply.specs.Works.{WorkState}
use Rattle.txn_apply.proofs.Ends.{EndsSo-Supports}
use Rattle.txn_apply.proofs.work.Work.evaluate.Goals as goal

pub ended-requires-clause-counters : goal.ended-requires-clause-counters
ended-requires-clause-counters c =
    let counters : AreCounters c.self.inside.tables.schema c.in_ok-counters.counters = rw (c.in_ok-counters.ensures, c.schema.ensures.value) (AreCounters-first c.self.inside.tables.schema) in
    counters

pub returns-clause-alike : goal.returns-clause-alike
returns-clause-alike c =
    let work : WorkState = record {
      origin = c.self.inside.origin;
      position = c.self.inside.position;
      txn = c.self.inside.txn;
      schema = c.self.inside.tables.schema;
      content = record { tables = c.self.inside.tables.tables; numbers = first_numbers c.self.inside.tables.schema };
    } in
    rw (← c.self.view_is, c.in_ok-ending.ensures.ending, c.in_ok-counters.ensures, c.schema.ensures.value)
    (EndsSo-Supports work c.self.invariant (record { tables = c.in_ok-ending.ensures.were; counters = AreCounters-first c.self.inside.tables.schema }))
