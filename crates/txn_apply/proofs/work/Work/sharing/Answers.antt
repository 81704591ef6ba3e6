-- What the copies are.
use Rattle.unique_resolve.proofs.Settlements.{AreCounters-first}
use Rattle.dependency_index.specs.Tokens.{txn_tokens}
use Rattle.rep_laws.proofs.SoundSchemas.{HasKeys-sound}
use Rattle.txn_apply.proofs.PlainTokens.{AgreeOnConstraints-plain}
use Rattle.txn_apply.proofs.work.Work.sharing.Goals as goal

pub rows_named-requires-clause-keys : goal.rows_named-requires-clause-keys
rows_named-requires-clause-keys g c κs within = HasKeys-sound _ c.requires.alone.sound.unbroken c.requires.alone.sound.shape

pub invariant_of-result : goal.invariant_of-result
invariant_of-result g c = rw (c.in_ok-tables.ensures.schema, c.in_ok-txn.ensures) c.requires.alone

pub returns-clause-content : goal.returns-clause-content
returns-clause-content g c = record { tables = c.holds_tables.ensures; counters = AreCounters-first c.in_ok-tables.tables.schema }

pub returns-clause-agree : goal.returns-clause-agree
returns-clause-agree g c = λ numbers.
    let schema = g.R.RowStore.schema c.args.store.now in
    let alike = rw c.in_ok-txn.ensures at c.in_ok-tables.ensures.alike in
    rw (c.in_ok-tables.ensures.schema, c.in_ok-txn.ensures) (record { rows = alike; constraints = AgreeOnConstraints-plain schema (txn_tokens schema c.args.txn.now) _ _ c.requires.alone.plain })
