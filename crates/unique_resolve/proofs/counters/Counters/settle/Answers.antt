use Rattle.std.proofs.Common.{◌≡◌, ◌<◌, [], length, get_or, sym, ◌∙◌}
use Rattle.std.proofs.lemmas.List.{with_items_is}
use Rattle.std.specs.Vec.{with_items}
use Rattle.unique_resolve.proofs.Settlements.{length-counters}
use Rattle.unique_resolve.proofs.TableCounters.{counters_within, seen_at, seen_set, same_settlement}
use Rattle.unique_resolve.proofs.counters.Counters.settle.Goals as goal

-- the table has a counter for each constraint
pub settle_each-requires-clause-numbers : goal.settle_each-requires-clause-numbers
settle_each-requires-clause-numbers g c κs within =
    let in_range : c.args.table < length c.args.self.now = counters_within (g.R.RowStore.schema c.args.store.now) c.args.self.now c.args.table c.requires.counters c.requires.asked.of_table in
    let here : get_or c.args.self.now c.args.table [] ≡ c.index_mut.result.now.items =
    seen_at (λ t. t.items) c.self.inside.tables.items c.args.self.now c.self.view_is c.args.table in_range c.index_mut.result.now c.index_mut.ensures.value in
    rw (c.deref_mut.ensures.value, ← here) (sym (length-counters (g.R.RowStore.schema c.args.store.now) c.args.self.now c.args.table c.requires.counters))

-- they alone change
pub returns : goal.returns
returns g c =
    let in_range : c.args.table < length c.args.self.now = counters_within (g.R.RowStore.schema c.args.store.now) c.args.self.now c.args.table c.requires.counters c.requires.asked.of_table in
    let here : get_or c.args.self.now c.args.table [] ≡ c.index_mut.result.now.items =
    seen_at (λ t. t.items) c.self.inside.tables.items c.args.self.now c.self.view_is c.args.table in_range c.index_mut.result.now c.index_mut.ensures.value in
    let settled = rw (c.deref_mut.ensures.value, ← here) at c.settle_each.ensures in
    let long : length c.settle_each.new.numbers ≡ c.index_mut.result.now.len = c.settle_each.auto.numbers ∙ c.deref_mut.ensures.len in
    let written = with_items_is c.index_mut.result.now c.settle_each.new.numbers long in
    rw settled (same_settlement _ (sym (seen_set (λ t. t.items) c.self.inside.tables.items c.args.self.now c.self.view_is c.args.table in_range (with_items c.index_mut.result.now c.settle_each.new.numbers) c.settle_each.new.numbers written)))
