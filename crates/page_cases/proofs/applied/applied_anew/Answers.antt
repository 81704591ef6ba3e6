use Rattle.std.proofs.Common.{◌≡◌, sym, subst, ◌∙◌}
use Rattle.rep_schema.specs.declared.schema.Schema.{Schema}
use Rattle.unique_resolve.specs.Numbers.{Numbers, AreCounters}
use Rattle.unique_resolve.proofs.Settlements.{AreCounters-first}
use Rattle.page_cases.proofs.applied.applied_anew.Goals as goal

-- each counter is at its first number
pub apply_txn-requires-clause-counters : goal.apply_txn-requires-clause-counters
apply_txn-requires-clause-counters c κs =
    let schema : Schema = c.args.schema.now in
    let same : c.in_ok-store.store.schema ≡ schema = c.in_ok-store.ensures.schema ∙ c.in_ok-copy.ensures in
    let first : AreCounters schema c.in_ok-counters.counters = subst (λ (numbers : Numbers). AreCounters schema numbers) (sym c.in_ok-counters.ensures) (AreCounters-first schema) in
    subst (λ (s : Schema). AreCounters s c.in_ok-counters.counters) (sym same) first
