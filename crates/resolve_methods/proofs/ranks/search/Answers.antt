use Rattle.std.proofs.Common.{rules}
use Rattle.std.proofs.lemmas.Fn.{always_returns_same}
use Rattle.rep_lists.proofs.Rising.{searched}
use Rattle.rep_values.specs.Order.{value_cmp}
use Rattle.rep_values.specs.OrderLaws.{value_cmp_total}
use Rattle.rep_schema.specs.declared.schema.PriorityLevel.{PriorityLevel}
use Rattle.rep_schema.specs.Levels.{beside_value}
use Rattle.resolve_methods.proofs.ranks.search.Goals as goal

-- the closure tells where a level stands, and the values rise
pub returns : goal.returns
returns c =
    let facts = c.binary_search_by.ensures in
    let by_key = facts.position (beside_value c.args.value.now) (always_returns_same _ _ _ (λ a r g called. search rules)) in
    searched (λ (l : PriorityLevel). l.value) value_cmp value_cmp_total c.args.value.now c.args.levels.now c.requires c.binary_search_by.result facts.bound by_key
