use Rattle.std.proofs.Common.{rules}
use Rattle.std.proofs.lemmas.Fn.{always_returns_same}
use Rattle.rep_lists.proofs.Rising.{searched}
use Rattle.rep_values.specs.Order.{key_cmp}
use Rattle.rep_values.specs.OrderLaws.{key_cmp_total}
use Rattle.rep_schema.specs.Tables.{row_beside, key_of}
use Rattle.refreshes.proofs.plan.search_like.Goals as goal

-- the closure tells where a row stands, and the rows rise
pub returns : goal.returns
returns c =
    let facts = c.binary_search_by.ensures in
    let by_key = facts.position (row_beside c.args.columns.now (key_of c.args.columns.now c.args.like.now)) (always_returns_same _ _ _ (λ a r g called. search rules)) in
    searched (key_of c.args.columns.now) key_cmp key_cmp_total (key_of c.args.columns.now c.args.like.now) _ c.requires _ facts.bound by_key
