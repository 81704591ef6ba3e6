use Rattle.std.proofs.Common.{rules}
use Rattle.std.specs.Ordering.{nat_cmp}
use Rattle.std.proofs.lemmas.Fn.{always_returns_same}
use Rattle.rep_lists.proofs.Rising.{searched}
use Rattle.origin_marks.specs.Edges.{falling_cmp}
use Rattle.origin_marks.proofs.Counts.{falling_cmp_total}
use Rattle.origin_marks.proofs.edges.search.Goals as goal

-- the closure tells where an edge stands, and the edges fall
pub returns : goal.returns
returns c =
    let facts = c.binary_search_by.ensures in
    let by_edge = facts.position (nat_cmp c.args.edge) (always_returns_same _ _ _ (λ a r g called. search rules)) in
    searched (λ x. x) falling_cmp falling_cmp_total c.args.edge c.args.edges.now c.requires c.binary_search_by.result facts.bound by_edge
