use Rattle.std.proofs.Common.{rules, subst}
use Rattle.std.specs.Ordering.{nat_cmp}
use Rattle.std.specs.List.Sorted.{IsSearchInRange}
use Rattle.std.proofs.lemmas.Fn.{always_returns_same}
use Rattle.std.proofs.lemmas.Cmp.{nat_cmp_total}
use Rattle.rep_lists.proofs.Rising.{searched}
use Rattle.error_queue.specs.declared.entry.ErrorEntry.{ErrorEntry}
use Rattle.error_queue.specs.ErrorLists.{error_beside}
use Rattle.error_queue.proofs.origin_errors.search.Goals as goal

-- the closure tells where an error stands, and the positions rise
pub returns : goal.returns
returns c =
    let facts = c.binary_search_by.ensures in
    let by_key = facts.position (error_beside c.args.position) (always_returns_same _ _ _ (λ a r g called. search rules)) in
    searched (λ (e : ErrorEntry). e.position) nat_cmp nat_cmp_total c.args.position _ c.requires _ (subst (IsSearchInRange c.binary_search_by.result) c.args.entries.now.ok.0 facts.bound) by_key
