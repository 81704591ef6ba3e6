use Rattle.std.proofs.Common.{rules}
use Rattle.std.specs.Ordering.{nat_cmp}
use Rattle.std.proofs.lemmas.Fn.{always_returns_same}
use Rattle.std.proofs.lemmas.Cmp.{nat_cmp_total}
use Rattle.rep_lists.proofs.Rising.{searched}
use Rattle.site_state.specs.declared.arrival.Arrival.{Arrival}
use Rattle.site_state.specs.State.{arrival_beside}
use Rattle.sender_inbox.proofs.arrivals.search_all.Goals as goal

-- the closure tells where an arrival stands, and the positions rise
pub returns : goal.returns
returns c =
    let facts = c.binary_search_by.ensures in
    let by_key = facts.position (arrival_beside c.args.position) (always_returns_same _ _ _ (λ a r g called. search rules)) in
    searched (λ (a : Arrival). a.position) nat_cmp nat_cmp_total c.args.position _ c.requires _ facts.bound by_key
