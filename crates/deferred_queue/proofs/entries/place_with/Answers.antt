use Rattle.std.proofs.Common.{rules}
use Rattle.std.specs.Ordering.{nat_cmp}
use Rattle.std.proofs.lemmas.Cmp.{nat_cmp_total}
use Rattle.std.proofs.lemmas.Fn.{always_returns_same}
use Rattle.rep_lists.proofs.Rising.{searched}
use Rattle.deferred_queue.proofs.Numbers.{rising_from_falls, searched_position, searched_within}
use Rattle.deferred_queue.proofs.entries.place_with.Goals as goal

-- the closure tells where an entry stands, and the numbers rise
pub returns-clause-position : goal.returns-clause-position
returns-clause-position g c =
    let facts = c.binary_search_by.ensures in
    let by_number = facts.position (λ e. nat_cmp e.number c.args.number) (always_returns_same _ _ _ (λ a r g called. search rules)) in
    let found = searched (λ e. e.number) nat_cmp nat_cmp_total c.args.number c.args.entries.now (rising_from_falls c.args.entries.now c.requires) c.binary_search_by.result facts.bound by_number in
    rw c.ok.ensures.value (searched_position c.args.number c.args.entries.now c.binary_search_by.result c.requires found.found found.absent)

pub returns-clause-within : goal.returns-clause-within
returns-clause-within g c =
    let facts = c.binary_search_by.ensures in
    let by_number = facts.position (λ e. nat_cmp e.number c.args.number) (always_returns_same _ _ _ (λ a r g called. search rules)) in
    let found = searched (λ e. e.number) nat_cmp nat_cmp_total c.args.number c.args.entries.now (rising_from_falls c.args.entries.now c.requires) c.binary_search_by.result facts.bound by_number in
    rw c.ok.ensures.value (searched_within c.args.number c.args.entries.now c.binary_search_by.result found.found)
