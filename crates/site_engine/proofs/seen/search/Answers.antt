use Rattle.std.proofs.Common.{rules}
use Rattle.std.proofs.lemmas.Fn.{always_returns_same}
use Rattle.rep_lists.proofs.Rising.{searched}
use Rattle.rep_values.specs.Order.{name_cmp}
use Rattle.std.proofs.lemmas.Cmp.{nat_list_cmp_total}
use Rattle.rep_calls.specs.declared.past.PastEntry.{PastEntry}
use Rattle.site_state.specs.Pasts.{beside_name}
use Rattle.site_engine.proofs.seen.search.Goals as goal

-- the closure tells where a name stands, and the names rise
pub returns : goal.returns
returns c =
    let facts = c.binary_search_by.ensures in
    let by_name = facts.position (beside_name c.args.site.now) (always_returns_same _ _ _ (λ a r g called. search rules)) in
    searched (λ (s : PastEntry). s.origin.0) name_cmp nat_list_cmp_total c.args.site.now.0 _ c.requires _ facts.bound by_name
