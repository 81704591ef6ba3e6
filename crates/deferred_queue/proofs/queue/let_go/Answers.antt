use Rattle.std.proofs.Common.{◌&&◌, not, reverse, sym, ap, ◌∙◌, rules}
use Rattle.std.specs.List.{list_all}
use Rattle.std.proofs.lemmas.Fn.{filter_same}
use Rattle.deferred_queue.specs.QueueState.{kept_of, has_passed}
use Rattle.deferred_queue.specs.Spans.{is_covered}
use Rattle.deferred_queue.proofs.Numbers.{filter-reverse}
use Rattle.deferred_queue.proofs.Sweeping.{none_in_span, found_in_span}
use Rattle.deferred_queue.proofs.queue.let_go.Goals as goal

-- a span without numbers
pub returns-then-is_empty-clause-items : goal.returns-then-is_empty-clause-items
returns-then-is_empty-clause-items c = sym (none_in_span (kept_of c.args.streams.now) c.args.span (reverse c.args.cargoes.now.items) (c.is_empty.ensures.0 c.if-is_empty.true) c.requires)

pub returns-clause-items : goal.returns-clause-items
returns-clause-items c =
    let streams = kept_of c.args.streams.now in
    let stays = filter_same _ (λ e. not (is_covered c.args.span e.number && list_all (has_passed e.number) streams)) _ (λ x b f' k. search rules) _ _ c.retain.ensures.filtered in
    ap reverse stays ∙ filter-reverse (λ e. not (is_covered c.args.span e.number && list_all (has_passed e.number) streams)) c.args.cargoes.now.items ∙ found_in_span streams c.args.span (reverse c.args.cargoes.now.items) c.requires
