-- Those that stand by the new entries alone are those that stand and that these brought.
use Rattle.std.proofs.Common.{◌≤◌, ◌++◌, ◌+◌, List, [], ℕ, drop, take, length, subst, sym, ap, ◌∙◌, arith, append-nil, append_assoc, drop_of_length-le}
use Rattle.std.specs.Prelude.{◌-◌, flat_map}
use Rattle.std.specs.List.{AllByRecursion}
use Rattle.std.proofs.lemmas.Grind.{flat_map-append}
use Rattle.rep_lists.proofs.Places.{drop_from_place}
use Rattle.error_queue.specs.declared.entry.ErrorEntry.{ErrorEntry}
use Rattle.error_queue.specs.ErrorLists.{in_order}
use Rattle.error_queue.specs.ErrorQueueState.{lists_of}
use Rattle.site_rounds.specs.NewErrors.{text_where_new, StandsBy}
use Rattle.site_rounds.proofs.Newest.{new_texts}
use Rattle.site_rounds.proofs.ErrorTexts.{all_stand, all_front, all_rest}
use Rattle.site_rounds.proofs.errors.add_new_errors.Goals as goal

pub loop-errors-init : goal.loop-errors-init
loop-errors-init g c =
    let x = g.J.Journalled.told_of c.args.site.now in
    let text = text_where_new (take (c.entry_count.result - c.args.before) x.journal) in
    let bytes = c.args.lines.now.bytes in
    let all = ap in_order c.by_origin-lists.ensures ∙ c.standing.ensures in
    record {
      text = ap (λ (es : List ErrorEntry). bytes ++ flat_map text es) all;
      stand = subst (AllByRecursion (StandsBy x.journal)) (sym all) (all_stand x.journal x.senders);
      front = ([], sym (append-nil bytes));
    }

pub add_new_from-requires-clause-stand : goal.add_new_from-requires-clause-stand
add_new_from-requires-clause-stand g c =
    let journal = (g.J.Journalled.told_of c.args.site.now).journal in
    let lists = c.by_origin-lists.result.now in
    let h = c.errors-item.result in
    let next = drop_from_place lists c.loop-errors.errors-index h c.loop-errors-test.true c.errors-item.is in
    all_front (StandsBy journal) h.list.entries (in_order (lists_of (drop (c.loop-errors.errors-index + 1) lists))) (rw next at c.loop-errors.invariant.stand)

pub loop-errors-preserved : goal.loop-errors-preserved
loop-errors-preserved g c =
    let x = g.J.Journalled.told_of c.args.site.now in
    let text = text_where_new (take (c.entry_count.result - c.args.before) x.journal) in
    let lists = c.by_origin-lists.result.now in
    let h = c.errors-item.result in
    let next = drop_from_place lists c.loop-errors.errors-index h c.loop-errors-test.true c.errors-item.is in
    let rest = in_order (lists_of (drop (c.loop-errors.errors-index + 1) lists)) in
    let l = c.loop-errors.invariant in
    let bytes = c.loop-errors.lines.bytes in
    let more = c.in_ok-add_new_from.ensures.ok in
    let own = flat_map text h.list.entries in
    let parts = ap (λ (t : List ℕ). bytes ++ t) (flat_map-append text h.list.entries rest) in
    record {
      text = ap (λ (t : List ℕ). t ++ flat_map text rest) more ∙ append_assoc bytes own (flat_map text rest) ∙ sym parts ∙ (rw next at l.text);
      stand = all_rest (StandsBy x.journal) h.list.entries rest (rw next at l.stand);
      front = (l.front.0 ++ own, more ∙ ap (λ (t : List ℕ). t ++ own) l.front.1 ∙ append_assoc c.args.lines.now.bytes l.front.0 own);
    }

pub returns-clause-ok : goal.returns-clause-ok
returns-clause-ok g c =
    let x = g.J.Journalled.told_of c.args.site.now in
    let count = c.entry_count.result - c.args.before in
    let text = text_where_new (take count x.journal) in
    let lists = c.by_origin-lists.result.now in
    let past : length lists ≤ c.loop-errors.errors-index = omega (arith, c.loop-errors-test.false) in
    let gone = ap (λ (hs : List _). in_order (lists_of hs)) (drop_of_length-le lists past) in
    let bytes = c.loop-errors.lines.bytes in
    let all = sym (append-nil bytes) ∙ ap (λ (es : List ErrorEntry). bytes ++ flat_map text es) (sym gone) ∙ c.loop-errors.invariant.text ∙ ap (λ (t : List ℕ). c.args.lines.now.bytes ++ t) (new_texts count x) in
    rw c.entry_count.ensures at all
