use Rattle.std.proofs.Common.{◌≡◌, ◌+◌, ◌++◌, drop, reverse, None, Some, sym, ap, ◌∙◌, append_assoc, append-nil}
use Rattle.std.specs.Prelude.{flat_map}
use Rattle.deferred_queue.specs.Streams.{Numbered, at_position, numbered}
use Rattle.site_state.specs.Deferrals.{deferred_of}
use Rattle.site_report.specs.Shows.{queued_text}
use Rattle.site_report.proofs.Listed.{none_left, next_left}
use Rattle.site_report.proofs.queue.add_queue.Goals as goal

pub returns-in_default-clause-ok : goal.returns-in_default-clause-ok
returns-in_default-clause-ok g c =
    let place = c.loop-place.place in
    let site = c.args.site.now in
    let text = queued_text c.args.destinations.now site in
    let gone : at_position (place + 1) (numbered (deferred_of site)) ≡ None =
    ap (λ ds. at_position (place + 1) (numbered ds)) (sym c.queue.ensures.deferred) ∙ sym (rw c.in_default.is at c.entry_in_order.ensures) in
    sym (append-nil c.loop-place.lines.bytes) ∙ ap (λ ns. c.loop-place.lines.bytes ++ flat_map text ns) (sym (none_left (numbered (deferred_of site)) place gone))
    ∙ c.loop-place.invariant.text

pub loop-place-preserved : goal.loop-place-preserved
loop-place-preserved g c =
    let place = c.loop-place.place in
    let site = c.args.site.now in
    let text = queued_text c.args.destinations.now site in
    let queued = c.in-Some.queued in
    let n : Numbered = record { number = queued.number; cargo = record { txn = queued.txn.now; past = queued.past.now } } in
    let found : at_position (place + 1) (numbered (deferred_of site)) ≡ Some n =
    ap (λ ds. at_position (place + 1) (numbered ds)) (sym c.queue.ensures.deferred) ∙ sym (rw c.in-Some.is at c.entry_in_order.ensures) in
    let rest = drop (place + 1) (reverse (numbered (deferred_of site))) in
    let before = c.loop-place.lines.bytes in
    let more : c.add_queued.new.lines.bytes ≡ before ++ text n = c.in_ok-add_queued.ensures.ok in
    let front = c.loop-place.invariant.front in
    record {
      text =
          ap (λ b. b ++ flat_map text rest) more ∙ append_assoc before (text n) (flat_map text rest)
          ∙ ap (λ ns. before ++ flat_map text ns) (sym (next_left (numbered (deferred_of site)) place n found)) ∙ c.loop-place.invariant.text;
      front = (front.0 ++ text n, more ∙ ap (λ b. b ++ text n) front.1 ∙ append_assoc c.args.lines.now.bytes front.0 (text n));
    }
