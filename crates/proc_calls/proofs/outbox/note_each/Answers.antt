use Rattle.std.proofs.Common.{◌≡◌, ◌+◌, ◌∷◌, length, take, drop, Some, refl, sym, ap, ◌∙◌, arith}
use Rattle.std.specs.Prelude.{slice_get}
use Rattle.std.proofs.lemmas.List.{take_all}
use Rattle.std.proofs.lemmas.Option.{slice_get-get_or}
use Rattle.rep_lists.proofs.Places.{drop_from_place}
use Rattle.proc_calls.specs.Outgoing.{with_tokens}
use Rattle.proc_calls.proofs.Noting.{noted_next, listed_next, waits_each}
use Rattle.proc_calls.proofs.outbox.note_each.Goals as goal

pub loop-site-init : goal.loop-site-init
loop-site-init c = record {
  apart = c.requires.apart;
  waiting = c.requires.waiting;
  room = c.requires.room;
  list = λ streams are. c.requires.empty;
  noted = λ streams are. are;
  destinations = refl;
}

pub loop-site-preserved : goal.loop-site-preserved
loop-site-preserved c =
    let sites = c.args.sites.now in
    let tokens = c.args.tokens.now.list in
    let i = c.loop-site.site-index in
    let one = c.site-item.result in
    let rest = drop (i + 1) sites in
    let left : drop i sites ≡ one ∷ rest = drop_from_place sites i one c.loop-site-test.true c.site-item.is in
    let there : slice_get sites i ≡ Some one = slice_get-get_or sites i one c.loop-site-test.true ∙ ap Some (sym c.site-item.is) in
    let l = c.loop-site.invariant in
    let apart = rw left at l.apart in
    let waiting = rw left at l.waiting in
    let known = c.requires.noted in
    let now = l.noted known.0 known.1 in
    record {
      apart = apart.1;
      waiting = waits_each c.loop-site.index.streams c.note-dep.new.self.streams (length tokens) tokens (with_tokens (take i sites) tokens known.0) one rest apart.0 c.note-dep.ensures.destinations c.note-dep.ensures.other_room now c.note-dep.ensures.others waiting.1;
      room = omega (arith, ap length left, l.room, c.push_reserved.ensures.len, c.push_reserved.ensures.capacity);
      list = λ streams are. rw c.push_reserved.ensures.items (listed_next sites tokens streams i one there c.requires.apart c.loop-site.index.streams (l.noted streams are) c.note-dep.result c.note-dep.ensures.dependency c.loop-site.to.items (l.list streams are));
      noted = λ streams are. noted_next sites tokens streams i one there c.requires.apart c.loop-site.index.streams c.note-dep.new.self.streams (l.noted streams are) c.note-dep.ensures.noted c.note-dep.ensures.others;
      destinations = c.note-dep.ensures.destinations ∙ l.destinations;
    }

pub returns-clause-list : goal.returns-clause-list
returns-clause-list c = λ streams are. rw (← take_all c.loop-site.site-index c.args.sites.now c.loop-site-test.false) (c.loop-site.invariant.list streams are)

pub returns-clause-noted : goal.returns-clause-noted
returns-clause-noted c = λ streams are. rw (← take_all c.loop-site.site-index c.args.sites.now c.loop-site-test.false) (c.loop-site.invariant.noted streams are)
