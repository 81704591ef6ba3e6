use Rattle.std.proofs.Common.{◌≡◌, ◌+◌, ◌-◌, ◌≤◌, [], ◌∷◌, ◌++◌, length, drop, refl, sym, ap, ◌∙◌, arith}
use Rattle.std.specs.Prelude.{vec_len, vec_capacity}
use Rattle.std.specs.List.{cons_option}
use Rattle.std.proofs.lemmas.List.{append-nil, drop_all}
use Rattle.rep_lists.proofs.Places.{drop_from_place}
use Rattle.site_outbox.proofs.Noting.{waits_each, noted_none, noted_next, noted_all}
use Rattle.site_outbox.proofs.destination_entries.note_each.Goals.{in-Some, in_default}
use Rattle.site_outbox.proofs.destination_entries.note_each.Goals as goal

pub loop-outlet-init : goal.loop-outlet-init
loop-outlet-init c = record {
  apart = c.requires.apart;
  waiting = c.requires.waiting;
  room = c.requires.room;
  destinations = refl;
  notes = λ streams are. noted_none _ _ streams _ _ c.requires.empty are;
}

pub loop-outlet-preserved : goal.loop-outlet-preserved
loop-outlet-preserved c =
    let outlets = c.args.outlets.now in
    let tokens = c.args.tokens.now.list in
    let place = c.loop-outlet.outlet-index in
    let one = c.outlet-item.result in
    let rest = drop (place + 1) outlets in
    let left : drop place outlets ≡ one ∷ rest = drop_from_place outlets place one c.loop-outlet-test.true c.outlet-item.is in
    let apart = rw left at c.loop-outlet.invariant.apart in
    let waiting = rw left at c.loop-outlet.invariant.waiting in
    let some = c.loop-outlet.invariant.notes c.requires.noted.0 c.requires.noted.1 in
    let listed : c.match-note.to.items ≡ c.loop-outlet.to.items ++ cons_option c.note.result [] = elim c.match-note.branch [
      | in-Some w ↦ rw (w.to-is, w.in-Some.is) w.push_reserved.ensures.items
      | in_default w ↦ rw (w.to-is, w.in_default.is) (sym (append-nil c.loop-outlet.to.items))
    ] in
    let room : length rest ≤ vec_capacity c.match-note.to - vec_len c.match-note.to = elim c.match-note.branch [
      | in-Some w ↦ rw w.to-is (omega (arith, ap length left, c.loop-outlet.invariant.room, w.push_reserved.ensures.len, w.push_reserved.ensures.capacity))
      | in_default w ↦ rw w.to-is (omega (arith, ap length left, c.loop-outlet.invariant.room))
    ] in
    record {
      apart = apart.1;
      waiting = waits_each c.loop-outlet.index.streams c.note.new.index.streams (length tokens) tokens some.now one rest apart.0 c.note.ensures.destinations c.note.ensures.room some.are (c.note.ensures.noted some.now some.are) waiting.1;
      room = room;
      destinations = c.note.ensures.destinations ∙ c.loop-outlet.invariant.destinations;
      notes = λ streams are. rw listed (noted_next outlets rest one tokens streams c.loop-outlet.index.streams c.note.new.index.streams c.loop-outlet.to.items c.note.result c.note.ensures.place c.note.ensures.noted
          (rw left at (c.loop-outlet.invariant.notes streams are)));
    }

pub returns-clause-notes : goal.returns-clause-notes
returns-clause-notes c =
    let outlets = c.args.outlets.now in
    let none : drop c.loop-outlet.outlet-index outlets ≡ [] = drop_all c.loop-outlet.outlet-index outlets c.loop-outlet-test.false in
    λ streams are. noted_all outlets c.args.tokens.now.list streams c.loop-outlet.index.streams c.loop-outlet.to.items (rw none at (c.loop-outlet.invariant.notes streams are))
