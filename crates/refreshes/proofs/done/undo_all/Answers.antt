use Rattle.std.proofs.Common.{◌≡◌, [], sym, ◌∙◌, arith}
use Rattle.std.proofs.lemmas.List.{nil_from_length}
use Rattle.rep_schema.proofs.Leading.{room_for-append}
use Rattle.refreshes.specs.Done.{all_changes}
use Rattle.refreshes.proofs.ManyChanges.{all_changes-push, last_apart}
use Rattle.refreshes.proofs.done.undo_all.Goals as goal

-- the changes of the last refresh led to the present tables
pub undo-requires-clause-led : goal.undo-requires-clause-led
undo-requires-clause-led g c κs within =
    let schema = g.R.RowStore.schema c.args.store.now in
    let led = c.requires.led in
    let all = c.loop-changes.invariant.lead led.earlier led.are led.lead in
    let last = last_apart schema c.pop.new.self.items c.in-Some.changes led.earlier (g.R.RowStore.tables c.loop-changes.store) led.are (rw c.in-Some.ensures.items at all) in
    rw c.loop-changes.invariant.same (record { earlier = last.0; are = last.1; lead = last.3 })

pub undo-requires-clause-room : goal.undo-requires-clause-room
undo-requires-clause-room g c κs within = λ t below.
    let room = rw (c.in-Some.ensures.items, all_changes-push, room_for-append t (all_changes c.pop.new.self.items) c.in-Some.changes.rows) at (c.loop-changes.invariant.room t) in
    omega (arith, room)

pub loop-changes-preserved : goal.loop-changes-preserved
loop-changes-preserved g c =
    let schema = g.R.RowStore.schema c.args.store.now in
    let rest = c.pop.new.self.items in
    record {
      same = c.undo.ensures.schema ∙ c.loop-changes.invariant.same;
      lead = λ earlier are lead.
          let all = c.loop-changes.invariant.lead earlier are lead in
          let last = last_apart schema rest c.in-Some.changes earlier (g.R.RowStore.tables c.loop-changes.store) are (rw c.in-Some.ensures.items at all) in
          let back = rw c.loop-changes.invariant.same at (c.undo.ensures.earlier last.0) in
          rw (back last.1 last.3) last.2;
      room = λ t.
          let room = rw (c.in-Some.ensures.items, all_changes-push, room_for-append t (all_changes rest) c.in-Some.changes.rows) at (c.loop-changes.invariant.room t) in
          omega (arith, room, c.undo.ensures.room t);
    }

-- nothing is left
pub returns-clause-earlier : goal.returns-clause-earlier
returns-clause-earlier g c = λ earlier are lead.
    let none : c.loop-changes.left.items ≡ [] = nil_from_length _ (omega (arith, c.loop-changes.left.ok, c.in_default.ensures.cases)) in
    let back = rw none at (c.loop-changes.invariant.lead earlier are lead) in
    sym back
