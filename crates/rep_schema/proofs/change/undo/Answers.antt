use Rattle.std.proofs.Common.{◌≡◌, List, [], ◌∷◌, sym, ap, ◌∙◌, arith}
use Rattle.std.proofs.lemmas.List.{nil_from_length}
use Rattle.rep_schema.specs.declared.change.Change.{Change}
use Rattle.rep_schema.specs.Changes.{before_change}
use Rattle.rep_schema.proofs.TakingBack.{before_changes, HaveLed-last, HaveLed-others, before_changes-last, before_changes-led}
use Rattle.rep_schema.proofs.Leading.{room_for-append}
use Rattle.rep_schema.proofs.change.undo.Goals as goal

-- the last change led to the present tables
pub undo_one-requires-clause-led : goal.undo_one-requires-clause-led
undo_one-requires-clause-led g c κs within =
    let led = rw c.in-Some.ensures.items at c.loop-change.invariant.led in
    rw c.loop-change.invariant.same (HaveLed-last _ _ c.in-Some.change _ led)

pub undo_one-requires-clause-room : goal.undo_one-requires-clause-room
undo_one-requires-clause-room g c κs within =
    let led = HaveLed-last _ _ c.in-Some.change _ (rw c.in-Some.ensures.items at c.loop-change.invariant.led) in
    let room = rw (c.in-Some.ensures.items, room_for-append c.in-Some.change.table c.pop.new.self.items (c.in-Some.change ∷ [])) at (c.loop-change.invariant.room c.in-Some.change.table led.lead.0.table) in
    omega (arith, room)

pub loop-change-preserved : goal.loop-change-preserved
loop-change-preserved g c =
    let schema = g.R.RowStore.schema c.args.store.now in
    let now = g.R.RowStore.tables c.loop-change.store in
    let rest = c.pop.new.self.items in
    let led = rw c.in-Some.ensures.items at c.loop-change.invariant.led in
    let back : g.R.RowStore.tables c.undo_one.new.store ≡ before_change schema c.in-Some.change now = c.undo_one.ensures.tables ∙ rw c.loop-change.invariant.same in
    record {
      same = c.undo_one.ensures.schema ∙ c.loop-change.invariant.same;
      led = rw back (HaveLed-others schema rest c.in-Some.change now led);
      undone = ap (before_changes schema rest) back ∙ sym (before_changes-last schema rest c.in-Some.change now) ∙ ap (λ changes. before_changes schema changes now) (sym {A = List Change} c.in-Some.ensures.items) ∙ c.loop-change.invariant.undone;
      room = λ t below.
          let room = rw (c.in-Some.ensures.items, room_for-append t rest (c.in-Some.change ∷ [])) at (c.loop-change.invariant.room t below) in
          omega (arith, room, c.undo_one.ensures.room t);
      taken = λ t.
          let taken = rw (c.in-Some.ensures.items, room_for-append t rest (c.in-Some.change ∷ [])) at (c.loop-change.invariant.taken t) in
          omega (arith, taken, c.undo_one.ensures.room t);
    }

-- nothing is left
pub returns-clause-earlier : goal.returns-clause-earlier
returns-clause-earlier g c = λ earlier are lead.
    let none : c.loop-change.left.items ≡ [] = nil_from_length _ (omega (arith, c.loop-change.left.ok, c.in_default.ensures.cases)) in
    let all = rw none at c.loop-change.invariant.undone in
    all ∙ before_changes-led _ _ earlier _ are lead

pub returns-clause-room : goal.returns-clause-room
returns-clause-room g c = λ t.
    let none : c.loop-change.left.items ≡ [] = nil_from_length _ (omega (arith, c.loop-change.left.ok, c.in_default.ensures.cases)) in
    let taken = rw none at (c.loop-change.invariant.taken t) in
    omega (arith, taken)
