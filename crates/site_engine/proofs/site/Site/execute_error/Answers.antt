use Rattle.std.proofs.Common.{◌≡◌, ◌+◌, None, ap, arith, inr, refl, reverse, subst}
use Rattle.site_state.specs.Errors.{site_execute, execute_refusal}
use Rattle.site_engine.specs.SiteInvariant.{state_of}
use Rattle.site_engine.specs.Noting.{RowsAreNoted}
use Rattle.site_state.proofs.Growing.{one_entry_more}
use Rattle.site_engine.proofs.SiteSteps.{kept_holds_is, count_is, error_is, none_to_execute, error_fits, error_sized, stops_as, execute_state_is, execute_refusal_is, execute_holds_is}
use Rattle.site_engine.proofs.site.Site.execute_error.Goals as goal

pub returns-in_default-clause-err : goal.returns-in_default-clause-err
returns-in_default-clause-err g c =
    let rising = rw (← c.self.view_is) at c.arrivals_rise.ensures in
    rw (← c.self.view_is) (inr (none_to_execute _ _ _ _ _ _ c.self.inside.notes _ _ _ _ _ _ c.self.invariant c.args.origin.now c.args.position rising c.in_default.ensures))

pub apply_onward-requires-clause-fits : goal.apply_onward-requires-clause-fits
apply_onward-requires-clause-fits g c = λ κs lives.
    let h = c.self.invariant in
    let rising = rw (← c.self.view_is) at c.arrivals_rise.ensures in
    let e = c.in-Some.error.now in
    let stands = error_is _ _ _ _ _ _ c.self.inside.notes _ _ _ _ _ _ h c.args.origin.now c.args.position rising e c.in-Some.ensures in
    rw c.in_ok-txn.ensures (error_fits _ _ _ _ _ _ c.self.inside.notes _ _ _ _ _ _ h c.args.origin.now c.args.position e stands rising)

pub apply_onward-requires-clause-few : goal.apply_onward-requires-clause-few
apply_onward-requires-clause-few g c = λ κs lives.
    let h = c.self.invariant in
    let rising = rw (← c.self.view_is) at c.arrivals_rise.ensures in
    let e = c.in-Some.error.now in
    let stands = error_is _ _ _ _ _ _ c.self.inside.notes _ _ _ _ _ _ h c.args.origin.now c.args.position rising e c.in-Some.ensures in
    rw c.in_ok-txn.ensures ((error_sized _ _ _ _ _ _ c.self.inside.notes _ _ _ _ _ _ h c.args.origin.now c.args.position e stands rising).most)

pub returns-in-Err-clause-err : goal.returns-in-Err-clause-err
returns-in-Err-clause-err g c =
    let h = c.self.invariant in
    let rising = rw (← c.self.view_is) at c.arrivals_rise.ensures in
    let e = c.in-Some.error.now in
    let stands = error_is _ _ _ _ _ _ c.self.inside.notes _ _ _ _ _ _ h c.args.origin.now c.args.position rising e c.in-Some.ensures in
    let stops = rw c.in_ok-txn.ensures at c.in-Err.ensures.err in
    rw (← c.self.view_is, c.refusal_of.ensures) (stops_as _ _ _ _ _ _ c.self.inside.notes _ _ _ _ _ _ h c.args.origin.now c.args.position e stands rising _ stops)

pub invariant_of-self-2 : goal.invariant_of-self-2
invariant_of-self-2 g c =
    let s = c.self.inside in
    let h = c.self.invariant in
    let rising = rw (← c.self.view_is) at c.arrivals_rise.ensures in
    let e = c.in-Some.error.now in
    let stands = error_is _ _ _ _ _ _ c.self.inside.notes _ _ _ _ _ _ h c.args.origin.now c.args.position rising e c.in-Some.ensures in
    let seen = rw (← c.self.view_is) at c.in_ok-past.ensures in
    let count = count_is _ _ _ _ _ _ c.self.inside.notes _ _ _ _ _ _ h in
    let gives = rw c.in_ok-txn.ensures at c.in-Ok.ensures.ok in
    let journal = one_entry_more _ _ _ _ c.push.ensures.items c.reserve_noting.ensures.items in
    let few = rw c.in_ok-txn.ensures at c.in-Ok.ensures.few in
    let noted : RowsAreNoted (g.R.RowStore.schema c.self.inside.store) (c.self.inside.moment + 1) c.in-Ok.done.changes.rows c.self.inside.notes c.note.new.self = record {
      logs = rw (c.schema.ensures.value, c.apply_onward.ensures.schema, c.as_slice.ensures, c.reserve_noting.ensures.logs) at c.note.ensures.logs;
      snapshots = rw (c.schema.ensures.value, c.apply_onward.ensures.schema, c.as_slice.ensures, c.reserve_noting.ensures.snapshots) at c.note.ensures.snapshots;
    } in
    execute_holds_is _ _ _ _ _ _ c.self.inside.notes _ _ _ _ _ _ h c.args.origin.now c.args.position e stands rising c.in_ok-past.past seen _ count c.apply_onward.new.outbox c.apply_onward.ensures.destinations c.apply_onward.ensures.purged
    _ gives c.note.new.self noted _ _ _ _ _ _ _ _ c.apply_onward.ensures.schema journal c.in-Ok.ensures.onward c.in_ok-txn.ensures c.remove.ensures.lists c.in-Ok.ensures.tables refl few (c.in-Ok.ensures.queue _ _ h.keeps)
    (omega (arith, c.in_ok-reserve_noting.ensures.ok, c.push.ensures.spare))

pub returns-clause-ok : goal.returns-clause-ok
returns-clause-ok g c =
    let s = c.self.inside in
    let h = c.self.invariant in
    let rising = rw (← c.self.view_is) at c.arrivals_rise.ensures in
    let e = c.in-Some.error.now in
    let stands = error_is _ _ _ _ _ _ c.self.inside.notes _ _ _ _ _ _ h c.args.origin.now c.args.position rising e c.in-Some.ensures in
    let seen = rw (← c.self.view_is) at c.in_ok-past.ensures in
    let count = count_is _ _ _ _ _ _ c.self.inside.notes _ _ _ _ _ _ h in
    let gives = rw c.in_ok-txn.ensures at c.in-Ok.ensures.ok in
    let journal = one_entry_more _ _ _ _ c.push.ensures.items c.reserve_noting.ensures.items in
    let noted : RowsAreNoted (g.R.RowStore.schema c.self.inside.store) (c.self.inside.moment + 1) c.in-Ok.done.changes.rows c.self.inside.notes c.note.new.self = record {
      logs = rw (c.schema.ensures.value, c.apply_onward.ensures.schema, c.as_slice.ensures, c.reserve_noting.ensures.logs) at c.note.ensures.logs;
      snapshots = rw (c.schema.ensures.value, c.apply_onward.ensures.schema, c.as_slice.ensures, c.reserve_noting.ensures.snapshots) at c.note.ensures.snapshots;
    } in
    let new = state_of (g.R.RowStore.schema c.apply_onward.new.store) s.here (g.R.RowStore.tables s.base.value) (reverse c.push.new.self.items) s.inboxes.items c.apply_onward.new.outbox c.note.new.self s.stamps (s.moment + 1) in
    subst (λ y. new ≡ site_execute c.args.origin.now c.args.position y) c.self.view_is
    (execute_state_is _ _ _ _ _ _ c.self.inside.notes _ _ _ _ _ _ h c.args.origin.now c.args.position e stands rising c.in_ok-past.past seen _ count c.apply_onward.new.outbox c.apply_onward.ensures.destinations c.apply_onward.ensures.purged
    _ gives c.note.new.self noted _ _ _ _ c.apply_onward.ensures.schema journal c.in-Ok.ensures.onward c.in_ok-txn.ensures)

pub returns-clause-executes : goal.returns-clause-executes
returns-clause-executes g c =
    let h = c.self.invariant in
    let rising = rw (← c.self.view_is) at c.arrivals_rise.ensures in
    let e = c.in-Some.error.now in
    let stands = error_is _ _ _ _ _ _ c.self.inside.notes _ _ _ _ _ _ h c.args.origin.now c.args.position rising e c.in-Some.ensures in
    let seen = rw (← c.self.view_is) at c.in_ok-past.ensures in
    let count = count_is _ _ _ _ _ _ c.self.inside.notes _ _ _ _ _ _ h in
    let gives = rw c.in_ok-txn.ensures at c.in-Ok.ensures.ok in
    let noted : RowsAreNoted (g.R.RowStore.schema c.self.inside.store) (c.self.inside.moment + 1) c.in-Ok.done.changes.rows c.self.inside.notes c.note.new.self = record {
      logs = rw (c.schema.ensures.value, c.apply_onward.ensures.schema, c.as_slice.ensures, c.reserve_noting.ensures.logs) at c.note.ensures.logs;
      snapshots = rw (c.schema.ensures.value, c.apply_onward.ensures.schema, c.as_slice.ensures, c.reserve_noting.ensures.snapshots) at c.note.ensures.snapshots;
    } in
    subst (λ y. execute_refusal c.args.origin.now c.args.position y ≡ None) c.self.view_is
    (execute_refusal_is _ _ _ _ _ _ c.self.inside.notes _ _ _ _ _ _ h c.args.origin.now c.args.position e stands rising c.in_ok-past.past seen _ count c.apply_onward.new.outbox c.apply_onward.ensures.destinations c.apply_onward.ensures.purged
    _ gives c.note.new.self noted)

pub invariant_of-self : goal.invariant_of-self
invariant_of-self g c =
    let h = c.self.invariant in
    kept_holds_is _ _ _ _ _ _ c.self.inside.notes _ _ _ _ _ _ h _ _ c.self.inside.outbox c.reserve_noting.new.notes _ _ _ c.self.inside.stamps _ refl (ap reverse c.reserve_noting.ensures.items) refl refl refl c.reserve_noting.ensures.snapshots refl h.keeps (omega (arith, h.droppable, c.reserve_noting.ensures.spare))

pub invariant_of-self-in-Err : goal.invariant_of-self-in-Err
invariant_of-self-in-Err g c =
    let h = c.self.invariant in
    let a = c.apply_onward.ensures in
    let e = c.in-Err.ensures in
    kept_holds_is _ _ _ _ _ _ c.self.inside.notes _ _ _ _ _ _ h _ _ c.apply_onward.new.outbox c.reserve_noting.new.notes _ _ _ c.self.inside.stamps _ a.schema (ap reverse c.reserve_noting.ensures.items) e.kept e.counters_kept refl c.reserve_noting.ensures.snapshots a.destinations (e.queue_kept _ _ h.keeps) (omega (arith, h.droppable, c.reserve_noting.ensures.spare))

pub note-requires-clause-fits : goal.note-requires-clause-fits
note-requires-clause-fits g c = rw (c.schema.ensures.value, c.apply_onward.ensures.schema, c.as_slice.ensures) c.in-Ok.ensures.fits

pub note-requires-clause-room : goal.note-requires-clause-room
note-requires-clause-room g c = rw c.as_slice.ensures (omega (arith, c.in-Ok.ensures.few, c.in_ok-reserve_noting.ensures.room))
