use Rattle.std.proofs.Common.{◌≡◌, refl, ◌∙◌, ◌+◌, Ok, ap, subst, reverse, arith}
use Rattle.site_state.specs.Commits.{site_commit, commit_answer}
use Rattle.site_engine.specs.SiteInvariant.{state_of}
use Rattle.site_engine.specs.Noting.{RowsAreNoted}
use Rattle.site_state.proofs.Growing.{reverse_push, one_entry_more}
use Rattle.site_engine.proofs.Onward.{nothing_made}
use Rattle.site_engine.proofs.SiteSteps.{kept_holds_is, count_is, commit_state_is, commit_answer_is, commit_holds}
use Rattle.site_engine.proofs.site.Site.commit.Goals as goal

pub invariant_of-self-2 : goal.invariant_of-self-2
invariant_of-self-2 g c =
    let h = c.self.invariant in
    let q = rw c.in-Some.is at c.in_ok-block.ensures.queued in
    let gives = rw h.tables_are at c.in_ok-block.ensures.ok in
    let seen = rw (← c.self.view_is) at c.in-Ok.ensures in
    let number = q.number ∙ ap (λ n. n + 1) (count_is _ _ _ _ _ _ c.self.inside.notes _ _ _ _ _ _ h) in
    let room = c.in-Ok-reserve_noting.ensures.ok in
    let noted : RowsAreNoted (g.R.RowStore.schema c.self.inside.store) (c.self.inside.moment + 1) c.in_ok-block.block.changes.rows c.self.inside.notes c.note.new.self = record {
      logs = rw (c.schema.ensures.value, c.run_block.ensures.schema, c.as_slice.ensures, c.reserve_noting.ensures.logs) at c.note.ensures.logs;
      snapshots = rw (c.schema.ensures.value, c.run_block.ensures.schema, c.as_slice.ensures, c.reserve_noting.ensures.snapshots) at c.note.ensures.snapshots;
    } in
    rw (c.run_block.ensures.schema, c.push.ensures.items, c.in-Ok-reserve_noting.ensures.items, reverse_push)
    (commit_holds _ _ _ _ _ _ c.self.inside.notes _ _ _ _ _ _ h c.args.statements.now _ gives q.some _ number _ q.calls c.run_block.new.outbox c.run_block.ensures.destinations c.run_block.ensures.purged
    c.note.new.self noted _ _ c.in_ok-block.ensures.tables (q.applies _) q.few (rw seen at (q.keeps _ _ h.keeps)) (omega (arith, room, c.push.ensures.spare)))

pub returns-clause-ok : goal.returns-clause-ok
returns-clause-ok g c =
    let h = c.self.invariant in
    let q = rw c.in-Some.is at c.in_ok-block.ensures.queued in
    let gives = rw h.tables_are at c.in_ok-block.ensures.ok in
    let number = q.number ∙ ap (λ n. n + 1) (count_is _ _ _ _ _ _ c.self.inside.notes _ _ _ _ _ _ h) in
    let journal = one_entry_more _ _ _ _ c.push.ensures.items c.in-Ok-reserve_noting.ensures.items in
    let noted : RowsAreNoted (g.R.RowStore.schema c.self.inside.store) (c.self.inside.moment + 1) c.in_ok-block.block.changes.rows c.self.inside.notes c.note.new.self = record {
      logs = rw (c.schema.ensures.value, c.run_block.ensures.schema, c.as_slice.ensures, c.reserve_noting.ensures.logs) at c.note.ensures.logs;
      snapshots = rw (c.schema.ensures.value, c.run_block.ensures.schema, c.as_slice.ensures, c.reserve_noting.ensures.snapshots) at c.note.ensures.snapshots;
    } in
    let new = state_of (g.R.RowStore.schema c.run_block.new.store) c.self.inside.here (g.R.RowStore.tables c.self.inside.base.value) (reverse c.push.new.self.items) c.self.inside.inboxes.items c.run_block.new.outbox c.note.new.self c.in_ok-block.block.stamps (c.self.inside.moment + 1) in
    subst (λ y. new ≡ site_commit c.args.statements.now y) c.self.view_is
    (commit_state_is _ _ _ _ _ _ c.self.inside.notes _ _ _ _ _ _ h c.args.statements.now _ gives q.some _ number _ q.calls c.run_block.new.outbox c.run_block.ensures.destinations c.run_block.ensures.purged
    c.note.new.self noted _ _ c.run_block.ensures.schema journal)

pub returns-clause-number : goal.returns-clause-number
returns-clause-number g c =
    let h = c.self.invariant in
    let q = rw c.in-Some.is at c.in_ok-block.ensures.queued in
    let gives = rw h.tables_are at c.in_ok-block.ensures.ok in
    let number = q.number ∙ ap (λ n. n + 1) (count_is _ _ _ _ _ _ c.self.inside.notes _ _ _ _ _ _ h) in
    subst (λ y. commit_answer c.args.statements.now y ≡ Ok c.in-Some.queued.number) c.self.view_is (commit_answer_is _ _ _ _ _ _ c.self.inside.notes _ _ _ _ _ _ h c.args.statements.now _ gives q.some _ number)

pub invariant_of-self : goal.invariant_of-self
invariant_of-self g c =
    let h = c.self.invariant in
    kept_holds_is _ _ _ _ _ _ c.self.inside.notes _ _ _ _ _ _ h _ _ c.self.inside.outbox c.reserve_noting.new.notes _ _ _ c.self.inside.stamps _ refl (ap reverse c.reserve_noting.ensures.items) refl refl refl c.reserve_noting.ensures.snapshots refl h.keeps (omega (arith, h.droppable, c.reserve_noting.ensures.spare))

pub invariant_of-self-in_err-block : goal.invariant_of-self-in_err-block
invariant_of-self-in_err-block g c =
    let h = c.self.invariant in
    let r = c.run_block.ensures in
    let e = c.in_err-block.ensures in
    kept_holds_is _ _ _ _ _ _ c.self.inside.notes _ _ _ _ _ _ h _ _ c.run_block.new.outbox c.reserve_noting.new.notes _ _ _ c.self.inside.stamps _ r.schema (ap reverse c.reserve_noting.ensures.items) e.kept refl refl c.reserve_noting.ensures.snapshots r.destinations (e.queue_kept _ _ h.keeps) (omega (arith, h.droppable, c.reserve_noting.ensures.spare))

pub invariant_of-self-in_default-queued : goal.invariant_of-self-in_default-queued
invariant_of-self-in_default-queued g c =
    let h = c.self.invariant in
    let r = c.run_block.ensures in
    let none = c.in_ok-block.ensures.none c.in_default-queued.is in
    let rows = c.in_ok-block.ensures.tables ∙ nothing_made (g.R.RowStore.schema c.self.inside.store) c.in_ok-block.block.changes.rows (g.R.RowStore.tables c.self.inside.store) none.0 in
    kept_holds_is _ _ _ _ _ _ c.self.inside.notes _ _ _ _ _ _ h _ _ c.run_block.new.outbox c.reserve_noting.new.notes _ _ _ c.self.inside.stamps _ r.schema (ap reverse c.reserve_noting.ensures.items) rows refl refl c.reserve_noting.ensures.snapshots r.destinations (rw none.1 h.keeps) (omega (arith, h.droppable, c.reserve_noting.ensures.spare))

pub note-requires-clause-fits : goal.note-requires-clause-fits
note-requires-clause-fits g c = rw (c.schema.ensures.value, c.run_block.ensures.schema, c.as_slice.ensures) c.in_ok-block.ensures.fits

pub note-requires-clause-room : goal.note-requires-clause-room
note-requires-clause-room g c = rw c.as_slice.ensures (omega (arith, c.in_ok-block.ensures.few, c.in_ok-block.ensures.most, c.in-Ok-reserve_noting.ensures.room, c.min-rows.ensures))
