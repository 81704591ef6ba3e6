use Rattle.std.proofs.Common.{◌≡◌, ◌∙◌, ap, refl, reverse, set, subst, sym}
use Rattle.std.proofs.lemmas.Result.{err_from_is_err_and}
use Rattle.origin_marks.specs.Marks.{finished}
use Rattle.packet_code.specs.declared.packet.Packet.TheVariants.{Carry}
use Rattle.site_state.specs.Packets.{site_accept}
use Rattle.site_engine.specs.SiteInvariant.{state_of}
use Rattle.site_engine.proofs.SiteSteps.{sender_known, names_others_here, repeat_state, repeat_answer, new_answer, room_state, room_holds, accept_state, accept_holds}
use Rattle.site_engine.proofs.site.Site.take_in.Goals as goal

pub unreachable-requires : goal.unreachable-requires
unreachable-requires g c =
    let a = c.args.arrival in
    let known = rw (← c.self.view_is) at c.requires.known in
    sender_known _ _ _ _ _ _ c.self.inside.notes _ _ _ _ _ _ c.self.invariant c.args.from.now c.args.to.now a.number a.position a.dep a.past a.txn known (rw c.deref.ensures.value at c.in_default.ensures)

pub returns-in_default-find-clause-ok : goal.returns-in_default-find-clause-ok
returns-in_default-find-clause-ok g c =
    let a = c.args.arrival in
    let s = c.self.inside in
    let inbox = c.index_mut-inbox.result.now in
    let known = rw (← c.self.view_is) at c.requires.known in
    let found = rw c.deref.ensures.value at c.in-Some.ensures in
    let is = c.index_mut-inbox.ensures.value in
    let new = state_of (g.R.RowStore.schema s.store) s.here (g.R.RowStore.tables s.base.value) (reverse s.journal.items) (set s.inboxes.items c.in-Some.place inbox) s.outbox s.notes s.stamps s.moment in
    subst (λ y. new ≡ site_accept (Carry c.args.from.now c.args.to.now a.number a.position a.dep a.past a.txn) y) c.self.view_is
    (room_state _ _ _ _ _ _ c.self.inside.notes _ _ _ _ _ _ c.self.invariant c.args.from.now c.in-Some.place inbox inbox found is refl s.outbox s.notes refl refl refl refl
    ∙ repeat_state _ _ _ _ _ _ c.self.inside.notes _ _ _ _ _ _ c.self.invariant c.args.from.now c.args.to.now a.number a.position a.dep a.past a.txn known c.in-Some.place inbox found is c.in_default-find.field-0.now (sym c.in_default-find.ensures))

pub returns-in_default-find-clause-answer : goal.returns-in_default-find-clause-answer
returns-in_default-find-clause-answer g c =
    let a = c.args.arrival in
    let known = rw (← c.self.view_is) at c.requires.known in
    let found = rw c.deref.ensures.value at c.in-Some.ensures in
    rw (← c.self.view_is)
    (repeat_answer _ _ _ _ _ _ c.self.inside.notes _ _ _ _ _ _ c.self.invariant c.args.from.now c.args.to.now a.number a.position a.dep a.past a.txn known c.in-Some.place c.index_mut-inbox.result.now found c.index_mut-inbox.ensures.value
    c.in_default-find.field-0.now (sym c.in_default-find.ensures))

pub accept-requires-clause-others : goal.accept-requires-clause-others
accept-requires-clause-others g c =
    let a = c.args.arrival in
    let known = rw (← c.self.view_is) at c.requires.known in
    let found = rw c.deref.ensures.value at c.in-Some.ensures in
    names_others_here _ _ _ _ _ _ c.self.inside.notes _ _ _ _ _ _ c.self.invariant c.args.from.now c.args.to.now a.number a.position a.dep a.past a.txn known c.in-Some.place c.index_mut-inbox.result.now found c.index_mut-inbox.ensures.value
    a.past c.requires.others

pub invariant_of-self-in_err-accept : goal.invariant_of-self-in_err-accept
invariant_of-self-in_err-accept g c =
    let found = rw c.deref.ensures.value at c.in-Some.ensures in
    let h = c.self.invariant in
    room_holds _ _ _ _ _ _ c.self.inside.notes _ _ _ _ _ _ h c.args.from.now c.in-Some.place c.index_mut-inbox.result.now c.accept.new.self found c.index_mut-inbox.ensures.value c.in_err-accept.ensures.err (λ q. ap (λ m. finished m q) c.accept.ensures.marked) c.self.inside.outbox c.self.inside.notes refl refl h.keeps _ h.droppable

pub returns-in_err-accept-clause-err : goal.returns-in_err-accept-clause-err
returns-in_err-accept-clause-err g c =
    let s = c.self.inside in
    let found = rw c.deref.ensures.value at c.in-Some.ensures in
    let p = err_from_is_err_and c.from_residual.result c.from_residual.ensures.1 in
    let new = state_of (g.R.RowStore.schema s.store) s.here (g.R.RowStore.tables s.base.value) (reverse s.journal.items) (set s.inboxes.items c.in-Some.place c.accept.new.self) s.outbox s.notes s.stamps s.moment in
    rw p.1
    (subst (λ y. new ≡ y) c.self.view_is
    (room_state _ _ _ _ _ _ c.self.inside.notes _ _ _ _ _ _ c.self.invariant c.args.from.now c.in-Some.place c.index_mut-inbox.result.now c.accept.new.self found c.index_mut-inbox.ensures.value c.in_err-accept.ensures.err s.outbox s.notes refl refl refl refl))

pub invariant_of-self-2 : goal.invariant_of-self-2
invariant_of-self-2 g c =
    let a = c.args.arrival in
    let known = rw (← c.self.view_is) at c.requires.known in
    let found = rw c.deref.ensures.value at c.in-Some.ensures in
    accept_holds _ _ _ _ _ _ c.self.inside.notes _ _ _ _ _ _ c.self.invariant c.args.from.now c.args.to.now a.number a.position a.dep a.past a.txn c.in-Some.place c.index_mut-inbox.result.now c.accept.new.self known found c.index_mut-inbox.ensures.value
    (sym c.in-None.ensures) c.in_ok-accept.ensures.ok c.accept.ensures.marked c.requires.sized

pub returns-clause-ok : goal.returns-clause-ok
returns-clause-ok g c =
    let a = c.args.arrival in
    let s = c.self.inside in
    let known = rw (← c.self.view_is) at c.requires.known in
    let found = rw c.deref.ensures.value at c.in-Some.ensures in
    let new = state_of (g.R.RowStore.schema s.store) s.here (g.R.RowStore.tables s.base.value) (reverse s.journal.items) (set s.inboxes.items c.in-Some.place c.accept.new.self) s.outbox s.notes s.stamps s.moment in
    subst (λ y. new ≡ site_accept (Carry c.args.from.now c.args.to.now a.number a.position a.dep a.past a.txn) y) c.self.view_is
    (accept_state _ _ _ _ _ _ c.self.inside.notes _ _ _ _ _ _ c.self.invariant c.args.from.now c.args.to.now a.number a.position a.dep a.past a.txn c.in-Some.place c.index_mut-inbox.result.now c.accept.new.self known found c.index_mut-inbox.ensures.value
    (sym c.in-None.ensures) c.in_ok-accept.ensures.ok c.accept.ensures.marked)

pub returns-clause-answer : goal.returns-clause-answer
returns-clause-answer g c =
    let a = c.args.arrival in
    let known = rw (← c.self.view_is) at c.requires.known in
    let found = rw c.deref.ensures.value at c.in-Some.ensures in
    rw (← c.self.view_is)
    (new_answer _ _ _ _ _ _ c.self.inside.notes _ _ _ _ _ _ c.self.invariant c.args.from.now c.args.to.now a.number a.position a.dep a.past a.txn known c.in-Some.place c.index_mut-inbox.result.now found c.index_mut-inbox.ensures.value (sym c.in-None.ensures))
