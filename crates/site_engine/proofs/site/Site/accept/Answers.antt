use Rattle.std.proofs.Common.{sym}
use Rattle.packet_code.specs.declared.packet.Packet.TheVariants.{Carry}
use Rattle.site_engine.proofs.Foreign.{foreign_state, foreign_answer, names_others}
use Rattle.site_engine.proofs.SiteSteps.{mark_within, mark_holds}
use Rattle.site_engine.proofs.site.Site.accept.Goals as goal

pub returns-then-is_foreign_carry-clause-ok : goal.returns-then-is_foreign_carry-clause-ok
returns-then-is_foreign_carry-clause-ok g c =
    let k = c.in-Carry in
    let foreign = rw c.as_slice.ensures at (sym (c.if-is_foreign_carry.ensures k.number k.position k.dep)) in
    rw k.is (foreign_state (Carry k.from k.to k.number k.position k.dep k.past k.txn) c.args.self.now foreign)

pub returns-then-is_foreign_carry-clause-answer : goal.returns-then-is_foreign_carry-clause-answer
returns-then-is_foreign_carry-clause-answer g c =
    let k = c.in-Carry in
    let foreign = rw c.as_slice.ensures at (sym (c.if-is_foreign_carry.ensures k.number k.position k.dep)) in
    rw k.is (foreign_answer (Carry k.from k.to k.number k.position k.dep k.past k.txn) c.args.self.now foreign)

pub take_in-requires-clause-known : goal.take_in-requires-clause-known
take_in-requires-clause-known g c = λ κs lives. rw c.as_slice.ensures at (sym (c.if-is_foreign_carry.ensures c.in-Carry.number c.in-Carry.position c.in-Carry.dep))

-- what the sender of a packet had seen is of others
pub take_in-requires-clause-others : goal.take_in-requires-clause-others
take_in-requires-clause-others g c κs lives =
    let k = c.in-Carry in
    let limits = rw k.is at c.requires in
    names_others k.from k.past limits.seen.each

pub acknowledge-requires : goal.acknowledge-requires
acknowledge-requires g c =
    let known = rw (← c.self.view_is) at (sym c.if-is_foreign_mark.ensures) in
    mark_within _ _ _ _ _ _ c.self.inside.notes _ _ _ _ _ _ c.self.invariant c.in-Mark.from c.in-Mark.to c.in-Mark.mark known

pub invariant_of-self : goal.invariant_of-self
invariant_of-self g c =
    let known = rw (← c.self.view_is) at (sym c.if-is_foreign_mark.ensures) in
    let h = c.self.invariant in
    mark_holds _ _ _ _ _ _ c.self.inside.notes _ _ _ _ _ _ h c.in-Mark.from c.in-Mark.to c.in-Mark.mark known c.acknowledge.new.self c.acknowledge.ensures.destinations c.acknowledge.ensures.purged (c.acknowledge.ensures.keeps _ _ _ h.keeps)
