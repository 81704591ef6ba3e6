use Rattle.std.proofs.Common.{sym, arith}
use Rattle.sender_inbox.proofs.RisingPasts.{rise_between, rise_on, rise_anew, next_within}
use Rattle.sender_inbox.proofs.pasts.rising_with.Goals as goal

-- in front of another one
pub returns-then-arrival-last : goal.returns-then-arrival-last
returns-then-arrival-last c =
    let a = c.args.arrival.now in
    let xs = c.args.arrived.now in
    let place = c.first_above.result in
    let next = c.index-arrived-first_above.result in
    let within = next_within a c.args.from xs c.requires.rising c.requires.absent c.requires.pasts c.in-Some.last.now (sym c.in-Some.ensures.value) c.if-arrival-last.true place c.first_above.ensures in
    let above = rw (← c.index-arrived-first_above.is) at (c.first_above.ensures.behind place next (omega arith) within) in
    rise_between a c.args.from xs c.requires.rising c.requires.absent c.requires.pasts c.max.result (omega (arith, c.max.ensures)) (omega (arith, c.max.ensures, above))

-- behind all, with the past of the last one in its own
pub returns-then-is_within : goal.returns-then-is_within
returns-then-is_within c =
    let within = rw (c.as_slice.ensures, c.as_slice-then-low-last.ensures) at (sym c.if-is_within.ensures) in
    rise_on c.args.arrival.now c.args.from c.args.arrived.now c.requires.rising c.requires.absent c.requires.pasts c.in-Some.last.now (sym c.in-Some.ensures.value) c.if-arrival-last.false within

-- behind all, with any past
pub returns : goal.returns
returns c = rise_anew c.args.arrival.now c.args.from c.args.arrived.now c.requires.rising c.requires.absent c.requires.pasts c.in-Some.last.now (sym c.in-Some.ensures.value) c.if-arrival-last.false
