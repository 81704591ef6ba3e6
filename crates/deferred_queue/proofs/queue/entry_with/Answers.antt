use Rattle.std.proofs.Common.{reverse, sym}
use Rattle.deferred_queue.proofs.Numbers.{entry_of-unplaced, entry_of-found}
use Rattle.deferred_queue.proofs.queue.entry_with.Goals as goal

pub returns-in_err-place : goal.returns-in_err-place
returns-in_err-place c = rw (c.from_residual.ensures) (sym (entry_of-unplaced c.args.number (reverse c.args.cargoes.now) (sym c.in_err-place.ensures.position)))

pub returns : goal.returns
returns c = sym (entry_of-found c.args.number c.in_ok-place.place c.args.cargoes.now c.index-cargoes-place.result c.in_ok-place.ensures.position c.in_ok-place.ensures.within c.index-cargoes-place.is)
