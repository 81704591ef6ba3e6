-- The head tells the position.
use Rattle.std.proofs.Common.{sym, ap, ◌∙◌, subst}
use Rattle.packet_code.specs.Spelling.{IsEncoding}
use Rattle.packet_code.specs.Heads.{position_in}
use Rattle.packet_code.proofs.Heads.{position_is, position_told}
use Rattle.packet_code.proofs.sealed.Sealed.stream_position.Goals as goal

pub unreachable-requires : goal.unreachable-requires
unreachable-requires c =
    position_told _ c.self.inside.kept.items c.self.invariant (ap position_in (sym c.deref.ensures.value) ∙ (rw c.in-Err.ensures.form at c.in-Err.ensures.gives))

pub returns : goal.returns
returns c =
    position_is c.args.self.now c.self.inside.kept.items c.in-Ok.position (subst (IsEncoding c.self.inside.kept.items) c.self.view_is c.self.invariant)
    (ap position_in (sym c.deref.ensures.value) ∙ c.in-Ok.ensures.gives)
