-- The cells in front are one more, and the others hold the blank as before.
use Rattle.std.proofs.Common.{◌<◌, pos, arith, sym}
use Rattle.std.proofs.lemmas.List.{length-append}
use Rattle.std.proofs.lemmas.List.{take_more_set}
use Rattle.rep_values.specs.declared.value.Value.TheVariants.{Num}
use Rattle.rep_values.specs.Padded.{len-of_front, one_more}
use Rattle.rep_values.proofs.key.Key.push.Goals as goal

pub invariant_of-self : goal.invariant_of-self
invariant_of-self c =
    let padded = c.self.invariant.1 in
    let len = len-of_front 4 (Num (pos 0)) c.self.inside.len c.self.inside.cells padded in
    let room : c.self.inside.len < 4 = omega (arith, len, rw (sym c.self.view_is) at c.requires) in
    let front = take_more_set c.self.inside.cells c.self.inside.len c.args.value (omega (arith, room, padded.whole)) in (
      rw (front, length-append) (omega (arith, len, room)),
      one_more 4 (Num (pos 0)) c.self.inside.len c.self.inside.cells c.args.value padded room,
    )
