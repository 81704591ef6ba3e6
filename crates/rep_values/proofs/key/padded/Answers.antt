use Rattle.std.proofs.Common.{pos, length}
use Rattle.std.proofs.lemmas.List.{drop-replicate}
use Rattle.rep_values.specs.declared.value.Value.{Value}
use Rattle.rep_values.specs.declared.value.Value.TheVariants.{Num}
use Rattle.rep_values.proofs.key.padded.Goals as goal

-- the values were written over the first zeros
pub returns : goal.returns
returns c = rw (c.copy_from_slice.ensures.after, drop-replicate {X = Value} (length c.args.values.now) 4 (Num (pos 0)))
