use Rattle.std.proofs.Common.{arith, ◌∙◌, refl}
use Rattle.std.specs.Prelude.{nat_lt}
use Rattle.std.proofs.lemmas.List.{length-set}
use Rattle.rep_schema.proofs.TableMarks.{marked-more, marked-each}
use Rattle.rep_schema.proofs.table_set.TableSet.below.Goals as goal

pub loop-i-preserved : goal.loop-i-preserved
loop-i-preserved c = record {
  whole = length-set c.loop-i.held c.loop-i.i (nat_lt c.loop-i.i c.args.number) ∙ c.loop-i.invariant.whole;
  marked = marked-more (λ t. nat_lt t c.args.number) c.loop-i.held c.loop-i.i c.loop-i.invariant.whole c.loop-i.invariant.marked (nat_lt c.loop-i.i c.args.number) refl c.loop-i-test.true;
}

pub returns : goal.returns
returns c = marked-each (λ t. nat_lt t c.args.number) c.loop-i.held c.loop-i.i c.loop-i.invariant.whole c.loop-i.invariant.marked (omega (arith, c.loop-i-test.false))
