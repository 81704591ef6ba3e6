use Rattle.std.proofs.Common.{◌==◌, arith, ◌∙◌}
use Rattle.std.specs.List.{list_any}
use Rattle.std.proofs.lemmas.List.{length-set}
use Rattle.rep_schema.proofs.TableMarks.{none_past, marked-more, marked-all}
use Rattle.rep_schema.proofs.table_set.TableSet.of.Goals as goal

pub loop-i-preserved : goal.loop-i-preserved
loop-i-preserved c = record {
  whole = length-set c.loop-i.held c.loop-i.i c.has_number.result ∙ c.loop-i.invariant.whole;
  marked = marked-more (λ t. list_any (λ n. n == t) c.args.tables.now) c.loop-i.held c.loop-i.i c.loop-i.invariant.whole c.loop-i.invariant.marked c.has_number.result c.has_number.ensures c.loop-i-test.true;
}

pub returns : goal.returns
returns c = marked-all (λ t. list_any (λ n. n == t) c.args.tables.now) c.loop-i.held c.loop-i.i c.loop-i.invariant.whole c.loop-i.invariant.marked (omega (arith, c.loop-i-test.false))
    (λ t. none_past c.args.tables.now t c.requires)
