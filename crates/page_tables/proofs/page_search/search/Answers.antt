use Rattle.std.proofs.Common.{sym, ◌∙◌, arith}
use Rattle.page_tables.proofs.Parted.{upto_less, stands_there, from_greater}
use Rattle.page_tables.proofs.page_search.search.Goals as goal

pub loop-low-preserved-in-Less : goal.loop-low-preserved-in-Less
loop-low-preserved-in-Less g c = record {
  part = omega arith;
  within = omega arith;
  before = upto_less (g.S.Sought.at c.args.sought.now) c.args.slots.now _ 0 (omega arith) (sym c.beside.ensures ∙ c.in-Less.is) c.requires;
  behind = c.loop-low.invariant.behind;
}

pub returns-in-Equal-clause-found : goal.returns-in-Equal-clause-found
returns-in-Equal-clause-found g c = stands_there (g.S.Sought.at c.args.sought.now) c.args.slots.now _ 0 (omega arith) (sym c.beside.ensures ∙ c.in-Equal.is) c.requires

pub loop-low-preserved : goal.loop-low-preserved
loop-low-preserved g c = record {
  part = omega arith;
  within = omega arith;
  before = c.loop-low.invariant.before;
  behind = from_greater (g.S.Sought.at c.args.sought.now) c.args.slots.now _ 0 (omega arith) (sym c.beside.ensures ∙ c.in-Greater.is) c.requires;
}
