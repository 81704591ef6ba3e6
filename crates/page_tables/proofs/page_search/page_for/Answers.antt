use Rattle.std.proofs.Common.{◌≡◌, ◌≢◌, ◌+◌, ◌-◌, ◌/◌, ◌<◌, suc, [], length, sym, ◌∙◌, subst, arith}
use mathlib.Core.Bool.{false≢true}
use Rattle.std.specs.declared.cmp.Ordering.TheVariants.{Greater}
use Rattle.std.proofs.lemmas.List.{get_or_read}
use Rattle.page_tables.specs.Pages.{at_first}
use Rattle.page_tables.proofs.InPages.{pages_before, pages_from}
use Rattle.page_tables.proofs.page_search.page_for.Goals as goal

pub loop-high-preserved-then-begins_behind : goal.loop-high-preserved-then-begins_behind
loop-high-preserved-then-begins_behind g c =
    let at = g.S.Sought.at c.args.sought.now in
    let within : c.loop-high.low + (c.loop-high.high - c.loop-high.low) / 2 < length c.args.pages.now = omega arith in
    record {
      some = omega arith;
      within = omega arith;
      before = c.loop-high.invariant.before;
      behind = pages_from at c.args.pages.now _ within c.requires.parted (subst (λ page. at_first at page ≡ Greater) (get_or_read _ _ _ within c.index-pages-middle.is []) (c.begins_behind.ensures.0 c.if-begins_behind.true));
    }

pub loop-high-preserved : goal.loop-high-preserved
loop-high-preserved g c =
    let at = g.S.Sought.at c.args.sought.now in
    let within : c.loop-high.low + (c.loop-high.high - c.loop-high.low) / 2 < length c.args.pages.now = omega arith in
    record {
      some = omega arith;
      within = omega arith;
      before = pages_before at c.args.pages.now _ within c.requires.filled c.requires.parted (subst (λ page. at_first at page ≢ Greater) (get_or_read _ _ _ within c.index-pages-middle.is []) (λ greater. false≢true (sym c.if-begins_behind.false ∙ c.begins_behind.ensures.1 greater)));
      behind = c.loop-high.invariant.behind;
    }

pub returns : goal.returns
returns g c =
    let next : c.loop-high.high ≡ suc c.loop-high.low = omega arith in
    record {
      in_range = omega arith;
      before = c.loop-high.invariant.before;
      behind = rw next at c.loop-high.invariant.behind;
    }
