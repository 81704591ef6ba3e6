use Rattle.std.proofs.Common.{◌≡◌, ◌<◌, length, get_or, sym, ◌∙◌, arith}
use Rattle.std.proofs.lemmas.Bool.Decides.{Decides-eqb}
use Rattle.rep_lists.proofs.Each.{each_at}
use Rattle.conflict_detect.proofs.FitWalk.{values_fit-more, values_fit-end, counted}
use Rattle.conflict_detect.proofs.fitting.values_fit.Goals as goal

-- the value at one place doesn't fit
pub returns-then-not-fits_there : goal.returns-then-not-fits_there
returns-then-not-fits_there c =
    let below = each_at (λ place. place < length c.args.columns.now) c.args.places.now c.loop-i.i 0 c.loop-i-test.true c.requires in
    let more = values_fit-more c.args.columns.now c.args.places.now c.args.values.now c.loop-i.i c.index-columns-places.result c.loop-i-test.true below c.index-columns-places.is in
    (λ yes. cc, λ fits. sym c.if-not-fits_there.true ∙ c.fits_there.ensures.1 (more.0 (c.loop-i.invariant.rest.0 fits)).0)

pub loop-i-preserved : goal.loop-i-preserved
loop-i-preserved c =
    let below = each_at (λ place. place < length c.args.columns.now) c.args.places.now c.loop-i.i 0 c.loop-i-test.true c.requires in
    let more = values_fit-more c.args.columns.now c.args.places.now c.args.values.now c.loop-i.i c.index-columns-places.result c.loop-i-test.true below c.index-columns-places.is in
    let here = c.fits_there.ensures.0 c.if-not-fits_there.false in
    record {
      within = omega (arith, counted c.args.values.now c.loop-i.i (get_or c.args.columns.now (get_or c.args.places.now c.loop-i.i 0) c.index-columns-places.result) here);
      rest = (λ fits. (more.0 (c.loop-i.invariant.rest.0 fits)).1, λ rest. c.loop-i.invariant.rest.1 (more.1 (here, rest)));
    }

-- all values fit where there is no further one
pub returns : goal.returns
returns c =
    let ends = values_fit-end c.args.columns.now c.args.places.now c.args.values.now c.loop-i.i c.loop-i-test.false c.loop-i.invariant.within in
    let all : c.loop-i.i ≡ length c.args.places.now = omega (arith, c.loop-i-test.false, c.loop-i.auto.i-end) in
    let test = Decides-eqb (length c.args.places.now) (length c.args.values.now) in
    (λ yes. c.loop-i.invariant.rest.1 (ends.1 (all ∙ test.0 yes)), λ fits. test.1 (sym all ∙ ends.0 (c.loop-i.invariant.rest.0 fits)))
