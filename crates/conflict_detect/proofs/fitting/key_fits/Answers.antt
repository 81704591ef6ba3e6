use Rattle.std.proofs.Common.{length, sym, ◌∙◌, arith}
use Rattle.std.proofs.lemmas.Bool.Decides.{Decides-eqb}
use Rattle.conflict_detect.proofs.FitWalk.{key_fits-more, key_fits-other, key_fits-end, counted}
use Rattle.conflict_detect.proofs.fitting.key_fits.Goals as goal
use Rattle.conflict_detect.proofs.fitting.key_fits.Goals.{then-column+else-not-fits_there, else-column}

-- the value for one key column doesn't fit
pub returns-then-not-fits_there : goal.returns-then-not-fits_there
returns-then-not-fits_there c =
    let more = key_fits-more c.args.columns.now c.args.key.now c.loop-column.column-index c.loop-column.read c.column-item.result c.loop-column-test.true c.column-item.is c.if-column.true in
    (λ yes. cc, λ fits. sym c.if-not-fits_there.true ∙ c.fits_there.ensures.1 (more.0 (c.loop-column.invariant.rest.0 fits)).0)

pub loop-column-preserved : goal.loop-column-preserved
loop-column-preserved c = elim c.if-column.branch [
  | then-column+else-not-fits_there w ↦
      let more = key_fits-more c.args.columns.now c.args.key.now c.loop-column.column-index c.loop-column.read c.column-item.result c.loop-column-test.true c.column-item.is w.if-column.true in
      let here = w.fits_there.ensures.0 w.if-not-fits_there.false in
      rw w.read-is (record {
        within = omega (arith, counted c.args.key.now c.loop-column.read c.column-item.result here);
        rest = (λ fits. (more.0 (c.loop-column.invariant.rest.0 fits)).1, λ rest. c.loop-column.invariant.rest.1 (more.1 (here, rest)));
      })
  | else-column w ↦
      let other = key_fits-other c.args.columns.now c.args.key.now c.loop-column.column-index c.loop-column.read c.column-item.result c.loop-column-test.true c.column-item.is w.if-column.false in
      rw w.read-is (record {
        within = c.loop-column.invariant.within;
        rest = (λ fits. other.0 (c.loop-column.invariant.rest.0 fits), λ rest. c.loop-column.invariant.rest.1 (other.1 rest));
      })
]

-- the key fits where there is no further value
pub returns : goal.returns
returns c =
    let ends = key_fits-end c.args.columns.now c.args.key.now c.loop-column.column-index c.loop-column.read c.loop-column-test.false c.loop-column.invariant.within in
    let test = Decides-eqb c.loop-column.read (length c.args.key.now) in
    (λ yes. c.loop-column.invariant.rest.1 (ends.1 (test.0 yes)), λ fits. test.1 (ends.0 (c.loop-column.invariant.rest.0 fits)))
