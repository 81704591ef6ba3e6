-- Settling one part after the other.
use Rattle.std.proofs.Common.{sym, ◌∙◌, subst}
use Rattle.rep_lists.proofs.Each.{each_at}
use Rattle.conflict_detect.specs.Fits.{PartFits}
use Rattle.txn_effects.proofs.PartEffects.{RowFits-settled_part}
use Rattle.txn_apply.proofs.PartSteps.{settled_parts-more}
use Rattle.txn_apply.proofs.part.settle_parts.Goals as goal

pub loop-part-preserved : goal.loop-part-preserved
loop-part-preserved c =
    let schema = c.args.schema.now in
    let part_fits = subst (PartFits schema c.args.table) (sym c.part-item.is) (each_at (PartFits schema c.args.table) c.args.parts.now c.loop-part.part-index c.part-item.result c.loop-part-test.true c.requires.parts) in
    record {
      fits = RowFits-settled_part schema c.args.table c.requires.shape c.part-item.result c.loop-part.row c.settle_part.new.row part_fits c.loop-part.invariant.fits c.in_ok-settle_part.ensures.ok;
      rest = sym (settled_parts-more schema c.args.table c.args.parts.now c.loop-part.part-index c.part-item.result c.loop-part.row c.settle_part.new.row c.loop-part-test.true c.part-item.is c.in_ok-settle_part.ensures.ok)
          ∙ c.loop-part.invariant.rest;
    }
