use Rattle.std.specs.List.{AllByRecursion}
use Rattle.std.proofs.Common.{sym, subst}
use Rattle.conflict_detect.specs.Fits.{CallFits}
use Rattle.conflict_detect.proofs.LedCalls.{CallFits-led}
use Rattle.site_engine.proofs.applying.send_onward.Goals as goal

pub push-requires-clause-fits : goal.push-requires-clause-fits
push-requires-clause-fits c = record { calls = subst (AllByRecursion (CallFits c.args.schema.now)) (sym c.in_ok-txn.ensures) (CallFits-led c.args.schema.now c.args.changes.now c.requires.keyed.shape c.requires.fits) }
