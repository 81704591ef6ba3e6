-- A pass is one part, whole or not.
use Rattle.std.proofs.lemmas.Result.{err_from_is_err_and}
use Rattle.site_rounds.proofs.Parts.{partly_part, passes_made}
use Rattle.site_rounds.proofs.rounds.pass.Goals as goal

pub returns-in_err-site-clause-err : goal.returns-in_err-site-clause-err
returns-in_err-site-clause-err g c =
    let p = err_from_is_err_and c.from_residual.result c.from_residual.ensures.1 in
    let part = c.in_err-site.ensures in
    rw (p.1, p.2) (partly_part c.args.origin.now part.0 c.args.site c.in_err-site.field-0.0.0 part.1)

pub returns-clause-passes : goal.returns-clause-passes
returns-clause-passes g c = passes_made c.args.origin.now c.args.site c.in_ok-site.site c.in_ok-site.count c.in_ok-site.ensures.0 c.in_ok-site.ensures.1 c.laws.ensures.fits.content c.requires.masters
