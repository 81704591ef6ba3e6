-- Why a check is refused, whatever its relation is.
use Rattle.std.proofs.Common.{◌∙◌, sym, ap}
use Rattle.rep_declare.specs.Refusals.{declare_refusal}
use Rattle.rep_declare.proofs.refusals.refusal_of.Goals as goal

pub returns-in-Check : goal.returns-in-Check
returns-in-Check c = c.check_refusal.ensures c.in-Check.rel ∙ ap (declare_refusal c.args.schema.now) (sym c.in-Check.is)
