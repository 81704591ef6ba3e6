-- The schema with a declaration.
use Rattle.std.proofs.Common.{sym, subst}
use Rattle.rep_schema.specs.Shape.{HasShape}
use Rattle.rep_declare.proofs.DeclaredShapes.{HasShape-declared}
use Rattle.rep_declare.proofs.additions.add_declaration.Goals as goal

pub returns-in-Ok-clause-shape : goal.returns-in-Ok-clause-shape
returns-in-Ok-clause-shape c = subst HasShape (sym c.in-Ok.ensures.ok)
    (HasShape-declared c.args.declaration.now c.args.schema.now c.requires.shape c.requires.columns (sym c.in_default.ensures))
