use Rattle.rep_schema.proofs.ValuesAt.{picked-values_at}
use Rattle.rep_schema.proofs.groups.same_values_at.Goals as goal

pub returns : goal.returns
returns c =
    let alike = picked-values_at c.args.places.now c.args.a.now c.args.b.now c.requires in
    (λ yes. alike.0 (c.same_picked.ensures.0 yes), λ same. c.same_picked.ensures.1 (alike.1 same))
