use Rattle.std.proofs.Common.{◌≡◌, Some, None, sym, ◌∙◌, refl}
use Rattle.std.specs.Prelude.{slice_get}
use Rattle.local_txn.proofs.SetWalk.{slice_get-row_by}
use Rattle.local_txn.proofs.convergent.order_at.Goals as goal

pub returns-in-Some : goal.returns-in-Some
returns-in-Some c =
    let there : slice_get c.args.before.now c.args.column ≡ Some c.in-Some.value.now = sym c.value_at.ensures ∙ rw c.in-Some.is refl in
    c.order_after.ensures ∙ rw (slice_get-row_by c.args.sets.now c.args.before.now c.args.column, there, c.at.ensures) refl

pub returns-in-None : goal.returns-in-None
returns-in-None c =
    let gone : slice_get c.args.before.now c.args.column ≡ None = sym c.value_at.ensures ∙ rw c.in-None.is refl in
    rw (slice_get-row_by c.args.sets.now c.args.before.now c.args.column, gone) refl
