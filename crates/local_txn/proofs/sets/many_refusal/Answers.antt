use Rattle.std.proofs.Common.{◌≡◌, true, false, refl, sym, ◌∙◌}
use Rattle.txn_effects.specs.Sets.{names_columns}
use Rattle.local_txn.proofs.ManySets.{twice_of_many}
use Rattle.local_txn.proofs.sets.many_refusal.Goals as goal

-- two name the same column
pub returns-then-names_columns : goal.returns-then-names_columns
returns-then-names_columns c =
    let known : names_columns c.args.columns.now c.args.sets.now ≡ true = sym c.names_columns.ensures ∙ c.if-names_columns.true in
    let twice = twice_of_many c.args.columns.now c.args.sets.now c.requires known in
    rw (known, twice) refl

pub returns-else-names_columns : goal.returns-else-names_columns
returns-else-names_columns c =
    let unknown : names_columns c.args.columns.now c.args.sets.now ≡ false = sym c.names_columns.ensures ∙ c.if-names_columns.false in
    rw unknown refl
