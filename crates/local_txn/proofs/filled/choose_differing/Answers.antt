use Rattle.std.proofs.Common.{◌≡◌, ◌<◌, true, false, length, sym, ap, ◌∙◌, arith, refl}
use Rattle.std.specs.Prelude.{not}
use Rattle.std.specs.Bool.{one_answer}
use Rattle.rep_lists.proofs.Each.{each_then}
use Rattle.rep_schema.specs.Tables.{columns_of}
use Rattle.rep_schema.specs.Groups.{differ_in, group_values, group_columns_of}
use Rattle.rep_schema.proofs.ValuesAt.{are_same-Decides}
use Rattle.rep_schema.proofs.Coverage.{group_columns_of-below}
use Rattle.rep_schema.proofs.Shapes.{length-columns_of}
use Rattle.txn_effects.specs.Chosen.{chosen_at}
use Rattle.local_txn.proofs.FilledRows.{or_false}
use Rattle.local_txn.proofs.filled.choose_differing.Goals as goal

-- a group's columns are at most 32
pub choose-requires : goal.choose-requires
choose-requires c =
    let schema = c.args.schema.now in
    let few = length-columns_of schema c.requires.shape c.args.table in
    rw c.requires.columns
    (each_then (λ place. place < length (columns_of schema c.args.table)) (λ place. place < 32) (λ place below. omega (arith, below, few))
    (group_columns_of schema c.args.table c.args.group) (group_columns_of-below schema c.requires.shape c.args.table c.args.group))

pub returns-then-not-same_values_at : goal.returns-then-not-same_values_at
returns-then-not-same_values_at c place =
    let schema = c.args.schema.now in
    let group = group_values schema c.args.table c.args.group in
    let same = rw c.requires.columns at c.same_values_at.ensures in
    let differ : differ_in schema c.args.table c.args.before.now c.args.after.now c.args.group ≡ true =
    ap not (sym (one_answer _ _ same (are_same-Decides (group c.args.before.now) (group c.args.after.now)))) ∙ ap not c.if-not-same_values_at.true in
    c.choose.ensures place ∙ rw (differ, c.requires.columns) refl

pub returns-else-not-same_values_at : goal.returns-else-not-same_values_at
returns-else-not-same_values_at c place =
    let schema = c.args.schema.now in
    let group = group_values schema c.args.table c.args.group in
    let same = rw c.requires.columns at c.same_values_at.ensures in
    let alike : differ_in schema c.args.table c.args.before.now c.args.after.now c.args.group ≡ false =
    ap not (sym (one_answer _ _ same (are_same-Decides (group c.args.before.now) (group c.args.after.now)))) ∙ ap not c.if-not-same_values_at.false in
    rw alike (sym (or_false (chosen_at c.args.chosen.now place)))
