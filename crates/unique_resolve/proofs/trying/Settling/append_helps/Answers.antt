use Rattle.std.proofs.lemmas.List.{length-set}
use Rattle.unique_resolve.proofs.Tries.{appended_within, testable-appended}
use Rattle.unique_resolve.proofs.trying.Settling.append_helps.Goals as goal

-- the row that the append gives can be tested, since it fits as before
pub is_held-requires-after_bounds : goal.is_held-requires-after_bounds
is_held-requires-after_bounds g c κs within =
    let gives = rw (c.columns_of-columns.ensures, c.schema.ensures.value, c.constraint_columns-places.ensures, c.schema-2.ensures.value, c.values.ensures.value) at c.in-Some.ensures in
    rw c.replace-before.ensures.row (testable-appended _ _ c.args.self.now.at.table c.args.self.now.at.place c.args.row.now c.requires.testable c.args.column c.args.bytes.now c.in-Some.longer gives)

pub set-requires : goal.set-requires
set-requires g c =
    let gives = rw (c.columns_of-columns.ensures, c.schema.ensures.value, c.constraint_columns-places.ensures, c.schema-2.ensures.value, c.values.ensures.value) at c.in-Some.ensures in
    rw (c.replace-before.ensures.row, length-set) (appended_within _ _ c.args.self.now.at.table c.args.self.now.at.place c.args.row.now c.requires.testable c.args.column c.args.bytes.now c.in-Some.longer gives)

pub returns-clause-testable : goal.returns-clause-testable
returns-clause-testable g c =
    let gives = rw (c.columns_of-columns.ensures, c.schema.ensures.value, c.constraint_columns-places.ensures, c.schema-2.ensures.value, c.values.ensures.value) at c.in-Some.ensures in
    rw c.replace-before.ensures.row (testable-appended _ _ c.args.self.now.at.table c.args.self.now.at.place c.args.row.now c.requires.testable c.args.column c.args.bytes.now c.in-Some.longer gives)
