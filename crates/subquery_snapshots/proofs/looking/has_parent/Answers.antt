use Rattle.std.proofs.Common.{◌≡◌, length, refl, ◌∙◌}
use Rattle.std.proofs.lemmas.Bool.{false≢true}
use Rattle.rep_values.specs.Number.{IsKeyLen}
use Rattle.rep_schema.specs.Tables.{columns_of, rows_of}
use Rattle.snapshot_query.specs.Parents.{parent_key}
use Rattle.subquery_snapshots.proofs.NoParent.{find_row-no_key}
use Rattle.subquery_snapshots.proofs.looking.has_parent.Goals as goal

pub matches_at-requires : goal.matches_at-requires
matches_at-requires g c = c.requires.parent.within

pub returns-in-Some-clause-value : goal.returns-in-Some-clause-value
returns-in-Some-clause-value g c =
    let values = rw (c.as_slice-columns.ensures, c.values.ensures.value) at c.in_ok-values.ensures in
    let key : c.in-Some.key ≡ parent_key c.args.parent.now c.args.row.now = (rw c.as_slice.ensures at c.in-Some.ensures.value) ∙ values in
    rw key at c.matches_at.ensures.value

-- values that are no key
pub returns-clause-value : goal.returns-clause-value
returns-clause-value g c =
    let schema = g.M.MasterView.schema c.args.master.now in
    let table = c.args.parent.now.table in
    let values = rw (c.as_slice-columns.ensures, c.values.ensures.value) at c.in_ok-values.ensures in
    let unkeyed : ¬ IsKeyLen (length (parent_key c.args.parent.now c.args.row.now)) = λ long. false≢true ((rw (c.as_slice.ensures, values) at c.in-None.ensures.variant).1 long) in
    rw (find_row-no_key (columns_of schema table) (parent_key c.args.parent.now c.args.row.now) (rows_of (g.M.MasterView.tables c.args.master.now) table) c.requires.parent.keyed (c.requires.master.each table c.requires.parent.within).fit unkeyed) refl
