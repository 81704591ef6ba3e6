-- The columns of a group that is named are lent, those of the shadow group are made.
use Rattle.rep_schema.proofs.Coverage.{group_columns_of-below}
use Rattle.rep_schema.proofs.GroupShapes.{group_columns_of-named}
use Rattle.conflict_detect.proofs.PartFit.{part_fits_by}
use Rattle.conflict_detect.proofs.fitting.part_fits.Goals as goal

pub part_fits_at-requires : goal.part_fits_at-requires
part_fits_at-requires c = rw (c.as_slice.ensures, c.group_columns-group.ensures, c.columns_of-columns.ensures) (group_columns_of-below c.args.schema.now c.requires.shape c.args.table c.args.part.now.group)

pub returns-then-part : goal.returns-then-part
returns-then-part c =
    part_fits_by c.args.schema.now c.args.table c.args.part.now c.part_fits_at.result (c.is_group_of.ensures.0 c.if-not-is_group_of.false)
    (rw (c.as_slice.ensures, c.group_columns-group.ensures, c.columns_of-columns.ensures) at c.part_fits_at.ensures)

pub part_fits_at-requires-2 : goal.part_fits_at-requires-2
part_fits_at-requires-2 c =
    let below = rw (group_columns_of-named c.args.schema.now c.args.table c.args.part.now.group c.if-part.false) at (group_columns_of-below c.args.schema.now c.requires.shape c.args.table c.args.part.now.group) in
    rw (c.named_columns.ensures, c.groups_of.ensures, c.columns_of-columns.ensures) below

pub returns : goal.returns
returns c =
    let named = rw (c.named_columns.ensures, c.groups_of.ensures, c.columns_of-columns.ensures) at c.part_fits_at-2.ensures in
    part_fits_by c.args.schema.now c.args.table c.args.part.now c.part_fits_at-2.result (c.is_group_of.ensures.0 c.if-not-is_group_of.false)
    (rw (group_columns_of-named c.args.schema.now c.args.table c.args.part.now.group c.if-part.false) named)
