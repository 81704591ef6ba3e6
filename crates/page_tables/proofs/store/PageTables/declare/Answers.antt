use Rattle.std.proofs.Common.{sym, subst}
use Rattle.rep_declare.specs.Shaping.{ShapesNoRows}
use Rattle.rep_declare.proofs.DeclaredTables.{AreTables-declared}
use Rattle.rep_schema.specs.Putting.{StoreState}
use Rattle.page_tables.proofs.store.PageTables.declare.Goals as goal

-- the table that the declaration shapes has no rows, so the tables stay tables
pub invariant_of-self-2 : goal.invariant_of-self-2
invariant_of-self-2 c =
    let free = subst (λ (s : StoreState). ShapesNoRows s.schema s.tables c.args.declaration.now) (sym c.self.view_is) c.requires.free in
    let stored = rw c.deref.ensures.value at c.in_ok-change.ensures in
    rw (c.in_ok-add_declaration.ensures.ok.1, c.make_change.ensures, c.make_room.ensures.items, stored.rows) (AreTables-declared _ _ _ c.self.invariant.0 free, stored.indexed)
