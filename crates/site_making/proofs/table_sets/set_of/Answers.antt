use Rattle.site_making.proofs.table_sets.set_of.Goals as goal

-- that an array of 32 tests is kept is a fact of the type
pub returns : goal.returns
returns c = record { marks = c.of.ensures; whole = c.of.type_inv.1.0.1.1.0.1.0.1 }
