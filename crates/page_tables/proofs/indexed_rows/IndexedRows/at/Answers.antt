use Rattle.std.proofs.Common.{sym, ap, ◌∙◌}
use Rattle.page_tables.specs.Slots.{slot_row}
use Rattle.page_tables.proofs.InRows.{at_some, at_none}
use Rattle.page_tables.proofs.indexed_rows.IndexedRows.at.Goals as goal

pub returns-in-Some : goal.returns-in-Some
returns-in-Some c = c.row_at.ensures ∙ (ap (λ r. slot_row r c.in-Some.slot) c.rows.ensures ∙ sym (at_some _ _ c.requires.held c.args.place c.in-Some.slot (sym c.at.ensures ∙ c.in-Some.is)))

pub returns-in-None : goal.returns-in-None
returns-in-None c = sym (at_none _ _ c.args.place (sym c.at.ensures ∙ c.in-None.is))
