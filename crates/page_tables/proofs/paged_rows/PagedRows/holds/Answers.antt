use Rattle.page_tables.proofs.paged_rows.PagedRows.holds.Goals as goal

pub returns : goal.returns
returns c = rw (← c.self.view_is) c.holds.ensures
