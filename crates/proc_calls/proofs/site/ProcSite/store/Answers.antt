use Rattle.proc_calls.proofs.site.ProcSite.store.Goals as goal

pub returns-clause-tables : goal.returns-clause-tables
returns-clause-tables c = rw (← c.self.view_is) c.self.invariant.rows_are
