use Rattle.proc_calls.proofs.carrying.is_row_of.Goals as goal

pub has_form-requires : goal.has_form-requires
has_form-requires c = rw c.columns_of.ensures c.requires.acts
