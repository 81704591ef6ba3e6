use Rattle.std.proofs.Common.{sym, ◌∙◌}
use Rattle.proc_calls.proofs.Carried.{no_procedure, of_form, is_one}
use Rattle.proc_calls.proofs.carrying.is_of_form.Goals as goal

pub returns-in_default-procedure_named : goal.returns-in_default-procedure_named
returns-in_default-procedure_named c =
    rw c.in-Insert.is (sym (no_procedure c.args.schema.now c.args.procedures.now c.in-Insert.table c.in-Insert.row (rw c.values.ensures.value at (sym c.in_default-procedure_named.ensures))))

pub is_row_of-requires : goal.is_row_of-requires
is_row_of-requires c = is_one c.args.schema.now c.args.procedures.now c.in-Insert.table c.in-Insert.row c.in-Some.procedure.now (rw c.values.ensures.value at (sym c.in-Some.ensures)) c.requires

pub returns : goal.returns
returns c =
    let is = rw c.values-2.ensures.value at c.is_row_of.ensures in
    rw c.in-Insert.is (is ∙ sym (of_form c.args.schema.now c.args.procedures.now c.in-Insert.table c.in-Insert.row c.in-Some.procedure.now (rw c.values.ensures.value at (sym c.in-Some.ensures))))
