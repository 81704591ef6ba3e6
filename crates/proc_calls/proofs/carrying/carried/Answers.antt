use Rattle.std.proofs.Common.{rules, ◌≡◌, ◌<◌, ◌^◌, ◌∙◌, ap, refl, sym, subst}
use Rattle.rep_schema.specs.Tables.{Cells, columns_of}
use Rattle.rep_calls.specs.declared.call.Call.TheVariants.{Insert}
use Rattle.proc_state.specs.Carriers.{carried_values, carrier_row}
use Rattle.proc_calls.specs.Carrying.{CallCanBeCarried}
use Rattle.proc_calls.proofs.Carried.{procedure_is, values_are_fit}
use Rattle.proc_calls.proofs.PlainCarriers.{carried_few, call_can}
use Rattle.proc_calls.proofs.carrying.carried.Goals as goal

pub carrier_row-requires : goal.carrier_row-requires
carrier_row-requires c =
    let schema = c.args.schema.now in
    let p = c.in-Some.procedure.now in
    let there = sym c.in-Some.ensures in
    rw (c.deref.ensures.value, c.in_ok-values.ensures, c.columns_of.ensures, c.as_slice.ensures)
    (carried_few schema c.requires.keyed p (procedure_is schema c.args.procedures.now c.requires.procedures c.args.call.now.procedure p there) c.args.call.now.values
    (values_are_fit schema c.args.procedures.now c.args.call.now p there c.requires.fits))

pub returns-clause-call : goal.returns-clause-call
returns-clause-call c =
    let schema = c.args.schema.now in
    let p = c.in-Some.procedure.now in
    let there = sym c.in-Some.ensures in
    rw (there, c.in_ok-row.ensures, c.deref.ensures.value, c.in_ok-values.ensures, c.columns_of.ensures, c.as_slice.ensures) refl

pub returns-clause-plain : goal.returns-clause-plain
returns-clause-plain c =
    let schema = c.args.schema.now in
    let p = c.in-Some.procedure.now in
    let there = sym c.in-Some.ensures in
    let place = c.args.call.now.procedure in
    let values = rw (c.columns_of.ensures, c.as_slice.ensures) at c.in_ok-values.ensures in
    let row_is : c.in_ok-row.row ≡ carrier_row place (carried_values (columns_of schema p.table) p.action c.args.call.now.values) = c.in_ok-row.ensures ∙ ap (carrier_row place) (c.deref.ensures.value ∙ values) in
    let below : place < 2 ^ 32 = search rules in
    subst (λ (row : Cells). CallCanBeCarried (Insert p.table row)) (sym row_is)
    (call_can schema c.requires.keyed p (procedure_is schema c.args.procedures.now c.requires.procedures place p there) c.args.call.now.values
    (values_are_fit schema c.args.procedures.now c.args.call.now p there c.requires.fits) place below)
