use Rattle.std.proofs.Common.{◌∙◌, sym}
use Rattle.rep_declare.proofs.NamedColumns.{refused_at, passed_at, none_behind}
use Rattle.rep_declare.proofs.refusals.columns_refusal.Goals as goal

pub returns-in-Some : goal.returns-in-Some
returns-in-Some g c =
    sym (refused_at c.args.columns.now _ c.args.names.now c.loop-i.i c.loop-i-test.true c.index-names-i.result c.index-names-i.is c.in-Some.refusal (sym c.column_refusal.ensures ∙ c.in-Some.is)) ∙ c.loop-i.invariant.rest

pub loop-i-preserved : goal.loop-i-preserved
loop-i-preserved g c = record { rest = sym (passed_at c.args.columns.now _ c.args.names.now c.loop-i.i c.loop-i-test.true c.index-names-i.result c.index-names-i.is (sym c.column_refusal.ensures ∙ c.in_default.is)) ∙ c.loop-i.invariant.rest }

pub returns : goal.returns
returns g c = sym (none_behind c.args.columns.now _ c.args.names.now c.loop-i.i c.loop-i-test.false) ∙ c.loop-i.invariant.rest
