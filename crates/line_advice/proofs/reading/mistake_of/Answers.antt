-- Where memory wants, the line has tokens: it breaks a rule behind those of tokens.
use Rattle.std.proofs.Common.{Result, Ok, Err, OnErr}
use Rattle.line_advice.proofs.Lines.{formless_has_tokens}
use Rattle.line_advice.proofs.reading.mistake_of.Goals as goal

on_err : {A E : Type 0} (r : Result A E) (P : Type 0) → P → OnErr r P
on_err (Ok x) P p = tt
on_err (Err e) P p = p

pub returns-in_err-place-clause-err : goal.returns-in_err-place-clause-err
returns-in_err-place-clause-err c =
    on_err c.from_residual.result _ (formless_has_tokens c.args.line.now c.args.rule c.requires c.if-rule-eq1.false c.if-rule-eq3.false c.if-rule-eq4.false)

pub returns-then-rule-eq5-clause-err : goal.returns-then-rule-eq5-clause-err
returns-then-rule-eq5-clause-err c =
    on_err c.no_command.result _ (formless_has_tokens c.args.line.now c.args.rule c.requires c.if-rule-eq1.false c.if-rule-eq3.false c.if-rule-eq4.false)
