-- The first rule that a line breaks.
use Rattle.std.proofs.Common.{◌∙◌, true, false, map, sym, ap, Ok, refl, IsOk}
use Rattle.script_lex.specs.Tokens.{tokens_from}
use Rattle.script_lex.specs.Spans.{span_token}
use Rattle.script_lex.specs.Lines.{or_rule}
use Rattle.script_lex.proofs.Steps.{line_short, gives_where}
use Rattle.script_lex.proofs.lexer.spans.Goals as goal

pub returns-then-not-are_printable-clause-read : goal.returns-then-not-are_printable-clause-read
returns-then-not-are_printable-clause-read c = sym (line_short c.args.line.now false _ c.if-line-gt-LINE_BYTES.false c.if-not-are_printable.ensures (sym refl))

pub returns-then-is_passed_over-clause-read : goal.returns-then-is_passed_over-clause-read
returns-then-is_passed_over-clause-read c =
    sym (line_short c.args.line.now true true c.if-line-gt-LINE_BYTES.false c.if-not-are_printable.ensures c.if-is_passed_over.ensures) ∙ ap (λ xs. Ok (map (span_token c.args.line.now) xs)) (sym c.clear.ensures.items)

pub returns-clause-read : goal.returns-clause-read
returns-clause-read c =
    let line = line_short c.args.line.now true false c.if-line-gt-LINE_BYTES.false c.if-not-are_printable.ensures c.if-is_passed_over.ensures in
    rw (← line) (gives_where (IsOk (or_rule 4 (tokens_from 0 c.args.line.now))) _ _ c.spans_of.result _ (λ some. (sym c.if-is_passed_over.ensures, some)) c.spans_of.ensures.read)
