-- The bytes before the first end of a line, and those behind it.
use Rattle.std.proofs.Common.{◌+◌, ◌<◌, ◌∷◌, length, take, sym, ap, ◌∙◌, arith}
use Rattle.office.specs.Lines.{lines_of}
use Rattle.office.proofs.FirstLines.{lines_of-at, lines_of-whole, to_end}
use Rattle.office.proofs.lines.split_line.Goals as goal

pub returns-then-end-text-clause-line : goal.returns-then-end-text-clause-line
returns-then-end-text-clause-line c = lines_of-whole c.args.text.now c.unbroken_len-end.result c.requires c.if-end-text.true c.unbroken_len-end.ensures.front

pub returns-clause-line : goal.returns-clause-line
returns-clause-line c =
    let text = c.args.text.now in
    let end = c.unbroken_len-end.result in
    let within : end < length text = omega (arith, c.unbroken_len-end.ensures.bound, c.if-end-text.false) in
    lines_of-at text end within c.unbroken_len-end.ensures.front (c.unbroken_len-end.ensures.end within) ∙ ap (λ bs. take end text ∷ lines_of bs) (sym (to_end text (end + 1)))
