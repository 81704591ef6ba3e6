-- The bytes before the first end of a line, and those behind it.
use Rattle.std.proofs.Common.{◌+◌, ◌<◌, ◌∷◌, length, take, sym, ap, ◌∙◌, arith}
use Rattle.script_steps.specs.Lines.{lines_of}
use Rattle.script_steps.proofs.FirstLines.{lines_of-at, lines_of-whole, to_end}
use Rattle.script_steps.proofs.lines.split_line.Goals as goal

pub returns-then-end-script-clause-line : goal.returns-then-end-script-clause-line
returns-then-end-script-clause-line c = lines_of-whole c.args.script.now c.unbroken_len-end.result c.requires c.if-end-script.true c.unbroken_len-end.ensures.front

pub returns-clause-line : goal.returns-clause-line
returns-clause-line c =
    let script = c.args.script.now in
    let end = c.unbroken_len-end.result in
    let within : end < length script = omega (arith, c.unbroken_len-end.ensures.bound, c.if-end-script.false) in
    lines_of-at script end within c.unbroken_len-end.ensures.front (c.unbroken_len-end.ensures.end within) ∙ ap (λ bs. take end script ∷ lines_of bs) (sym (to_end script (end + 1)))
