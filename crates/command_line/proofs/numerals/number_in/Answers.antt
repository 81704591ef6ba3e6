use Rattle.std.proofs.Common.{arith, sym, ◌∙◌}
use Rattle.command_line.proofs.NumeralLemmas.{unread}
use Rattle.command_line.proofs.numerals.number_in.Goals as goal

-- a numeral that isn't read is too big
pub returns-in-Err-clause-value : goal.returns-in-Err-clause-value
returns-in-Err-clause-value c = unread c.args.word.now (rw c.as_bytes.ensures.value at (sym c.is_numeral.ensures ∙ c.if-not-is_numeral.false)) c.in-Err.field-0 c.args.least c.args.most (omega (arith, c.ranges.most.fits)) (rw c.in-Err.is at c.parse.ensures.value.0)
