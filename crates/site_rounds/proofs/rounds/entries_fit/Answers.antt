-- No more entries pass a test than there are.
use Rattle.std.proofs.Common.{arith}
use Rattle.site_rounds.proofs.Parts.{count_at_most}
use Rattle.site_rounds.proofs.rounds.entries_fit.Goals as goal

pub returns : goal.returns
returns g c = λ test. omega (arith, count_at_most test c.args.site.now.journal, c.journal_len.ensures, c.journal_len.type_inv)
