use Rattle.replication_cli.proofs.Summed.{lines_added}
use Rattle.replication_cli.proofs.summary.lines_of.Goals as goal

pub returns : goal.returns
returns c =
    lines_added c.args.seed c.args.count _ _ _ _ _ c.args.tally c.args.totals c.args.agree
    c.make-lines.ensures c.in_ok-add_words.ensures c.in_ok-add_tally.ensures c.in_ok-add_totals.ensures c.in_ok-add_agree.ensures
