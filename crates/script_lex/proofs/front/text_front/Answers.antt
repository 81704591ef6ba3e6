-- A text goes up to its closing quote.
use Rattle.script_lex.proofs.Fronts.{closed_text, text_left, text_passes}
use Rattle.script_lex.proofs.front.text_front.Goals as goal

pub returns-clause-cut : goal.returns-clause-cut
returns-clause-cut c =
    let run = c.plain_run-count.ensures.value in
    let within = c.plain_run-count.ensures.within in (
      closed_text c.args.bytes.now c.plain_run-count.result run c.if-count-bytes.false within c.if-count-gt-TEXT_BYTES.false,
      text_left c.args.bytes.now c.plain_run-count.result run,
      text_passes c.args.bytes.now c.plain_run-count.result run c.requires.printable within c.if-count-gt-TEXT_BYTES.false,
    )
