-- A word that isn't too long.
use Rattle.script_lex.proofs.Fronts.{word_fits}
use Rattle.script_lex.proofs.front.word_front.Goals as goal

pub returns-clause-cut : goal.returns-clause-cut
returns-clause-cut c =
    let word = word_fits c.args.bytes.now c.split_at.result.0.now c.args.count c.split_at.ensures.front c.requires.within c.if-count-gt-WORD_BYTES.false c.requires.word in
    (word.0, c.split_at.ensures.back, word.1)
