-- One begins here, so one is read.
use Rattle.script_words.proofs.Repeats.{some_found}
use Rattle.script_words.proofs.repeated.one_or_more.Goals as goal

pub returns-clause-some : goal.returns-clause-some
returns-clause-some g c = some_found g.P.Part.starts g.P.Part.reading c.several.result c.args.tokens.now c.several.new.tokens c.if-not-is_next.ensures c.several.ensures
