-- The token in front, by what the first byte begins.
use Rattle.script_lex.proofs.Fronts.{none_ahead, word_passes, word_ahead, number_ahead, minus_ahead, text_ahead, symbol_ahead, stands_behind, stands_anywhere}
use Rattle.script_lex.proofs.front.token_front.Goals as goal

pub returns-in_default-clause-cut : goal.returns-in_default-clause-cut
returns-in_default-clause-cut c = none_ahead c.args.bytes.now c.in_default.ensures

pub word_front-requires-clause-word : goal.word_front-requires-clause-word
word_front-requires-clause-word c = word_passes c.args.bytes.now c.in-Some.first c.in-Some.rest.now c.word_run.result c.in-Some.ensures c.in-Word.ensures c.word_run.ensures.value

pub returns-in-Word-clause-cut : goal.returns-in-Word-clause-cut
returns-in-Word-clause-cut c = word_ahead c.args.bytes.now c.in-Some.first c.in-Some.rest.now c.word_run.result c.word_front.result c.in-Some.ensures c.in-Word.ensures c.word_run.ensures.value c.word_front.ensures.cut

pub returns-in-Number-clause-cut : goal.returns-in-Number-clause-cut
returns-in-Number-clause-cut c = number_ahead c.args.bytes.now c.in-Some.first c.in-Some.rest.now c.digit_run.result c.number_front.result c.in-Some.ensures c.in-Number.ensures c.digit_run.ensures.value c.number_front.ensures.cut

pub returns-in-Minus-clause-cut : goal.returns-in-Minus-clause-cut
returns-in-Minus-clause-cut c = minus_ahead c.args.bytes.now c.in-Some.first c.in-Some.rest.now c.minus_front.result c.in-Some.ensures c.in-Minus.ensures c.minus_front.ensures.cut

pub returns-in-Text-clause-cut : goal.returns-in-Text-clause-cut
returns-in-Text-clause-cut c = text_ahead c.args.bytes.now c.in-Some.first c.in-Some.rest.now c.text_front.result c.in-Some.ensures c.in-Text.ensures c.text_front.ensures.cut

pub returns-in-Other-clause-cut : goal.returns-in-Other-clause-cut
returns-in-Other-clause-cut c = symbol_ahead c.args.bytes.now c.in-Some.first c.in-Some.rest.now c.symbol_front.result c.in-Some.ensures c.in-Other.ensures c.symbol_front.ensures.cut

pub returns-in-Text-clause-stands : goal.returns-in-Text-clause-stands
returns-in-Text-clause-stands c = stands_behind c.args.bytes.now c.in-Some.first c.in-Some.rest.now c.text_front.result c.in-Some.ensures c.text_front.ensures.stands

pub returns-in-Other-clause-stands : goal.returns-in-Other-clause-stands
returns-in-Other-clause-stands c = stands_anywhere c.args.bytes.now c.symbol_front.result c.symbol_front.ensures.stands
