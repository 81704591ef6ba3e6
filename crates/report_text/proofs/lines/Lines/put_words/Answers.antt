use Rattle.std.proofs.Common.{arith, ap, length, length-append, ℕ}
use Rattle.report_text.specs.Sheet.{most_spaced}
use Rattle.rep_lists.proofs.Places.{drop_from_place}
use Rattle.report_text.proofs.Printing.{printed_more}
use Rattle.report_text.proofs.lines.Lines.put_words.Goals as goal

pub loop-word-preserved : goal.loop-word-preserved
loop-word-preserved c =
    let next = drop_from_place c.args.words.now c.loop-word.word-index c.word-item.result c.loop-word-test.true c.word-item.is in
    let space = c.put.ensures in
    let word = c.put_word.ensures.text in
    record {
      text = printed_more _ _ _ _ _ _ _ c.loop-word.invariant.text next space.bytes word.bytes;
      room = omega (arith, c.loop-word.invariant.room, space.room, word.room, ap length space.bytes, ap length word.bytes, length-append {A = ℕ});
      enough = omega (arith, c.loop-word.invariant.enough, ap most_spaced next, space.room, word.room, c.put_word.ensures.short);
      spent = omega (arith, c.loop-word.invariant.spent, ap most_spaced next, space.room, word.room, c.put_word.ensures.short);
    }
