-- The words of the block, and then those of the reply.
use Rattle.std.proofs.Common.{[], ◌∷◌, codes, decimal}
use Rattle.live_report.specs.PartTexts.{reply_words}
use Rattle.live_report.proofs.Pieces.{one_line}
use Rattle.live_report.proofs.turns.put_committed.Goals as goal

pub returns : goal.returns
returns c =
    let words = codes "session" ∷ decimal c.from.result ∷ codes "block" ∷ decimal c.from-2.result ∷ [] in
    let whole = one_line c.args.lines.now _ _ c.put_reply.new.lines (codes "turn") words (reply_words c.args.reply.now) c.put.ensures c.put_words.ensures.text c.put_reply.ensures in
    rw (c.from.ensures, c.from-2.ensures) at whole
