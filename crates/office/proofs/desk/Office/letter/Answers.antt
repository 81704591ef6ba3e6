-- No position stands behind the last.
use Rattle.std.proofs.Common.{◌≡◌, ◌+◌, max, length, sym, ap, ◌∙◌, subst, arith}
use Rattle.site_state.specs.State.{SiteState, acked_of}
use Rattle.site_state.specs.Streams.{stream_to}
use Rattle.office.proofs.NoLetters.{site_packet-above}
use Rattle.office.proofs.desk.Office.letter.Goals as goal

pub returns-then-before-last_sent-clause-ok : goal.returns-then-before-last_sent-clause-ok
returns-then-before-last_sent-clause-ok c =
    let x = c.args.self.now in
    let to = c.args.to.now in
    let before : c.max-before.result ≡ max c.args.behind (acked_of to x) = c.max-before.ensures ∙ ap (max c.args.behind) c.acked.ensures in
    let sent : c.last_sent.result ≡ length (stream_to to x) = subst (λ (y : SiteState). c.last_sent.result ≡ length (stream_to to y)) c.self.view_is c.last_sent.ensures in
    sym (site_packet-above to (max c.args.behind (acked_of to x) + 1) x (omega (arith, before, sent, c.if-before-last_sent.true)))
