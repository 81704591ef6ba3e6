use Rattle.std.proofs.Common.{max, ap, ◌∙◌}
use Rattle.sender_inbox.proofs.inbox.Inbox.seen.Goals as goal

pub returns : goal.returns
returns c = rw (← c.self.view_is) (c.max.ensures ∙ ap (λ n. max c.self.inside.first n) c.self.invariant.greatest_is)
