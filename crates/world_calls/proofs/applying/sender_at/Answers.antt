-- The sender at a place is the first from there on.
use Rattle.std.proofs.Common.{sym}
use Rattle.rep_lists.proofs.Places.{drop_from_found}
use Rattle.site_state.specs.Rounds.{sender_names}
use Rattle.world_calls.proofs.applying.sender_at.Goals as goal

pub returns : goal.returns
returns c = drop_from_found (sender_names c.args.site.now.senders) c.args.place c.in-Some.origin.now (sym c.in-Some.ensures)
