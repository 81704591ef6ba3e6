use Rattle.std.specs.Prelude.{nat_lt}
use Rattle.change_logs.specs.LogState.{LoggedKey}
use Rattle.change_logs.proofs.KeysLeft.{rising_keys_left, given_weaker}
use Rattle.change_logs.proofs.log.Log.pending.Goals as goal

pub returns-clause-rising : goal.returns-clause-rising
returns-clause-rising c =
    given_weaker _ _ (λ given is. rw is (rising_keys_left (λ (logged : LoggedKey). nat_lt c.args.mark logged.moment) c.self.inside.entries.items c.self.invariant)) c.keys_above.result c.keys_above.ensures
