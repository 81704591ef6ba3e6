use Rattle.std.proofs.Common.{drop}
use Rattle.site_engine.proofs.SeenMasters.{rising_past}
use Rattle.site_engine.proofs.seen.causal_past.Goals as goal

pub put_seen-requires : goal.put_seen-requires
put_seen-requires c = rw c.loop-place.invariant.so_far (rising_past c.args.schema.now (drop c.loop-place.place c.args.inboxes.now))
