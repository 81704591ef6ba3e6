use Rattle.std.proofs.Common.{refl}
use Rattle.change_logs.proofs.RisingNotes.{below_none}
use Rattle.change_logs.proofs.touched.is_below_next.Goals as goal

pub returns-then-place-keys : goal.returns-then-place-keys
returns-then-place-keys c = (λ is. below_none c.args.keys.now c.args.place c.if-place-keys.true, λ is. refl)
