use Rattle.std.proofs.Common.{◌≡◌, ◌-◌, ◌+◌, true, false, drop, arith}
use Rattle.change_logs.proofs.RisingNotes.{rising_drop, rising_from, below_next}
use Rattle.change_logs.proofs.touched.is_rising.Goals as goal

pub returns-then-not-is_below_next : goal.returns-then-not-is_below_next
returns-then-not-is_below_next c = (
  λ (never : false ≡ true). absurd cc,
  λ rising. let here : c.is_below_next.result ≡ true = c.is_below_next.ensures.1 (below_next (drop (c.loop-place.place - 1) c.args.keys.now) (rising_drop (c.loop-place.place - 1) c.args.keys.now rising)) in cc,
)

pub loop-place-preserved : goal.loop-place-preserved
loop-place-preserved c =
    let keys = c.args.keys.now in
    let place = c.loop-place.place in
    let next : place - 1 + 1 ≡ place = omega arith in
    record {
      within = omega (arith, c.loop-place.invariant.within);
      rising = rising_from keys (place - 1) (omega (arith, c.loop-place.invariant.within)) (c.is_below_next.ensures.0 c.if-not-is_below_next.false) (rw next c.loop-place.invariant.rising);
    }
