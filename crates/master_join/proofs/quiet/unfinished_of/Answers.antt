use Rattle.std.proofs.Common.{◌≡◌, ℕ, ◌+◌, Bool, true, false, ap, sym, ◌∙◌, arith}
use Rattle.std.specs.Prelude.{not}
use Rattle.site_state.proofs.LowWater.{low_water-below}
use Rattle.master_join.proofs.UnfinishedPositions.{is_unfinished, one_more, none_left, passed_over}
use Rattle.master_join.proofs.quiet.unfinished_of.Goals as goal
use Rattle.master_join.proofs.quiet.unfinished_of.Goals.{then-not-is_finished, else-not-is_finished}

pub loop-position-init : goal.loop-position-init
loop-position-init g c =
    let last = c.args.last.now in
    let x = c.args.site.now in
    let all = passed_over (is_unfinished x last) c.mark-mark.result last.number
    (λ p from_one up_to. ap not (low_water-below last.origin x.journal p from_one (omega (arith, up_to, c.mark-mark.ensures)))) in
    record { counted = omega (arith, all); few = omega arith }

pub loop-position-preserved : goal.loop-position-preserved
loop-position-preserved g c =
    let test : ℕ → Bool = is_unfinished c.args.site.now c.args.last.now in
    let position = c.loop-position.position in
    let more = one_more test position c.args.last.now.number c.loop-position-test.true in
    elim c.if-not-is_finished.branch [
      | then-not-is_finished w ↦
          let is : test (position + 1) ≡ true = ap not (sym c.is_finished.ensures ∙ w.if-not-is_finished.true) in
          record { counted = omega (arith, c.loop-position.invariant.counted, w.count-is, rw is at more); few = omega (arith, c.loop-position.invariant.few, w.count-is) }
      | else-not-is_finished w ↦
          let is : test (position + 1) ≡ false = ap not (sym c.is_finished.ensures ∙ w.if-not-is_finished.false) in
          record { counted = omega (arith, c.loop-position.invariant.counted, w.count-is, rw is at more); few = omega (arith, c.loop-position.invariant.few, w.count-is) }
    ]

pub returns : goal.returns
returns g c = omega (arith, c.loop-position.invariant.counted, none_left (is_unfinished c.args.site.now c.args.last.now) c.loop-position.position c.args.last.now.number c.loop-position-test.false)
