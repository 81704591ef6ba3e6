use Rattle.std.proofs.Common.{◌≡◌, ◌≤◌, arith, subst, sym}
use Rattle.rep_lists.specs.Counting.{count_where}
use Rattle.site_state.specs.Passes.{is_done, is_error, added_count}
use Rattle.site_engine.proofs.Passing.{count_done, count_errors, count_more, kept_more, pass_starts, nothing_added, one_at_most}
use Rattle.site_engine.proofs.Waiting.{passed_all, passed_next, next_within}
use Rattle.site_engine.proofs.site.Site.finish_pass.Goals as goal

pub loop-next-init : goal.loop-next-init
loop-next-init g c =
    let old = c.args.self.now in
    let origin = c.args.origin.now in
    let first = rw c.mark.ensures at c.arrivals_above-place.ensures.place in
    record {
      so_far = pass_starts origin old c.arrivals_above-place.result first c.arrivals_above-place.ensures.from_one;
      within = first.within;
      done = nothing_added origin old is_done;
      errors = nothing_added origin old is_error;
      done_kept = omega arith;
      errors_kept = omega arith;
      few = omega arith;
    }

pub loop-next-preserved : goal.loop-next-preserved
loop-next-preserved g c =
    let old = c.args.self.now in
    let now = c.loop-next.self in
    let origin = c.args.origin.now in
    let l = c.loop-next.invariant in
    let next = c.in-Some.next in
    let is = c.in-Some.ensures.some in
    let ok = c.in_ok-applied.ensures.ok in
    let answer = c.in_ok-applied.ensures.answer in
    let done = count_done origin next.position now in
    let errors = count_errors origin next.position now in
    let done_more = rw answer at c.counted-count.ensures.done in
    let errors_more = rw answer at c.counted-count.ensures.errors in
    record {
      so_far = passed_next origin old now c.loop-next.place l.so_far next is c.apply_ready.new.self ok;
      within = next_within origin old now c.loop-next.place l.so_far next is;
      done = subst (λ y. c.counted-count.result.done ≡ added_count is_done old y) (sym ok) (count_more is_done old now origin next.position _ done l.done_kept _ _ l.done done_more);
      errors = subst (λ y. c.counted-count.result.errors ≡ added_count is_error old y) (sym ok) (count_more is_error old now origin next.position _ errors l.errors_kept _ _ l.errors errors_more);
      done_kept = subst (λ y. count_where is_done old.journal ≤ count_where is_done y.journal) (sym ok) (kept_more is_done old now origin next.position _ done l.done_kept);
      errors_kept = subst (λ y. count_where is_error old.journal ≤ count_where is_error y.journal) (sym ok) (kept_more is_error old now origin next.position _ errors l.errors_kept);
      few = omega (arith, l.few, is.after, is.behind_is, c.counted-count.ensures.done, c.counted-count.ensures.errors, one_at_most c.in_ok-applied.applied);
    }

pub loop-next-smaller : goal.loop-next-smaller
loop-next-smaller g c =
    let l = c.loop-next.invariant in
    let is = c.in-Some.ensures.some in
    let within = next_within c.args.origin.now c.args.self.now c.loop-next.self c.loop-next.place l.so_far c.in-Some.next is in
    omega (arith, is.after, is.behind_is, within)

pub returns-clause-ok : goal.returns-clause-ok
returns-clause-ok g c =
    let l = c.loop-next.invariant in
    passed_all c.args.origin.now c.args.self.now c.loop-next.self c.loop-next.place l.so_far l.within c.in_default.ensures.none
